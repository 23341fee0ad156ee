-- Laws of languages: how a list of tokens is shown to be in a sequence, part by part.
use Rattle.std.proofs.Common.{◌≡◌, ℕ, zero, suc, List, [], ◌∷◌, ◌++◌, take, drop, refl, ap, append_assoc, ◌∙◌, sym, inl, inr}
use Rattle.std.specs.Prelude.{◌⊎◌}
use Rattle.wc_model.specs.Text.Languages.{empty, one, many, ◌then◌, ◌or◌, ◌given◌}

-- two parts joined
pub joined : {T : Type 0} {first second : List T → Type 0} (prefix rest : List T) → first prefix → second rest → (first then second) (prefix ++ rest)
joined prefix rest begins goes_on = record { prefix = prefix; rest = rest; whole = refl; begins = begins; goes_on = goes_on }

-- one token, then the rest
pub next : {T : Type 0} {IsSort : T → Type 0} {second : List T → Type 0} {token : T} {rest : List T} → IsSort token → second rest → (one IsSort then second) (token ∷ rest)
next {token = token} {rest = rest} sort goes_on = record { prefix = token ∷ []; rest = rest; whole = refl; begins = sort; goes_on = goes_on }

-- no token, then the rest
pub pass : {T : Type 0} {first second : List T → Type 0} {tokens : List T} → first [] → second tokens → (first then second) tokens
pass {tokens = tokens} begins goes_on = record { prefix = []; rest = tokens; whole = refl; begins = begins; goes_on = goes_on }

-- one more token of many
pub more : {T : Type 0} {IsSort : T → Type 0} {second : List T → Type 0} {token : T} {rest : List T} → IsSort token → (many IsSort then second) rest → (many IsSort then second) (token ∷ rest)
more {token = token} sort goes = record { prefix = token ∷ goes.prefix; rest = goes.rest; whole = ap (λ ts. token ∷ ts) goes.whole; begins = (sort, goes.begins); goes_on = goes.goes_on }

-- a sequence may be read from the left or from the right
pub regroup : {T : Type 0} {a b c : List T → Type 0} {tokens : List T} → (a then (b then c)) tokens → ((a then b) then c) tokens
regroup h = record {
  prefix = h.prefix ++ h.goes_on.prefix;
  rest = h.goes_on.rest;
  whole = h.whole ∙ ap (λ ts. h.prefix ++ ts) h.goes_on.whole ∙ sym (append_assoc h.prefix h.goes_on.prefix h.goes_on.rest);
  begins = joined h.prefix h.goes_on.prefix h.begins h.goes_on.begins;
  goes_on = h.goes_on.goes_on;
}

-- and the other way round
pub ungroup : {T : Type 0} {a b c : List T → Type 0} {tokens : List T} → ((a then b) then c) tokens → (a then (b then c)) tokens
ungroup h = record {
  prefix = h.begins.prefix;
  rest = h.begins.rest ++ h.rest;
  whole = h.whole ∙ ap (λ ts. ts ++ h.rest) h.begins.whole ∙ append_assoc h.begins.prefix h.begins.rest h.rest;
  begins = h.begins.begins;
  goes_on = joined h.begins.rest h.rest h.begins.goes_on h.goes_on;
}

-- a fact on which the first part rests
pub given_first : {T : Type 0} {first second : List T → Type 0} {Fact : Type 0} {tokens : List T} → Fact → (first then second) tokens → ((first given Fact) then second) tokens
given_first fact h = record { prefix = h.prefix; rest = h.rest; whole = h.whole; begins = (fact, h.begins); goes_on = h.goes_on }

-- the first n tokens and the others are all
pub taken : {T : Type 0} (n : ℕ) (tokens : List T) → tokens ≡ take n tokens ++ drop n tokens
taken zero tokens = refl
taken (suc n) [] = refl
taken (suc n) (token ∷ tokens) = ap (λ ts. token ∷ ts) (taken n tokens)

-- the first n tokens, then the others
pub cut_at : {T : Type 0} {first second : List T → Type 0} {tokens : List T} (n : ℕ) → first (take n tokens) → second (drop n tokens) → (first then second) tokens
cut_at {tokens = tokens} n begins goes_on = record { prefix = take n tokens; rest = drop n tokens; whole = taken n tokens; begins = begins; goes_on = goes_on }

-- or the second of them
pub either_right : {T : Type 0} {first other second : List T → Type 0} {tokens : List T} → (other then second) tokens → ((first or other) then second) tokens
either_right h = record { prefix = h.prefix; rest = h.rest; whole = h.whole; begins = inr h.begins; goes_on = h.goes_on }

-- if one first part may be replaced by another
pub before : {T : Type 0} {first other second : List T → Type 0} {tokens : List T} → ((ts : List T) → first ts → other ts) → (first then second) tokens → (other then second) tokens
before f h = record { prefix = h.prefix; rest = h.rest; whole = h.whole; begins = f h.prefix h.begins; goes_on = h.goes_on }

-- if one second part may be replaced by another
pub after : {T : Type 0} {first second other : List T → Type 0} {tokens : List T} → ((ts : List T) → second ts → other ts) → (first then second) tokens → (first then other) tokens
after f h = record { prefix = h.prefix; rest = h.rest; whole = h.whole; begins = h.begins; goes_on = f h.rest h.goes_on }

next_parts : {T : Type 0} (IsSort : T → Type 0) (second : List T → Type 0) {token : T} {tokens : List T} (prefix rest : List T)
    → token ∷ tokens ≡ prefix ++ rest → one IsSort prefix → second rest → IsSort token × second tokens
next_parts IsSort second [] rest e sort goes_on = absurd sort
next_parts IsSort second {token = token} {tokens = tokens} (x ∷ []) rest e sort goes_on =
    let a : token ≡ x = cc in
    let b : tokens ≡ rest = cc in (rw a sort, rw b goes_on)
next_parts IsSort second (x ∷ y ∷ zs) rest e sort goes_on = absurd sort

-- if one token and then the rest are spelled, the first token is of the sort
pub next_is : {T : Type 0} {IsSort : T → Type 0} {second : List T → Type 0} {token : T} {tokens : List T} → (one IsSort then second) (token ∷ tokens) → IsSort token × second tokens
next_is {IsSort = IsSort} {second = second} h = next_parts IsSort second h.prefix h.rest h.whole h.begins h.goes_on

-- if no token and then the rest are spelled, the rest is
pub passed : {T : Type 0} {second : List T → Type 0} {tokens : List T} → (empty then second) tokens → second tokens
passed {second = second} {tokens = tokens} h =
    let e : tokens ≡ h.rest = h.whole ∙ ap (λ prefix. prefix ++ h.rest) h.begins in rw e h.goes_on

many_parts : {T : Type 0} (IsSort : T → Type 0) (second : List T → Type 0) {token : T} {tokens : List T} (prefix rest : List T)
    → token ∷ tokens ≡ prefix ++ rest → many IsSort prefix → second rest → second (token ∷ tokens) ⊎ (IsSort token × (many IsSort then second) tokens)
many_parts IsSort second [] rest e all goes_on = inl (rw e goes_on)
many_parts IsSort second {token = token} {tokens = tokens} (x ∷ prefix) rest e all goes_on =
    let a : token ≡ x = cc in
    let b : tokens ≡ prefix ++ rest = cc in
    inr (rw a all.0, record { prefix = prefix; rest = rest; whole = b; begins = all.1; goes_on = goes_on })

-- If many tokens and then the rest are spelled, the rest begins at once, or the first token is one of the many.
pub many_are : {T : Type 0} {IsSort : T → Type 0} {second : List T → Type 0} {token : T} {tokens : List T} → (many IsSort then second) (token ∷ tokens)
    → second (token ∷ tokens) ⊎ (IsSort token × (many IsSort then second) tokens)
many_are {IsSort = IsSort} {second = second} h = many_parts IsSort second h.prefix h.rest h.whole h.begins h.goes_on

-- the fact on which a first part rests, and the sequence
pub given_are : {T : Type 0} {first second : List T → Type 0} {Fact : Type 0} {tokens : List T} → ((first given Fact) then second) tokens → Fact × (first then second) tokens
given_are h = (h.begins.0, record { prefix = h.prefix; rest = h.rest; whole = h.whole; begins = h.begins.1; goes_on = h.goes_on })

empty_parts : {T : Type 0} (first second : List T → Type 0) (prefix rest : List T) → [] ≡ prefix ++ rest → first prefix → second rest → first [] × second []
empty_parts first second [] [] e begins goes_on = (begins, goes_on)
empty_parts first second [] (x ∷ rest) e begins goes_on = cc
empty_parts first second (x ∷ prefix) rest e begins goes_on = cc

-- if no token is there, both parts are spelled by none
pub both_empty : {T : Type 0} {first second : List T → Type 0} → (first then second) [] → first [] × second []
both_empty {first = first} {second = second} h = empty_parts first second h.prefix h.rest h.whole h.begins h.goes_on

-- a pair by its parts, without building records
pub both : {A B : Type 0} → A → B → A × B
both a b = (a, b)

-- and three of them
pub three : {A B C : Type 0} → A → B → C → A × B × C
three a b c = (a, b, c)

-- what always holds
pub always : Unit {0}
always = tt

-- With a depth and a count, `search` shows by these that closed tokens are in a sequence.
pub ruleset parts = (regroup, next, more, given_first, pass, both, three, always)
