-- What a language spells takes at least as many tokens as it has parts.
use Rattle.std.proofs.Common.{◌≡◌, ◌≤◌, ◌+◌, ℕ, suc, Bool, true, false, cond, List, [], ◌∷◌, ◌++◌, length, length-append, filter, refl, ap, ◌∙◌, arith}
use Rattle.wc_laws_grammar.proofs.TokenSteps.{lexeme_is_filled}
use Rattle.wc_model.specs.Definitions.{one, each, separated, ◌then◌, Sequence, Token, Cuts, Nothing, Skipped, Taken}

-- each token has a byte at least
pub tokens_fit : {Ends : List ℕ → List ℕ → Type 0} (before rest : List ℕ) (tokens : List Token) → Cuts Ends before rest tokens → length tokens ≤ length rest
tokens_fit before rest [] (Nothing e) = omega arith
tokens_fit before rest tokens (Skipped chunk after whole blank more) =
    let fits = tokens_fit (before ++ chunk) after tokens more in
    let sum = length-append chunk after in
    let same = ap length whole in
    omega (arith, fits, sum, same)
tokens_fit before rest (token ∷ tokens) (Taken shape chunk after whole longest shaped more) =
    let fits = tokens_fit (before ++ chunk) after tokens more in
    let sum = length-append chunk after in
    let same = ap length whole in
    let filled = lexeme_is_filled chunk after longest.lexeme in
    omega (arith, fits, sum, same, filled)

-- the tokens of two languages are those of the one and those of the other
pub both : {T : Type 0} {first second : List T → Type 0} (tokens : List T) → (s : Sequence first second tokens) → length tokens ≡ length s.prefix + length s.rest
both tokens s = ap length s.whole ∙ length-append s.prefix s.rest

pub one_is_one : {T : Type 0} (IsSort : T → Type 0) (tokens : List T) → one IsSort tokens → length tokens ≡ 1
one_is_one IsSort [] h = absurd h
one_is_one IsSort (x ∷ []) h = refl
one_is_one IsSort (x ∷ y ∷ more) h = absurd h

-- what is passed over makes no list longer
pub filter_shrinks : {T : Type 0} (p : T → Bool) (tokens : List T) → length (filter p tokens) ≤ length tokens
filter_shrinks p [] = omega arith
filter_shrinks p (x ∷ xs) =
    let fits = filter_shrinks p xs in
    elim (p x) as (λ b. length (cond b (x ∷ filter p xs) (filter p xs)) ≤ suc (length xs)) [ true ↦ omega (arith, fits) | false ↦ omega (arith, fits) ]

-- one after the other, each of at least one token
pub each_fits : {T A : Type 0} (spelling : A → List T → Type 0) → ((value : A) (tokens : List T) → spelling value tokens → 1 ≤ length tokens) → (values : List A) (tokens : List T) → each spelling values tokens → length values ≤ length tokens
each_fits spelling filled [] tokens h = omega arith
each_fits spelling filled (value ∷ values) tokens h =
    let first = filled value h.prefix h.begins in
    let others = each_fits spelling filled values h.rest h.goes_on in
    let sum = both tokens h in
    omega (arith, first, others, sum)

pub separated_fits : {T A : Type 0} (separator : List T → Type 0) (spelling : A → List T → Type 0) → ((value : A) (tokens : List T) → spelling value tokens → 1 ≤ length tokens) → (values : List A) (tokens : List T) → separated separator spelling values tokens → length values ≤ length tokens
separated_fits separator spelling filled [] tokens h = omega arith
separated_fits {T} separator spelling filled (value ∷ values) tokens h =
    let next : (v : _) (ts : List T) → (separator then spelling v) ts → 1 ≤ length ts = λ v ts s. omega (arith, both ts s, filled v s.rest s.goes_on) in
    let first = filled value h.prefix h.begins in
    let others = each_fits (λ v. separator then spelling v) next values h.rest h.goes_on in
    let sum = both tokens h in
    omega (arith, first, others, sum)
