-- Whether some tokens leave, from the first on; the last that leaves or may pass decides.
use Rattle.std.proofs.Common.{◌≡◌, ◌<◌, ◌+◌, ◌&&◌, ◌||◌, not, ℕ, Bool, true, false, drop, take, IsTrue, ◌↔◌, List, [], ◌∷◌, ◌++◌, get_or, length, refl, sym, ap, ◌∙◌}
use Rattle.wc_model.proofs.Common.{and_parts, drop_more, take-append-drop, list_any}
use Rattle.wc_lexer.specs.declared.shape.Token.{Token}
use Rattle.wc_diag_mistakes.specs.Unreached.{IsLeft, leaves, may_pass}

-- whether these tokens leave, if this is so of those before them or not
abbrev pub left_after : Bool → List Token → Bool
left_after before [] = before
left_after before (token ∷ tokens) = left_after (leaves token || before && not (may_pass token)) tokens

-- it is what the tokens say
none_of : (a b : Bool) → (a || b) ≡ false → (a ≡ false) × (b ≡ false)
none_of true b e = absurd (cc)
none_of false b e = (refl, e)

not_true : (b : Bool) → not b ≡ true → b ≡ false
not_true true e = absurd (cc)
not_true false e = refl

none_in : (a b : Bool) → a ≡ false → b ≡ false → (a || b) ≡ false
none_in a b e f = rw (e, f) refl

still : (a b : Bool) → b ≡ false → (a || true && not b) ≡ true
still true b e = refl
still false b e = ap not e

kept : (tokens : List Token) → list_any may_pass tokens ≡ false → left_after true tokens ≡ true
kept [] e = refl
kept (token ∷ tokens) e =
    let parts = none_of (may_pass token) (list_any may_pass tokens) e in
    ap (λ b. left_after b tokens) (still (leaves token) (may_pass token) parts.0) ∙ kept tokens parts.1

left_within : (before : Bool) (above : List Token) (leaving : Token) (below : List Token) → leaves leaving ≡ true → list_any may_pass below ≡ false
    → left_after before (above ++ leaving ∷ below) ≡ true
left_within before [] leaving below is closed =
    ap (λ b. left_after (b || before && not (may_pass leaving)) below) is ∙ kept below closed
left_within before (token ∷ above) leaving below is closed =
    left_within (leaves token || before && not (may_pass token)) above leaving below is closed

pub from_left : (tokens : List Token) → IsLeft tokens → left_after false tokens ≡ true
from_left tokens left = ap (left_after false) left.all ∙ left_within false left.above left.leaving left.below left.is left.closed

data LeftBy (before : Bool) (tokens : List Token) : Type 0 where
  Inside : IsLeft tokens → LeftBy before tokens
  Above : before ≡ true → list_any may_pass tokens ≡ false → LeftBy before tokens

one_above : (token : Token) (tokens : List Token) → IsLeft tokens → IsLeft (token ∷ tokens)
one_above token tokens left =
    record { above = token ∷ left.above; leaving = left.leaving; below = left.below; all = ap (λ l. token ∷ l) left.all; is = left.is; closed = left.closed }

left_by : (before : Bool) (tokens : List Token) → left_after before tokens ≡ true → LeftBy before tokens
left_by before [] e = Above e refl
left_by before (token ∷ tokens) e = step (left_by (leaves token || before && not (may_pass token)) tokens e)
  where
    by : (b : Bool) → leaves token ≡ b → (b || before && not (may_pass token)) ≡ true → list_any may_pass tokens ≡ false → LeftBy before (token ∷ tokens)
    by true is says closed = Inside (record { above = []; leaving = token; below = tokens; all = refl; is = is; closed = closed })
    by false is says closed =
        let parts = and_parts before (not (may_pass token)) says in
        Above parts.0 (none_in (may_pass token) (list_any may_pass tokens) (not_true (may_pass token) parts.1) closed)

    step : LeftBy (leaves token || before && not (may_pass token)) tokens → LeftBy before (token ∷ tokens)
    step (Inside left) = Inside (one_above token tokens left)
    step (Above says closed) = by (leaves token) refl says closed

pub is_left : (tokens : List Token) → left_after false tokens ≡ true → IsLeft tokens
is_left tokens e = by (left_by false tokens e)
  where
    by : LeftBy false tokens → IsLeft tokens
    by (Inside left) = left
    by (Above says closed) = absurd (cc)

pub says : (result : Bool) (tokens : List Token) → result ≡ left_after false tokens → IsTrue result ↔ IsLeft tokens
says result tokens e = (λ t. is_left tokens (sym e ∙ t), λ left. e ∙ from_left tokens left)

-- a token decides: it leaves, or may pass
abbrev pub decides : Token → Bool
decides token = leaves token || may_pass token

pub after_append : (before : Bool) (above below : List Token) → left_after before (above ++ below) ≡ left_after (left_after before above) below
after_append before [] below = refl
after_append before (token ∷ above) below = after_append (leaves token || before && not (may_pass token)) above below

-- what leaves no token decides stays
keeps_one : (before l m : Bool) → (l || m) ≡ false → (l || before && not m) ≡ before
keeps_one true true m e = absurd (cc)
keeps_one false true m e = absurd (cc)
keeps_one before false true e = absurd (cc)
keeps_one true false false e = refl
keeps_one false false false e = refl

pub undecided : (before : Bool) (tokens : List Token) → list_any decides tokens ≡ false → left_after before tokens ≡ before
undecided before [] e = refl
undecided before (token ∷ tokens) e =
    let parts = none_of (decides token) (list_any decides tokens) e in
    ap (λ b. left_after b tokens) (keeps_one before (leaves token) (may_pass token) parts.0) ∙ undecided before tokens parts.1

-- the token at an index is the last that decides
pub at : (tokens : List Token) (index : ℕ) (other : Token) → index < length tokens → list_any decides (drop (index + 1) tokens) ≡ false
    → left_after false tokens ≡ (leaves (get_or tokens index other) || left_after false (take index tokens) && not (may_pass (get_or tokens index other)))
at tokens index other within e =
    ap (left_after false) (sym (take-append-drop index tokens))
    ∙ after_append false (take index tokens) (drop index tokens)
    ∙ ap (left_after (left_after false (take index tokens))) (drop_more tokens index other within)
    ∙ undecided (leaves (get_or tokens index other) || left_after false (take index tokens) && not (may_pass (get_or tokens index other))) (drop (index + 1) tokens) e

by_leaving : (l b m : Bool) → l ≡ true → (l || b && not m) ≡ true
by_leaving true b m e = refl
by_leaving false b m e = absurd (cc)

by_passing : (l b m : Bool) → l ≡ false → m ≡ true → (l || b && not m) ≡ false
by_passing true b m e f = absurd (cc)
by_passing false b false e f = absurd (cc)
by_passing false true true e f = refl
by_passing false false true e f = refl

pub leaves_at : (tokens : List Token) (index : ℕ) (other : Token) → index < length tokens → list_any decides (drop (index + 1) tokens) ≡ false
    → leaves (get_or tokens index other) ≡ true → left_after false tokens ≡ true
leaves_at tokens index other within e is =
    at tokens index other within e ∙ by_leaving (leaves (get_or tokens index other)) (left_after false (take index tokens)) (may_pass (get_or tokens index other)) is

pub passes_at : (tokens : List Token) (index : ℕ) (other : Token) → index < length tokens → list_any decides (drop (index + 1) tokens) ≡ false
    → leaves (get_or tokens index other) ≡ false → may_pass (get_or tokens index other) ≡ true → left_after false tokens ≡ false
passes_at tokens index other within e is_not is =
    at tokens index other within e ∙ by_passing (leaves (get_or tokens index other)) (left_after false (take index tokens)) (may_pass (get_or tokens index other)) is_not is

none_of_three : (a b c : Bool) → a ≡ false → b ≡ false → c ≡ false → (a || b || c) ≡ false
none_of_three a b c e f g = rw (e, f, g) refl

-- a token more that does not decide
pub one_more : (tokens : List Token) (index : ℕ) (other : Token) → index < length tokens → list_any decides (drop (index + 1) tokens) ≡ false
    → leaves (get_or tokens index other) ≡ false → may_pass (get_or tokens index other) ≡ false → list_any decides (drop index tokens) ≡ false
one_more tokens index other within e is_not may_not =
    ap (list_any decides) (drop_more tokens index other within)
    ∙ none_of_three (leaves (get_or tokens index other)) (may_pass (get_or tokens index other)) (list_any decides (drop (index + 1) tokens)) is_not may_not e
