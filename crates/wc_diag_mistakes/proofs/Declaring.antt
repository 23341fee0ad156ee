-- The one token that begins the declaration of a block.
use Rattle.std.proofs.Common.{◌≡◌, ◌<◌, ◌≤◌, ◌+◌, ◌&&◌, ltb, ℕ, Bool, true, false, if◌then◌else◌, List, get_or, length, Option, Some, None, refl, sym, ap, ◌∙◌, arith}
use Rattle.wc_model.proofs.Common.{is_some, slice_get, IfNone, IfSome, ltb-false, ltb-true, slice_get-get_or, slice_get_past}
use Rattle.std.specs.Option.{option_map, option_map_or}
use Rattle.wc_lexer.specs.declared.shape.Token.{Token}
use Rattle.wc_diag_mistakes.specs.Unreached.{IsDeclaredOnce, begins_block, declares, is_named}

-- one token before an index does, and it is on this line
pub record IsOneBefore (tokens : List Token) (name : List ℕ) (index line : ℕ) : Type 0 where
  pub place : ℕ
  pub within : place < index
  pub declared : declares tokens name place ≡ true
  pub alone : (other : ℕ) → other < index → declares tokens name other ≡ true → other ≡ place
  pub line_is : Some line ≡ option_map (λ token. token.line) (slice_get tokens place)

-- what is found before an index
abbrev pub FoundBefore : List Token → List ℕ → ℕ → Option ℕ → Type 0
FoundBefore tokens name index None = (other : ℕ) → other < index → declares tokens name other ≡ true → ⊥
FoundBefore tokens name index (Some line) = IsOneBefore tokens name index line

-- an index more: what is before it, or it
earlier : (other index : ℕ) → other < index + 1 → (other ≡ index → ⊥) → other < index
earlier other index within differs = by (ltb other index) refl
  where
    by : (b : Bool) → ltb other index ≡ b → other < index
    by true e = ltb-true other index e
    by false e = let past = ltb-false other index e in absurd (differs (omega arith))

false_or : (b : Bool) → b ≡ false → b ≡ true → ⊥
false_or b e f = absurd (cc)

-- with an index that declares it not
pub other_token : (tokens : List Token) (name : List ℕ) (index : ℕ) (found : Option ℕ) → declares tokens name index ≡ false → FoundBefore tokens name index found → FoundBefore tokens name (index + 1) found
other_token tokens name index None other_is none =
    λ other within declared. none other (earlier other index within (λ e. false_or (declares tokens name index) other_is (ap (declares tokens name) (sym e) ∙ declared))) declared
other_token tokens name index (Some line) other_is one = record {
  place = one.place;
  within = let w = one.within in omega arith;
  declared = one.declared;
  alone = λ other within declared. one.alone other (earlier other index within (λ e. false_or (declares tokens name index) other_is (ap (declares tokens name) (sym e) ∙ declared))) declared;
  line_is = one.line_is;
}

-- with the first that does
pub first_token : (tokens : List Token) (name : List ℕ) (index line : ℕ) → declares tokens name index ≡ true → Some line ≡ option_map (λ token. token.line) (slice_get tokens index) → FoundBefore tokens name index None
    → FoundBefore tokens name (index + 1) (Some line)
first_token tokens name index line is here none = record {
  place = index;
  within = omega arith;
  declared = is;
  alone = λ other within declared. by other (ltb other index) refl within declared;
  line_is = here;
}
  where
    by : (other : ℕ) (b : Bool) → ltb other index ≡ b → other < index + 1 → declares tokens name other ≡ true → other ≡ index
    by other true e within declared = absurd (none other (ltb-true other index e) declared)
    by other false e within declared = let past = ltb-false other index e in omega arith

-- what is found, with an index more
pub token_more : (tokens : List Token) (name : List ℕ) (index line : ℕ) (found : Option ℕ) → Some line ≡ option_map (λ token. token.line) (slice_get tokens index) → (declares tokens name index && is_some found) ≡ false
    → FoundBefore tokens name index found → FoundBefore tokens name (index + 1) (if declares tokens name index then Some line else found)
token_more tokens name index line found here single before = by (declares tokens name index) refl found single before
  where
    by : (b : Bool) → declares tokens name index ≡ b → (found : Option ℕ) → (b && is_some found) ≡ false → FoundBefore tokens name index found → FoundBefore tokens name (index + 1) (if b then Some line else found)
    by false e found single before = other_token tokens name index found e before
    by true e None single before = first_token tokens name index line e here before
    by true e (Some other) single before = absurd (cc)

-- a second one
pub second_token : (tokens : List Token) (name : List ℕ) (index : ℕ) (found : Option ℕ) → (declares tokens name index && is_some found) ≡ true → FoundBefore tokens name index found
    → (line : ℕ) → IsDeclaredOnce tokens name line → ⊥
second_token tokens name index found both before line once = by (declares tokens name index) refl found both before
  where
    by : (b : Bool) → declares tokens name index ≡ b → (found : Option ℕ) → (b && is_some found) ≡ true → FoundBefore tokens name index found → ⊥
    by false e found both before = absurd (cc)
    by true e None both before = absurd (cc)
    by true e (Some other) both before =
        let here = once.alone index e in
        let there = once.alone before.place before.declared in
        let w = before.within in
        absurd (omega arith)

-- after the last token there is none
none_past : (tokens : List Token) (name : List ℕ) (other : ℕ) → declares tokens name other ≡ true → other < length tokens
none_past tokens name other declared = by (ltb other (length tokens)) refl
  where
    by : (b : Bool) → ltb other (length tokens) ≡ b → other < length tokens
    by true e = ltb-true other (length tokens) e
    by false e =
        let none : slice_get tokens other ≡ None = slice_get_past tokens other (ltb-false other (length tokens) e) in
        let not_declared : declares tokens name other ≡ false =
        ap (λ token. option_map_or begins_block token false && option_map_or (is_named name) (slice_get tokens (other + 1)) false) none in
        absurd (false_or (declares tokens name other) not_declared declared)

-- the line of a token
pub line_at : (tokens : List Token) (index : ℕ) (other : Token) → index < length tokens → Some (get_or tokens index other).line ≡ option_map (λ token. token.line) (slice_get tokens index)
line_at tokens index other within = sym (ap (option_map (λ token. token.line)) (slice_get-get_or tokens index other within))

-- what is found among all tokens
pub found_alone : (tokens : List Token) (name : List ℕ) (index : ℕ) (found : Option ℕ) → length tokens ≤ index → FoundBefore tokens name index found → IfSome found (IsDeclaredOnce tokens name)
found_alone tokens name index None all before = tt
found_alone tokens name index (Some line) all before = record {
  index = before.place;
  declared = before.declared;
  alone = λ other declared. let within = none_past tokens name other declared in before.alone other (omega arith) declared;
  line_is = before.line_is;
}

pub none_alone : (tokens : List Token) (name : List ℕ) (index : ℕ) (found : Option ℕ) → length tokens ≤ index → FoundBefore tokens name index found → IfNone found ((line : ℕ) → IsDeclaredOnce tokens name line → ⊥)
none_alone tokens name index None all before = λ line once. let within = none_past tokens name once.index once.declared in before once.index (omega arith) once.declared
none_alone tokens name index (Some line) all before = tt
