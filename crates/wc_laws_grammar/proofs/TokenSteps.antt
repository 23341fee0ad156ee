-- What is at a place is fixed by the rest of the text: one blank, one longest lexeme or one fault, and no two of these.
use Rattle.std.proofs.Common.{◌≡◌, ◌≢◌, ℕ, suc, ◌≤◌, true, false, cond, List, [], ◌∷◌, ◌++◌, length, get_or, drop, take, Ok, Err, refl, sym, ap, ◌∙◌, subst, arith, take_at, drop_at, le_antisymm, ◌==◌}
use Rattle.std.proofs.lemmas.List.{append_cancel_left, append_cancel_right}
use Rattle.wc_laws_grammar.specs.Sights.{reach}
use Rattle.wc_laws_grammar.proofs.Reach.{within_reach, mark_is_short}
use Rattle.wc_model.specs.Text.Blanks.{Blank, Space, Tab, Return, Comment, comment_opening, comment_closing, from_bracket, starts_with_bracket}
use Rattle.wc_model.specs.Definitions.{Lexeme, Run, Typed, Unsigned, Signed, Sign, Addressed, Marked, IsLongestLexeme, Shape, shape_of}
use Rattle.wc_model.specs.Text.Tokens.{FaultAt, Foreign, Unclosed, Nested, Malformed}

-- ---- blanks

-- what has nothing after it and is nothing with it is nothing
pub append_empty : (xs ys : List ℕ) → xs ++ ys ≡ [] → xs ≡ []
append_empty [] ys e = refl
append_empty (x ∷ xs) ys e = cc

-- what follows a blank
abbrev pub after_blank : List ℕ → List ℕ
after_blank [] = []
after_blank (b ∷ rest) = cond (b == 40) (drop 2 (from_bracket (drop 1 rest))) rest

-- looking for the end of a comment leaves no more than there was
pub from_bracket_shrinks : (text : List ℕ) → length (from_bracket text) ≤ length text
from_bracket_shrinks [] = omega arith
from_bracket_shrinks (b ∷ rest) =
    let later = from_bracket_shrinks rest in
    elim (starts_with_bracket (b ∷ rest)) as (λ v. length (cond v (b ∷ rest) (from_bracket rest)) ≤ suc (length rest)) [ true ↦ omega arith | false ↦ omega (arith, later) ]

-- a blank is not empty
pub blank_is_filled : (chunk after : List ℕ) → Blank chunk after → chunk ≢ []
blank_is_filled chunk after (Space e) none = cc
blank_is_filled chunk after (Tab e) none = cc
blank_is_filled chunk after (Return e lf) none = cc
blank_is_filled chunk after (Comment c) none =
    let e : after ≡ comment_opening ++ c.inside = subst (λ p. p ++ after ≡ comment_opening ++ c.inside) none c.opens in
    let l : length after ≡ length (comment_opening ++ c.inside) = ap length e in
    let k : length (from_bracket c.inside) ≡ length (comment_closing ++ after) = ap length c.closes in
    omega (arith, from_bracket_shrinks c.inside, l, k)

-- what follows a blank is fixed by the text
pub after_is : (chunk after : List ℕ) → Blank chunk after → after ≡ after_blank (chunk ++ after)
after_is chunk after (Space e) = subst (λ p. after ≡ after_blank (p ++ after)) (sym e) refl
after_is chunk after (Tab e) = subst (λ p. after ≡ after_blank (p ++ after)) (sym e) refl
after_is chunk after (Return e lf) = subst (λ p. after ≡ after_blank (p ++ after)) (sym e) refl
after_is chunk after (Comment c) = sym (ap after_blank c.opens ∙ ap (drop 2) c.closes)

-- one blank at a place
pub one_blank : (chunk after other left : List ℕ) → chunk ++ after ≡ other ++ left → Blank chunk after → Blank other left → (chunk ≡ other) × (after ≡ left)
one_blank chunk after other left e one two =
    let same : after ≡ left = after_is chunk after one ∙ ap after_blank e ∙ sym (after_is other left two) in
    (append_cancel_right chunk other left (subst (λ a. chunk ++ a ≡ other ++ left) same e), same)

-- ---- lexemes

-- a lexeme is not empty
pub lexeme_is_filled : (chunk after : List ℕ) → Lexeme chunk after → 1 ≤ length chunk
lexeme_is_filled [] after (Run h) = absurd (cc)
lexeme_is_filled [] after (Typed [] value e h k) = absurd (cc)
lexeme_is_filled [] after (Typed (b ∷ type) value e h k) = absurd (cc)
lexeme_is_filled [] after (Unsigned h) = absurd (cc)
lexeme_is_filled [] after (Signed sign number e h k) = absurd (cc)
lexeme_is_filled [] after (Sign sign e h) = absurd (cc)
lexeme_is_filled [] after (Addressed address e h) = absurd (cc)
lexeme_is_filled [] after (Marked shape found may) = let short = mark_is_short [] shape found in absurd (cc)
lexeme_is_filled (b ∷ chunk) after lexeme = omega arith

-- no lexeme if the look ahead finds none
pub none_in_reach : (chunk after rest : List ℕ) → chunk ++ after ≡ rest → reach rest ≡ 0 → ¬ (Lexeme chunk after)
none_in_reach chunk after rest e none lexeme = omega (arith, lexeme_is_filled chunk after lexeme, within_reach chunk after lexeme, ap reach e, none)

-- no lexeme at a comment
pub no_lexeme_at_comment : (chunk after inside : List ℕ) → chunk ++ after ≡ comment_opening ++ inside → ¬ (Lexeme chunk after)
no_lexeme_at_comment chunk after inside e = none_in_reach chunk after (comment_opening ++ inside) e refl

-- a space starts no lexeme
pub none_at_space : (rest : List ℕ) → reach (32 ∷ rest) ≡ 0
none_at_space [] = refl
none_at_space (b ∷ rest) = refl

-- a tab starts no lexeme
pub none_at_tab : (rest : List ℕ) → reach (9 ∷ rest) ≡ 0
none_at_tab [] = refl
none_at_tab (b ∷ rest) = refl

-- a CR starts no lexeme
pub none_at_return : (rest : List ℕ) → reach (13 ∷ rest) ≡ 0
none_at_return [] = refl
none_at_return (b ∷ rest) = refl

-- no lexeme at a blank
pub no_lexeme_at_blank : (chunk after other left : List ℕ) → chunk ++ after ≡ other ++ left → Blank chunk after → ¬ (Lexeme other left)
no_lexeme_at_blank chunk after other left e (Space s) = none_in_reach other left (32 ∷ after) (sym e ∙ ap (λ p. p ++ after) s) (none_at_space after)
no_lexeme_at_blank chunk after other left e (Tab s) = none_in_reach other left (9 ∷ after) (sym e ∙ ap (λ p. p ++ after) s) (none_at_tab after)
no_lexeme_at_blank chunk after other left e (Return s lf) = none_in_reach other left (13 ∷ after) (sym e ∙ ap (λ p. p ++ after) s) (none_at_return after)
no_lexeme_at_blank chunk after other left e (Comment c) = no_lexeme_at_comment other left c.inside (sym e ∙ c.opens)

-- one longest lexeme at a place
pub one_longest : (chunk after other left : List ℕ) → chunk ++ after ≡ other ++ left → IsLongestLexeme chunk after → IsLongestLexeme other left → (chunk ≡ other) × (after ≡ left)
one_longest chunk after other left e one two =
    let same : length chunk ≡ length other = le_antisymm (two.longest chunk after e one.lexeme) (one.longest other left (sym e) two.lexeme) in
    let same_chunk : chunk ≡ other = sym (take_at chunk after (length chunk) refl) ∙ ap (take (length chunk)) e ∙ take_at other left (length chunk) (sym same) in
    let same_rest : after ≡ left = sym (drop_at chunk after (length chunk) refl) ∙ ap (drop (length chunk)) e ∙ drop_at other left (length chunk) (sym same) in
    (same_chunk, same_rest)

-- ---- faults

-- one fault at a place
pub one_fault : (rest : List ℕ) (number other : ℕ) → FaultAt rest number → FaultAt rest other → number ≡ other
one_fault rest number other (Foreign f) (Foreign g) = refl
one_fault rest number other (Foreign f) (Unclosed inside e none) = absurd (f.no_comment inside e)
one_fault rest number other (Foreign f) (Nested inside more e opened) = absurd (f.no_comment inside e)
one_fault rest number other (Foreign f) (Malformed chunk after e longest h) = absurd (f.no_lexeme chunk after e longest.lexeme)
one_fault rest number other (Unclosed inside e none) (Foreign g) = absurd (g.no_comment inside e)
one_fault rest number other (Unclosed inside e none) (Unclosed inside₁ e₁ none₁) = refl
one_fault rest number other (Unclosed inside e none) (Nested inside₁ more e₁ opened) = cc
one_fault rest number other (Unclosed inside e none) (Malformed chunk after e₁ longest h) = absurd (no_lexeme_at_comment chunk after inside (e₁ ∙ e) longest.lexeme)
one_fault rest number other (Nested inside more e opened) (Foreign g) = absurd (g.no_comment inside e)
one_fault rest number other (Nested inside more e opened) (Unclosed inside₁ e₁ none) = cc
one_fault rest number other (Nested inside more e opened) (Nested inside₁ more₁ e₁ opened₁) = refl
one_fault rest number other (Nested inside more e opened) (Malformed chunk after e₁ longest h) = absurd (no_lexeme_at_comment chunk after inside (e₁ ∙ e) longest.lexeme)
one_fault rest number other (Malformed chunk after e longest h) (Foreign g) = absurd (g.no_lexeme chunk after e longest.lexeme)
one_fault rest number other (Malformed chunk after e longest h) (Unclosed inside e₁ none) = absurd (no_lexeme_at_comment chunk after inside (e ∙ e₁) longest.lexeme)
one_fault rest number other (Malformed chunk after e longest h) (Nested inside more e₁ opened) = absurd (no_lexeme_at_comment chunk after inside (e ∙ e₁) longest.lexeme)
one_fault rest number other (Malformed chunk after e longest h) (Malformed chunk₁ after₁ e₁ longest₁ h₁) =
    let same = one_longest chunk after chunk₁ after₁ (e ∙ sym e₁) longest longest₁ in
    let validated : Err number ≡ Err other = sym h ∙ ap shape_of same.0 ∙ h₁ in
    cc

-- no token and no blank is here
pub record IsStuck (rest : List ℕ) : Type 0 where
  pub no_blank : (chunk after : List ℕ) → chunk ++ after ≡ rest → ¬ (Blank chunk after)
  pub no_token : (shape : Shape) (chunk after : List ℕ) → chunk ++ after ≡ rest → IsLongestLexeme chunk after → shape_of chunk ≢ Ok shape

-- texts with different first bytes differ
starts_apart : (b c : ℕ) (xs ys : List ℕ) → b ≢ c → b ∷ xs ≢ c ∷ ys
starts_apart b c xs ys apart e = apart (ap (λ text. get_or text 0 0) e)

-- a comment that does not close is not a blank
pub unclosed_is_no_blank : (chunk after inside : List ℕ) → chunk ++ after ≡ comment_opening ++ inside → ((left : List ℕ) → from_bracket inside ≢ comment_closing ++ left) → ¬ (Blank chunk after)
unclosed_is_no_blank chunk after inside e never (Space s) = starts_apart 32 40 after (42 ∷ inside) (λ same. omega arith) (subst (λ p. p ++ after ≡ comment_opening ++ inside) s e)
unclosed_is_no_blank chunk after inside e never (Tab s) = starts_apart 9 40 after (42 ∷ inside) (λ same. omega arith) (subst (λ p. p ++ after ≡ comment_opening ++ inside) s e)
unclosed_is_no_blank chunk after inside e never (Return s lf) = starts_apart 13 40 after (42 ∷ inside) (λ same. omega arith) (subst (λ p. p ++ after ≡ comment_opening ++ inside) s e)
unclosed_is_no_blank chunk after inside e never (Comment c) =
    let same : inside ≡ c.inside = append_cancel_left comment_opening inside c.inside (sym e ∙ c.opens) in
    never after (ap from_bracket same ∙ c.closes)

-- nothing goes on after a fault
pub fault_is_stuck : (rest : List ℕ) (number : ℕ) → FaultAt rest number → IsStuck rest
fault_is_stuck rest number (Foreign f) = record { no_blank = f.no_blank; no_token = λ shape chunk after e longest h. f.no_lexeme chunk after e longest.lexeme }
fault_is_stuck rest number (Unclosed inside e none) = record {
  no_blank = λ chunk after s blank. unclosed_is_no_blank chunk after inside (s ∙ e) (λ left closed. cc) blank;
  no_token = λ shape chunk after s longest h. no_lexeme_at_comment chunk after inside (s ∙ e) longest.lexeme;
}
fault_is_stuck rest number (Nested inside more e opened) = record {
  no_blank = λ chunk after s blank. unclosed_is_no_blank chunk after inside (s ∙ e) (λ left closed. starts_apart 40 42 (42 ∷ more) (41 ∷ left) (λ same. omega arith) (sym opened ∙ closed)) blank;
  no_token = λ shape chunk after s longest h. no_lexeme_at_comment chunk after inside (s ∙ e) longest.lexeme;
}
fault_is_stuck rest number (Malformed chunk after e longest h) = record {
  no_blank = λ other left s blank. no_lexeme_at_blank other left chunk after (s ∙ sym e) blank longest.lexeme;
  no_token = λ shape other left s other_longest k.
      let same = one_longest chunk after other left (e ∙ sym s) longest other_longest in
      let validated : Err number ≡ Ok shape = sym h ∙ ap shape_of same.0 ∙ k in
      cc;
}

-- nothing goes on after the end
pub end_is_stuck : (rest : List ℕ) → rest ≡ [] → IsStuck rest
end_is_stuck rest e = record {
  no_blank = λ chunk after s blank. blank_is_filled chunk after blank (append_empty chunk after (s ∙ e));
  no_token = λ shape chunk after s longest h.
      let none = append_empty chunk after (s ∙ e) in
      omega (arith, lexeme_is_filled chunk after longest.lexeme, ap length none);
}

-- no fault is at the end
pub fault_is_before_end : (rest : List ℕ) (number : ℕ) → FaultAt rest number → rest ≢ []
fault_is_before_end rest number (Foreign f) e = f.more e
fault_is_before_end rest number (Unclosed inside s none) e = cc
fault_is_before_end rest number (Nested inside more s opened) e = cc
fault_is_before_end rest number (Malformed chunk after s longest h) e =
    let none = append_empty chunk after (s ∙ e) in
    omega (arith, lexeme_is_filled chunk after longest.lexeme, ap length none)
