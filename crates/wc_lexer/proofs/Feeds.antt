-- The number of line feeds the slices of a text hold.
use Rattle.std.proofs.Common.{◌≡◌, ℕ, zero, suc, ◌≤◌, ◌<◌, Bool, true, false, cond, not, List, [], ◌∷◌, length, drop, take, count_by, length-take, refl, sym, ap, ◌∙◌, subst, arith, IsTrue, true≢false}
use Rattle.wc_model.proofs.Common.{and_from, and_parts, ne_eqb, not-true, not_from_false, list_all-append, count_by-le-length, sum_by-cons, list_all}
use Rattle.wc_lexer.proofs.Steps.{holds_at, some_left}
use Rattle.wc_laws_grammar.proofs.FoundTokens.{Holds}
use Rattle.wc_laws_grammar.proofs.Reach.{mark_passes}
use Rattle.wc_laws_grammar.specs.Sights.{Pass, Take, sight}
use Rattle.wc_model.specs.Text.Blanks.{Blank, Comment, Return, Space, Tab}
use Rattle.wc_model.specs.Definitions.{begins, is_address_character, is_identifier_character, is_line_feed, is_minus, is_number_character, starts_identifier, Addressed, Lexeme, Marked, Run, Sign, Signed, Typed, Unsigned, is_literal_value, is_run, is_unsigned_run, Shape}

-- the byte is not a line feed
abbrev pub is_other : ℕ → Bool
is_other b = not (is_line_feed b)

-- no line feed follows the first byte
abbrev pub IsFirstAtMost : List ℕ → Type 0
IsFirstAtMost chunk = list_all is_other (drop 1 chunk) ≡ true

-- bytes without a line feed
pub none_counted : (xs : List ℕ) → list_all is_other xs ≡ true → count_by is_line_feed xs ≡ 0
none_counted [] h = refl
none_counted (b ∷ xs) h =
    let both = and_parts (is_other b) (list_all is_other xs) h in
    let feeds : Bool → ℕ = λ v. cond v 1 0 in
    omega (arith, sum_by-cons (λ x. cond (is_line_feed x) 1 0) b xs, ap feeds (not-true (is_line_feed b) both.0), none_counted xs both.1)

-- a slice whose line feed can be its first byte alone
pub first_counted : (chunk : List ℕ) → IsFirstAtMost chunk → cond (begins is_line_feed chunk) 1 0 ≡ count_by is_line_feed chunk
first_counted [] h = refl
first_counted (b ∷ rest) h = omega (arith, sum_by-cons (λ x. cond (is_line_feed x) 1 0) b rest, none_counted rest h)

-- ---- lexemes

-- a byte that passes a test that a line feed fails
other_by : (p : ℕ → Bool) → p 10 ≡ false → (b : ℕ) → p b ≡ true → is_other b ≡ true
other_by p fails b h = not_from_false (is_line_feed b) (ne_eqb b 10 (λ e. true≢false (sym h ∙ ap p e ∙ fails)))

-- bytes that do
others_by : (p : ℕ → Bool) → p 10 ≡ false → (xs : List ℕ) → list_all p xs ≡ true → list_all is_other xs ≡ true
others_by p fails [] h = refl
others_by p fails (b ∷ xs) h =
    let both = and_parts (p b) (list_all p xs) h in
    and_from _ _ (other_by p fails b both.0) (others_by p fails xs both.1)

-- what holds of all bytes holds after the first
following_first : (xs : List ℕ) → list_all is_other xs ≡ true → IsFirstAtMost xs
following_first [] h = refl
following_first (b ∷ xs) h = (and_parts (is_other b) (list_all is_other xs) h).1

-- an identifier
run_others : (chunk : List ℕ) → IsTrue (is_run chunk) → list_all is_other chunk ≡ true
run_others chunk h = others_by is_identifier_character refl chunk (and_parts (begins starts_identifier chunk) _ h).1

-- a number without a sign
unsigned_others : (chunk : List ℕ) → IsTrue (is_unsigned_run chunk) → list_all is_other chunk ≡ true
unsigned_others chunk h = others_by is_number_character refl chunk (and_parts _ (list_all is_number_character chunk) h).1

-- what follows a `#`
value_others : (value : List ℕ) → IsTrue (is_literal_value value) → list_all is_other value ≡ true
value_others [] h = refl
value_others (b ∷ value) h = go (is_minus b) refl h
  where
    go : (m : Bool) → is_minus b ≡ m → list_all is_number_character (drop (cond m 1 0) (b ∷ value)) ≡ true → list_all is_other (b ∷ value) ≡ true
    go true minus all = and_from _ _ (other_by is_minus refl b minus) (others_by is_number_character refl value all)
    go false other all = others_by is_number_character refl (b ∷ value) all

-- each lexeme
pub lexeme_feeds : (chunk after : List ℕ) → Lexeme chunk after → IsFirstAtMost chunk
lexeme_feeds chunk after (Run h) = following_first chunk (run_others chunk h)
lexeme_feeds chunk after (Typed type value e t v) =
    following_first chunk (ap (list_all is_other) e ∙ list_all-append is_other type (35 ∷ value) ∙ and_from _ _ (run_others type t) (value_others value v))
lexeme_feeds chunk after (Unsigned h) = following_first chunk (unsigned_others chunk h)
lexeme_feeds chunk after (Signed sign number e s n) = subst IsFirstAtMost (sym e) (unsigned_others number n)
lexeme_feeds chunk after (Sign sign e s) = subst IsFirstAtMost (sym e) refl
lexeme_feeds chunk after (Addressed address e a) = subst IsFirstAtMost (sym e) (others_by is_address_character refl address a)
lexeme_feeds chunk after (Marked shape found may) = mark_passes (λ p s. list_all is_other (drop 1 p)) chunk shape refl found

-- ---- what is at a place

-- a byte at the start is the first one
prefix_begins : (count : ℕ) (rest : List ℕ) → 1 ≤ count → begins is_line_feed (take count rest) ≡ begins is_line_feed rest
prefix_begins zero rest h = absurd (omega arith)
prefix_begins (suc k) [] h = refl
prefix_begins (suc k) (b ∷ rest) h = refl

-- a token's line feed is its first byte
pub token_feeds : (text rest : List ℕ) (n count feeds : ℕ) (shape : Shape) → rest ≡ drop n text → n < length text → Take count shape ≡ sight rest → 1 ≤ count → feeds ≡ cond (begins is_line_feed rest) 1 0 → feeds ≡ count_by is_line_feed (take count rest)
token_feeds text rest n count feeds shape r h e some f =
    let long : 1 ≤ length rest = omega (arith, some_left text n h, ap length r) in
    let held : Holds rest (Take count shape) = holds_at rest (Take count shape) long e in
    f ∙ ap (λ v. cond v 1 0) (sym (prefix_begins count rest some)) ∙ first_counted (take count rest) (lexeme_feeds (take count rest) (drop count rest) held.0.lexeme)

-- a blank starts with no line feed
blank_starts : (chunk after : List ℕ) → Blank chunk after → begins is_line_feed chunk ≡ false
blank_starts chunk after (Space e) = ap (begins is_line_feed) e
blank_starts chunk after (Tab e) = ap (begins is_line_feed) e
blank_starts chunk after (Return e next) = ap (begins is_line_feed) e
blank_starts [] after (Comment c) = refl
blank_starts (b ∷ chunk) after (Comment c) = ap (begins is_line_feed) c.opens

-- a blank of one byte has no line feed
pub space_feeds : (text rest : List ℕ) (n : ℕ) → rest ≡ drop n text → n < length text → Pass 1 ≡ sight rest → 0 ≡ count_by is_line_feed (take 1 rest)
space_feeds text rest n r h e =
    let long : 1 ≤ length rest = omega (arith, some_left text n h, ap length r) in
    let blank : Holds rest (Pass 1) = holds_at rest (Pass 1) long e in
    sym (ap (λ v. cond v 1 0) (blank_starts (take 1 rest) (drop 1 rest) blank)) ∙ first_counted (take 1 rest) (single rest)
  where
    single : (xs : List ℕ) → IsFirstAtMost (take 1 xs)
    single [] = refl
    single (b ∷ xs) = refl

-- ---- what a step passes

-- a step from here passes n bytes and n line feeds
abbrev pub IsStep : List ℕ → ℕ × ℕ → Type 0
IsStep rest step = (1 ≤ step.0) × (step.0 ≤ length rest) × (step.1 ≡ count_by is_line_feed (take step.0 rest))

-- it passes no more line feeds than bytes
pub step_feeds : (rest : List ℕ) (step : ℕ × ℕ) → IsStep rest step → step.1 ≤ step.0
step_feeds rest step h = omega (arith, h.2, count_by-le-length is_line_feed (take step.0 rest), length-take step.0 rest)
