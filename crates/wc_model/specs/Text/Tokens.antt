-- The tokens of a text, and its first fault (IEC 61131-3:2003, 2.1). The numbers of faults are the profile's own.
use Rattle.std.specs.Prelude.{◌≡◌, ◌≢◌, ℕ, ◌+◌, ◌≤◌, ◌<◌, List, [], ◌∷◌, ◌++◌, length, count_by, Ok, Err}
use Rattle.wc_model.specs.Text.Blanks.{Blank, comment_opening, from_bracket}
use Rattle.wc_model.specs.Text.Characters.{is_line_feed}
use Rattle.wc_model.specs.Text.Lexemes.{IsLongestLexeme, Lexeme}
use Rattle.wc_model.specs.Text.Shapes.{Shape, shape_of}

-- a token: its shape, its slice of the text, and the place and line at which the slice starts
pub record Token : Type 0 where
  pub shape : Shape
  pub text : List ℕ
  pub start : ℕ
  pub line : ℕ

-- the number of the line on which a text of these bytes ends: 1 plus its line feeds, also those in comments
abbrev pub line_after : List ℕ → ℕ
line_after before = 1 + count_by is_line_feed before

-- the token of that shape and text that follows `before`
abbrev pub token_after : List ℕ → Shape → List ℕ → Token
token_after before shape text = record { shape = shape; text = text; start = length before; line = line_after before }

-- From the place between `before` and `rest` on, these tokens follow up to a place at which `Ends` holds. Between them
-- are blanks alone, and each is the longest lexeme at its place.
pub data Cuts (Ends : List ℕ → List ℕ → Type 0) : (before rest : List ℕ) → List Token → Type 0 where
  Nothing : {before rest : List ℕ} → Ends before rest → Cuts Ends before rest []
  Skipped : {before rest : List ℕ} {tokens : List Token} (chunk after : List ℕ) → chunk ++ after ≡ rest → Blank chunk after → Cuts Ends (before ++ chunk) after tokens → Cuts Ends before rest tokens
  Taken : {before rest : List ℕ} {tokens : List Token} (shape : Shape) (chunk after : List ℕ) → chunk ++ after ≡ rest → IsLongestLexeme chunk after → shape_of chunk ≡ Ok shape → Cuts Ends (before ++ chunk) after tokens → Cuts Ends before rest (token_after before shape chunk ∷ tokens)

-- nothing is left
abbrev pub AtEnd : List ℕ → List ℕ → Type 0
AtEnd before rest = rest ≡ []

-- these are the tokens of the text
abbrev pub IsCut : List ℕ → List Token → Type 0
IsCut text tokens = Cuts AtEnd [] text tokens

-- no blank, no comment and no lexeme begins here
pub record IsForeign (rest : List ℕ) : Type 0 where
  pub more : rest ≢ []
  pub no_blank : (chunk after : List ℕ) → chunk ++ after ≡ rest → ¬ (Blank chunk after)
  pub no_comment : (inside : List ℕ) → rest ≢ comment_opening ++ inside
  pub no_lexeme : (chunk after : List ℕ) → chunk ++ after ≡ rest → ¬ (Lexeme chunk after)

-- The fault where the text goes on with `rest`: a byte that belongs to nothing, a comment that is not closed, one
-- that opens another inside, or a malformed lexeme.
pub data FaultAt (rest : List ℕ) : ℕ → Type 0 where
  Foreign : IsForeign rest → FaultAt rest 101
  Unclosed : (inside : List ℕ) → rest ≡ comment_opening ++ inside → from_bracket inside ≡ [] → FaultAt rest 102
  Nested : (inside more : List ℕ) → rest ≡ comment_opening ++ inside → from_bracket inside ≡ comment_opening ++ more → FaultAt rest 103
  Malformed : {number : ℕ} (chunk after : List ℕ) → chunk ++ after ≡ rest → IsLongestLexeme chunk after → shape_of chunk ≡ Err number → FaultAt rest number

-- at a place the fault of that number is on that line
pub record Faulty (number line : ℕ) (before rest : List ℕ) : Type 0 where
  pub fault : FaultAt rest number
  pub here : line ≡ line_after before

-- the greatest number of bytes of a text
abbrev pub most_bytes : ℕ
most_bytes = 65536

-- The first fault of a text: it is too long, which names no line, or it is cut up to a place at which a fault is.
pub data IsFirstTokenFault (text : List ℕ) : (number line : ℕ) → Type 0 where
  TooLong : most_bytes < length text → IsFirstTokenFault text 107 0
  Represents : {number line : ℕ} (tokens : List Token) → length text ≤ most_bytes → Cuts (Faulty number line) [] text tokens → IsFirstTokenFault text number line
