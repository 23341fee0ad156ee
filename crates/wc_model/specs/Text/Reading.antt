-- The text that bytes spell: their tokens as the grammar sees them (IEC 61131-3:2003, 2.1 and annex B).
use Rattle.std.specs.Prelude.{ℕ, ◌+◌, ◌==◌, ◌≤◌, List, map, length, count_by}
use Rattle.wc_model.specs.Text.Grammar.{Spells}
use Rattle.wc_model.specs.Text.Limits.{IsWithinLimits}
use Rattle.wc_model.specs.Text.Marks as marks
use Rattle.wc_model.specs.Text.Marks.{Symbol, Mark}
use Rattle.wc_model.specs.Text.ReadingFaults.{ReadingFault, IsFirstReadingFault}
use Rattle.wc_model.specs.Text.Shapes.{Shape, Identifier, Whole, Duration, Truth, Address, And, AndNot, Opening, Closing, Comma, Colon, Semicolon, Point, Assign, Arrow, LineEnd}
use Rattle.wc_model.specs.Text.Tokens.{Token, IsCut, most_bytes}
use Rattle.wc_model.specs.Language.Tree.{Text}

-- a token's shape, with its bytes if the grammar looks at them
abbrev pub symbol_of : Shape → List ℕ → Symbol
symbol_of Identifier bytes = marks.Identifier bytes
symbol_of (Whole value) bytes = marks.Whole value
symbol_of (Duration milliseconds) bytes = marks.Duration milliseconds
symbol_of (Truth value) bytes = marks.Truth value
symbol_of Address bytes = marks.Direct bytes
symbol_of And bytes = marks.Ampersand
symbol_of AndNot bytes = marks.AmpersandN
symbol_of Opening bytes = marks.OpeningBracket
symbol_of Closing bytes = marks.ClosingBracket
symbol_of Comma bytes = marks.Comma
symbol_of Colon bytes = marks.Colon
symbol_of Semicolon bytes = marks.Semicolon
symbol_of Point bytes = marks.Point
symbol_of Assign bytes = marks.Assign
symbol_of Arrow bytes = marks.Arrow
symbol_of LineEnd bytes = marks.LineEnd

-- a token as the grammar sees it
abbrev pub mark_of_token : Token → Mark
mark_of_token token = record { symbol = symbol_of token.shape token.text; line = token.line }

-- the last line number of a text: 1 plus its line ends
abbrev pub last_line : List ℕ → ℕ
last_line bytes = 1 + count_by (λ byte. byte == 10) bytes

-- the bytes are short enough, are cut into tokens, and those spell the text within the limits
pub record IsRead (bytes : List ℕ) (text : Text) : Type 0 where
  pub short : length bytes ≤ most_bytes
  pub tokens : List Token
  pub cut : IsCut bytes tokens
  pub spelled : Spells (map mark_of_token tokens) text
  pub within_limits : IsWithinLimits text

-- the bytes are short enough and are cut into tokens, in which this reading fault is the first
pub record IsMisread (bytes : List ℕ) (fault : ReadingFault) (line : ℕ) : Type 0 where
  pub short : length bytes ≤ most_bytes
  pub tokens : List Token
  pub cut : IsCut bytes tokens
  pub first : IsFirstReadingFault (map mark_of_token tokens) (last_line bytes) fault line
