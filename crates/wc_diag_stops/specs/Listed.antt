-- Which tokens the sentence about an unexpected token lists, and that this list is exact. (The profile's own.)
use Rattle.std.specs.Prelude.{◌≡◌, ⊤, ◌⊎◌, ◌||◌, ℕ, Bool, true, false, Some, None, is_some}
use Rattle.wc_laws_grammar.specs.{Start, Ended, State, OnLine, fault_at, move, is_identifier, found, literal_of, operation_of, unit_kinds}
use Rattle.wc_model.specs.Language.Names.{name_of}
use Rattle.wc_model.specs.Text.Marks.{Symbol, Identifier, Whole, Duration, Truth, Direct, OpeningBracket, ClosingBracket, Comma, Colon, Semicolon, Point, Assign, Arrow, LineEnd}
use Rattle.wc_diag_stops.specs.Allowed.{allowed}
use Rattle.wc_diag_texts.specs.declared.expected.Expected.{Expected}
use Rattle.wc_diag_texts.specs.declared.expected.Expected.TheVariants as expected

-- PROGRAM or FUNCTION_BLOCK
abbrev pub is_unit_word : Symbol → Bool
is_unit_word (Identifier bytes) = is_some (found unit_kinds (name_of bytes))
is_unit_word _ = false

-- a name, an address or a literal
abbrev pub is_operand : Symbol → Bool
is_operand (Identifier bytes) = true
is_operand (Whole number) = true
is_operand (Duration milliseconds) = true
is_operand (Truth value) = true
is_operand (Direct bytes) = true
is_operand _ = false

-- an operator
abbrev pub is_operator : Symbol → Bool
is_operator symbol = is_some (operation_of symbol)

-- the symbol is that one, which says nothing more
abbrev pub is_mark : (mark symbol : Symbol) → Bool
is_mark Comma Comma = true
is_mark Colon Colon = true
is_mark Semicolon Semicolon = true
is_mark Assign Assign = true
is_mark Arrow Arrow = true
is_mark Point Point = true
is_mark OpeningBracket OpeningBracket = true
is_mark ClosingBracket ClosingBracket = true
is_mark LineEnd LineEnd = true
is_mark _ _ = false

-- the sentence lists the token; where it is not said here, a name alone
abbrev pub lists : Expected → Symbol → Bool
lists expected.Nothing symbol = false
lists expected.LabelColon symbol = is_mark Colon symbol
lists expected.UnitWord symbol = is_unit_word symbol
lists expected.CommaOrColon symbol = is_mark Comma symbol || is_mark Colon symbol
lists expected.AssignOrSemicolon symbol = is_mark Assign symbol || is_mark Semicolon symbol
lists expected.Literal symbol = is_some (literal_of symbol)
lists expected.Semicolon symbol = is_mark Semicolon symbol
lists expected.Instruction symbol = is_identifier symbol || is_operator symbol
lists expected.InstructionOrClosing symbol = is_operator symbol || is_mark ClosingBracket symbol
lists expected.InstructionOrLineEnd symbol = is_operator symbol || is_mark LineEnd symbol
lists expected.Operand symbol = is_operand symbol
lists expected.OperandOrOpening symbol = is_operand symbol || is_mark OpeningBracket symbol
lists expected.OperandOrLineEnd symbol = is_operand symbol || is_mark LineEnd symbol
lists expected.LineEnd symbol = is_mark LineEnd symbol
lists expected.OpeningOrLineEnd symbol = is_mark OpeningBracket symbol || is_mark LineEnd symbol
lists expected.PointOrLineEnd symbol = is_mark Point symbol || is_mark LineEnd symbol
lists expected.FormalOrClosing symbol = is_identifier symbol || is_mark ClosingBracket symbol
lists expected.AssignOrArrow symbol = is_mark Assign symbol || is_mark Arrow symbol
lists expected.CommaOrClosing symbol = is_mark Comma symbol || is_mark ClosingBracket symbol
lists expected.CommaPointOrClosing symbol = is_mark Comma symbol || (is_mark Point symbol || is_mark ClosingBracket symbol)
lists _ symbol = is_identifier symbol

-- a walk stops before a line or on it, never at the start of one that it is on, nor on one that has ended
abbrev pub IsStop : State → Type 0
IsStop (OnLine p Start) = ⊥
IsStop (OnLine p (Ended line_shape)) = ⊥
IsStop state = ⊤

-- if the text goes on with a token, the sentence lists it, or it is the end of a line where lines may end
abbrev pub ListsAll : Type 0
ListsAll = (state next : State) (symbol : Symbol) (line : ℕ) (colon : Bool) → fault_at state symbol line colon ≡ None → move state symbol line colon ≡ Some next →
    (symbol ≡ LineEnd) ⊎ (lists (allowed state) symbol ≡ true)

-- a token that the sentence lists is not unexpected: the text goes on with it, or another rule refuses it
abbrev pub ListsNoOther : Type 0
ListsNoOther = (state : State) (symbol : Symbol) (line : ℕ) (colon : Bool) → IsStop state → lists (allowed state) symbol ≡ true →
    (is_some (fault_at state symbol line colon) ≡ true) ⊎ (is_some (move state symbol line colon) ≡ true)
