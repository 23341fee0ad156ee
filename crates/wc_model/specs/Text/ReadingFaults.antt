-- What a reader refuses, at which token, and with which line (the profile's own).
use Rattle.std.specs.Prelude.{◌≡◌, ◌≢◌, ℕ, ◌≤◌, List, [], ◌∷◌, ◌++◌, length, Option, None, ◌⊎◌, Any}
use Rattle.std.specs.List.{AllByRecursion}
use Rattle.wc_model.specs.Language.Names.{Name}
use Rattle.wc_model.specs.Language.Tree.{Word, Step, ProgramUnit}
use Rattle.wc_model.specs.Text.Marks.{Mark, OpeningBracket, ClosingBracket, Colon, IsSymbol, IsNamed}
use Rattle.wc_model.specs.Text.Languages.{◌then◌, one}
use Rattle.wc_model.specs.Text.Keywords.{unit_word, end_word}
use Rattle.wc_model.specs.Text.Grammar.{IsOperator, IsOperatorOf, IsOn, IsTransfer, HasContent, units, IsPrefix}
use Rattle.wc_model.specs.Text.Positions.{Opening, Position, at_line, at_instruction, StopsInUnit, StopsInParentheses}
use Rattle.wc_model.specs.Text.Limits.{most_units, most_lines, most_depth, lines_before}
use Rattle.wc_model.specs.declared.operator.Operator.{Operator}
use Rattle.wc_model.specs.declared.source.UnitKind.{UnitKind}
use Rattle.wc_model.specs.declared.source.UnitKind.TheVariants.{FunctionBlock, Program}

-- what is wrong with a text's tokens
pub data ReadingFault : Type 0 where
  UnexpectedToken UnitNotClosed NotOneProgramLast EmptyParentheses NotAllowedInParentheses ParenthesisNotPaired TooDeep TooMany : ReadingFault

-- the numbers by which they are reported
abbrev pub number_of : ReadingFault → ℕ
number_of UnexpectedToken = 201
number_of UnitNotClosed = 202
number_of NotOneProgramLast = 203
number_of EmptyParentheses = 204
number_of NotAllowedInParentheses = 205
number_of ParenthesisNotPaired = 206
number_of TooDeep = 207
number_of TooMany = 208

-- The fault of lowest rank of those at one token is reported: the lower number, but an unexpected token only if there is no other.
abbrev pub rank_of : ReadingFault → ℕ
rank_of UnexpectedToken = 209
rank_of fault = number_of fault

-- the token begins a unit
abbrev pub BeginsUnit : Mark → Type 0
BeginsUnit mark = (kind : UnitKind) × IsNamed (unit_word kind) mark

-- the token is an identifier, whatever its name
abbrev pub IsIdentifier : Mark → Type 0
IsIdentifier mark = (name : Name) × IsNamed name mark

-- the next token is a colon
abbrev pub ColonFollows : List Mark → Type 0
ColonFollows [] = ⊥
ColonFollows (next ∷ more) = IsSymbol Colon next

-- the innermost of the open parentheses
abbrev pub IsInnermost : Position → Opening → Type 0
IsInnermost p innermost = (outer : List Opening) × (p.openings ≡ innermost ∷ outer)

-- A label, a jump, a call or a return begins here.
abbrev pub BeginsTransferOrLabel : Mark → List Mark → Type 0
BeginsTransferOrLabel mark following = ((step : Step) × IsTransfer step × IsOperatorOf step mark) ⊎ (IsIdentifier mark × ColonFollows following)

-- An instruction begins here: the token is an operator, and if the line has no label yet, not one itself.
abbrev pub BeginsInstruction : Option Word → Mark → List Mark → Type 0
BeginsInstruction label mark following = ((step : Step) × IsOperatorOf step mark) × ((label ≡ None) → ¬ (ColonFollows following))

-- After `before` the fault is found at the token `mark`, which names the line; `following` are the tokens after it.
abbrev pub RaisedAtToken : ReadingFault → (before : List Mark) → Mark → (following : List Mark) → (line : ℕ) → Type 0
-- no text goes on so
RaisedAtToken UnexpectedToken before mark following line = ¬ (IsPrefix (before ++ mark ∷ [])) × (line ≡ mark.line)
-- a second unit after a program
RaisedAtToken NotOneProgramLast before mark following line =
    (whole : List ProgramUnit) × units whole before × Any (λ unit. unit.kind ≡ Program) whole × BeginsUnit mark × (line ≡ mark.line)
-- a `)` if the innermost parenthesis has no operand on its opening line and no instruction inside
RaisedAtToken EmptyParentheses before mark following line =
    (p : Position) × at_line p before × (innermost : Opening) × IsInnermost p innermost × ¬ (HasContent innermost.operand p.done)
    × IsSymbol ClosingBracket mark × (line ≡ mark.line)
-- a label, a jump, a call or a return in parentheses
RaisedAtToken NotAllowedInParentheses before mark following line =
    (p : Position) × at_line p before × (p.openings ≢ []) × BeginsTransferOrLabel mark following × (line ≡ mark.line)
-- a `)` if no parenthesis is open, or the unit's end if one is: then the innermost opening's line is reported
RaisedAtToken ParenthesisNotPaired before mark following line =
    (p : Position) × at_line p before
    × ((p.openings ≡ []) × IsSymbol ClosingBracket mark × (line ≡ mark.line)
    ⊎ ((innermost : Opening) × IsInnermost p innermost × IsNamed (end_word p.unit.kind) mark × (line ≡ innermost.line)))
-- one opening too many; the operator's line is reported
RaisedAtToken TooDeep before mark following line =
    (p : Position) × (label : Option Word) × (operator : Operator) × (at_instruction p label then one (IsOn line (IsOperator operator))) before
    × (most_depth ≤ length p.openings) × IsSymbol OpeningBracket mark
-- one unit too many, or one instruction or `)` too many in a unit
RaisedAtToken TooMany before mark following line =
    (((whole : List ProgramUnit) × units whole before × (most_units ≤ length whole) × BeginsUnit mark)
    ⊎ ((p : Position) × (label : Option Word) × at_instruction p label before × (most_lines ≤ lines_before p) × BeginsInstruction label mark following)
    ⊎ ((p : Position) × at_line p before × (p.openings ≢ []) × (most_lines ≤ lines_before p) × IsSymbol ClosingBracket mark))
    × (line ≡ mark.line)
RaisedAtToken UnitNotClosed before mark following line = ⊥

-- The fault is found at the text's end, after `before`.
abbrev pub RaisedAtEnd : ReadingFault → (before : List Mark) → (last_line line : ℕ) → Type 0
-- In a unit, outside an operator's parentheses: the line of the unit's first word is reported. An END word at the text's
-- end closes its unit, although it could begin a label.
RaisedAtEnd UnitNotClosed before last_line line =
    (unit : ProgramUnit) × StopsInUnit unit before × ¬ ((innermost : Opening) × StopsInParentheses innermost before)
    × ¬ ((whole : List ProgramUnit) × units whole before) × (line ≡ unit.line)
-- with no program
RaisedAtEnd NotOneProgramLast before last_line line =
    (whole : List ProgramUnit) × units whole before × AllByRecursion (λ unit. unit.kind ≡ FunctionBlock) whole × (line ≡ last_line)
-- in an operator's parentheses: the line of the innermost opening is reported
RaisedAtEnd ParenthesisNotPaired before last_line line = (innermost : Opening) × StopsInParentheses innermost before × (line ≡ innermost.line)
RaisedAtEnd _ before last_line line = ⊥

-- After `before` the fault is found at the first of the tokens that are left, or at the text's end.
abbrev pub IsRaised : ReadingFault → (before left : List Mark) → (last_line line : ℕ) → Type 0
IsRaised fault before [] last_line line = RaisedAtEnd fault before last_line line
IsRaised fault before (mark ∷ following) last_line line = RaisedAtToken fault before mark following line

-- at none of the tokens before a limit is exceeded
abbrev pub KeepsLimits : (before left : List Mark) → Type 0
KeepsLimits before left =
    (seen : List Mark) (mark : Mark) (more : List Mark) (line : ℕ) → before ≡ seen ++ mark ∷ more
    → ¬ (RaisedAtToken TooDeep seen mark (more ++ left) line) × ¬ (RaisedAtToken TooMany seen mark (more ++ left) line)

-- At none of the tokens before a fault is found. That they are a prefix says so of each fault but three: a limit that
-- is exceeded, and a label in parentheses whose name is an operator, which the colon after it shows.
abbrev pub IsFaultFree : (before left : List Mark) → Type 0
IsFaultFree before left =
    (seen : List Mark) (mark : Mark) (more : List Mark) (line : ℕ) → before ≡ seen ++ mark ∷ more
    → (fault : ReadingFault) → ¬ (RaisedAtToken fault seen mark (more ++ left) line)

-- The fault is the first in text order: the tokens before are a prefix, no fault is found at one of them, it is found
-- after them, and no fault that is found there has a lower rank. `last_line` is the text's last line number.
pub record IsFirstReadingFault (tokens : List Mark) (last_line : ℕ) (fault : ReadingFault) (line : ℕ) : Type 0 where
  pub before : List Mark
  pub left : List Mark
  pub whole : tokens ≡ before ++ left
  pub is_prefix : IsPrefix before
  pub fault_free : IsFaultFree before left
  pub raised : IsRaised fault before left last_line line
  pub lowest : (other : ReadingFault) (place : ℕ) → IsRaised other before left last_line place → rank_of fault ≤ rank_of other
