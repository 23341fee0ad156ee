-- Tokens that are taken several at a time. (No rule of the language.)
use Rattle.std.specs.Prelude.{◌≡◌, ◌<◌, ℕ, Bool, false, List, ◌∷◌, Option, Some, None, drop}
use Rattle.wc_laws_grammar.specs.{AtNext, formal_of, StartedLine, Instructs, OpenCall, Listing, after_operator, with_argument, State, AtLine, OnLine, after_line, is_colon, fault_at, move, on_line, Operation, found, truths}
use Rattle.wc_model.specs.Definitions.{Name, name_of, Position}
use Rattle.wc_lexer.specs.declared.shape.Token.{Token}
use Rattle.wc_model.specs.Language.Tree.{Assignment, Call, ProgramUnit, Step, Term, Constant, Address, Variable}
use Rattle.wc_model.specs.Text.Marks.{Mark, Symbol, Identifier, Whole, Duration, Truth, Direct, ClosingBracket, Comma, LineEnd}
use Rattle.wc_model.specs.declared.value.Value.TheVariants.{Bool as BoolValue, Dint, Time}
use Rattle.wc_text_bodies.specs.Views.{position_view, walk}
use Rattle.wc_text_bodies.specs.declared.bodies.Body.{Body}
use Rattle.wc_text_lines.specs.LineViews.{listed_view}
use Rattle.wc_text_lines.specs.Words.{marks_of}
use Rattle.wc_text_lines.specs.declared.line_state.OpenCall.{OpenCall as CodeListed}

-- A text whose walk is at one state with these tokens to come is read as if it were at the
-- other with those: the walk says the same, and stops at the same state.
pub record GoesOn (state : State) (marks : List Mark) (next : State) (following : List Mark) : Type 0 where
  pub same : (last : ℕ) → walk state marks last ≡ walk next following last

-- The first n tokens are the lines by which the one body became the other.
abbrev pub TakesLines : Body → List Token → ℕ → Body → Type 0
TakesLines old tokens n new = (units : List ProgramUnit) → GoesOn (AtLine (position_view units old)) (marks_of tokens) (AtLine (position_view units new)) (marks_of (drop n tokens))

-- At the start of a line, if these bytes are an operator and nothing is wrong with them.
pub record Begins (p : Position) (bytes : List ℕ) (operation : Operation) : Type 0 where
  pub passes : (line : ℕ) → fault_at (AtLine p) (Identifier bytes) line false ≡ None
  pub leads : (line : ℕ) → move (AtLine p) (Identifier bytes) line false ≡ Some (on_line p (after_operator None line operation))

-- An operator with the token after it is this instruction if the line ends there.
pub record Makes (operation : Operation) (mark : Mark) (step : Step) : Type 0 where
  pub no_colon : is_colon mark.symbol ≡ false
  pub ends : (p : Position) (line end : ℕ) (following : List Mark)
      → GoesOn (on_line p (after_operator None line operation)) (mark ∷ record { symbol = LineEnd; line = end } ∷ following)
      (AtLine (after_line p (Instructs None line step))) following

-- At the start of a line the two tokens are this instruction if the line ends after them.
pub record IsLine (p : Position) (first second : Mark) (step : Step) : Type 0 where
  pub ends : (end : ℕ) (following : List Mark)
      → GoesOn (AtLine p) (first ∷ second ∷ record { symbol = LineEnd; line = end } ∷ following)
      (AtLine (after_line p (Instructs None first.line step))) following

-- After a comma of a call's list, tokens with which the list goes on up to another comma.
pub record ListsOn (call : OpenCall) (marks : List Mark) (more : OpenCall) (following : List Mark) : Type 0 where
  pub same : (p : Position) (started : StartedLine) → GoesOn (OnLine p (Listing started call AtNext)) marks (OnLine p (Listing started more AtNext)) following

-- After a comma of a call's list, tokens with which the list and its line end.
pub record ListEnds (call : OpenCall) (marks : List Mark) (all : OpenCall) (following : List Mark) : Type 0 where
  pub same : (p : Position) (started : StartedLine)
      → GoesOn (OnLine p (Listing started call AtNext)) marks
      (AtLine (after_line p (Instructs started.label started.line (Call all.condition all.instance all.arguments)))) following

-- The first n tokens are arguments by which the one call became the other, each with its comma.
abbrev pub TakesArguments : CodeListed → List Token → ℕ → CodeListed → Type 0
TakesArguments old tokens n new = ListsOn (listed_view old) (marks_of tokens) (listed_view new) (marks_of (drop n tokens))

-- If n is not 0, the first n tokens are the rest of the list by which the one call became the other.
abbrev pub TakesList : CodeListed → List Token → ℕ → CodeListed → Type 0
TakesList old tokens n new = 0 < n → ListEnds (listed_view old) (marks_of tokens) (listed_view new) (marks_of (drop n tokens))

-- The three are an argument, which a comma or the list's end may follow.
pub record IsArgument (input assign operand : Mark) (argument : Assignment) : Type 0 where
  pub goes_on : (call : OpenCall) (comma : ℕ) (following : List Mark)
      → ListsOn call (input ∷ assign ∷ operand ∷ record { symbol = Comma; line = comma } ∷ following) (with_argument call (formal_of argument) argument.actual) following
  pub ends : (call : OpenCall) (close end : ℕ) (following : List Mark)
      → ListEnds call (input ∷ assign ∷ operand ∷ record { symbol = ClosingBracket; line = close } ∷ record { symbol = LineEnd; line = end } ∷ following)
      (with_argument call (formal_of argument) argument.actual) following

-- At the start of a line the four begin this call's list, whose first input is read as one after a
-- comma is.
pub record BeginsCall (p : Position) (operator instance opening input : Mark) (call : OpenCall) : Type 0 where
  pub same : (following : List Mark)
      → GoesOn (AtLine p) (operator ∷ instance ∷ opening ∷ input ∷ following) (OnLine p (Listing (record { label = None; line = operator.line }) call AtNext)) (input ∷ following)

-- a name, or TRUE or FALSE
abbrev pub name_or_truth : Name → Option Bool → Term
name_or_truth name None = Variable name
name_or_truth name (Some value) = Constant (BoolValue value)

-- the operand that a symbol is by itself
abbrev pub operand_of : Symbol → ℕ → Option Term
operand_of (Identifier bytes) line = Some (name_or_truth (name_of bytes) (found truths (name_of bytes)))
operand_of (Direct bytes) line = Some (Address (record { line = line; name = name_of bytes }))
operand_of (Whole number) line = Some (Constant (Dint number))
operand_of (Duration milliseconds) line = Some (Constant (Time milliseconds))
operand_of (Truth value) line = Some (Constant (BoolValue value))
operand_of _ line = None
