-- A walk over the tokens of one line of a body, token by token.
use Rattle.std.specs.Prelude.{ℕ, Bool, true, false, List, [], ◌∷◌, ◌++◌, Option, Some, None, if◌then◌else◌}
use Rattle.wc_laws_grammar.specs.Words.{OperandOperator, Applies, Operation, Operates, Negates, Jumps, Calls, Returns, found, is_transfer, operation_of, operations, step_of, truths}
use Rattle.wc_model.specs.Definitions.{Setting, InBody, InParentheses, Name, name_of}
use Rattle.wc_model.specs.Text.Marks.{Symbol, Identifier, Whole, Duration, Truth, Direct, OpeningBracket, ClosingBracket, Comma, Colon, Point, Assign, Arrow, LineEnd}
use Rattle.wc_model.specs.Language.Tree.{Word, Term, Constant, Address, Variable, Field, Assignment, Step, Negate, Jump, Call, Return}
use Rattle.wc_model.specs.declared.operator.Condition.{Condition}
use Rattle.wc_model.specs.declared.operator.Direction.{Direction}
use Rattle.wc_model.specs.declared.operator.Direction.TheVariants.{Into, OutOf}
use Rattle.wc_model.specs.declared.operator.Operator.{Operator}
use Rattle.wc_model.specs.declared.value.Value.TheVariants.{Bool as BoolValue, Dint, Time}

-- what a line was: a label alone, an instruction, or the opening of a parenthesis
pub data LineShape : Type 0 where
  LabelAlone : (label : Word) → LineShape
  Instructs : (label : Option Word) (line : ℕ) (step : Step) → LineShape
  Opens : (label : Option Word) (line : ℕ) (operator : Operator) (operand : Option Term) → LineShape

-- an instruction that has started: its label and its line
pub record StartedLine : Type 0 where
  pub label : Option Word
  pub line : ℕ

-- a call whose list has started: the condition, the instance and the arguments so far
pub record OpenCall : Type 0 where
  pub condition : Condition
  pub instance : Name
  pub arguments : List Assignment

-- a formal parameter of a call, and which way a value goes
pub record Formal : Type 0 where
  pub direction : Direction
  pub name : Name

-- it with its actual parameter, and that of one of a call's list
abbrev pub with_actual : Formal → Term → Assignment
with_actual formal actual = record { direction = formal.direction; formal = formal.name; actual = actual }

abbrev pub formal_of : Assignment → Formal
formal_of a = record { direction = a.direction; name = a.formal }

-- whose operand is here: an instruction's, an opening line's, or that of one of a call's list
pub data OperandOf : Type 0 where
  OfStep : (operating : OperandOperator) → OperandOf
  OfOpening : (operator : Operator) → OperandOf
  OfArgument : (call : OpenCall) (formal : Formal) → OperandOf

-- where a call's list is: after its bracket, a comma, an input or output, its `:=` or `=>`, or a whole argument
pub data InList : Type 0 where
  AtFirst : InList
  AtNext : InList
  AtAssign : (name : Name) → InList
  AtValue : (formal : Formal) → InList
  AtEnd : InList

-- how far the walk has come on a line
pub data LineState : Type 0 where
  -- at its start
  Start : LineState
  -- after an identifier that is a label if anything is
  Worded : (label : Word) → LineState
  -- after a label's colon
  Labelled : (label : Word) → LineState
  -- after an operator that takes an operand
  Operated : (started : StartedLine) (operating : OperandOperator) → LineState
  -- after a jump's operator, and after a call's
  Jumped Called : (started : StartedLine) (condition : Condition) → LineState
  -- after a call's instance
  Instanced : (started : StartedLine) (condition : Condition) (instance : Name) → LineState
  -- in a call's list
  Listing : (started : StartedLine) (call : OpenCall) (item : InList) → LineState
  -- after an operator's bracket
  Bracketed : (started : StartedLine) (operator : Operator) → LineState
  -- after a name where an operand is, and after the point after it
  Named Pointed : (started : StartedLine) (place : OperandOf) (name : Name) → LineState
  -- after a whole instruction
  Stepped : (started : StartedLine) (step : Step) → LineState
  -- after the operand of an opening line
  BracketedWith : (started : StartedLine) (operator : Operator) (operand : Term) → LineState
  -- after the line's end
  Ended : (line_shape : LineShape) → LineState

-- the argument after others
abbrev pub with_argument : OpenCall → Formal → Term → OpenCall
with_argument call formal actual = record call { arguments = call.arguments ++ with_actual formal actual ∷ [] }

-- after a whole operand
abbrev pub after_operand : StartedLine → OperandOf → Term → LineState
after_operand started (OfStep operating) term = Stepped started (step_of operating term)
after_operand started (OfOpening operator) term = BracketedWith started operator term
after_operand started (OfArgument call formal) term = Listing started (with_argument call formal term) AtEnd

-- after an identifier where an operand is
abbrev pub name_or_literal : StartedLine → OperandOf → Name → Option Bool → LineState
name_or_literal started place name None = Named started place name
name_or_literal started place name (Some value) = after_operand started place (Constant (BoolValue value))

-- after the first token of an operand
abbrev pub at_operand : StartedLine → OperandOf → Symbol → ℕ → Option LineState
at_operand started place (Identifier bytes) line = Some (name_or_literal started place (name_of bytes) (found truths (name_of bytes)))
at_operand started place (Direct bytes) line = Some (after_operand started place (Address (record { line = line; name = name_of bytes })))
at_operand started place (Whole number) line = Some (after_operand started place (Constant (Dint number)))
at_operand started place (Duration milliseconds) line = Some (after_operand started place (Constant (Time milliseconds)))
at_operand started place (Truth value) line = Some (after_operand started place (Constant (BoolValue value)))
at_operand started place _ line = None

-- after an operator
abbrev pub after_operator : Option Word → ℕ → Operation → LineState
after_operator label line (Operates operating) = Operated (record { label = label; line = line }) operating
after_operator label line Negates = Stepped (record { label = label; line = line }) Negate
after_operator label line (Jumps condition) = Jumped (record { label = label; line = line }) condition
after_operator label line (Calls condition) = Called (record { label = label; line = line }) condition
after_operator label line (Returns condition) = Stepped (record { label = label; line = line }) (Return condition)

-- after a symbol that has to be an operator
abbrev pub at_operator : Option Word → ℕ → Option Operation → Option LineState
at_operator label line None = None
at_operator label line (Some operation) = Some (after_operator label line operation)

-- after a line's first identifier that no colon follows: it is an operator, or a label without its colon
abbrev pub operator_or_label : Word → Option Operation → LineState
operator_or_label word None = Worded word
operator_or_label word (Some operation) = after_operator None word.line operation

-- after the first token of a line in a body; `colon` says whether a colon follows it
abbrev pub at_start : Symbol → ℕ → (colon : Bool) → Option LineState
at_start (Identifier bytes) line true = Some (Worded (record { line = line; name = name_of bytes }))
at_start (Identifier bytes) line false = Some (operator_or_label (record { line = line; name = name_of bytes }) (found operations (name_of bytes)))
at_start symbol line colon = at_operator None line (operation_of symbol)

-- inside parentheses an operator has to be no jump, call or return
abbrev pub simple_operator : ℕ → Option Operation → Option LineState
simple_operator line None = None
simple_operator line (Some operation) = if is_transfer operation then None else Some (after_operator None line operation)

-- after the first token of a line, where it is
abbrev pub at_start_in : Setting → Symbol → ℕ → (colon : Bool) → Option LineState
at_start_in InBody symbol line colon = at_start symbol line colon
at_start_in InParentheses symbol line colon = simple_operator line (operation_of symbol)

-- after a label's colon
abbrev pub at_labelled : Word → Symbol → ℕ → Option LineState
at_labelled label LineEnd line = Some (Ended (LabelAlone label))
at_labelled label symbol line = at_operator (Some label) line (operation_of symbol)

-- after an operator that takes an operand; one of the deferrable ones may open a parenthesis
abbrev pub at_operated : StartedLine → OperandOperator → Symbol → ℕ → Option LineState
at_operated started (Applies operator) OpeningBracket line = Some (Bracketed started operator)
at_operated started operating symbol line = at_operand started (OfStep operating) symbol line

-- after a call's list, or in it
abbrev pub at_list : StartedLine → OpenCall → InList → Symbol → ℕ → Option LineState
at_list started call item LineEnd line = Some (Listing started call item)
at_list started call AtFirst (Identifier bytes) line = Some (Listing started call (AtAssign (name_of bytes)))
at_list started call AtFirst ClosingBracket line = Some (Stepped started (Call call.condition call.instance call.arguments))
at_list started call AtNext (Identifier bytes) line = Some (Listing started call (AtAssign (name_of bytes)))
at_list started call (AtAssign name) Assign line = Some (Listing started call (AtValue (record { direction = Into; name = name })))
at_list started call (AtAssign name) Arrow line = Some (Listing started call (AtValue (record { direction = OutOf; name = name })))
at_list started call (AtValue formal) symbol line = at_operand started (OfArgument call formal) symbol line
at_list started call AtEnd Comma line = Some (Listing started call AtNext)
at_list started call AtEnd ClosingBracket line = Some (Stepped started (Call call.condition call.instance call.arguments))
at_list started call item _ line = None

-- after an operator's bracket
abbrev pub at_bracketed : StartedLine → Operator → Symbol → ℕ → Option LineState
at_bracketed started operator LineEnd line = Some (Ended (Opens started.label started.line operator None))
at_bracketed started operator symbol line = at_operand started (OfOpening operator) symbol line

-- after a name that is the whole operand
abbrev pub after_name : StartedLine → OperandOf → Name → Symbol → Option LineState
after_name started (OfStep operating) name LineEnd = Some (Ended (Instructs started.label started.line (step_of operating (Variable name))))
after_name started (OfOpening operator) name LineEnd = Some (Ended (Opens started.label started.line operator (Some (Variable name))))
after_name started (OfArgument call formal) name LineEnd = Some (Named started (OfArgument call formal) name)
after_name started (OfArgument call formal) name Comma = Some (Listing started (with_argument call formal (Variable name)) AtNext)
after_name started (OfArgument call formal) name ClosingBracket =
    Some (Stepped started (Call call.condition call.instance (with_argument call formal (Variable name)).arguments))
after_name started place name _ = None

-- after the point of a field
abbrev pub at_field : StartedLine → OperandOf → Name → Symbol → Option LineState
at_field started place name (Identifier bytes) = Some (after_operand started place (Field name (name_of bytes)))
at_field started (OfArgument call formal) name LineEnd = Some (Pointed started (OfArgument call formal) name)
at_field started place name _ = None

-- after one more token of a line; none if no line goes on so
abbrev pub line_move : Setting → LineState → Symbol → ℕ → (colon : Bool) → Option LineState
line_move setting Start symbol line colon = at_start_in setting symbol line colon
line_move setting (Worded label) Colon line colon = Some (Labelled label)
line_move setting (Labelled label) symbol line colon = at_labelled label symbol line
line_move setting (Operated started operating) symbol line colon = at_operated started operating symbol line
line_move setting (Jumped started condition) (Identifier bytes) line colon = Some (Stepped started (Jump condition (name_of bytes)))
line_move setting (Called started condition) (Identifier bytes) line colon = Some (Instanced started condition (name_of bytes))
line_move setting (Instanced started condition instance) LineEnd line colon = Some (Ended (Instructs started.label started.line (Call condition instance [])))
line_move setting (Instanced started condition instance) OpeningBracket line colon =
    Some (Listing started (record { condition = condition; instance = instance; arguments = [] }) AtFirst)
line_move setting (Listing started call item) symbol line colon = at_list started call item symbol line
line_move setting (Bracketed started operator) symbol line colon = at_bracketed started operator symbol line
line_move setting (Named started place name) Point line colon = Some (Pointed started place name)
line_move setting (Named started place name) symbol line colon = after_name started place name symbol
line_move setting (Pointed started place name) symbol line colon = at_field started place name symbol
line_move setting (Stepped started step) LineEnd line colon = Some (Ended (Instructs started.label started.line step))
line_move setting (BracketedWith started operator operand) LineEnd line colon = Some (Ended (Opens started.label started.line operator (Some operand)))
line_move setting _ symbol line colon = None
