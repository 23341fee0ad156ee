-- A program text as a tree (IEC 61131-3:2003, 2.5 and 3.2), with the lines at which its parts are.
use Rattle.std.specs.Prelude.{ℕ, Bool, true, false, not, List, filter, Option}
use Rattle.wc_model.specs.Language.Names.{Name}
use Rattle.wc_model.specs.declared.operator.Condition.{Condition}
use Rattle.wc_model.specs.declared.operator.Direction.{Direction}
use Rattle.wc_model.specs.declared.operator.Direction.TheVariants.{Into, OutOf}
use Rattle.wc_model.specs.declared.operator.Operator.{Operator}
use Rattle.wc_model.specs.declared.operator.StoreKind.{StoreKind}
use Rattle.wc_model.specs.declared.source.Initial.{Initial}
use Rattle.wc_model.specs.declared.source.Section.{Section}
use Rattle.wc_model.specs.declared.source.UnitKind.{UnitKind}
use Rattle.wc_model.specs.declared.value.Value.{Value}

-- a name and the line of its token
pub record Word : Type 0 where
  pub line : ℕ
  pub name : Name

-- an operand; an address keeps the line of its token
pub data Term : Type 0 where
  Constant : (value : Value) → Term
  Address : (word : Word) → Term
  Variable : (name : Name) → Term
  Field : (instance field : Name) → Term

-- `formal := actual` or `formal => actual` in a call: the formal parameter is an input or an output of the block
pub record Assignment : Type 0 where
  pub direction : Direction
  pub formal : Name
  pub actual : Term

-- whether it assigns an input
abbrev pub goes_in : Assignment → Bool
goes_in assignment = elim assignment.direction [ Into ↦ true | OutOf ↦ false ]

-- the inputs that a call's list assigns, and the outputs that it gives out, in written order
abbrev pub inputs_of : List Assignment → List Assignment
inputs_of list = filter goes_in list

abbrev pub outputs_of : List Assignment → List Assignment
outputs_of list = filter (λ assignment. not (goes_in assignment)) list

-- what a line does that opens no parenthesis
pub data Step : Type 0 where
  Load : (negated : Bool) (operand : Term) → Step
  Store : (storing : StoreKind) (target : Term) → Step
  Apply : (operator : Operator) (operand : Term) → Step
  Negate : Step
  Jump : (condition : Condition) (label : Name) → Step
  Call : (condition : Condition) (instance : Name) (arguments : List Assignment) → Step
  Return : (condition : Condition) → Step

-- The lines of a body: none left; a label alone; a line with an instruction; and a deferred operator with the
-- lines inside its parentheses. `line` is that of the instruction's first token, `close` that of the `)`.
pub data Lines : Type 0 where
  End : Lines
  Alone : (label : Word) (rest : Lines) → Lines
  Plain : (label : Option Word) (line : ℕ) (step : Step) (rest : Lines) → Lines
  Nested : (label : Option Word) (line : ℕ) (operator : Operator) (operand : Option Term) (inside : Lines) (close : ℕ) (rest : Lines) → Lines

-- names of one type, with their first value if one is written
pub record Declaration : Type 0 where
  pub section : Section
  pub names : List Word
  pub type_name : Word
  pub initial : Option Initial

-- A program organisation unit. `line` is that of its first keyword, and `spelled` its name as it is written.
pub record ProgramUnit : Type 0 where
  pub kind : UnitKind
  pub line : ℕ
  pub name : Word
  pub spelled : List ℕ
  pub declarations : List Declaration
  pub body : Lines

-- a program text: its units in text order
abbrev pub Text : Type 0
Text = List ProgramUnit
