-- What a word of the language represents.
use Rattle.std.specs.Prelude.{Bool, true, false, List, [], ◌∷◌, map, Option, Some, None, if◌then◌else◌}
use Rattle.wc_model.specs.Definitions.{unit_word, section_word, truth_word, load_word, store_word, operator_word, not_word, jump_word, call_word, return_word, Symbol, Identifier, Whole, Duration, Truth, Ampersand, AmpersandN, same_name, Name, name_of}
use Rattle.wc_model.specs.Language.Tree.{Term, Step, Load, Store, Apply}
use Rattle.wc_model.specs.declared.operator.Condition.{Condition}
use Rattle.wc_model.specs.declared.operator.Condition.TheVariants.{Always, IfTrue, IfFalse}
use Rattle.wc_model.specs.declared.operator.Operator.{Operator}
use Rattle.wc_model.specs.declared.operator.Operator.TheVariants.{And, Andn, Or, Orn, Xor, Xorn, Add, Sub, Mul, Div, Mod, Gt, Ge, Eq, Ne, Le, Lt}
use Rattle.wc_model.specs.declared.operator.StoreKind.{StoreKind}
use Rattle.wc_model.specs.declared.operator.StoreKind.TheVariants.{Result, Negation, Set, Reset}
use Rattle.wc_model.specs.declared.source.Section.{Section}
use Rattle.wc_model.specs.declared.source.Section.TheVariants.{Input, Output, Own}
use Rattle.wc_model.specs.declared.source.UnitKind.{UnitKind}
use Rattle.wc_model.specs.declared.source.UnitKind.TheVariants.{FunctionBlock, Program}
use Rattle.wc_model.specs.declared.value.Value.{Value}
use Rattle.wc_model.specs.declared.value.Value.TheVariants.{Bool as BoolValue, Dint, Time}

-- what is under a name in a table of words
abbrev pub found : {A : Type 0} → List (Name × A) → Name → Option A
found [] name = None
found (entry ∷ entries) name = if same_name name entry.0 then Some entry.1 else found entries name

-- an operator that takes an operand
pub data OperandOperator : Type 0 where
  Loads : (negated : Bool) → OperandOperator
  Stores : (storing : StoreKind) → OperandOperator
  Applies : (operator : Operator) → OperandOperator

-- an operator: with an operand, alone, with a label, or with an instance
pub data Operation : Type 0 where
  Operates : (operating : OperandOperator) → Operation
  Negates : Operation
  Jumps Calls Returns : (condition : Condition) → Operation

-- the word of an operator that takes an operand
abbrev pub operating_word : OperandOperator → Name
operating_word (Loads negated) = load_word negated
operating_word (Stores storing) = store_word storing
operating_word (Applies operator) = operator_word operator

-- the word of an operator
abbrev pub operation_word : Operation → Name
operation_word (Operates operating) = operating_word operating
operation_word Negates = not_word
operation_word (Jumps condition) = jump_word condition
operation_word (Calls condition) = call_word condition
operation_word (Returns condition) = return_word condition

-- an operator under its word
abbrev pub worded : Operation → Name × Operation
worded operation = (operation_word operation, operation)

-- all operators
abbrev pub all_operations : List Operation
all_operations =
    Operates (Loads false) ∷ Operates (Loads true)
    ∷ Operates (Stores Result) ∷ Operates (Stores Negation) ∷ Operates (Stores Set) ∷ Operates (Stores Reset)
    ∷ Operates (Applies And) ∷ Operates (Applies Andn) ∷ Operates (Applies Or) ∷ Operates (Applies Orn)
    ∷ Operates (Applies Xor) ∷ Operates (Applies Xorn) ∷ Operates (Applies Add) ∷ Operates (Applies Sub)
    ∷ Operates (Applies Mul) ∷ Operates (Applies Div) ∷ Operates (Applies Mod) ∷ Operates (Applies Gt)
    ∷ Operates (Applies Ge) ∷ Operates (Applies Eq) ∷ Operates (Applies Ne) ∷ Operates (Applies Le)
    ∷ Operates (Applies Lt) ∷ Negates ∷ Jumps Always ∷ Jumps IfTrue ∷ Jumps IfFalse
    ∷ Calls Always ∷ Calls IfTrue ∷ Calls IfFalse ∷ Returns Always ∷ Returns IfTrue ∷ Returns IfFalse ∷ []

-- all operators under their words
abbrev pub operations : List (Name × Operation)
operations = map worded all_operations

-- the operator that a symbol is
abbrev pub operation_of : Symbol → Option Operation
operation_of (Identifier bytes) = found operations (name_of bytes)
operation_of Ampersand = Some (Operates (Applies And))
operation_of AmpersandN = Some (Operates (Applies Andn))
operation_of _ = None

-- whether it is a jump, a call or a return
abbrev pub is_transfer : Operation → Bool
is_transfer (Operates operating) = false
is_transfer Negates = false
is_transfer _ = true

-- the words that begin a unit
abbrev pub unit_kinds : List (Name × UnitKind)
unit_kinds = (unit_word FunctionBlock, FunctionBlock) ∷ (unit_word Program, Program) ∷ []

-- the words that begin a section
abbrev pub section_words : List (Name × Section)
section_words = (section_word Input, Input) ∷ (section_word Output, Output) ∷ (section_word Own, Own) ∷ []

-- TRUE and FALSE
abbrev pub truths : List (Name × Bool)
truths = (truth_word true, true) ∷ (truth_word false, false) ∷ []

-- the literal that a word is
abbrev pub truth_value : Option Bool → Option Value
truth_value None = None
truth_value (Some value) = Some (BoolValue value)

-- the literal that a symbol is
abbrev pub literal_of : Symbol → Option Value
literal_of (Identifier bytes) = truth_value (found truths (name_of bytes))
literal_of (Whole number) = Some (Dint number)
literal_of (Duration milliseconds) = Some (Time milliseconds)
literal_of (Truth value) = Some (BoolValue value)
literal_of _ = None

-- the step of an operator with its operand
abbrev pub step_of : OperandOperator → Term → Step
step_of (Loads negated) term = Load negated term
step_of (Stores storing) term = Store storing term
step_of (Applies operator) term = Apply operator term
