-- When flat lines are the lowered body of a unit (the profile's own).
use Rattle.std.specs.Prelude.{◌≡◌, ℕ, ◌+◌, Bool, List, [], ◌∷◌, ◌++◌, length, Option, Some, None, option_map, if◌then◌else◌, ℤ, pos, ◌-ℤ◌}
use Rattle.wc_model.specs.Definitions.{Variable, VariableType, Elementary, Standard as StandardType, Block, same_name, type_named, variables_of, is_block, block_named, direct_variables, content_number, frame_of, place_number, carries, Name, Scope, type_of, readable_place, writable_place}
use Rattle.wc_model.specs.Language.Store.{Location, Path, Plain as PlainContent, block_places, variable_places}
use Rattle.wc_model.specs.Language.Tree.{Term, Constant, Address, Variable as NameOf, Field, Assignment, inputs_of, outputs_of, Step, Load, Store as StoreStep, Apply, Negate, Jump as JumpStep, Call as CallStep, Return as ReturnStep, Lines, End, Alone, Plain, Nested, ProgramUnit, Text}
use Rattle.wc_model.specs.declared.code.Code.{Code}
use Rattle.wc_model.specs.declared.code.Code.TheVariants.{LoadNumber, LoadPlace, Store, ApplyNumber, ApplyPlace, Not, Open, OpenNumber, OpenPlace, Close, Jump, Return, Call, ArgumentNumber, ArgumentPlace, Standard, Body}
use Rattle.wc_model.specs.declared.operator.Condition.{Condition}
use Rattle.wc_model.specs.declared.operator.Operator.{Operator}
use Rattle.wc_model.specs.declared.place.Place.{Place}

-- the number of places a variable has
abbrev pub size_of : List ProgramUnit → Variable → ℕ
size_of before v = length (variable_places (block_places before) (type_named before v.type_name) v.initial)

-- the number of places before those of the first variable of that name
abbrev pub places_before : List ProgramUnit → List Variable → Name → Option ℕ
places_before before [] name = None
places_before before (v ∷ vs) name = if same_name v.name name then Some 0 else option_map (λ n. size_of before v + n) (places_before before vs name)

-- the number of places before all variables: a program's frame begins with the direct variables
abbrev pub first_of_all : Scope → ℕ
first_of_all scope = if is_block scope.unit then 0 else length direct_variables

-- the number of the first place of an instance in its unit's frame
abbrev pub first_place : Scope → Name → Option ℕ
first_place scope name = option_map (λ n. first_of_all scope + n) (places_before scope.before (variables_of scope.unit) name)

-- an operand is a literal's number, or it is at a place of the unit's frame
pub data Operand : Type 0 where
  Number : (number : ℤ) → Operand
  At : (place : Place) → Operand

-- the flat line is for what is there
abbrev pub IsPlaceOf : Scope → Option Location → Place → Type 0
IsPlaceOf scope None place = ⊥
IsPlaceOf scope (Some location) place = place_number (frame_of scope) location ≡ Some place.0

abbrev pub IsStored : Scope → Term → Operand → Type 0
IsStored scope term (Number n) = ⊥
IsStored scope term (At place) = IsPlaceOf scope (readable_place scope term) place

abbrev pub IsOperand : Scope → Term → Operand → Type 0
IsOperand scope (Constant value) operand = operand ≡ Number (content_number (PlainContent value))
IsOperand scope (Address word) operand = IsStored scope (Address word) operand
IsOperand scope (NameOf name) operand = IsStored scope (NameOf name) operand
IsOperand scope (Field instance field) operand = IsStored scope (Field instance field) operand

-- the lines for an operand; a literal that LDN loads is negated in the line
abbrev pub load_line : Bool → Operand → Code
load_line negated (Number n) = LoadNumber (if negated then pos 1 -ℤ n else n)
load_line negated (At place) = LoadPlace negated place

abbrev pub apply_line : Operator → Operand → Code
apply_line operator (Number n) = ApplyNumber operator n
apply_line operator (At place) = ApplyPlace operator place

abbrev pub short_line : Operand → Code
short_line (Number n) = OpenNumber n
short_line (At place) = OpenPlace place

abbrev pub argument_line : Operand → Place → Code
argument_line (Number n) target = ArgumentNumber target n
argument_line (At place) target = ArgumentPlace place target

-- the number of flat lines of a step, and of lines
abbrev pub step_length : Step → ℕ
step_length (Load negated operand) = 1
step_length (StoreStep storing target) = 1
step_length (Apply operator operand) = 1
step_length Negate = 1
step_length (JumpStep condition label) = 1
step_length (CallStep condition instance arguments) = 2 + length arguments
step_length (ReturnStep condition) = 1

abbrev pub flat_length : Lines → ℕ
flat_length End = 0
flat_length (Alone label rest) = flat_length rest
flat_length (Plain label line step rest) = step_length step + flat_length rest
flat_length (Nested label line operator operand inside close rest) = 2 + flat_length inside + flat_length rest

-- the number of flat lines before the first line that carries the label
abbrev pub lines_ahead : Lines → Name → Option ℕ
lines_ahead End label = None
lines_ahead (Alone word rest) label = if same_name word.name label then Some 0 else lines_ahead rest label
lines_ahead (Plain word line step rest) label = if carries word label then Some 0 else option_map (λ n. step_length step + n) (lines_ahead rest label)
lines_ahead (Nested word line operator operand inside close rest) label =
    if carries word label then Some 0 else option_map (λ n. 2 + flat_length inside + n) (lines_ahead rest label)

-- an argument assigns a value to an input of the instance
abbrev pub IsArgument : Scope → Name → Assignment → Code → Type 0
IsArgument scope instance argument line =
    (operand : Operand) × (target : Place) × IsOperand scope argument.actual operand × IsPlaceOf scope (Some (Path (instance ∷ argument.formal ∷ []))) target
    × (line ≡ argument_line operand target)

-- an output of the instance is written to a target
abbrev pub IsOutput : Scope → Name → Assignment → Code → Type 0
IsOutput scope instance output line =
    (operand : Operand) × (target : Place) × IsOperand scope (Field instance output.formal) operand × IsPlaceOf scope (writable_place scope output.actual) target
    × (line ≡ argument_line operand target)

-- a line for each of a list, in its order
abbrev pub AreEach : (Assignment → Code → Type 0) → List Assignment → List Code → Type 0
AreEach IsOne [] [] = Unit {0}
AreEach IsOne (item ∷ items) (line ∷ lines) = IsOne item line × AreEach IsOne items lines
AreEach IsOne [] (line ∷ lines) = ⊥
AreEach IsOne (item ∷ items) [] = ⊥

abbrev pub AreArguments : Scope → Name → List Assignment → List Code → Type 0
AreArguments scope instance arguments lines = AreEach (IsArgument scope instance) arguments lines

abbrev pub AreOutputs : Scope → Name → List Assignment → List Code → Type 0
AreOutputs scope instance outputs lines = AreEach (IsOutput scope instance) outputs lines

-- the body of the instance that is called; a unit's number is the number of units before it
abbrev pub IsUnitBody : Scope → Name → Option (ProgramUnit × List ProgramUnit) → Code → Type 0
IsUnitBody scope instance None line = ⊥
IsUnitBody scope instance (Some found) line = (at : Place) × (first_place scope instance ≡ Some at.0) × (line ≡ Body (length found.1) at)

abbrev pub IsBodyOf : Scope → Name → Option VariableType → Code → Type 0
IsBodyOf scope instance None line = ⊥
IsBodyOf scope instance (Some (Elementary kind)) line = ⊥
IsBodyOf scope instance (Some (StandardType block)) line = (at : Place) × (first_place scope instance ≡ Some at.0) × (line ≡ Standard block at)
IsBodyOf scope instance (Some (Block name)) line = IsUnitBody scope instance (block_named scope.before name) line

-- the flat lines of a call: its inputs, the body, its outputs
pub record IsCallLowered (scope : Scope) (condition : Condition) (instance : Name) (arguments : List Assignment) (own : List Code) : Type 0 where
  pub assigned : List Code
  pub body : Code
  pub given : List Code
  pub inputs : AreArguments scope instance (inputs_of arguments) assigned
  pub called : IsBodyOf scope instance (type_of scope instance) body
  pub outputs : AreOutputs scope instance (outputs_of arguments) given
  pub is : own ≡ Call condition (1 + length arguments) ∷ assigned ++ body ∷ given

-- the flat lines of a step, which these lines follow
abbrev pub IsStepLowered : Scope → Lines → Step → List Code → Type 0
IsStepLowered scope rest (Load negated term) own = (operand : Operand) × IsOperand scope term operand × (own ≡ load_line negated operand ∷ [])
IsStepLowered scope rest (StoreStep storing target) own = (place : Place) × IsPlaceOf scope (writable_place scope target) place × (own ≡ Store storing place ∷ [])
IsStepLowered scope rest (Apply operator term) own = (operand : Operand) × IsOperand scope term operand × (own ≡ apply_line operator operand ∷ [])
IsStepLowered scope rest Negate own = own ≡ Not ∷ []
IsStepLowered scope rest (JumpStep condition label) own = (skip : ℕ) × (lines_ahead rest label ≡ Some skip) × (own ≡ Jump condition skip ∷ [])
IsStepLowered scope rest (ReturnStep condition) own = own ≡ Return condition ∷ []
IsStepLowered scope rest (CallStep condition instance arguments) own = IsCallLowered scope condition instance arguments own

-- an opening line
abbrev pub IsOpening : Scope → Option Term → Code → Type 0
IsOpening scope None line = line ≡ Open
IsOpening scope (Some term) line = (operand : Operand) × IsOperand scope term operand × (line ≡ short_line operand)

-- the flat lines of a step or a parenthesis, and of the rest
pub record IsPlainLowered (rest_lowered : List Code → Type 0) (step_lowered : List Code → Type 0) (code : List Code) : Type 0 where
  pub own : List Code
  pub others : List Code
  pub whole : code ≡ own ++ others
  pub step : step_lowered own
  pub rest : rest_lowered others

pub record IsNestedLowered (rest_lowered inside_lowered : List Code → Type 0) (opening_lowered : Code → Type 0) (operator : Operator) (code : List Code) : Type 0 where
  pub opening : Code
  pub inner : List Code
  pub others : List Code
  pub whole : code ≡ opening ∷ inner ++ Close operator ∷ others
  pub opens : opening_lowered opening
  pub inside : inside_lowered inner
  pub rest : rest_lowered others

-- these flat lines are the lines of a body of this unit
abbrev pub IsLowered : Scope → Lines → List Code → Type 0
IsLowered scope End code = code ≡ []
IsLowered scope (Alone label rest) code = IsLowered scope rest code
IsLowered scope (Plain label line step rest) code = IsPlainLowered (IsLowered scope rest) (IsStepLowered scope rest step) code
IsLowered scope (Nested label line operator operand inside close rest) code = IsNestedLowered (IsLowered scope rest) (IsLowered scope inside) (IsOpening scope operand) operator code

-- these are the flat codes of a text's units, in text order
abbrev pub AreLoweredAfter : List ProgramUnit → List ProgramUnit → List (List Code) → Type 0
AreLoweredAfter before [] [] = Unit {0}
AreLoweredAfter before (unit ∷ units) (code ∷ codes) = IsLowered (record { before = before; unit = unit }) unit.body code × AreLoweredAfter (unit ∷ before) units codes
AreLoweredAfter before [] (code ∷ codes) = ⊥
AreLoweredAfter before (unit ∷ units) [] = ⊥

abbrev pub AreLowered : Text → List (List Code) → Type 0
AreLowered text codes = AreLoweredAfter [] text codes
