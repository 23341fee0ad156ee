-- The kind of the current result at each line, from all incoming paths (IEC 61131-3:2003, 3.2.2; the rule that all
-- incoming paths agree is the profile's own).
use Rattle.std.specs.Prelude.{ℕ, Bool, true, false, List, [], ◌∷◌, ◌++◌, Option, Some, None, if◌then◌else◌}
use Rattle.std.specs.List.{list_all}
use Rattle.wc_model.specs.Language.Declarations.{VariableType, Elementary, Standard, Block, same_name}
use Rattle.wc_model.specs.Language.Meaning.{carries}
use Rattle.wc_model.specs.Language.Names.{Name}
use Rattle.wc_model.specs.Language.Scopes.{Scope, entity_of}
use Rattle.wc_model.specs.Language.Tree.{Word, Term, Step, Load, Store, Apply, Negate, Jump, Call, Return, Lines, End, Alone, Plain, Nested}
use Rattle.wc_model.specs.declared.kind.Kind.{Kind}
use Rattle.wc_model.specs.declared.kind.Kind.TheVariants.{Bool as KindBool, Dint as KindDint, Time as KindTime}
use Rattle.wc_model.specs.declared.operator.Condition.TheVariants.{Always}
use Rattle.wc_model.specs.declared.operator.Operator.{Operator}
use Rattle.wc_model.specs.declared.operator.Operator.TheVariants.{Gt, Ge, Eq, Ne, Le, Lt}

-- one kind and the other are the same
abbrev pub is_kind : Kind → Kind → Bool
is_kind KindBool KindBool = true
is_kind KindDint KindDint = true
is_kind KindTime KindTime = true
is_kind a b = false

-- one kind and the other are the same, or neither is there
abbrev pub same_result : Option Kind → Option Kind → Bool
same_result None None = true
same_result (Some a) (Some b) = is_kind a b
same_result None (Some b) = false
same_result (Some a) None = false

-- the kind of a type; an instance has none
abbrev pub elementary_kind : VariableType → Option Kind
elementary_kind (Elementary kind) = Some kind
elementary_kind (Standard block) = None
elementary_kind (Block name) = None

-- the kind of what a term names
abbrev pub term_kind : Scope → Term → Option Kind
term_kind scope term = elim (entity_of scope term) [ Some e ↦ elementary_kind e.type | None ↦ None ]

-- comparisons give a BOOL, the other operators the kind of the result before
abbrev pub compares : Operator → Bool
compares Gt = true
compares Ge = true
compares Eq = true
compares Ne = true
compares Le = true
compares Lt = true
compares operator = false

abbrev pub kind_after_operator : Operator → Option Kind → Option Kind
kind_after_operator operator result = if compares operator then Some KindBool else result

-- the kind after a step, from the kind before
abbrev pub kind_after_step : Scope → Step → Option Kind → Option Kind
kind_after_step scope (Load false operand) result = term_kind scope operand
kind_after_step scope (Load true operand) result = Some KindBool
kind_after_step scope (Store storing target) result = result
kind_after_step scope (Apply operator operand) result = kind_after_operator operator result
kind_after_step scope Negate result = result
kind_after_step scope (Jump condition label) result = result
kind_after_step scope (Call condition instance arguments) result = result
kind_after_step scope (Return condition) result = result

-- a line of a body by itself: a label alone, a line with an instruction, or one with a parenthesis
pub data BodyLine : Type 0 where
  AloneLine : (label : Word) → BodyLine
  PlainLine : (label : Option Word) (line : ℕ) (step : Step) → BodyLine
  NestedLine : (label : Option Word) (line : ℕ) (operator : Operator) (operand : Option Term) (inside : Lines) (close : ℕ) → BodyLine

-- the lines of a body as a list
abbrev pub lines_of : Lines → List BodyLine
lines_of End = []
lines_of (Alone label rest) = AloneLine label ∷ lines_of rest
lines_of (Plain label line step rest) = PlainLine label line step ∷ lines_of rest
lines_of (Nested label line operator operand inside close rest) = NestedLine label line operator operand inside close ∷ lines_of rest

-- the label of a line
abbrev pub label_of : BodyLine → Option Word
label_of (AloneLine label) = Some label
label_of (PlainLine label line step) = label
label_of (NestedLine label line operator operand inside close) = label

-- the kind after a line, from the kind before
abbrev pub kind_after : Scope → BodyLine → Option Kind → Option Kind
kind_after scope (AloneLine label) result = result
kind_after scope (PlainLine label line step) result = kind_after_step scope step result
kind_after scope (NestedLine label line operator operand inside close) result = kind_after_operator operator result

-- a line hands its result on to the next, unless it always leaves
abbrev pub step_leaves : Step → Bool
step_leaves (Jump Always label) = true
step_leaves (Return Always) = true
step_leaves step = false

abbrev pub leaves : BodyLine → Bool
leaves (AloneLine label) = false
leaves (PlainLine label line step) = step_leaves step
leaves (NestedLine label line operator operand inside close) = false

-- a line jumps to this label
abbrev pub jumps_to : BodyLine → Name → Bool
jumps_to (PlainLine label line (Jump condition target)) name = same_name target name
jumps_to line name = false

-- a line with the kind of the result before it
pub record Known : Type 0 where
  pub line : BodyLine
  pub before : Option Kind

-- the kinds that jumps to a label bring, from the lines before, newest first: a jump goes to the next line that carries it
abbrev pub kinds_from_jumps : Name → List Known → List (Option Kind)
kinds_from_jumps label [] = []
kinds_from_jumps label (known ∷ earlier) =
    (if jumps_to known.line label then known.before ∷ [] else []) ++ (if carries (label_of known.line) label then [] else kinds_from_jumps label earlier)

abbrev pub kinds_from_label : Option Word → List Known → List (Option Kind)
kinds_from_label None earlier = []
kinds_from_label (Some word) earlier = kinds_from_jumps word.name earlier

-- the kind that the line before passes on; at a body's start there is no result
abbrev pub kinds_from_above : Scope → List Known → List (Option Kind)
kinds_from_above scope [] = None ∷ []
kinds_from_above scope (known ∷ earlier) = if leaves known.line then [] else kind_after scope known.line known.before ∷ []

-- the kinds of all incoming paths of a line, whose earlier lines are known
abbrev pub edges_in : Scope → List Known → BodyLine → List (Option Kind)
edges_in scope earlier line = kinds_from_above scope earlier ++ kinds_from_label (label_of line) earlier

-- the kind on which all incoming paths agree; none if they do not, or if there is no path
abbrev pub agreed : List (Option Kind) → Option Kind
agreed [] = None
agreed (way ∷ edges) = if list_all (same_result way) edges then way else None

-- the lines with the kinds before them, newest first
abbrev pub with_line : Scope → BodyLine → List Known → List Known
with_line scope line earlier = record { line = line; before = agreed (edges_in scope earlier line) } ∷ earlier

abbrev pub known_kinds : Scope → List BodyLine → List Known
known_kinds scope [] = []
known_kinds scope (line ∷ before) = with_line scope line (known_kinds scope before)

-- the kind of the result at a line after these lines, newest first: of a label, the kind on which all incoming paths agree
-- (label kinds)
abbrev pub kind_at : Scope → List BodyLine → BodyLine → Option Kind
kind_at scope before line = agreed (edges_in scope (known_kinds scope before) line)

-- the kind with which the lines inside a parenthesis start: that of the operand, or none
abbrev pub opening_kind : Scope → Option Term → Option Kind
opening_kind scope None = None
opening_kind scope (Some operand) = term_kind scope operand

-- the kind after lines inside a parenthesis, which none of them leaves and no jump enters
abbrev pub kind_following : Scope → Lines → Option Kind → Option Kind
kind_following scope End result = result
kind_following scope (Alone label rest) result = kind_following scope rest result
kind_following scope (Plain label line step rest) result = kind_following scope rest (kind_after_step scope step result)
kind_following scope (Nested label line operator operand inside close rest) result = kind_following scope rest (kind_after_operator operator result)
