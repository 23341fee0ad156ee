-- The rules on bodies, 401 to 410, in text order, and in the order of this table inside a line (IEC 61131-3:2003, 3.2 and
-- 2.5.2; kinds, the order and the rule on labels ahead are the profile's own).
use Rattle.std.specs.Prelude.{ℕ, zero, Bool, true, false, not, ◌&&◌, ◌||◌, List, [], ◌∷◌, ◌++◌, Option, Some, None, is_some, if◌then◌else◌, pos}
use Rattle.std.specs.List.{flat_map, list_any}
use Rattle.wc_model.specs.Language.Checks.{Check, asks, Position, positions_of}
use Rattle.wc_model.specs.Language.DeclarationRules.{is_bit}
use Rattle.wc_model.specs.Language.Declarations.{VariableType, Elementary, Standard, Block, Member, same_name, members_of, member_named}
use Rattle.wc_model.specs.Language.Kinds.{is_kind, same_result, elementary_kind, term_kind, kind_after_operator, kind_after_step, BodyLine, AloneLine, PlainLine, NestedLine, lines_of, label_of, kind_at, opening_kind, kind_following}
use Rattle.wc_model.specs.Language.Meaning.{carries, takes_truth}
use Rattle.wc_model.specs.Language.Names.{Name}
use Rattle.wc_model.specs.Language.Scopes.{Scope, Entity, entity_of, type_of, is_input, is_result}
use Rattle.wc_model.specs.Language.Tree.{Word, Term, Constant, Assignment, Step, Load, Store, Apply, Negate, Jump, Call, Return, Lines, End, Alone, Plain, Nested, Text}
use Rattle.wc_model.specs.declared.kind.Kind.{Kind}
use Rattle.wc_model.specs.declared.kind.Kind.TheVariants.{Bool as KindBool, Dint as KindDint}
use Rattle.wc_model.specs.declared.operator.Condition.{Condition}
use Rattle.wc_model.specs.declared.operator.Condition.TheVariants.{Always, IfTrue, IfFalse}
use Rattle.wc_model.specs.declared.operator.Direction.{Direction}
use Rattle.wc_model.specs.declared.operator.Direction.TheVariants.{Into, OutOf}
use Rattle.wc_model.specs.declared.operator.Operator.{Operator}
use Rattle.wc_model.specs.declared.operator.Operator.TheVariants.{And, Andn, Or, Orn, Xor, Xorn, Add, Sub, Mul, Div, Mod, Gt, Ge, Eq, Ne, Le, Lt}
use Rattle.wc_model.specs.declared.operator.StoreKind.{StoreKind}
use Rattle.wc_model.specs.declared.operator.StoreKind.TheVariants.{Result as StoreResult, Negation, Set, Reset}
use Rattle.wc_model.specs.declared.source.Section.{Section}
use Rattle.wc_model.specs.declared.value.Value.TheVariants.{Dint}

-- 401: there is such a thing; 405 and 404: it may be read or written from here
abbrev pub is_readable : Option Entity → Bool
is_readable None = true
is_readable (Some e) = e.readable

abbrev pub is_writable : Option Entity → Bool
is_writable None = true
is_writable (Some e) = e.writable

abbrev pub reading_checks : Scope → ℕ → Term → List Check
reading_checks scope line term = asks 401 line (is_some (entity_of scope term)) ∷ asks 405 line (is_readable (entity_of scope term)) ∷ []

abbrev pub writing_checks : Scope → ℕ → Term → List Check
writing_checks scope line term = asks 401 line (is_some (entity_of scope term)) ∷ asks 404 line (is_writable (entity_of scope term)) ∷ []

-- 403: there is a current result
abbrev pub has_result : ℕ → Option Kind → Check
has_result line kind = asks 403 line (is_some kind)

-- a kind that there is, and that passes a test
abbrev pub is_of : (Kind → Bool) → Option Kind → Bool
is_of test None = false
is_of test (Some kind) = test kind

abbrev pub is_bool : Option Kind → Bool
is_bool kind = is_of (is_kind KindBool) kind

-- the kinds of result that an operator takes
abbrev pub takes : Operator → Kind → Bool
takes And kind = is_kind KindBool kind
takes Andn kind = is_kind KindBool kind
takes Or kind = is_kind KindBool kind
takes Orn kind = is_kind KindBool kind
takes Xor kind = is_kind KindBool kind
takes Xorn kind = is_kind KindBool kind
takes Add kind = not (is_kind KindBool kind)
takes Sub kind = not (is_kind KindBool kind)
takes Mul kind = is_kind KindDint kind
takes Div kind = is_kind KindDint kind
takes Mod kind = is_kind KindDint kind
takes Gt kind = not (is_kind KindBool kind)
takes Ge kind = not (is_kind KindBool kind)
takes Eq kind = true
takes Ne kind = true
takes Le kind = not (is_kind KindBool kind)
takes Lt kind = not (is_kind KindBool kind)

-- 402: the result is of a kind that the operator takes
abbrev pub result_checks : Operator → ℕ → Option Kind → List Check
result_checks operator line kind = has_result line kind ∷ asks 402 line (is_of (takes operator) kind) ∷ []

-- a BOOL as the current result: 403, 402
abbrev pub truth_checks : ℕ → Option Kind → List Check
truth_checks line kind = has_result line kind ∷ asks 402 line (is_bool kind) ∷ []

-- a conditional wants a BOOL
abbrev pub condition_checks : Condition → ℕ → Option Kind → List Check
condition_checks Always line kind = []
condition_checks IfTrue line kind = truth_checks line kind
condition_checks IfFalse line kind = truth_checks line kind

-- 408: DIV and MOD want a whole-number literal that is not 0
abbrev pub is_divisor : Term → Bool
is_divisor (Constant (Dint (pos zero))) = false
is_divisor (Constant (Dint n)) = true
is_divisor term = false

abbrev pub divides : Operator → Bool
divides Div = true
divides Mod = true
divides operator = false

abbrev pub divisor_checks : Operator → ℕ → Term → List Check
divisor_checks operator line term = if divides operator then asks 408 line (is_divisor term) ∷ [] else []

-- a literal 0 or 1
abbrev pub is_bit_literal : Term → Bool
is_bit_literal (Constant (Dint n)) = is_bit n
is_bit_literal term = false

-- 402: the operand is of the result's kind, or a literal 0 or 1 next to a BOOL
abbrev pub suits_result : Scope → Operator → Term → Option Kind → Bool
suits_result scope operator term None = false
suits_result scope operator term (Some kind) =
    is_of (is_kind kind) (term_kind scope term) || (is_kind KindBool kind && takes_truth operator && is_bit_literal term)

-- the rules of an operator with its operand
abbrev pub apply_checks : Scope → ℕ → Operator → Term → Option Kind → List Check
apply_checks scope line operator term kind =
    reading_checks scope line term ++ result_checks operator line kind ++ divisor_checks operator line term ++ asks 402 line (suits_result scope operator term kind) ∷ []

-- LD takes any kind, LDN a BOOL
abbrev pub load_checks : Scope → ℕ → Bool → Term → List Check
load_checks scope line true term = reading_checks scope line term ++ asks 402 line (is_bool (term_kind scope term)) ∷ []
load_checks scope line false term = reading_checks scope line term ++ asks 402 line (is_some (term_kind scope term)) ∷ []

-- ST stores any kind at a target of that kind; STN, S and R a BOOL
abbrev pub suits_target : Scope → Term → Option Kind → Bool
suits_target scope target None = false
suits_target scope target (Some kind) = is_of (is_kind kind) (term_kind scope target)

abbrev pub store_checks : Scope → ℕ → StoreKind → Term → Option Kind → List Check
store_checks scope line StoreResult target kind = writing_checks scope line target ++ has_result line kind ∷ asks 402 line (suits_target scope target kind) ∷ []
store_checks scope line Negation target kind = writing_checks scope line target ++ truth_checks line kind ++ asks 402 line (suits_target scope target kind) ∷ []
store_checks scope line Set target kind = writing_checks scope line target ++ truth_checks line kind ++ asks 402 line (suits_target scope target kind) ∷ []
store_checks scope line Reset target kind = writing_checks scope line target ++ truth_checks line kind ++ asks 402 line (suits_target scope target kind) ∷ []

-- what a call's list may name: an input that is assigned, an output that is given out
abbrev pub passes : Direction → Section → Bool
passes Into section = is_input section
passes OutOf section = is_result section

abbrev pub formal_named : Direction → List Member → Name → Option Member
formal_named direction members name = elim (member_named members name) [ Some m ↦ (if passes direction m.section then Some m else None) | None ↦ None ]

abbrev pub input_named : List Member → Name → Option Member
input_named members name = formal_named Into members name

abbrev pub output_named : List Member → Name → Option Member
output_named members name = formal_named OutOf members name

-- 402: the value is of the input's kind, or a literal 0 or 1 for a BOOL
abbrev pub suits_input : Scope → Option Member → Term → Bool
suits_input scope None term = false
suits_input scope (Some m) term = elim (elementary_kind m.type) [ Some kind ↦ is_of (is_kind kind) (term_kind scope term) || (is_kind KindBool kind && is_bit_literal term) | None ↦ false ]

-- 402: the target is of the output's kind
abbrev pub suits_output : Scope → Option Member → Term → Bool
suits_output scope None target = false
suits_output scope (Some m) target = elim (elementary_kind m.type) [ Some kind ↦ is_of (is_kind kind) (term_kind scope target) | None ↦ false ]

-- a value that may be read, or a target that may be written, of the kind of what it goes to or comes from
abbrev pub actual_checks : Scope → ℕ → Direction → Option Member → Term → List Check
actual_checks scope line Into formal term = reading_checks scope line term ++ asks 402 line (suits_input scope formal term) ∷ []
actual_checks scope line OutOf formal term = writing_checks scope line term ++ asks 402 line (suits_output scope formal term) ∷ []

-- one of a call's list: 409 there is such an input or output, 410 it is not named before, and then what goes in or where it
-- goes
abbrev pub argument_checks : Scope → ℕ → List Member → Position Assignment → List Check
argument_checks scope line members position =
    asks 409 line (is_some (formal_named position.item.direction members position.item.formal)) ∷ asks 410 line (not (list_any (λ a. same_name a.formal position.item.formal) position.before))
    ∷ actual_checks scope line position.item.direction (formal_named position.item.direction members position.item.formal) position.item.actual

-- an instance is what is called
abbrev pub is_instance : Option VariableType → Bool
is_instance None = true
is_instance (Some (Elementary kind)) = false
is_instance (Some (Standard block)) = true
is_instance (Some (Block name)) = true

abbrev pub members_called : Scope → Option VariableType → List Member
members_called scope None = []
members_called scope (Some type) = members_of scope.before type

abbrev pub call_checks : Scope → ℕ → Condition → Name → List Assignment → Option Kind → List Check
call_checks scope line condition instance arguments kind =
    asks 401 line (is_some (type_of scope instance)) ∷ asks 402 line (is_instance (type_of scope instance)) ∷ condition_checks condition line kind
    ++ flat_map (argument_checks scope line (members_called scope (type_of scope instance))) (positions_of arguments)

-- 406: a later line of the body has the label
abbrev pub is_ahead : List BodyLine → Name → Bool
is_ahead following label = list_any (λ line. carries (label_of line) label) following

abbrev pub step_rules : Scope → ℕ → Step → List BodyLine → Option Kind → List Check
step_rules scope line (Load negated operand) following kind = load_checks scope line negated operand
step_rules scope line (Store storing target) following kind = store_checks scope line storing target kind
step_rules scope line (Apply operator operand) following kind = apply_checks scope line operator operand kind
step_rules scope line Negate following kind = truth_checks line kind
step_rules scope line (Jump condition label) following kind = asks 406 line (is_ahead following label) ∷ condition_checks condition line kind
step_rules scope line (Call condition instance arguments) following kind = call_checks scope line condition instance arguments kind
step_rules scope line (Return condition) following kind = condition_checks condition line kind

-- an opening line: DIV and MOD may not be deferred, and the operand may be no instance
abbrev pub opening_operand_checks : Scope → ℕ → Option Term → List Check
opening_operand_checks scope line None = []
opening_operand_checks scope line (Some operand) = reading_checks scope line operand

abbrev pub is_no_instance : Scope → Option Term → Bool
is_no_instance scope None = true
is_no_instance scope (Some operand) = is_some (term_kind scope operand)

abbrev pub opening_checks : Scope → ℕ → Operator → Option Term → Option Kind → List Check
opening_checks scope line operator operand kind =
    opening_operand_checks scope line operand ++ result_checks operator line kind ++ asks 408 line (not (divides operator)) ∷ asks 402 line (is_no_instance scope operand) ∷ []

-- a `)`: there is an inner result, of the outer one's kind
abbrev pub closing_checks : ℕ → Option Kind → Option Kind → List Check
closing_checks close outer inner = has_result close inner ∷ asks 402 close (same_result outer inner) ∷ []

-- the lines inside a parenthesis, from a kind
abbrev pub inside_rules : Scope → Lines → Option Kind → List Check
inside_rules scope End kind = []
inside_rules scope (Alone label rest) kind = inside_rules scope rest kind
inside_rules scope (Plain label line step rest) kind = step_rules scope line step [] kind ++ inside_rules scope rest (kind_after_step scope step kind)
inside_rules scope (Nested label line operator operand inside close rest) kind =
    opening_checks scope line operator operand kind ++ inside_rules scope inside (opening_kind scope operand) ++ closing_checks close kind (kind_following scope inside (opening_kind scope operand))
    ++ inside_rules scope rest (kind_after_operator operator kind)

-- 407: a label is given once
abbrev pub label_rules : List BodyLine → Option Word → List Check
label_rules before None = []
label_rules before (Some word) = asks 407 word.line (not (list_any (λ line. carries (label_of line) word.name) before)) ∷ []

abbrev pub line_rules : Scope → BodyLine → List BodyLine → Option Kind → List Check
line_rules scope (AloneLine label) following kind = []
line_rules scope (PlainLine label line step) following kind = step_rules scope line step following kind
line_rules scope (NestedLine label line operator operand inside close) following kind =
    opening_checks scope line operator operand kind ++ inside_rules scope inside (opening_kind scope operand) ++ closing_checks close kind (kind_following scope inside (opening_kind scope operand))

-- a line with those before and after it: its label, and then its instruction
abbrev pub rules_at_position : Scope → Position BodyLine → List Check
rules_at_position scope position = label_rules position.before (label_of position.item) ++ line_rules scope position.item position.following (kind_at scope position.before position.item)

abbrev pub body_rules : Scope → List Check
body_rules scope = flat_map (rules_at_position scope) (positions_of (lines_of scope.unit.body))

-- what the pass on bodies asks of a text
abbrev pub text_body_checks : Text → List Check
text_body_checks text = flat_map (λ position. body_rules (record { before = position.before; unit = position.item })) (positions_of text)
