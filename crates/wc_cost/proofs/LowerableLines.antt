-- What the rules on declarations and bodies let pass can be lowered.
use Rattle.std.proofs.Common.{◌≡◌, ℕ, ◌+◌, ◌<◌, ◌≤◌, Bool, true, false, ◌||◌, ◌&&◌, List, [], ◌∷◌, ◌++◌, length, Option, Some, None, is_some, option_map, refl, sym, ap, subst, ◌∙◌, inl, inr, ⊎_elim, arith}
use Rattle.wc_model.proofs.Common.{if◌then◌else◌, and_parts, flat_map, list_any}
use Rattle.wc_text_flat.specs.Lowered.{flat_length, lines_ahead, step_length}
use Rattle.wc_model.specs.Definitions.{actual_checks, argument_checks, call_checks, closing_checks, condition_checks, formal_named, input_named, output_named, inside_rules, is_ahead, is_bit_literal, is_bool, is_instance, is_no_instance, is_of, is_readable, is_writable, label_rules, line_rules, members_called, opening_checks, opening_operand_checks, reading_checks, result_checks, divisor_checks, rules_at_position, step_rules, store_checks, suits_input, suits_output, suits_result, suits_target, truth_checks, writing_checks, body_name_checks, label_checks, operand_checks, step_checks, term_checks, Member, VariableType, Elementary, Standard, Block, block_named, is_block, member_named, members_of, same_name, BodyLine, AloneLine, PlainLine, NestedLine, elementary_kind, is_kind, kind_after_operator, kind_after_step, kind_at, kind_following, label_of, lines_of, opening_kind, term_kind, carries, takes_truth, Name, Scope, Entity, entity_of, is_input, type_of}
use Rattle.wc_model.specs.Language.Checks.{Position, asks, positions_after, positions_of}
use Rattle.wc_model.specs.Language.Tree.{Term, Constant, Address, Variable as NameOf, Field, Assignment, ProgramUnit, Step, Load, Store, Apply, Negate, Jump, Call, Return, Lines, End, Alone, Plain, Nested}
use Rattle.wc_model.specs.declared.kind.Kind.{Kind}
use Rattle.wc_model.specs.declared.kind.Kind.TheVariants.{Bool as KindBool}
use Rattle.wc_model.specs.declared.operator.Direction.{Direction}
use Rattle.wc_model.specs.declared.operator.Direction.TheVariants.{Into, OutOf}
use Rattle.wc_model.specs.declared.operator.Operator.{Operator}
use Rattle.wc_model.specs.declared.operator.StoreKind.{StoreKind}
use Rattle.wc_model.specs.declared.operator.StoreKind.TheVariants.{Result as StoreResult, Negation, Set, Reset}
use Rattle.wc_model.specs.declared.value.Value.TheVariants.{Bool as Truth, Dint, Time}
use Rattle.wc_laws_language.proofs.CallSteps.{block_known, field_found, input_found, output_found, type_of-found}
use Rattle.wc_laws_language.proofs.Steps.{clean_first, clean_second, or-true, some_of}
use Rattle.wc_laws_language.proofs.Entities.{writable_is_stored}
use Rattle.wc_laws_language.proofs.Bodies.{nested_parts}
use Rattle.wc_laws_language.proofs.Programs.{three_parts}
use Rattle.wc_laws_language.specs.SoundnessLaws.{Clean}
use Rattle.wc_cost.proofs.PlacesThere.{HasKind, readable, writable}
use Rattle.wc_cost.specs.Lowerable.{ArePassable, IsCallable, IsInsideLowerable, IsKnownBlock, IsLowerable, IsLoadable, IsNear, IsOpenable, IsPassable, IsReadable, IsStepLowerable, IsWritable, Nowhere}

-- a kind that passes a test is one
of_some : (test : Kind → Bool) (o : Option Kind) → is_of test o ≡ true → is_some o ≡ true
of_some test None h = cc
of_some test (Some kind) h = refl

-- LDN
loadable : (scope : Scope) (term : Term) → is_bool (term_kind scope term) ≡ true → IsLoadable true term
loadable scope (Constant (Truth true)) h = inr refl
loadable scope (Constant (Truth false)) h = inl refl
loadable scope (Constant (Dint n)) h = cc
loadable scope (Constant (Time t)) h = cc
loadable scope (Address word) h = tt
loadable scope (NameOf name) h = tt
loadable scope (Field instance field) h = tt

loadable_plain : (term : Term) → IsLoadable false term
loadable_plain (Constant value) = tt
loadable_plain other = tt

-- a store
store_writable : (scope : Scope) (line : ℕ) (storing : StoreKind) (target : Term) (kind : Option Kind) → Clean (term_checks scope.unit target) → Clean (store_checks scope line storing target kind) → IsWritable scope target
store_writable scope line storing target kind named c = by storing c
  where
    suited : (k : Option Kind) → suits_target scope target k ≡ true → is_some (term_kind scope target) ≡ true
    suited None h = cc
    suited (Some k) h = of_some (is_kind k) (term_kind scope target) h

    written : is_some (entity_of scope target) ≡ true → is_writable (entity_of scope target) ≡ true → suits_target scope target kind ≡ true → IsWritable scope target
    written s w t = writable scope target (writable_is_stored scope target s w) named w (suited kind t)

    by : (x : StoreKind) → Clean (store_checks scope line x target kind) → IsWritable scope target
    by StoreResult h = written h.0 h.1.0 h.1.1.1.0
    by Negation h = let l = clean_second (writing_checks scope line target ++ truth_checks line kind) (asks 402 line (suits_target scope target kind) ∷ []) h in written h.0 h.1.0 l.0
    by Set h = let l = clean_second (writing_checks scope line target ++ truth_checks line kind) (asks 402 line (suits_target scope target kind) ∷ []) h in written h.0 h.1.0 l.0
    by Reset h = let l = clean_second (writing_checks scope line target ++ truth_checks line kind) (asks 402 line (suits_target scope target kind) ∷ []) h in written h.0 h.1.0 l.0

-- an operator's operand
operand_kind : (scope : Scope) (operator : Operator) (term : Term) (kind : Option Kind) → suits_result scope operator term kind ≡ true → HasKind scope term
operand_kind scope operator term None h = cc
operand_kind scope operator term (Some kind) h =
    ⊎_elim (λ a. inl (of_some (is_kind kind) (term_kind scope term) a)) (λ b. inr (literal (is_kind KindBool kind) (takes_truth operator) (is_bit_literal term) b)) (or-true (is_of (is_kind kind) (term_kind scope term)) (is_kind KindBool kind && takes_truth operator && is_bit_literal term) h)
  where
    literal : (a b c : Bool) → (a && b && c) ≡ true → c ≡ true
    literal true true c g = g
    literal true false c g = cc
    literal false true c g = cc
    literal false false c g = cc

apply_readable : (scope : Scope) (line : ℕ) (operator : Operator) (term : Term) (kind : Option Kind) → Clean (term_checks scope.unit term) → Clean (Rattle.wc_model.specs.Language.BodyRules.apply_checks scope line operator term kind) → IsReadable scope term
apply_readable scope line operator term kind named c =
    let last = clean_second (reading_checks scope line term ++ result_checks operator line kind ++ divisor_checks operator line term) (asks 402 line (suits_result scope operator term kind) ∷ []) c in
    readable scope term named c.1.0 (operand_kind scope operator term kind last.0)

-- an opening line
openable : (scope : Scope) (line : ℕ) (operator : Operator) (operand : Option Term) (kind : Option Kind) → Clean (operand_checks scope.unit operand) → Clean (opening_checks scope line operator operand kind) → IsOpenable scope operand
openable scope line operator None kind named c = tt
openable scope line operator (Some term) kind named c =
    let last = clean_second (opening_operand_checks scope line (Some term) ++ result_checks operator line kind) (asks 408 line (Rattle.std.specs.Prelude.not (Rattle.wc_model.specs.Language.BodyRules.divides operator)) ∷ asks 402 line (is_no_instance scope (Some term)) ∷ []) c in
    readable scope term named c.1.0 (inl last.1.0)

-- an argument's value, and its input
input_kinds : (scope : Scope) (o : Option Member) (term : Term) → suits_input scope o term ≡ true → HasKind scope term
input_kinds scope None term h = cc
input_kinds scope (Some m) term h = by (elementary_kind m.type) h
  where
    by : (k : Option Kind) → (elim k as (λ x. Bool) [ Some kind ↦ is_of (is_kind kind) (term_kind scope term) || (is_kind KindBool kind && is_bit_literal term) | None ↦ false ]) ≡ true → HasKind scope term
    by None g = cc
    by (Some kind) g = ⊎_elim (λ a. inl (of_some (is_kind kind) (term_kind scope term) a)) (λ b. inr ((and_parts (is_kind KindBool kind) (is_bit_literal term) b).1)) (or-true (is_of (is_kind kind) (term_kind scope term)) (is_kind KindBool kind && is_bit_literal term) g)

member_kind : (scope : Scope) (m : Member) (term : Term) → suits_input scope (Some m) term ≡ true → is_some (elementary_kind m.type) ≡ true
member_kind scope m term h = by (elementary_kind m.type) h
  where
    by : (k : Option Kind) → (elim k as (λ x. Bool) [ Some kind ↦ is_of (is_kind kind) (term_kind scope term) || (is_kind KindBool kind && is_bit_literal term) | None ↦ false ]) ≡ true → is_some k ≡ true
    by None g = cc
    by (Some kind) g = refl

input_section : (members : List Member) (name : Name) (m : Member) → input_named members name ≡ Some m → is_input m.section ≡ true
input_section members name m e = by (member_named members name) e
  where
    of_section : (n : Member) (b : Bool) → is_input n.section ≡ b → (if b then Some n else None) ≡ Some m → is_input m.section ≡ true
    of_section n true f g = let same : n ≡ m = cc in subst (λ (x : Member). is_input x.section ≡ true) same f
    of_section n false f g = cc

    by : (o : Option Member) → (elim o [ Some n ↦ (if is_input n.section then Some n else None) | None ↦ None ]) ≡ Some m → is_input m.section ≡ true
    by None g = cc
    by (Some n) g = of_section n (is_input n.section) refl g

input_writable : (scope : Scope) (instance field : Name) (type : VariableType) (m : Member) (value : Term) → type_of scope instance ≡ Some type → input_named (members_of scope.before type) field ≡ Some m → suits_input scope (Some m) value ≡ true → IsWritable scope (Field instance field)
input_writable scope instance field type m value e f s =
    let there = field_found scope instance field type m e (input_found (members_of scope.before type) field m f).0 in
    writable scope (Field instance field) refl tt (ap is_writable there ∙ input_section (members_of scope.before type) field m f)
    (ap (λ (o : Option Entity). is_some (elim o as (λ x. Option Kind) [ Some x ↦ elementary_kind x.type | None ↦ None ])) there ∙ member_kind scope m value s)

-- an output, and its target
output_kinds : (scope : Scope) (m : Member) (target : Term) → suits_output scope (Some m) target ≡ true → is_some (elementary_kind m.type) ≡ true × (is_some (term_kind scope target) ≡ true)
output_kinds scope m target h = by (elementary_kind m.type) h
  where
    by : (k : Option Kind) → (elim k as (λ x. Bool) [ Some kind ↦ is_of (is_kind kind) (term_kind scope target) | None ↦ false ]) ≡ true → (is_some k ≡ true) × (is_some (term_kind scope target) ≡ true)
    by None g = cc
    by (Some kind) g = (refl, of_some (is_kind kind) (term_kind scope target) g)

output_readable : (scope : Scope) (instance field : Name) (type : VariableType) (m : Member) → type_of scope instance ≡ Some type → output_named (members_of scope.before type) field ≡ Some m → is_some (elementary_kind m.type) ≡ true → IsReadable scope (Field instance field)
output_readable scope instance field type m e f k =
    let both = output_found (members_of scope.before type) field m f in
    let there = field_found scope instance field type m e both.0 in
    readable scope (Field instance field) tt (ap is_readable there ∙ both.1)
    (inl (ap (λ (o : Option Entity). is_some (elim o as (λ x. Option Kind) [ Some x ↦ elementary_kind x.type | None ↦ None ])) there ∙ k))

passable : (scope : Scope) (line : ℕ) (instance : Name) (type : VariableType) → type_of scope instance ≡ Some type → (before arguments : List Assignment) → Clean (flat_map (λ (a : Assignment). term_checks scope.unit a.actual) arguments) → Clean (flat_map (argument_checks scope line (members_of scope.before type)) (positions_after before arguments)) →
    ArePassable scope instance arguments
passable scope line instance type e before [] named c = tt
passable scope line instance type e before (argument ∷ arguments) named c =
    let members = members_of scope.before type in
    let position : Position Assignment = record { before = before; item = argument; following = arguments } in
    let rest = flat_map (argument_checks scope line members) (positions_after (argument ∷ before) arguments) in
    let own = clean_first (argument_checks scope line members position) rest c in
    let others = flat_map (λ (a : Assignment). term_checks scope.unit a.actual) arguments in (
      by argument.direction own.0 own.1.1 (clean_first (term_checks scope.unit argument.actual) others named),
      passable scope line instance type e (argument ∷ before) arguments (clean_second (term_checks scope.unit argument.actual) others named) (clean_second (argument_checks scope line members position) rest c),
    )
  where
    by : (d : Direction) → is_some (formal_named d (members_of scope.before type) argument.formal) ≡ true → Clean (actual_checks scope line d (formal_named d (members_of scope.before type) argument.formal) argument.actual) → Clean (term_checks scope.unit argument.actual) →
        IsPassable scope instance d argument.formal argument.actual
    by Into found own named =
        let m = some_of (input_named (members_of scope.before type) argument.formal) found in
        let suits = own.1.1.0 in (
          readable scope argument.actual named own.1.0 (input_kinds scope (input_named (members_of scope.before type) argument.formal) argument.actual suits),
          input_writable scope instance argument.formal type m.0 argument.actual e m.1 (subst (λ (o : Option Member). suits_input scope o argument.actual ≡ true) m.1 suits),
        )
    by OutOf found own named =
        let m = some_of (output_named (members_of scope.before type) argument.formal) found in
        let kinds = output_kinds scope m.0 argument.actual (subst (λ (o : Option Member). suits_output scope o argument.actual ≡ true) m.1 own.1.1.0) in (
          output_readable scope instance argument.formal type m.0 e m.1 kinds.0,
          writable scope argument.actual (writable_is_stored scope argument.actual own.0 own.1.0) named own.1.0 kinds.1,
        )

-- a block that is found comes before
block_shorter : (before : List ProgramUnit) (name : Name) (found : ProgramUnit × List ProgramUnit) → block_named before name ≡ Some found → length found.1 < length before
block_shorter [] name found e = cc
block_shorter (unit ∷ before) name found e = by (same_name unit.name.name name) e (block_shorter before name found)
  where
    here : (b : Bool) → (let this : ProgramUnit × List ProgramUnit = (unit, before) in (if b then Some this else None) ≡ Some found) → length found.1 < length (unit ∷ before)
    here true f = let same : length before ≡ length found.1 = ap (λ (o : Option (ProgramUnit × List ProgramUnit)). elim o as (λ x. ℕ) [ Some p ↦ length p.1 | None ↦ 0 ]) f in omega (arith, same)
    here false f = cc

    by : (b : Bool) → (let this : ProgramUnit × List ProgramUnit = (unit, before) in (elim b as (λ x. Option (ProgramUnit × List ProgramUnit)) [ true ↦ (if is_block unit then Some this else None) | false ↦ block_named before name ]) ≡ Some found) → (block_named before name ≡ Some found → length found.1 < length before) → length found.1 < length (unit ∷ before)
    by true f go = here (is_block unit) f
    by false f go = let l = go f in omega (arith, l)

callable : (scope : Scope) (instance : Name) (type : VariableType) → type_of scope instance ≡ Some type → length scope.before < 65536 → is_instance (Some type) ≡ true → IsCallable scope (Some type)
callable scope instance (Elementary kind) e few h = cc
callable scope instance (Standard block) e few h = tt
callable scope instance (Block name) e few h =
    let is = type_of-found scope instance (Block name) e in
    let known = block_known scope.before is.variable.type_name name is.typed in
    let l = block_shorter scope.before name known.0 known.1 in
    subst IsKnownBlock (sym known.1) (omega (arith, l, few))

-- a call
call_lowerable : (scope : Scope) (line : ℕ) (condition : Rattle.wc_model.specs.declared.operator.Condition.Condition) (instance : Name) (arguments : List Assignment) (kind : Option Kind) → length scope.before < 65536 → Clean (flat_map (λ (a : Assignment). term_checks scope.unit a.actual) arguments) → Clean (call_checks scope line condition instance arguments kind) →
    IsCallable scope (type_of scope instance) × ArePassable scope instance arguments
call_lowerable scope line condition instance arguments kind few named c =
    let type = some_of (type_of scope instance) c.0 in
    let following = flat_map (argument_checks scope line (members_called scope (type_of scope instance))) (positions_of arguments) in
    let checked = clean_second (condition_checks condition line kind) following c.1.1 in (
      subst (IsCallable scope) (sym type.1) (callable scope instance type.0 type.1 few (subst (λ t. is_instance t ≡ true) type.1 c.1.0)),
      passable scope line instance type.0 type.1 [] arguments named (subst (λ t. Clean (flat_map (argument_checks scope line (members_called scope t)) (positions_of arguments))) type.1 checked),
    )

-- a step
step_lowerable : (scope : Scope) (line : ℕ) (step : Step) (following : List BodyLine) (kind : Option Kind) (reached : Name → Type 0) → length scope.before < 65536 → step_length step ≤ 65536 → ((label : Name) → is_ahead following label ≡ true → reached label) → Clean (step_checks scope.unit step) →
    Clean (step_rules scope line step following kind) → IsStepLowerable scope reached step
step_lowerable scope line (Load true term) following kind reached few short go named c = (readable scope term named c.1.0 (inl (of_some (is_kind KindBool) (term_kind scope term) c.1.1.0)), loadable scope term c.1.1.0)
step_lowerable scope line (Load false term) following kind reached few short go named c = (readable scope term named c.1.0 (inl c.1.1.0), loadable_plain term)
step_lowerable scope line (Store storing target) following kind reached few short go named c = store_writable scope line storing target kind named c
step_lowerable scope line (Apply operator term) following kind reached few short go named c = apply_readable scope line operator term kind named c
step_lowerable scope line Negate following kind reached few short go named c = tt
step_lowerable scope line (Jump condition label) following kind reached few short go named c = go label c.0
step_lowerable scope line (Call condition instance arguments) following kind reached few short go named c =
    let both = call_lowerable scope line condition instance arguments kind few named c in
    (both.0, both.1, omega (arith, short))
step_lowerable scope line (Return condition) following kind reached few short go named c = tt

-- the lines inside a parenthesis
pub inside_lowerable : (scope : Scope) (lines : Lines) (kind : Option Kind) → length scope.before < 65536 → flat_length lines ≤ 65536 → Clean (body_name_checks scope.unit lines) → Clean (inside_rules scope lines kind) → IsInsideLowerable scope lines
inside_lowerable scope End kind few short named c = tt
inside_lowerable scope (Alone label rest) kind few short named c = inside_lowerable scope rest kind few short named.1 c
inside_lowerable scope (Plain label line step rest) kind few short named c =
    let names = three_parts (label_checks label) (step_checks scope.unit step) (body_name_checks scope.unit rest) named in
    let next = kind_after_step scope step kind in (
      step_lowerable scope line step [] kind Nowhere few (omega (arith, short)) (λ label h. cc) names.1 (clean_first (step_rules scope line step [] kind) (inside_rules scope rest next) c),
      inside_lowerable scope rest next few (omega (arith, short)) names.2 (clean_second (step_rules scope line step [] kind) (inside_rules scope rest next) c),
    )
inside_lowerable scope (Nested label line operator operand inside close rest) kind few short named c =
    let names = nested_parts (label_checks label) (operand_checks scope.unit operand) (body_name_checks scope.unit inside) (body_name_checks scope.unit rest) named in
    let inner = opening_kind scope operand in
    let parts = nested_parts (opening_checks scope line operator operand kind) (inside_rules scope inside inner) (closing_checks close kind (kind_following scope inside inner)) (inside_rules scope rest (kind_after_operator operator kind)) c in
    ((openable scope line operator operand kind names.1 parts.0, inside_lowerable scope inside inner few (omega (arith, short)) names.2 parts.1), inside_lowerable scope rest (kind_after_operator operator kind) few (omega (arith, short)) names.3 parts.3)

-- a label that a later line has is ahead
shifted : (n most : ℕ) (o : Option ℕ) → (skip : ℕ) × (o ≡ Some skip) × (skip ≤ most) → (skip : ℕ) × (option_map (λ k. n + k) o ≡ Some skip) × (skip ≤ n + most)
shifted n most o h = (n + h.0, ap (λ x. option_map (λ k. n + k) x) h.1, (let l = h.2 in omega (arith, l)))

by_carried : (b : Bool) (rest : Bool) (n most : ℕ) (o : Option ℕ) → (b || rest) ≡ true → (rest ≡ true → (skip : ℕ) × (o ≡ Some skip) × (skip ≤ most)) → (skip : ℕ) × ((if b then Some 0 else option_map (λ k. n + k) o) ≡ Some skip) × (skip ≤ n + most)
by_carried true rest n most o e go = (0, refl, omega arith)
by_carried false rest n most o e go = shifted n most o (go e)

found_ahead : (rest : Lines) (label : Name) → list_any (λ line. carries (label_of line) label) (lines_of rest) ≡ true → (skip : ℕ) × (lines_ahead rest label ≡ Some skip) × (skip ≤ flat_length rest)
found_ahead End label e = cc
found_ahead (Alone word rest) label e = by (same_name word.name label) e (found_ahead rest label)
  where
    by : (b : Bool) → (b || list_any (λ line. carries (label_of line) label) (lines_of rest)) ≡ true → (list_any (λ line. carries (label_of line) label) (lines_of rest) ≡ true → (skip : ℕ) × (lines_ahead rest label ≡ Some skip) × (skip ≤ flat_length rest)) → (skip : ℕ) × ((if b then Some 0 else lines_ahead rest label) ≡ Some skip) × (skip ≤ flat_length rest)
    by true f go = (0, refl, omega arith)
    by false f go = go f
found_ahead (Plain word line step rest) label e = by_carried (carries word label) (list_any (λ l. carries (label_of l) label) (lines_of rest)) (step_length step) (flat_length rest) (lines_ahead rest label) e (found_ahead rest label)
found_ahead (Nested word line operator operand inside close rest) label e = by_carried (carries word label) (list_any (λ l. carries (label_of l) label) (lines_of rest)) (2 + flat_length inside) (flat_length rest) (lines_ahead rest label) e (found_ahead rest label)

near : (rest : Lines) → flat_length rest ≤ 65536 → (label : Name) → is_ahead (lines_of rest) label ≡ true → IsNear rest label
near rest short label e = let f = found_ahead rest label e in (f.0, f.1, (let l = f.2 in omega (arith, l, short)))

-- the lines of a body
pub lines_lowerable : (scope : Scope) (lines : Lines) (before : List BodyLine) → length scope.before < 65536 → flat_length lines ≤ 65536 → Clean (body_name_checks scope.unit lines) → Clean (flat_map (rules_at_position scope) (positions_after before (lines_of lines))) → IsLowerable scope lines
lines_lowerable scope End before few short named c = tt
lines_lowerable scope (Alone word rest) before few short named c =
    let line : BodyLine = AloneLine word in
    let position : Position BodyLine = record { before = before; item = line; following = lines_of rest } in
    lines_lowerable scope rest (line ∷ before) few short named.1 (clean_second (rules_at_position scope position) (flat_map (rules_at_position scope) (positions_after (line ∷ before) (lines_of rest))) c)
lines_lowerable scope (Plain label number step rest) before few short named c =
    let line : BodyLine = PlainLine label number step in
    let position : Position BodyLine = record { before = before; item = line; following = lines_of rest } in
    let names = three_parts (label_checks label) (step_checks scope.unit step) (body_name_checks scope.unit rest) named in
    let others = flat_map (rules_at_position scope) (positions_after (line ∷ before) (lines_of rest)) in
    let kind = kind_at scope before line in
    let own = clean_second (label_rules before label) (step_rules scope number step (lines_of rest) kind) (clean_first (rules_at_position scope position) others c) in
    let less : flat_length rest ≤ 65536 = omega (arith, short) in
    (step_lowerable scope number step (lines_of rest) kind (IsNear rest) few (omega (arith, short)) (near rest less) names.1 own, lines_lowerable scope rest (line ∷ before) few less names.2 (clean_second (rules_at_position scope position) others c))
lines_lowerable scope (Nested label number operator operand inside close rest) before few short named c =
    let line : BodyLine = NestedLine label number operator operand inside close in
    let position : Position BodyLine = record { before = before; item = line; following = lines_of rest } in
    let names = nested_parts (label_checks label) (operand_checks scope.unit operand) (body_name_checks scope.unit inside) (body_name_checks scope.unit rest) named in
    let others = flat_map (rules_at_position scope) (positions_after (line ∷ before) (lines_of rest)) in
    let kind = kind_at scope before line in
    let inner = opening_kind scope operand in
    let own = clean_second (label_rules before label) (line_rules scope line (lines_of rest) kind) (clean_first (rules_at_position scope position) others c) in
    let parts = three_parts (opening_checks scope number operator operand kind) (inside_rules scope inside inner) (closing_checks close kind (kind_following scope inside inner)) own in
    ((openable scope number operator operand kind names.1 parts.0, inside_lowerable scope inside inner few (omega (arith, short)) names.2 parts.1), lines_lowerable scope rest (line ∷ before) few (omega (arith, short)) names.3 (clean_second (rules_at_position scope position) others c))
