-- What texts meant before outputs could be given out, which paths they had and by which rules their bodies were checked, kept
-- to be compared with: the step of a call is the one of `Before`; each other step, and all around it, is as it is. (No rule of
-- the language.)
use Rattle.std.specs.Prelude.{◌≡◌, ℕ, ◌<◌, ◌≤◌, ◌⊎◌, true, false, List, [], ◌∷◌, ◌++◌, length, reverse, Option, Some, None, is_some, flat_map}
use Rattle.wc_model.specs.Definitions.{closing_checks, condition_checks, is_instance, label_rules, members_called, opening_checks, step_rules, same_name, MOST_STEPS, AloneLine, BodyLine, NestedLine, PlainLine, kind_after_operator, kind_after_step, kind_at, kind_following, label_of, lines_of, opening_kind, Calls, Context, Effect, Fails, Goes, Mode, Outcome, Returned, Running, Seeking, Stuck, acts, arriving, at_end, chosen, continued, nested_effect, step_effect, Name, EndsThere, GoesOn, IsNestedPath, Joined, MayAct, MayPass, MayStep, Onward, Way, arriving_way, NoSuchPlace, first_of_reversed, with_image, Scope, type_of, Store, At, Item}
use Rattle.wc_model.specs.Language.Checks.{Check, Refusal, Position, asks, first_broken, positions_of}
use Rattle.wc_model.specs.Language.Tree.{Alone, Apply, Assignment, Call, End, Jump, Lines, Load, Negate, Nested, Plain, ProgramUnit, Return, Step, Store as StoreStep, Text}
use Rattle.wc_model.specs.declared.image.Image.{Image}
use Rattle.wc_model.specs.declared.kind.Kind.{Kind}
use Rattle.wc_model.specs.declared.operator.Condition.{Condition}
use Rattle.wc_model.specs.declared.value.Value.{Value}
use Rattle.wc_laws_language.specs.CallLaws.{IsCallPathBefore, argument_checks_before, called_before}

-- the meaning: a call, a step, a line, the lines left, a body, a block that is called, a scan
abbrev pub call_effect_before : Context → ℕ → Name → List Assignment → Option Value → Store → Effect
call_effect_before here line instance arguments result store = elim (type_of here.scope instance) [ Some type ↦ called_before here type line instance arguments result store | None ↦ Fails NoSuchPlace ]

abbrev pub step_effect_before : Context → ℕ → Step → Option Value → Store → Effect
step_effect_before here line (Load negated operand) result store = step_effect here line (Load negated operand) result store
step_effect_before here line (StoreStep storing target) result store = step_effect here line (StoreStep storing target) result store
step_effect_before here line (Apply operator operand) result store = step_effect here line (Apply operator operand) result store
step_effect_before here line Negate result store = step_effect here line Negate result store
step_effect_before here line (Jump condition label) result store = step_effect here line (Jump condition label) result store
step_effect_before here line (Call condition instance arguments) result store = chosen (acts condition result) (call_effect_before here line instance arguments result store) (Goes (Running result) store (At line ∷ []))
step_effect_before here line (Return condition) result store = step_effect here line (Return condition) result store

abbrev pub line_effect_before : Context → ℕ → Step → Mode → Store → Effect
line_effect_before here line step (Running result) store = step_effect_before here line step result store
line_effect_before here line step (Seeking label result) store = Goes (Seeking label result) store []
line_effect_before here line step (Returned result) store = Goes (Returned result) store []

abbrev pub means_before : Context → Lines → Mode → Store → Outcome
means_before here End mode store = at_end mode store
means_before here (Alone word rest) mode store = means_before here rest (arriving (Some word) mode) store
means_before here (Plain word line step rest) mode store = continued (line_effect_before here line step (arriving word mode) store) (means_before here rest)
means_before here (Nested word line operator operand inside close rest) mode store = continued (nested_effect here line operator operand close (means_before here inside) (arriving word mode) store) (means_before here rest)

abbrev pub body_means_before : Scope → List Name → ℕ → Calls → Store → Outcome
body_means_before scope instance now calls store = means_before (record { scope = scope; instance = instance; now = now; calls = calls }) scope.unit.body (Running None) store

abbrev pub block_called_before : List ProgramUnit → ℕ → Calls
block_called_before [] now name instance store = Stuck NoSuchPlace
block_called_before (unit ∷ before) now name instance store = elim (same_name unit.name.name name) [ true ↦ body_means_before (record { before = before; unit = unit }) instance now (block_called_before before now) store | false ↦ block_called_before before now name instance store ]

abbrev pub program_means_before : List ProgramUnit → ProgramUnit → ℕ → Store → Outcome
program_means_before before program now store = body_means_before (record { before = before; unit = program }) [] now (block_called_before before now) store

abbrev pub scan_of_before : Text → Store → Image → ℕ → Outcome
scan_of_before text store image now = first_of_reversed (reverse text) (λ before program. program_means_before before program now (with_image image store))

-- the paths: of a step, through the lines left, of a block, of a unit; and a longest one
abbrev pub MayStepBefore : (Name → List Item → Type 0) → Scope → ℕ → Step → List Item → Way → Type 0
MayStepBefore block_path scope line (Load negated operand) items next = MayStep block_path scope line (Load negated operand) items next
MayStepBefore block_path scope line (StoreStep storing target) items next = MayStep block_path scope line (StoreStep storing target) items next
MayStepBefore block_path scope line (Apply operator operand) items next = MayStep block_path scope line (Apply operator operand) items next
MayStepBefore block_path scope line Negate items next = MayStep block_path scope line Negate items next
MayStepBefore block_path scope line (Jump condition label) items next = MayStep block_path scope line (Jump condition label) items next
MayStepBefore block_path scope line (Call condition instance arguments) items next =
    MayAct condition (IsCallPathBefore block_path scope line instance arguments items × (next ≡ Onward)) (GoesOn (At line ∷ []) Onward items next)
MayStepBefore block_path scope line (Return condition) items next = MayStep block_path scope line (Return condition) items next

abbrev pub IsPathFromBefore : (Name → List Item → Type 0) → Scope → Lines → Way → List Item → Type 0
IsPathFromBefore block_path scope End way path = EndsThere way path
IsPathFromBefore block_path scope (Alone word rest) way path = IsPathFromBefore block_path scope rest (arriving_way (Some word) way) path
IsPathFromBefore block_path scope (Plain word line step rest) way path =
    Joined (MayPass (MayStepBefore block_path scope line step) (arriving_way word way)) (IsPathFromBefore block_path scope rest) path
IsPathFromBefore block_path scope (Nested word line operator operand inside close rest) way path =
    Joined (MayPass (IsNestedPath line close (IsPathFromBefore block_path scope inside Onward)) (arriving_way word way)) (IsPathFromBefore block_path scope rest) path

abbrev pub IsBlockPathBefore : List ProgramUnit → Name → List Item → Type 0
IsBlockPathBefore [] name path = ⊥
IsBlockPathBefore (unit ∷ before) name path = elim (same_name unit.name.name name) [ true ↦ IsPathFromBefore (IsBlockPathBefore before) (record { before = before; unit = unit }) unit.body Onward path | false ↦ IsBlockPathBefore before name path ]

abbrev pub IsPathBefore : Scope → List Item → Type 0
IsPathBefore scope path = IsPathFromBefore (IsBlockPathBefore scope.before) scope scope.unit.body Onward path

pub record IsLongestBefore (scope : Scope) (n : ℕ) : Type 0 where
  pub path : List Item
  pub is_path : IsPathBefore scope path
  pub reached : length path ≡ n
  pub greatest : (other : List Item) → IsPathBefore scope other → length other ≤ n

-- the last pass, 411: the first unit with a path of more steps than a unit may take
abbrev pub IsTooLongBefore : Position ProgramUnit → Type 0
IsTooLongBefore position = (path : List Item) × IsPathBefore (record { before = position.before; unit = position.item }) path × (MOST_STEPS < length path)

abbrev pub IsShortEnoughBefore : Position ProgramUnit → Type 0
IsShortEnoughBefore position = (path : List Item) → IsPathBefore (record { before = position.before; unit = position.item }) path → length path ≤ MOST_STEPS

abbrev pub FirstTooLongBefore : List (Position ProgramUnit) → Option Refusal → Type 0
FirstTooLongBefore [] refusal = refusal ≡ None
FirstTooLongBefore (position ∷ positions) refusal =
    (IsTooLongBefore position × (refusal ≡ Some (record { number = 411; line = position.item.line }))) ⊎ (IsShortEnoughBefore position × FirstTooLongBefore positions refusal)

abbrev pub IsCostFaultBefore : Text → Option Refusal → Type 0
IsCostFaultBefore text refusal = FirstTooLongBefore (positions_of text) refusal

-- the rules on bodies: of a call, a step, the lines inside a parenthesis, a line, a body, a text; and the first that is broken
abbrev pub call_checks_before : Scope → ℕ → Condition → Name → List Assignment → Option Kind → List Check
call_checks_before scope line condition instance arguments kind =
    asks 401 line (is_some (type_of scope instance)) ∷ asks 402 line (is_instance (type_of scope instance)) ∷ condition_checks condition line kind
    ++ flat_map (argument_checks_before scope line (members_called scope (type_of scope instance))) (positions_of arguments)

abbrev pub step_rules_before : Scope → ℕ → Step → List BodyLine → Option Kind → List Check
step_rules_before scope line (Load negated operand) following kind = step_rules scope line (Load negated operand) following kind
step_rules_before scope line (StoreStep storing target) following kind = step_rules scope line (StoreStep storing target) following kind
step_rules_before scope line (Apply operator operand) following kind = step_rules scope line (Apply operator operand) following kind
step_rules_before scope line Negate following kind = step_rules scope line Negate following kind
step_rules_before scope line (Jump condition label) following kind = step_rules scope line (Jump condition label) following kind
step_rules_before scope line (Call condition instance arguments) following kind = call_checks_before scope line condition instance arguments kind
step_rules_before scope line (Return condition) following kind = step_rules scope line (Return condition) following kind

abbrev pub inside_rules_before : Scope → Lines → Option Kind → List Check
inside_rules_before scope End kind = []
inside_rules_before scope (Alone label rest) kind = inside_rules_before scope rest kind
inside_rules_before scope (Plain label line step rest) kind = step_rules_before scope line step [] kind ++ inside_rules_before scope rest (kind_after_step scope step kind)
inside_rules_before scope (Nested label line operator operand inside close rest) kind =
    opening_checks scope line operator operand kind ++ inside_rules_before scope inside (opening_kind scope operand) ++ closing_checks close kind (kind_following scope inside (opening_kind scope operand))
    ++ inside_rules_before scope rest (kind_after_operator operator kind)

abbrev pub line_rules_before : Scope → BodyLine → List BodyLine → Option Kind → List Check
line_rules_before scope (AloneLine label) following kind = []
line_rules_before scope (PlainLine label line step) following kind = step_rules_before scope line step following kind
line_rules_before scope (NestedLine label line operator operand inside close) following kind =
    opening_checks scope line operator operand kind ++ inside_rules_before scope inside (opening_kind scope operand) ++ closing_checks close kind (kind_following scope inside (opening_kind scope operand))

abbrev pub rules_at_position_before : Scope → Position BodyLine → List Check
rules_at_position_before scope position = label_rules position.before (label_of position.item) ++ line_rules_before scope position.item position.following (kind_at scope position.before position.item)

abbrev pub body_rules_before : Scope → List Check
body_rules_before scope = flat_map (rules_at_position_before scope) (positions_of (lines_of scope.unit.body))

abbrev pub text_body_checks_before : Text → List Check
text_body_checks_before text = flat_map (λ position. body_rules_before (record { before = position.before; unit = position.item })) (positions_of text)

abbrev pub body_fault_before : Text → Option Refusal
body_fault_before text = first_broken (text_body_checks_before text)
