-- Units that give no output out have the paths that they had.
use Rattle.wc_model.proofs.Common.{◌≡◌, ℕ, true, false, List, [], ◌∷◌, Option, Some, refl, sym, ap, subst, ◌∙◌, inl, inr, ⊎_elim, ◌↔◌}
use Rattle.wc_model.specs.Definitions.{Refusal, positions_after, same_name, FirstTooLong, IsCostFault, Name, GoesOn, IsBlockPath, IsBodyPath, IsCallPath, IsLongest, IsNestedPath, IsPath, IsPathFrom, Joined, MayAct, MayPass, MayStep, Onward, Way, arriving_way, Scope, type_of, At, Item}
use Rattle.wc_model.specs.Language.Tree.{Alone, Apply, Assignment, Call, End, Jump, Lines, Load, Negate, Nested, Plain, ProgramUnit, Return, Step, Store, Text, outputs_of}
use Rattle.wc_laws_language.proofs.Unchanged.{same_trace}
use Rattle.wc_laws_language.specs.{IsCallPathBefore, GivesNothingOut, StepGivesNothingOut, UnitsGiveNothingOut, FirstTooLongBefore, IsBlockPathBefore, IsCostFaultBefore, IsLongestBefore, IsPathBefore, IsPathFromBefore, MayStepBefore}

-- the paths of blocks
abbrev pub BlockPaths : Type 1
BlockPaths = Name → List Item → Type 0

-- of a call
same_call_path : (block_path : BlockPaths) (scope : Scope) (line : ℕ) (instance : Name) (arguments : List Assignment) (items : List Item) → outputs_of arguments ≡ []
    → IsCallPath block_path scope line instance arguments items ≡ IsCallPathBefore block_path scope line instance arguments items
same_call_path block_path scope line instance arguments items e =
    λ i. (body : List Item) × IsBodyPath block_path (type_of scope instance) body × (items ≡ same_trace line arguments body e i)

-- of a step
pub same_may_step : (block_path : BlockPaths) (scope : Scope) (line : ℕ) (step : Step) → StepGivesNothingOut step → MayStep block_path scope line step ≡ MayStepBefore block_path scope line step
same_may_step block_path scope line (Load negated operand) g = refl
same_may_step block_path scope line (Store storing target) g = refl
same_may_step block_path scope line (Apply operator operand) g = refl
same_may_step block_path scope line Negate g = refl
same_may_step block_path scope line (Jump condition label) g = refl
same_may_step block_path scope line (Call condition instance arguments) g =
    λ i items next. MayAct condition (same_call_path block_path scope line instance arguments items g i × (next ≡ Onward)) (GoesOn (At line ∷ []) Onward items next)
same_may_step block_path scope line (Return condition) g = refl

-- through the lines left
pub same_lines : (block_path : BlockPaths) (scope : Scope) (lines : Lines) → GivesNothingOut lines → IsPathFrom block_path scope lines ≡ IsPathFromBefore block_path scope lines
same_lines block_path scope End g = refl
same_lines block_path scope (Alone word rest) g = λ i way path. same_lines block_path scope rest g i (arriving_way (Some word) way) path
same_lines block_path scope (Plain word line step rest) g =
    λ i way path. Joined (MayPass (same_may_step block_path scope line step g.0 i) (arriving_way word way)) (same_lines block_path scope rest g.1 i) path
same_lines block_path scope (Nested word line operator operand inside close rest) g =
    λ i way path. Joined (MayPass (IsNestedPath line close (same_lines block_path scope inside g.0 i Onward)) (arriving_way word way)) (same_lines block_path scope rest g.1 i) path

-- of a body, with blocks that have the same
same_body_paths : (blocks others : BlockPaths) (scope : Scope) → GivesNothingOut scope.unit.body → blocks ≡ others
    → IsPathFrom blocks scope scope.unit.body Onward ≡ IsPathFromBefore others scope scope.unit.body Onward
same_body_paths blocks others scope g e =
    ap (λ (b : BlockPaths). IsPathFrom b scope scope.unit.body Onward) e
    ∙ ap (λ (f : Way → List Item → Type 0). f Onward) (same_lines others scope scope.unit.body g)

-- of the block of a unit, or of those before it
one_block_paths : (unit : ProgramUnit) (before : List ProgramUnit) → GivesNothingOut unit.body → IsBlockPath before ≡ IsBlockPathBefore before → IsBlockPath (unit ∷ before) ≡ IsBlockPathBefore (unit ∷ before)
one_block_paths unit before g rest =
    let body = same_body_paths (IsBlockPath before) (IsBlockPathBefore before) (record { before = before; unit = unit }) g rest in
    λ i name path. elim (same_name unit.name.name name) as (λ b. Type 0) [ true ↦ body i path | false ↦ rest i name path ]

-- of the blocks of a text
pub same_block_paths : (units : List ProgramUnit) → UnitsGiveNothingOut units → IsBlockPath units ≡ IsBlockPathBefore units
same_block_paths [] g = λ i name path. ⊥
same_block_paths (unit ∷ before) g = one_block_paths unit before g.0 (same_block_paths before g.1)

-- of a unit
same_unit_paths : (scope : Scope) → UnitsGiveNothingOut (scope.unit ∷ scope.before) → IsPath scope ≡ IsPathBefore scope
same_unit_paths scope g = same_body_paths (IsBlockPath scope.before) (IsBlockPathBefore scope.before) scope g.0 (same_block_paths scope.before g.1)

pub path_for_path : (scope : Scope) → UnitsGiveNothingOut (scope.unit ∷ scope.before) → (path : List Item) → IsPath scope path ↔ IsPathBefore scope path
path_for_path scope g path =
    let same = same_unit_paths scope g in (
      λ h. subst (λ (is : List Item → Type 0). is path) same h,
      λ h. subst (λ (is : List Item → Type 0). is path) (sym same) h,
    )

-- a longest one
pub same_longest : (scope : Scope) → UnitsGiveNothingOut (scope.unit ∷ scope.before) → (n : ℕ) → IsLongest scope n ↔ IsLongestBefore scope n
same_longest scope g n = (
  λ h. record {
    path = h.path;
    is_path = (path_for_path scope g h.path).0 h.is_path;
    reached = h.reached;
    greatest = λ other is. h.greatest other ((path_for_path scope g other).1 is);
  },
  λ h. record {
    path = h.path;
    is_path = (path_for_path scope g h.path).1 h.is_path;
    reached = h.reached;
    greatest = λ other is. h.greatest other ((path_for_path scope g other).0 is);
  },
)

-- the first unit with a path that is too long
same_positions_too_long : (before units : List ProgramUnit) → UnitsGiveNothingOut before → UnitsGiveNothingOut units → (refusal : Option Refusal)
    → FirstTooLong (positions_after before units) refusal ↔ FirstTooLongBefore (positions_after before units) refusal
same_positions_too_long before [] b g refusal = (λ h. h, λ h. h)
same_positions_too_long before (unit ∷ units) b g refusal =
    let same = path_for_path (record { before = before; unit = unit }) (g.0, b) in
    let others = same_positions_too_long (unit ∷ before) units (g.0, b) g.1 refusal in (
      λ h. ⊎_elim (λ l. inl ((l.0.0, (same l.0.0).0 l.0.1, l.0.2), l.1)) (λ r. inr (λ path is. r.0 path ((same path).1 is), others.0 r.1)) h,
      λ h. ⊎_elim (λ l. inl ((l.0.0, (same l.0.0).1 l.0.1, l.0.2), l.1)) (λ r. inr (λ path is. r.0 path ((same path).0 is), others.1 r.1)) h,
    )

pub same_too_long : (text : Text) → UnitsGiveNothingOut text → (refusal : Option Refusal) → IsCostFault text refusal ↔ IsCostFaultBefore text refusal
same_too_long text g refusal = same_positions_too_long [] text tt g refusal
