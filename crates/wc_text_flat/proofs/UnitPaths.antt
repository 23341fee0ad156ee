-- The bounds of flat codes are the lengths of their units' longest paths, and their lines are those of the worst paths.
use Rattle.wc_model.proofs.Common.{◌≡◌, ℕ, zero, suc, ◌+◌, ◌<◌, Bool, true, false, List, [], ◌∷◌, map, length, Option, Some, None, refl, sym, ap, subst, ◌∙◌, arith, if◌then◌else◌, slice_get, slice_index}
use Rattle.wc_text_flat.proofs.FlatPaths.{MeasuredAs, BlocksMeasured, lines_measured}
use Rattle.wc_text_flat.specs.{sources_of, Worst, worst_of, IsLowered, AreLoweredAfter, FlatCodeHasTheWorstPath}
use Rattle.wc_laws_language.proofs.Longest.{Found, best_block, best_path, computed_is_worst, computed_lines, longest_of_worst}
use Rattle.wc_model.specs.Definitions.{positions_after, same_name, is_block, block_named, scope_of_position, Name, Onward, IsLongest, Scope, Item, ProgramUnit, AreWorstLines}
use Rattle.wc_model.specs.declared.code.Code.{Code}
use Rattle.wc_laws_language.proofs.Places.{Some-same}
use Rattle.wc_laws_language.proofs.Spelled.{spelled_text_nests}
use Rattle.wc_laws_language.specs.SoundnessLaws.{UnitsNestSimply, NestsSimply}

-- the worst path of a unit whose blocks are known
pub unit_measured : (bounds : List ℕ) (before : List ProgramUnit) (unit : ProgramUnit) → BlocksMeasured bounds before (best_block before) → NestsSimply unit.body → (code : List Code) → IsLowered (record { before = before; unit = unit }) unit.body code → MeasuredAs (best_path (record { before = before; unit = unit })) (worst_of bounds code (sources_of unit.body))
unit_measured bounds before unit known simple code lowered =
    lines_measured bounds (best_block before) (record { before = before; unit = unit }) known unit.body simple code lowered Onward (worst_of bounds code (sources_of unit.body)) refl

-- what is measured is a longest path, and a worst one
pub measured_is_worst : (scope : Scope) (found : Found) (way : Worst) → best_path scope ≡ found → MeasuredAs found way → IsLongest scope way.steps × AreWorstLines scope way.lines
measured_is_worst scope None way e m = absurd m
measured_is_worst scope (Some path) way e m =
    (subst (IsLongest scope) (sym m.0) (longest_of_worst scope path (computed_is_worst scope path e)), subst (AreWorstLines scope) (sym m.1) (computed_lines scope path e))

-- one more block
pub measured_path : (found : Found) (way : Worst) → MeasuredAs found way → (path : List Item) × (found ≡ Some path) × (way.steps ≡ length path)
measured_path None way m = absurd m
measured_path (Some path) way m = (path, refl, m.0)

pub blocks_step : (bounds : List ℕ) (u : ProgramUnit) (before : List ProgramUnit) → BlocksMeasured bounds before (best_block before) → (way : Worst) → MeasuredAs (best_path (record { before = before; unit = u })) way → slice_index bounds (length before) ≡ way.steps → BlocksMeasured bounds (u ∷ before) (best_block (u ∷ before))
blocks_step bounds u before known way m bound = λ name unit earlier e. step name unit earlier (same_name u.name.name name) e
  where
    mine : (path : List Item) × (best_path (record { before = before; unit = u }) ≡ Some path) × (way.steps ≡ length path)
    mine = measured_path (best_path (record { before = before; unit = u })) way m

    block : (unit : ProgramUnit) (earlier : List ProgramUnit) (b : Bool) → (let this : ProgramUnit × List ProgramUnit = (u, before) in let that : ProgramUnit × List ProgramUnit = (unit, earlier) in (if b then Some this else None) ≡ Some that) → (path : List Item) × (best_path (record { before = before; unit = u }) ≡ Some path) × (slice_index bounds (length earlier) ≡ length path)
    block unit earlier true f =
        let this : ProgramUnit × List ProgramUnit = (u, before) in
        let that : ProgramUnit × List ProgramUnit = (unit, earlier) in
        (mine.0, mine.1, ap (λ (p : ProgramUnit × List ProgramUnit). slice_index bounds (length p.1)) (Some-same this that f) ∙ (bound ∙ mine.2))
    block unit earlier false f = cc

    step : (name : Name) (unit : ProgramUnit) (earlier : List ProgramUnit) (b : Bool) → (let this : ProgramUnit × List ProgramUnit = (u, before) in let that : ProgramUnit × List ProgramUnit = (unit, earlier) in (elim b as (λ x. Option (ProgramUnit × List ProgramUnit)) [ true ↦ (if is_block u then Some this else None) | false ↦ block_named before name ]) ≡ Some that) → (path : List Item) × ((elim b as (λ x. Found) [ true ↦ best_path (record { before = before; unit = u }) | false ↦ best_block before name ]) ≡ Some path) × (slice_index bounds (length earlier) ≡ length path)
    step name unit earlier true f = block unit earlier (is_block u) f
    step name unit earlier false f = known name unit earlier f

-- the units after those before
abbrev pub scopes_after : List ProgramUnit → List ProgramUnit → List Scope
scopes_after before units = map scope_of_position (positions_after before units)

-- the bounds of the first n units after those before
abbrev pub AreBoundsAfter : List ProgramUnit → List ProgramUnit → List (List Code) → List ℕ → ℕ → Type 0
AreBoundsAfter before units codes bounds n = (k : ℕ) → k < n → (scope : Scope) (code : List Code) → slice_get (scopes_after before units) k ≡ Some scope → slice_get codes k ≡ Some code → slice_index bounds (length before + k) ≡ (worst_of bounds code (sources_of scope.unit.body)).steps

pub units_measured : (bounds : List ℕ) (before units : List ProgramUnit) (codes : List (List Code)) → BlocksMeasured bounds before (best_block before) → UnitsNestSimply units → AreLoweredAfter before units codes → (n : ℕ) → AreBoundsAfter before units codes bounds n → (scope : Scope) (code : List Code) → slice_get (scopes_after before units) n ≡ Some scope → slice_get codes n ≡ Some code → IsLongest scope (worst_of bounds code (sources_of scope.unit.body)).steps × AreWorstLines scope (worst_of bounds code (sources_of scope.unit.body)).lines
units_measured bounds before [] [] known simple lowered n are scope code s c = cc
units_measured bounds before [] (first ∷ codes) known simple lowered n are scope code s c = absurd lowered
units_measured bounds before (unit ∷ units) [] known simple lowered n are scope code s c = absurd lowered
units_measured bounds before (unit ∷ units) (first ∷ codes) known simple lowered zero are scope code s c =
    let mine : Scope = record { before = before; unit = unit } in
    let is : mine ≡ scope = sym (Some-same mine scope s) in
    let coded : first ≡ code = sym (Some-same first code c) in
    subst (λ (x : Scope). IsLongest x (worst_of bounds code (sources_of x.unit.body)).steps × AreWorstLines x (worst_of bounds code (sources_of x.unit.body)).lines) is
    (subst (λ (l : List Code). IsLongest mine (worst_of bounds l (sources_of unit.body)).steps × AreWorstLines mine (worst_of bounds l (sources_of unit.body)).lines) coded
    (measured_is_worst mine (best_path mine) (worst_of bounds first (sources_of unit.body)) refl (unit_measured bounds before unit known simple.0 first lowered.0)))
units_measured bounds before (unit ∷ units) (first ∷ codes) known simple lowered (suc n) are scope code s c =
    let mine : Scope = record { before = before; unit = unit } in
    let bound : slice_index bounds (length before) ≡ (worst_of bounds first (sources_of unit.body)).steps = ap (slice_index bounds) (let a : length before ≡ length before + 0 = omega arith in a) ∙ are 0 (omega arith) mine first refl refl in
    let more : BlocksMeasured bounds (unit ∷ before) (best_block (unit ∷ before)) = blocks_step bounds unit before known (worst_of bounds first (sources_of unit.body)) (unit_measured bounds before unit known simple.0 first lowered.0) bound in
    units_measured bounds (unit ∷ before) units codes more simple.1 lowered.1 n
    (λ k l x y f g. ap (slice_index bounds) (let a : length (unit ∷ before) + k ≡ length before + suc k = omega arith in a) ∙ are (suc k) (omega (arith, l)) x y f g) scope code s c

pub flat_code_has_the_worst_path : FlatCodeHasTheWorstPath
flat_code_has_the_worst_path bytes text read codes lowered bounds n are scope code s c =
    units_measured bounds [] text codes (λ name unit earlier e. cc) (spelled_text_nests _ text read.spelled) lowered n
    (λ k l x y f g. ap (slice_index bounds) (let a : 0 + k ≡ k = omega arith in a) ∙ are k l x y f g) scope code s c
