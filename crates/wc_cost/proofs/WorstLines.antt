-- The bounds that are kept are those of the units, and the lines are those of the worst path of a unit of a text that is loaded.
use Rattle.std.proofs.Common.{◌≡◌, ℕ, ◌<◌, List, length, Option, Some, None, slice_get, sym, ap, subst, ◌∙◌, refl, arith, zero, suc, ◌≤◌, [], ◌∷◌, map}
use Rattle.wc_model.proofs.Common.{IfSome, get_or_from_slice_get, slice_get-map, slice_get_within}
use Rattle.std.specs.Option.{option_map}
use Rattle.wc_text_flat.proofs.UnitPaths.{flat_code_has_the_worst_path}
use Rattle.wc_text_flat.specs.{AreLowered, AreBoundsBelow, sources_of, worst_of}
use Rattle.wc_model.specs.Language.Checks.{Position, positions_of, positions_after}
use Rattle.wc_model.specs.Definitions.{scope_of_position, scopes_of, IsLongest, Scope, ProgramUnit, Text, IsBoundOf, IsBoundAt, IsRead, AreWorstLines}
use Rattle.wc_model.specs.declared.code.Code.{Code}
use Rattle.wc_cost.specs.LoadedInside.{codes_of, bounds_of, AreLines}
use Rattle.wc_cost.specs.LoadedTexts.{AreWorstAt}
use Rattle.wc_cost.specs.declared.units.LoweredUnit.{LoweredUnit}
use Rattle.wc_text_flat.proofs.Shortness.{flat_code_is_short}
use Rattle.wc_laws_language.proofs.Places.{Some-same}

-- the bound of a unit of a text that was read
pub bound_holds : (bytes : List ℕ) (text : Text) → IsRead bytes text → (units : List LoweredUnit) → AreLowered text (codes_of units) → AreBoundsBelow text (codes_of units) (bounds_of units) (length units) → (k : ℕ) (unit : LoweredUnit) → slice_get units k ≡ Some unit → IsBoundAt text k unit.bound
bound_holds bytes text read units lowered below k unit there = step (slice_get (positions_of text) k) refl
  where
    codes : List (List Code)
    codes = codes_of units

    code : slice_get codes k ≡ Some unit.code.items
    code = slice_get-map (λ (u : LoweredUnit). u.code.items) units k ∙ ap (λ (o : Option LoweredUnit). option_map (λ u. u.code.items) o) there

    bound : slice_get (bounds_of units) k ≡ Some unit.bound
    bound = slice_get-map (λ (u : LoweredUnit). u.bound) units k ∙ ap (λ (o : Option LoweredUnit). option_map (λ u. u.bound) o) there

    within : k < length units
    within = slice_get_within units k unit there

    earlier : AreBoundsBelow text codes (bounds_of units) k
    earlier = λ j l scope c. below j (omega (arith, l, within)) scope c

    longest : (position : Position ProgramUnit) → slice_get (scopes_of text) k ≡ Some (scope_of_position position) → IsBoundOf position unit.bound
    longest position e =
        let scope : Scope = scope_of_position position in
        let worst = flat_code_has_the_worst_path bytes text read codes lowered (bounds_of units) k earlier scope unit.code.items e code in
        subst (λ n. IsLongest scope n) (sym (below k within scope unit.code.items e code) ∙ get_or_from_slice_get (bounds_of units) k unit.bound 0 bound) worst.0

    step : (o : Option (Position ProgramUnit)) → slice_get (positions_of text) k ≡ o → IfSome o (λ position. IsBoundOf position unit.bound)
    step None e = tt
    step (Some position) e = longest position (slice_get-map scope_of_position (positions_of text) k ∙ ap (λ (o : Option (Position ProgramUnit)). option_map scope_of_position o) e)

-- the lines of a unit's body
lines_at : (before units : List ProgramUnit) (laids : List LoweredUnit) → AreLines units laids → (k : ℕ) (lowered : LoweredUnit) (scope : Scope) → slice_get laids k ≡ Some lowered → slice_get (map scope_of_position (positions_after before units)) k ≡ Some scope → lowered.lines.items ≡ sources_of scope.unit.body
lines_at before [] [] h k lowered scope e f = cc
lines_at before [] (first ∷ laids) h k lowered scope e f = absurd h
lines_at before (unit ∷ units) [] h k lowered scope e f = absurd h
lines_at before (unit ∷ units) (first ∷ laids) h zero lowered scope e f =
    let mine : Scope = record { before = before; unit = unit } in
    ap (λ (l : LoweredUnit). l.lines.items) (Some-same first lowered e) ∙ h.0 ∙ ap (λ (s : Scope). sources_of s.unit.body) (sym (Some-same mine scope f))
lines_at before (unit ∷ units) (first ∷ laids) h (suc k) lowered scope e f = lines_at (unit ∷ before) units laids h.1 k lowered scope e f

code_at : (units : List LoweredUnit) (k : ℕ) (unit : LoweredUnit) → slice_get units k ≡ Some unit → slice_get (codes_of units) k ≡ Some unit.code.items
code_at units k unit there = slice_get-map (λ (u : LoweredUnit). u.code.items) units k ∙ ap (λ (o : Option LoweredUnit). option_map (λ u. u.code.items) o) there

-- no unit's code is too long
pub code_short : (bytes : List ℕ) (text : Text) → IsRead bytes text → (units : List LoweredUnit) → AreLowered text (codes_of units) → (k : ℕ) (unit : LoweredUnit) → slice_get units k ≡ Some unit → length unit.code.items ≤ 65536
code_short bytes text read units lowered k unit there = flat_code_is_short bytes text read (codes_of units) lowered k unit.code.items (code_at units k unit there)

pub worst_holds : (bytes : List ℕ) (text : Text) → IsRead bytes text → (units : List LoweredUnit) → AreLowered text (codes_of units) → AreBoundsBelow text (codes_of units) (bounds_of units) (length units) → AreLines text units → (k : ℕ) (unit : LoweredUnit) → slice_get units k ≡ Some unit →
    (given : List ℕ) → given ≡ (worst_of (bounds_of units) unit.code.items unit.lines.items).lines → AreWorstAt text k given
worst_holds bytes text read units lowered below lines k unit there given e = step (slice_get (scopes_of text) k) refl
  where
    within : k < length units
    within = slice_get_within units k unit there

    earlier : AreBoundsBelow text (codes_of units) (bounds_of units) k
    earlier = λ j l scope c. below j (omega (arith, l, within)) scope c

    worst : (scope : Scope) → slice_get (scopes_of text) k ≡ Some scope → AreWorstLines scope given
    worst scope f =
        let own = lines_at [] text units lines k unit scope there f in
        let both = flat_code_has_the_worst_path bytes text read (codes_of units) lowered (bounds_of units) k earlier scope unit.code.items f (code_at units k unit there) in
        subst (AreWorstLines scope) (sym (e ∙ ap (λ (s : List ℕ). (worst_of (bounds_of units) unit.code.items s).lines) own)) both.1

    step : (o : Option Scope) → slice_get (scopes_of text) k ≡ o → IfSome o (λ scope. AreWorstLines scope given)
    step None f = tt
    step (Some scope) f = worst scope f

-- the lines of a unit's body, by its number
pub unit_lines : (units : List ProgramUnit) (laids : List LoweredUnit) → AreLines units laids → (k : ℕ) (lowered : LoweredUnit) → slice_get laids k ≡ Some lowered → slice_get (map (λ u. sources_of u.body) units) k ≡ Some lowered.lines.items
unit_lines [] [] h k lowered e = cc
unit_lines [] (first ∷ laids) h k lowered e = absurd h
unit_lines (unit ∷ units) [] h k lowered e = absurd h
unit_lines (unit ∷ units) (first ∷ laids) h zero lowered e = ap Some (sym (ap (λ (l : LoweredUnit). l.lines.items) (Some-same first lowered e) ∙ h.0))
unit_lines (unit ∷ units) (first ∷ laids) h (suc k) lowered e = unit_lines units laids h.1 k lowered e
