-- Units among those of a text: what precedes one, and the block to which a name leads.
use Rattle.wc_model.proofs.Common.{◌≡◌, ℕ, suc, ◌+◌, ◌<◌, Bool, true, false, List, [], ◌∷◌, map, length, Option, Some, None, refl, sym, ap, subst, ◌∙◌, arith, if◌then◌else◌, slice_get, length-map}
use Rattle.wc_cost.proofs.TextUnits.{unit_at}
use Rattle.wc_laws_language.proofs.Places.{Some-same}
use Rattle.wc_model.specs.Definitions.{block_named, is_block, same_name, Name, name_of, Scope, ProgramUnit, Text, text_view, unit_view}
use Rattle.wc_model.specs.declared.source.Source.{Source}
use Rattle.wc_model.specs.declared.source.Unit.{Unit as CodeUnit}
use Rattle.wc_names.specs.{IsUnit, AreTables, onto}
use Rattle.wc_names.specs.declared.kept.Tables.{Tables}
use Rattle.wc_view_changes.specs.Shown.{Shown, declared_of, seen, shown_all, shown_from, shown_in}
use Rattle.wc_view_changes.specs.Sides.{IsAt}

pub map_onto : {X Y : Type 0} (f : X → Y) (xs ys : List X) → map f (onto xs ys) ≡ onto (map f xs) (map f ys)
map_onto f [] ys = refl
map_onto f (x ∷ xs) ys = map_onto f xs (x ∷ ys)

-- a unit of the code's tree is a unit of the text
seen_unit : (source : Source) (k : ℕ) (before : List CodeUnit) (u : CodeUnit) → IsAt source k before u → IsUnit (text_view source) k (seen before u)
seen_unit source k before u at =
    unit_at (text_view source) (map unit_view before) (unit_view u) (map unit_view at.following) k
    (sym (map_onto unit_view before (u ∷ at.following)) ∙ ap (map unit_view) at.whole) (length-map before unit_view ∙ sym at.counted)

-- so what is said of a unit of the text with these tables is said of it
pub in_unit : {P : Scope → Type 0} (source : Source) (k : ℕ) (before : List CodeUnit) (u : CodeUnit) (tables given : Tables) → tables ≡ given → AreTables given (text_view source) → IsAt source k before u
    → ((text : Text) (scope : Scope) → AreTables tables text → IsUnit text k scope → P scope) → P (seen before u)
in_unit source k before u tables given same occur at says =
    says (text_view source) (seen before u) (subst (λ t. AreTables t (text_view source)) (sym same) occur) (seen_unit source k before u at)

-- a block to which a name leads, in the code's tree, and the variables of its instances; it precedes the unit that has its instance
pub record CodeBlock (source : Source) (k : ℕ) (before : List CodeUnit) (name : Name) (found : ProgramUnit × List ProgramUnit) : Type 0 where
  pub unit : CodeUnit
  pub earlier : List CodeUnit
  pub is : (unit_view unit, map unit_view earlier) ≡ found
  pub shown : shown_in before name ≡ shown_from earlier unit
  pub at : IsAt source (length found.1) earlier unit
  pub below : length found.1 < k

pub code_block : (source : Source) (k : ℕ) (before : List CodeUnit) (u : CodeUnit) (name : Name) (found : ProgramUnit × List ProgramUnit) → IsAt source k before u → block_named (map unit_view before) name ≡ Some found
    → CodeBlock source k before name found
code_block source k [] u name found at e = cc
code_block source k (unit ∷ before) u name found at e =
    by (code_block source (length before) before unit name found next) (same_name (name_of unit.name.text.now) name) refl (is_block (unit_view unit)) e
  where
    next : IsAt source (length before) before unit
    next = record { following = u ∷ at.following; whole = at.whole; counted = refl }

    counted : length (map unit_view before) ≡ length before
    counted = length-map before unit_view

    shows : (same : Bool) → same_name (name_of unit.name.text.now) name ≡ same
        → shown_in (unit ∷ before) name ≡ (elim same as (λ x. List Shown) [ true ↦ shown_all (shown_in before) (seen before unit) (declared_of unit) | false ↦ shown_in before name ])
    shows same s = ap (λ t. elim t as (λ x. List Shown) [ true ↦ shown_all (shown_in before) (seen before unit) (declared_of unit) | false ↦ shown_in before name ]) s

    by : (block_named (map unit_view before) name ≡ Some found → CodeBlock source (length before) before name found) → (same : Bool) → same_name (name_of unit.name.text.now) name ≡ same → (block : Bool)
        → (elim same as (λ x. Option (ProgramUnit × List ProgramUnit)) [ true ↦ (if block then Some (unit_view unit, map unit_view before) else None) | false ↦ block_named (map unit_view before) name ]) ≡ Some found
        → CodeBlock source k (unit ∷ before) name found
    by rest true s true e = subst (CodeBlock source k (unit ∷ before) name) (sym (Some-same (unit_view unit, map unit_view before) found e)) (record {
      unit = unit;
      earlier = before;
      is = refl;
      shown = shows true s;
      at = subst (λ n. IsAt source n before unit) (sym counted) next;
      below = omega (arith, at.counted, counted);
    })
    by rest true s false e = cc
    by rest false s block e =
        let r = rest e in
        let below : length found.1 < k = omega (arith, r.below, at.counted) in
        record { unit = r.unit; earlier = r.earlier; is = r.is; shown = shows false s ∙ r.shown; at = r.at; below = below }

-- it is the one of that number
on_from : {X : Type 0} (xs ys : List X) (k : ℕ) → slice_get (onto xs ys) (length xs + k) ≡ slice_get ys k
on_from [] ys k = ap (slice_get ys) (let a : 0 + k ≡ k = omega arith in a)
on_from (x ∷ xs) ys k = ap (slice_get (onto xs (x ∷ ys))) (let a : length (x ∷ xs) + k ≡ length xs + suc k = omega arith in a) ∙ on_from xs (x ∷ ys) (suc k)

pub at_there : (source : Source) (k : ℕ) (before : List CodeUnit) (u : CodeUnit) → IsAt source k before u → slice_get source.units.items k ≡ Some u
at_there source k before u at =
    ap (λ units. slice_get units k) (sym at.whole) ∙ ap (slice_get (onto before (u ∷ at.following))) (let c : k ≡ length before = at.counted in let a : k ≡ length before + 0 = omega (arith, c) in a) ∙ on_from before (u ∷ at.following) 0
