-- The block to which a name leads from a unit of a text is a unit of the text.
use Rattle.wc_model.proofs.Common.{◌≡◌, ℕ, zero, suc, Bool, true, false, List, [], ◌∷◌, map, length, Option, Some, None, sym, subst, refl, if◌then◌else◌, slice_get}
use Rattle.wc_cost.proofs.TextUnits.{unit_at}
use Rattle.wc_laws_language.proofs.Places.{Some-same}
use Rattle.wc_model.specs.Definitions.{positions_after, block_named, is_block, same_name, scope_of_position, Name, Scope, ProgramUnit, Text}
use Rattle.wc_names.specs.{IsUnit, onto}

-- what follows a unit and those before it in a text
split : (before units : List ProgramUnit) (k : ℕ) (scope : Scope) → slice_get (map scope_of_position (positions_after before units)) k ≡ Some scope
    → (following : List ProgramUnit) × (onto scope.before (scope.unit ∷ following) ≡ onto before units)
split before [] k scope e = cc
split before (unit ∷ units) zero scope e =
    subst (λ (s : Scope). (following : List ProgramUnit) × (onto s.before (s.unit ∷ following) ≡ onto before (unit ∷ units)))
    (sym (Some-same (record { before = before; unit = unit }) scope e)) (units, refl)
split before (unit ∷ units) (suc k) scope e = split (unit ∷ before) units k scope e

-- the unit before a unit of a text is one too
one_before : (text : Text) (k : ℕ) (earlier unit : ProgramUnit) (before : List ProgramUnit) → IsUnit text k (record { before = earlier ∷ before; unit = unit })
    → IsUnit text (length before) (record { before = before; unit = earlier })
one_before text k earlier unit before is =
    let s = split [] text k (record { before = earlier ∷ before; unit = unit }) is in unit_at text before earlier (unit ∷ s.0) (length before) s.1 refl

pub block_unit : (text : Text) (k : ℕ) (scope : Scope) (name : Name) (u : ProgramUnit) (us : List ProgramUnit) → IsUnit text k scope → block_named scope.before name ≡ Some (u, us) → IsUnit text (length us) (record { before = us; unit = u })
block_unit text k scope name u us is e = among scope.before scope.unit k is e
  where
    among : (before : List ProgramUnit) (unit : ProgramUnit) (k : ℕ) → IsUnit text k (record { before = before; unit = unit }) → block_named before name ≡ Some (u, us)
        → IsUnit text (length us) (record { before = us; unit = u })
    among [] unit k is e = cc
    among (earlier ∷ before) unit k is e =
        let there = one_before text k earlier unit before is in by there (among before earlier (length before) there) (same_name earlier.name.name name) (is_block earlier) e
      where
        by : IsUnit text (length before) (record { before = before; unit = earlier })
            → (block_named before name ≡ Some (u, us) → IsUnit text (length us) (record { before = us; unit = u })) → (same block : Bool)
            → (elim same as (λ x. Option (ProgramUnit × List ProgramUnit)) [ true ↦ (if block then Some (earlier, before) else None) | false ↦ block_named before name ]) ≡ Some (u, us)
            → IsUnit text (length us) (record { before = us; unit = u })
        by there rest true true e = subst (λ (p : ProgramUnit × List ProgramUnit). IsUnit text (length p.1) (record { before = p.1; unit = p.0 })) (sym (Some-same (earlier, before) (u, us) e)) there
        by there rest true false e = cc
        by there rest false block e = rest e
