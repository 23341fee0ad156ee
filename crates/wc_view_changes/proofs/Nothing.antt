-- A unit whose instances have no place has no variable to report.
use Rattle.std.proofs.Common.{◌≡◌, ◌+◌, Bool, true, false, List, [], ◌∷◌, ◌++◌, map, length, Option, Some, None, refl, sym, ap, ◌∙◌, arith, find, subst, length-append}
use Rattle.wc_model.proofs.Common.{if◌then◌else◌, length-map, flat_map}
use Rattle.wc_laws_language.proofs.Places.{Some-same}
use Rattle.wc_model.specs.Definitions.{Variable, VariableType, Elementary, Standard, Block, is_block, same_name, type_named, variable_named, variables_of, frame_of, Name, name_of, Scope, Content, Path, below, block_places, places_declared, program_frame, unit_places, variable_places, unit_view}
use Rattle.wc_model.specs.declared.block.StandardBlock.TheVariants.{RTrig}
use Rattle.wc_model.specs.declared.source.Initial.{Initial}
use Rattle.wc_model.specs.declared.source.Unit.{Unit as CodeUnit}
use Rattle.wc_view_changes.specs.Shown.{Declared, Shown, declared_of, inside, seen, shown_all, shown_by, shown_from, shown_in}

-- the variable of a name has no place, if all have none
found_none : (own : Variable → List (List Name × Content)) (p : Variable → Bool) (vs : List Variable) (v : Variable) → length (flat_map (λ w. below w.name (own w)) vs) ≡ 0 → find p vs ≡ Some v → length (own v) ≡ 0
found_none own p [] v none e = cc
found_none own p (w ∷ vs) v none e = by (p w) e (found_none own p vs v)
  where
    parts : length (below w.name (own w)) + length (flat_map (λ x. below x.name (own x)) vs) ≡ 0
    parts = sym (length-append (below w.name (own w)) (flat_map (λ x. below x.name (own x)) vs)) ∙ none

    first : length (own w) ≡ 0
    first = let counted : length (below w.name (own w)) ≡ length (own w) = length-map (own w) (λ q. (w.name ∷ q.0, q.1)) in omega (arith, parts, counted)

    by : (b : Bool) → (if b then Some w else find p vs) ≡ Some v → (length (flat_map (λ x. below x.name (own x)) vs) ≡ 0 → find p vs ≡ Some v → length (own v) ≡ 0) → length (own v) ≡ 0
    by true e rest = subst (λ (x : Variable). length (own x) ≡ 0) (sym (Some-same w v e)) first
    by false e rest = rest (omega (arith, parts)) e

-- a type with no place shows nothing
module _ (places : Name → List (List Name × Content)) (of_block : Name → List Shown) (h : (name : Name) → length (places name) ≡ 0 → of_block name ≡ []) where
  type_none : (d : Declared) (type : Option VariableType) (initial : Option Initial) → length (variable_places places type initial) ≡ 0 → shown_by of_block d type ≡ []
  type_none d None initial e = refl
  type_none d (Some (Elementary kind)) initial e = cc
  type_none d (Some (Standard RTrig)) initial e = cc
  type_none d (Some (Standard other)) initial e = cc
  type_none d (Some (Block name)) initial e = ap (map (inside d.name)) (h name e)

  -- so does a unit
  unit_none : (scope : Scope) → length (places_declared places scope.before scope.unit) ≡ 0 → (ds : List Declared) → shown_all of_block scope ds ≡ []
  unit_none scope none [] = refl
  unit_none scope none (d ∷ ds) = ap (λ x. x ++ shown_all of_block scope ds) (by (variable_named scope.unit (name_of d.name)) refl) ∙ unit_none scope none ds
    where
      by : (o : Option Variable) → variable_named scope.unit (name_of d.name) ≡ o → shown_by of_block d (elim o as (λ x. Option VariableType) [ Some v ↦ type_named scope.before v.type_name | None ↦ None ]) ≡ []
      by None e = refl
      by (Some v) e = type_none d (type_named scope.before v.type_name) v.initial
          (found_none (λ w. variable_places places (type_named scope.before w.type_name) w.initial) (λ w. same_name w.name (name_of d.name)) (variables_of scope.unit) v none e)

-- and an instance of a block by its name
block_none : (before : List CodeUnit) (name : Name) → length (block_places (map unit_view before) name) ≡ 0 → shown_in before name ≡ []
block_none [] name e = refl
block_none (unit ∷ before) name e = by (same_name (name_of unit.name.text.now) name) (block_none before) e
  where
    by : (same : Bool) → ((other : Name) → length (block_places (map unit_view before) other) ≡ 0 → shown_in before other ≡ []) →
        length (elim same as (λ x. List (List Name × Content)) [ true ↦ places_declared (block_places (map unit_view before)) (map unit_view before) (unit_view unit) | false ↦ block_places (map unit_view before) name ]) ≡ 0 →
        (elim same as (λ x. List Shown) [ true ↦ shown_all (shown_in before) (seen before unit) (declared_of unit) | false ↦ shown_in before name ]) ≡ []
    by true h e = unit_none (block_places (map unit_view before)) (shown_in before) h (seen before unit) e (declared_of unit)
    by false h e = h name e

-- if a frame has no place
pub nothing_shown : (before : List CodeUnit) (unit : CodeUnit) → length (frame_of (seen before unit)) ≡ 0 → shown_from before unit ≡ []
nothing_shown before unit e = by (is_block (unit_view unit)) e
  where
    by : (b : Bool) → length (if b then map (λ p. (Path p.0, p.1)) (unit_places (map unit_view before) (unit_view unit)) else program_frame (map unit_view before) (unit_view unit)) ≡ 0 → shown_from before unit ≡ []
    by true e = unit_none (block_places (map unit_view before)) (shown_in before) (block_none before) (seen before unit) (sym (length-map (unit_places (map unit_view before) (unit_view unit)) (λ p. (Path p.0, p.1))) ∙ e) (declared_of unit)
    by false e = cc
