-- The place of what an operand names, as the tables give it.
use Rattle.wc_model.proofs.Common.{◌≡◌, ℕ, Bool, true, false, List, [], ◌∷◌, Option, Some, None, option_map, refl, sym, ap, subst, ◌∙◌, option_and_then, if◌then◌else◌}
use Rattle.wc_text_flat.specs.Lowered.{IsPlaceOf}
use Rattle.wc_model.specs.Definitions.{frame_of, place_number, Member, VariableType, member_named, members_of, Name, Scope, Entity, is_input, member_entity, type_of, writable_place, Location, Path, Field}
use Rattle.wc_model.specs.declared.place.Place.{Place}
use Rattle.wc_names.specs.Numbered.{numbered_entity}
use Rattle.wc_names.specs.declared.entity.Entity.{Entity as Found}
use Rattle.wc_laws_language.proofs.Entities.{found_member_name}
use Rattle.wc_cost.specs.Lowerable.{HasPlace}

-- the place of a location in the unit's frame
abbrev place_at : Scope → Option Location → Option Place
place_at scope location = option_map (λ n. record { 0 = n }) (option_and_then (place_number (frame_of scope)) location)

there : (scope : Scope) (location : Option Location) (place : Place) → place_at scope location ≡ Some place → HasPlace scope location → IsPlaceOf scope location place
there scope None place e h = absurd h
there scope (Some location) place e h =
    let n : Some h.0 ≡ Some place.0 = ap (option_map (λ (p : Place). p.0)) (sym (ap (option_map (λ (k : ℕ). record { 0 = k })) h.1) ∙ e) in
    h.1 ∙ n

some_none : {X : Type 0} (x : X) → Some x ≡ None → ⊥
some_none x e = cc

nowhere : (scope : Scope) (location : Option Location) → place_at scope location ≡ None → HasPlace scope location → ⊥
nowhere scope None e h = h
nowhere scope (Some location) e h =
    some_none (record { 0 = h.0 }) (sym (ap (option_map (λ (k : ℕ). record { 0 = k })) h.1) ∙ e)

-- what may be read, or written
abbrev pub reached : (Entity → Bool) → Option Entity → Option Location
reached may o = elim o [ Some e ↦ (if may e then e.place else None) | None ↦ None ]

pub placed : (may : Entity → Bool) (scope : Scope) (o : Option Entity) (entity : Found) (place : Place) → Some entity ≡ option_map (numbered_entity scope) o → entity.place ≡ Some place → HasPlace scope (reached may o) → IsPlaceOf scope (reached may o) place
placed may scope None entity place e p h = cc
placed may scope (Some f) entity place e p h = by (may f) h
  where
    same : Some entity.place ≡ Some (place_at scope f.place)
    same = ap (option_map (λ (x : Found). x.place)) e

    by : (b : Bool) → HasPlace scope (if b then f.place else None) → IsPlaceOf scope (if b then f.place else None) place
    by true g = there scope f.place place (let s : entity.place ≡ place_at scope f.place = cc in sym s ∙ p) g
    by false g = absurd g

pub not_placed : (may : Entity → Bool) (scope : Scope) (o : Option Entity) (entity : Found) → Some entity ≡ option_map (numbered_entity scope) o → entity.place ≡ None → HasPlace scope (reached may o) → ⊥
not_placed may scope None entity e p h = cc
not_placed may scope (Some f) entity e p h = by (may f) h
  where
    same : Some entity.place ≡ Some (place_at scope f.place)
    same = ap (option_map (λ (x : Found). x.place)) e

    by : (b : Bool) → HasPlace scope (if b then f.place else None) → ⊥
    by true g = nowhere scope f.place (let s : entity.place ≡ place_at scope f.place = cc in sym s ∙ p) g
    by false g = g

pub not_known : (may : Entity → Bool) (scope : Scope) (o : Option Entity) → None ≡ option_map (numbered_entity scope) o → HasPlace scope (reached may o) → ⊥
not_known may scope None e h = h
not_known may scope (Some f) e h = cc

-- what may be written of an instance is the field that is named
pub field_place : (scope : Scope) (instance field : Name) (place : Place) → IsPlaceOf scope (writable_place scope (Field instance field)) place → IsPlaceOf scope (Some (Path (instance ∷ field ∷ []))) place
field_place scope instance field place h = of_type (type_of scope instance) h
  where
    of_member : (members : List Member) (m : Option Member) → member_named members field ≡ m → IsPlaceOf scope (reached (λ e. e.writable) (elim m [ Some n ↦ Some (member_entity instance n) | None ↦ None ])) place → IsPlaceOf scope (Some (Path (instance ∷ field ∷ []))) place
    of_member members None e g = absurd g
    of_member members (Some m) e g = by (is_input m.section) g
      where
        by : (b : Bool) → IsPlaceOf scope (if b then Some (Path (instance ∷ m.name ∷ [])) else None) place → IsPlaceOf scope (Some (Path (instance ∷ field ∷ []))) place
        by true k = subst (λ (n : Name). IsPlaceOf scope (Some (Path (instance ∷ n ∷ []))) place) (found_member_name members field m e) k
        by false k = absurd k

    of_type : (t : Option VariableType) → IsPlaceOf scope (reached (λ e. e.writable) (elim t [ Some type ↦ elim (member_named (members_of scope.before type) field) [ Some m ↦ Some (member_entity instance m) | None ↦ None ] | None ↦ None ])) place → IsPlaceOf scope (Some (Path (instance ∷ field ∷ []))) place
    of_type None g = absurd g
    of_type (Some type) g = of_member (members_of scope.before type) (member_named (members_of scope.before type) field) refl g
