-- The arguments of a call, one after the other from the last.
use Rattle.wc_model.proofs.Common.{◌≡◌, ℕ, zero, suc, Bool, true, false, not, List, [], ◌∷◌, map, drop, refl, ap, sym, subst, ◌∙◌, if◌then◌else◌}
use Rattle.wc_text_flat.specs.Lowered.{IsArgument, IsOutput}
use Rattle.wc_model.specs.Definitions.{Name, Scope, Assignment, Field, goes_in, inputs_of, outputs_of}
use Rattle.wc_model.specs.declared.code.Code.{Code}
use Rattle.wc_model.specs.declared.operator.Direction.{Direction}
use Rattle.wc_model.specs.declared.operator.Direction.TheVariants.{Into, OutOf}
use Rattle.wc_cost.specs.{FlatLines, put_line, AddsArguments, AddsOutputs, AddsPassed, IsPassed, same_direction, ArePassable, IsPassable, IsReadable, IsWritable}

-- none yet, and one more before them
pub none_added : (scope : Scope) (instance : Name) (line : ℕ) (flat : FlatLines) → AddsArguments scope instance line [] flat flat
none_added scope instance line flat = record { own = []; lowered = tt; code = refl; places = refl }

pub one_added : (scope : Scope) (instance : Name) (line : ℕ) (argument : Assignment) (rest : List Assignment) (old so_far new : FlatLines) (code : Code) → IsArgument scope instance argument code → AddsArguments scope instance line rest old so_far → new ≡ put_line code line so_far →
    AddsArguments scope instance line (argument ∷ rest) old new
one_added scope instance line argument rest old so_far new code is h e = record {
  own = code ∷ h.own;
  lowered = (is, h.lowered);
  code = ap (λ (f : FlatLines). f.code) e ∙ ap (λ c. code ∷ c) h.code;
  places = ap (λ (f : FlatLines). f.sources) e ∙ ap (λ s. line ∷ s) h.places;
}

pub none_given : (scope : Scope) (instance : Name) (line : ℕ) (flat : FlatLines) → AddsOutputs scope instance line [] flat flat
none_given scope instance line flat = record { own = []; lowered = tt; code = refl; places = refl }

pub one_given : (scope : Scope) (instance : Name) (line : ℕ) (output : Assignment) (rest : List Assignment) (old so_far new : FlatLines) (code : Code) → IsOutput scope instance output code → AddsOutputs scope instance line rest old so_far → new ≡ put_line code line so_far →
    AddsOutputs scope instance line (output ∷ rest) old new
one_given scope instance line output rest old so_far new code is h e = record {
  own = code ∷ h.own;
  lowered = (is, h.lowered);
  code = ap (λ (f : FlatLines). f.code) e ∙ ap (λ c. code ∷ c) h.code;
  places = ap (λ (f : FlatLines). f.sources) e ∙ ap (λ s. line ∷ s) h.places;
}

-- the inputs and the outputs of a list with one more before it
pub one_in : (a : Assignment) (rest : List Assignment) → goes_in a ≡ true → inputs_of (a ∷ rest) ≡ a ∷ inputs_of rest
one_in a rest e = ap (λ b. if b then a ∷ inputs_of rest else inputs_of rest) e

pub none_in : (a : Assignment) (rest : List Assignment) → goes_in a ≡ false → inputs_of (a ∷ rest) ≡ inputs_of rest
none_in a rest e = ap (λ b. if b then a ∷ inputs_of rest else inputs_of rest) e

pub one_out : (a : Assignment) (rest : List Assignment) → goes_in a ≡ false → outputs_of (a ∷ rest) ≡ a ∷ outputs_of rest
one_out a rest e = ap (λ b. if not b then a ∷ outputs_of rest else outputs_of rest) e

pub none_out : (a : Assignment) (rest : List Assignment) → goes_in a ≡ true → outputs_of (a ∷ rest) ≡ outputs_of rest
none_out a rest e = ap (λ b. if not b then a ∷ outputs_of rest else outputs_of rest) e

-- whether one goes in, by its direction
pub goes_into : (a : Assignment) → a.direction ≡ Into → goes_in a ≡ true
goes_into a e = by a.direction e
  where
    by : (d : Direction) → d ≡ Into → (elim d as (λ x. Bool) [ Into ↦ true | OutOf ↦ false ]) ≡ true
    by Into e = refl
    by OutOf e = cc

pub goes_out : (a : Assignment) → a.direction ≡ OutOf → goes_in a ≡ false
goes_out a e = by a.direction e
  where
    by : (d : Direction) → d ≡ OutOf → (elim d as (λ x. Bool) [ Into ↦ true | OutOf ↦ false ]) ≡ false
    by Into e = cc
    by OutOf e = refl

-- what is told of two directions
pub is_same : (d e : Direction) → same_direction d e ≡ true → d ≡ e
is_same Into Into h = refl
is_same Into OutOf h = cc
is_same OutOf Into h = cc
is_same OutOf OutOf h = refl

pub is_other : (d e : Direction) → same_direction d e ≡ false → d ≡ e → ⊥
is_other Into Into h same = cc
is_other Into OutOf h same = cc
is_other OutOf Into h same = cc
is_other OutOf OutOf h same = cc

-- a direction that is not one is the other
the_other : (d : Direction) → (d ≡ Into → ⊥) → d ≡ OutOf
the_other Into differs = absurd (differs refl)
the_other OutOf differs = refl

the_one : (d : Direction) → (d ≡ OutOf → ⊥) → d ≡ Into
the_one Into differs = refl
the_one OutOf differs = absurd (differs refl)

-- none of a direction yet, one more of it, and one of the other, which adds nothing
pub none_passed : (d : Direction) (scope : Scope) (instance : Name) (line : ℕ) (flat : FlatLines) → AddsPassed d scope instance line [] flat flat
none_passed Into scope instance line flat = none_added scope instance line flat
none_passed OutOf scope instance line flat = none_given scope instance line flat

pub one_passed : (d : Direction) (scope : Scope) (instance : Name) (line : ℕ) (a : Assignment) (rest : List Assignment) (old so_far new : FlatLines) (code : Code) → a.direction ≡ d → IsPassed a.direction scope instance a code → AddsPassed d scope instance line rest old so_far → new ≡ put_line code line so_far →
    AddsPassed d scope instance line (a ∷ rest) old new
one_passed Into scope instance line a rest old so_far new code e is h put =
    subst (λ xs. AddsArguments scope instance line xs old new) (sym (one_in a rest (goes_into a e)))
    (one_added scope instance line a (inputs_of rest) old so_far new code (subst (λ d. IsPassed d scope instance a code) e is) h put)
one_passed OutOf scope instance line a rest old so_far new code e is h put =
    subst (λ xs. AddsOutputs scope instance line xs old new) (sym (one_out a rest (goes_out a e)))
    (one_given scope instance line a (outputs_of rest) old so_far new code (subst (λ d. IsPassed d scope instance a code) e is) h put)

pub other_passed : (d : Direction) (scope : Scope) (instance : Name) (line : ℕ) (a : Assignment) (rest : List Assignment) (old new : FlatLines) → (a.direction ≡ d → ⊥) → AddsPassed d scope instance line rest old new → AddsPassed d scope instance line (a ∷ rest) old new
other_passed Into scope instance line a rest old new differs h =
    subst (λ xs. AddsArguments scope instance line xs old new) (sym (none_in a rest (goes_out a (the_other a.direction differs)))) h
other_passed OutOf scope instance line a rest old new differs h =
    subst (λ xs. AddsOutputs scope instance line xs old new) (sym (none_out a rest (goes_into a (the_one a.direction differs)))) h

-- what one that goes in asks, and one that goes out
pub asks_in : (scope : Scope) (instance : Name) (a : Assignment) → goes_in a ≡ true → IsPassable scope instance a.direction a.formal a.actual → IsReadable scope a.actual × IsWritable scope (Field instance a.formal)
asks_in scope instance a e p = by a.direction e p
  where
    by : (d : Direction) → (elim d as (λ x. Bool) [ Into ↦ true | OutOf ↦ false ]) ≡ true → IsPassable scope instance d a.formal a.actual → IsReadable scope a.actual × IsWritable scope (Field instance a.formal)
    by Into f h = h
    by OutOf f h = cc

pub asks_out : (scope : Scope) (instance : Name) (a : Assignment) → goes_in a ≡ false → IsPassable scope instance a.direction a.formal a.actual → IsReadable scope (Field instance a.formal) × IsWritable scope a.actual
asks_out scope instance a e p = by a.direction e p
  where
    by : (d : Direction) → (elim d as (λ x. Bool) [ Into ↦ true | OutOf ↦ false ]) ≡ false → IsPassable scope instance d a.formal a.actual → IsReadable scope (Field instance a.formal) × IsWritable scope a.actual
    by Into f h = cc
    by OutOf f h = h

-- those from an index on can be passed
pub passable_from : {X : Type 0} (view : X → Assignment) (scope : Scope) (instance : Name) (i : ℕ) (items : List X) → ArePassable scope instance (map view items) → ArePassable scope instance (map view (drop i items))
passable_from view scope instance zero items h = h
passable_from view scope instance (suc i) [] h = tt
passable_from view scope instance (suc i) (x ∷ items) h = passable_from view scope instance i items h.1
