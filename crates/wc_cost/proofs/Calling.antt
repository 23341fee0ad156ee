-- The body that a call precedes.
use Rattle.wc_model.proofs.Common.{◌≡◌, ℕ, ◌+◌, ◌<◌, Bool, true, false, List, [], ◌∷◌, length, Option, Some, None, option_map, refl, sym, ap, subst, ◌∙◌, arith, if◌then◌else◌, option_and_then}
use Rattle.wc_model.specs.Definitions.{places_of_type, Variable, VariableType, Elementary, Standard as StandardType, Block, block_named, same_name, type_named, variables_of, Name, Scope, block_places, variable_places, ProgramUnit}
use Rattle.wc_model.specs.declared.block.StandardBlock.{StandardBlock}
use Rattle.wc_model.specs.declared.code.Code.{Code}
use Rattle.wc_model.specs.declared.code.Code.TheVariants.{Standard, Body}
use Rattle.wc_model.specs.declared.kind.Kind.{Kind}
use Rattle.wc_model.specs.declared.place.Place.{Place}
use Rattle.wc_model.specs.declared.source.Initial.{Initial}
use Rattle.wc_names.specs.{numbered_type, first_from, first_number}
use Rattle.wc_names.specs.declared.declared_type.DeclaredType.{DeclaredType}
use Rattle.wc_names.specs.declared.declared_type.DeclaredType.TheVariants as numbered
use Rattle.wc_text_flat.specs.Lowered.{IsBodyOf, IsUnitBody, first_of_all, first_place, places_before, size_of}
use Rattle.wc_cost.specs.Lowerable.{IsCallable, IsKnownBlock}

-- as many places, whatever they hold at first
same_length : (before : List ProgramUnit) (type : Option VariableType) (a b : Option Initial) → length (variable_places (block_places before) type a) ≡ length (variable_places (block_places before) type b)
same_length before None a b = refl
same_length before (Some (Elementary kind)) a b = refl
same_length before (Some (StandardType block)) a b = refl
same_length before (Some (Block name)) a b = refl

some_more : (a b c d : ℕ) (o : Option ℕ) → b ≡ d → a + b ≡ c → option_map (λ n. c + n) o ≡ option_map (λ n. a + n) (option_map (λ n. d + n) o)
some_more a b c d None e f = refl
some_more a b c d (Some n) e f = ap Some (let g : c + n ≡ a + (d + n) = omega (arith, e, f) in g)

-- where the places of a variable begin
begins_from : (before : List ProgramUnit) (first : ℕ) (vs : List Variable) (name : Name) → first_from before first vs name ≡ option_map (λ n. first + n) (places_before before vs name)
begins_from before first [] name = refl
begins_from before first (v ∷ vs) name = by (same_name v.name name) (begins_from before (first + places_of_type before v.type_name) vs name)
  where
    by : (b : Bool) → first_from before (first + places_of_type before v.type_name) vs name ≡ option_map (λ n. first + places_of_type before v.type_name + n) (places_before before vs name) →
        (if b then Some first else first_from before (first + places_of_type before v.type_name) vs name) ≡ option_map (λ n. first + n) (if b then Some 0 else option_map (λ n. size_of before v + n) (places_before before vs name))
    by true rest = ap Some (let g : first ≡ first + 0 = omega arith in g)
    by false rest = rest ∙ some_more first (places_of_type before v.type_name) (first + places_of_type before v.type_name) (size_of before v) (places_before before vs name) (same_length before (type_named before v.type_name) None v.initial) refl

pub begins : (scope : Scope) (name : Name) → first_number scope name ≡ first_place scope name
begins scope name = begins_from scope.before (first_of_all scope) (variables_of scope.unit) name

-- an instance of a standard block, and of a block of the text
pub body_standard : (scope : Scope) (name : Name) (type : VariableType) (block : StandardBlock) (at : Place) → numbered_type scope.before type ≡ Some (numbered.Standard block) → first_place scope name ≡ Some at.0 → IsBodyOf scope name (Some type) (Standard block at)
body_standard scope name (Elementary kind) block at e f = cc
body_standard scope name (StandardType b) block at e f = (at, f, let same : block ≡ b = cc in ap (λ x. Standard x at) same)
body_standard scope name (Block word) block at e f = by (block_named scope.before word) e
  where
    by : (o : Option (ProgramUnit × List ProgramUnit)) → option_map (λ found. numbered.Block (length found.1)) o ≡ Some (numbered.Standard block) → IsUnitBody scope name o (Standard block at)
    by None g = cc
    by (Some found) g = cc

pub body_unit : (scope : Scope) (name : Name) (type : VariableType) (number unit : ℕ) (at : Place) → numbered_type scope.before type ≡ Some (numbered.Block number) → first_place scope name ≡ Some at.0 → (number < 65536 → unit ≡ number) → IsCallable scope (Some type) →
    IsBodyOf scope name (Some type) (Body unit at)
body_unit scope name (Elementary kind) number unit at e f n h = cc
body_unit scope name (StandardType b) number unit at e f n h = cc
body_unit scope name (Block word) number unit at e f n h = by (block_named scope.before word) e h
  where
    by : (o : Option (ProgramUnit × List ProgramUnit)) → option_map (λ found. numbered.Block (length found.1)) o ≡ Some (numbered.Block number) → IsKnownBlock o → IsUnitBody scope name o (Body unit at)
    by None g k = cc
    by (Some found) g k =
        let same : length found.1 ≡ number = cc in
        (at, f, ap (λ x. Body x at) (n (subst (λ x. x < 65536) same k) ∙ sym same))

-- a variable of an elementary type is not an instance
pub body_none : (scope : Scope) (name : Name) (type : VariableType) (kind : Kind) (line : Code) → numbered_type scope.before type ≡ Some (numbered.Elementary kind) → IsCallable scope (Some type) → IsBodyOf scope name (Some type) line
body_none scope name (Elementary k) kind line e h = absurd h
body_none scope name (StandardType b) kind line e h = cc
body_none scope name (Block word) kind line e h = by (block_named scope.before word) e
  where
    by : (o : Option (ProgramUnit × List ProgramUnit)) → option_map (λ found. numbered.Block (length found.1)) o ≡ Some (numbered.Elementary kind) → IsUnitBody scope name o line
    by None g = cc
    by (Some found) g = cc

-- the type that is kept of an instance is its own
pub called_as : (scope : Scope) (o : Option VariableType) (declared : DeclaredType) (name : Name) (line : Code) → Some declared ≡ option_and_then (numbered_type scope.before) o → IsCallable scope o →
    ((type : VariableType) → numbered_type scope.before type ≡ Some declared → IsCallable scope (Some type) → IsBodyOf scope name (Some type) line) → IsBodyOf scope name o line
called_as scope None declared name line e h go = absurd h
called_as scope (Some type) declared name line e h go = go type (sym e) h

pub not_called : (scope : Scope) (o : Option VariableType) (name : Name) (line : Code) → false ≡ Rattle.std.proofs.Common.is_some o → IsCallable scope o → IsBodyOf scope name o line
not_called scope None name line e h = absurd h
not_called scope (Some type) name line e h = cc
