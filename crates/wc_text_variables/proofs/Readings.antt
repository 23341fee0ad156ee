-- What a name means has a value of its kind in a store of the text, and a number.
use Rattle.wc_model.proofs.Common.{◌≡◌, ℕ, ◌+◌, List, [], ◌∷◌, Bool, true, false, cond, Option, Some, None, Result, Ok, Err, refl, ap, ◌∙◌, position_from}
use Rattle.std.specs.Prelude.{◌&&◌, if◌then◌else◌, not, reverse, is_some, option_and_then, option_map}
use Rattle.wc_text_flat.specs.Contents.{number_in}
use Rattle.wc_model.specs.Definitions.{frame_of_reversed, frame_of_text, content_number, place_number, Reason, NoSuchPlace, initial_of, initial_of_reversed, kind_of, ProgramUnit, Text}
use Rattle.wc_model.specs.Language.Store.{Location, Content, Plain, Moment, Phase, Store, program_frame, same_place, store_of}
use Rattle.wc_model.specs.declared.value.Value.{Value}
use Rattle.wc_laws_language.proofs.Places.{value_there}
use Rattle.wc_laws_language.specs.Typing.{SameSlots, slot_of}
use Rattle.wc_text_variables.specs.Names.{variable_at_location, variable_named, numbered_variable, if_readable, is_hidden, is_value, is_readable, named_location, place_named}
use Rattle.wc_text_variables.specs.declared.variables.NamedVariable.{NamedVariable}

-- a place with a value holds it
holds : (content : Option Content) (value : Value)
    → (elim content as (λ x. Result Value Reason) [ Some c ↦ elim c [ Plain v ↦ Ok v | Moment m ↦ Err NoSuchPlace | Phase p ↦ Err NoSuchPlace ] | None ↦ Err NoSuchPlace ]) ≡ Ok value
    → content ≡ Some (Plain value)
holds (Some (Plain v)) value e = let same : v ≡ value = cc in ap (λ w. Some (Plain w)) same
holds content value e = cc

-- a name that means something: its place with its number, and the value there, of which it is the number
pub record Reads (text : Text) (store : Store) (name : List ℕ) (variable : NamedVariable) : Type 0 where
  pub place : Location
  pub is : named_location text name ≡ Some place
  pub number : place_number (frame_of_text text) place ≡ Some variable.place.0
  pub value : Value
  pub there : store place ≡ Some (Plain value)
  pub kind : kind_of value ≡ variable.kind
  pub held : number_in store place ≡ Some (content_number (Plain value))

pub reads : (text : Text) (store : Store) (name : List ℕ) (variable : NamedVariable) → SameSlots (initial_of text) store → variable_named text name ≡ Some variable
    → Reads text store name variable
reads text store name variable slots e = by (named_location text name) refl e
  where
    at : (place : Location) (content : Option Content) (n : Option ℕ) → named_location text name ≡ Some place → initial_of text place ≡ content → place_number (frame_of_text text) place ≡ n
        → numbered_variable content n ≡ Some variable → Reads text store name variable
    at place (Some (Plain first)) (Some n) is there number f =
        let same : record { place = record { 0 = n }; kind = kind_of first } ≡ variable = cc in
        let value = value_there store place (kind_of first) (slots place ∙ ap (option_map slot_of) there) in
        let held = holds (store place) value.0 value.1 in record {
          place = place;
          is = is;
          number = number ∙ ap (λ (w : NamedVariable). Some w.place.0) same;
          value = value.0;
          there = held;
          kind = value.2 ∙ ap (λ (w : NamedVariable). w.kind) same;
          held = ap (option_map content_number) held;
        }
    at place content n is there number f = absurd (cc (f))

    by : (place : Option Location) → named_location text name ≡ place → option_and_then (variable_at_location text) place ≡ Some variable → Reads text store name variable
    by None is f = absurd (cc (f))
    by (Some place) is f = at place (initial_of text place) (place_number (frame_of_text text) place) is refl refl f

-- what a store holds has a number
numbered : (entries : List (Location × Content)) (place : Location) (content : Content) (i : ℕ) → store_of entries place ≡ Some content
    → (n : ℕ) × (position_from (λ (entry : Location × Content). same_place entry.0 place) i entries ≡ Some n)
numbered [] place content i e = absurd (cc (e))
numbered (entry ∷ entries) place content i e = by (same_place entry.0 place) e (numbered entries place content (i + 1))
  where
    by : (b : Bool) → (if b then Some entry.1 else store_of entries place) ≡ Some content
        → (store_of entries place ≡ Some content → (n : ℕ) × (position_from (λ (x : Location × Content). same_place x.0 place) (i + 1) entries ≡ Some n))
        → (n : ℕ) × (cond b (Some i) (position_from (λ (x : Location × Content). same_place x.0 place) (i + 1) entries) ≡ Some n)
    by true f onward = (i, refl)
    by false f onward = onward f

numbered_in : (units : List ProgramUnit) (place : Location) (content : Content) → initial_of_reversed units place ≡ Some content
    → (n : ℕ) × (place_number (frame_of_reversed units) place ≡ Some n)
numbered_in [] place content e = absurd (cc (e))
numbered_in (program ∷ before) place content e = numbered (program_frame before program) place content 0 e

-- what can be watched has a value, and so a number
watchable : (text : Text) (place : Location) → is_readable text place ≡ true → is_some (variable_at_location text place) ≡ true
watchable text place e = by (initial_of text place) refl e
  where
    by : (content : Option Content) → initial_of text place ≡ content → (is_value content && not (is_hidden text place)) ≡ true → is_some (variable_at_location text place) ≡ true
    by (Some (Plain value)) there f = let n = numbered_in (reverse text) place (Plain value) there in (λ i. is_some (numbered_variable (there i) (n.1 i)))
    by content there f = absurd (cc (f))

-- a name is watched exactly if it means something
pub known : (text : Text) (name : List ℕ) → is_some (variable_named text name) ≡ is_some (named_location text name)
known text name = by (place_named name)
  where
    on : (place : Location) (b : Bool) → is_readable text place ≡ b
        → is_some (option_and_then (variable_at_location text) (if b then Some place else None)) ≡ is_some (if b then Some place else None)
    on place true e = watchable text place e
    on place false e = refl

    by : (o : Option Location) → is_some (option_and_then (variable_at_location text) (option_and_then (if_readable text) o)) ≡ is_some (option_and_then (if_readable text) o)
    by None = refl
    by (Some place) = on place (is_readable text place) refl
