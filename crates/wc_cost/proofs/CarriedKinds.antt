-- A place keeps the value of a place of its own kind.
use Rattle.wc_model.proofs.Common.{◌≡◌, ℕ, Bool, true, false, Option, Some, None, option_map, refl, sym, ap, ◌∙◌, IfSome, if◌then◌else◌, option_and_then, slice_get}
use Rattle.wc_text_flat.proofs.Images.{first_numbers_are_contents}
use Rattle.wc_model.specs.Definitions.{keeps, carried_number, frame_of_text, number_if_kept, place_number, slot_kind_of, slot_kinds, initial_of, Text, IsProgramLast}
use Rattle.wc_model.specs.Language.Store.{Location, Content, Plain}
use Rattle.wc_model.specs.declared.place.Place.{Place}
use Rattle.wc_model.specs.declared.value.Value.TheVariants.{Bool as Truth}
use Rattle.wc_laws_language.proofs.Carrying.{first_holds, kept_leads, one_fits}
use Rattle.wc_laws_language.specs.Typing.{slot_of}

-- the two ways to determine the kind of a content
pub slots_alike : (o : Option Content) → option_map slot_kind_of o ≡ option_map slot_of o
slots_alike None = refl
slots_alike (Some (Plain (Truth b))) = refl
slots_alike another = refl

-- the slots of two places of which one keeps the other's value
kinds_kept : (old new : Text) → IsProgramLast old → IsProgramLast new → (place : Location) (n k : ℕ) → place_number (frame_of_text new) place ≡ Some n → place_number (frame_of_text old) place ≡ Some k → keeps old new place ≡ true → slice_get (slot_kinds (frame_of_text new)) n ≡ slice_get (slot_kinds (frame_of_text old)) k
kinds_kept old new old_last new_last place n k to from kept =
    let leads = kept_leads old new place kept in
    let here = first_holds new place leads.lead new_last leads.new_lead in
    let there = first_holds old place leads.lead old_last leads.old_lead in
    (first_numbers_are_contents new).kinds place n to ∙ slots_alike (initial_of new place) ∙ here.held ∙ ap Some (one_fits leads.lead place here.kind there.kind here.fits there.fits)
    ∙ sym there.held ∙ sym (slots_alike (initial_of old place)) ∙ sym ((first_numbers_are_contents old).kinds place k from)

pub kind_kept : (old new : Text) → IsProgramLast old → IsProgramLast new → (n : ℕ) → ((entry : Location × Content) → slice_get (frame_of_text new) n ≡ Some entry → place_number (frame_of_text new) entry.0 ≡ Some n) → (k : ℕ) → carried_number old new n ≡ Some k → slice_get (slot_kinds (frame_of_text new)) n ≡ slice_get (slot_kinds (frame_of_text old)) k
kind_kept old new old_last new_last n own k e = by (slice_get (frame_of_text new) n) refl e
  where
    chosen : (entry : Location × Content) (b : Bool) → place_number (frame_of_text new) entry.0 ≡ Some n → keeps old new entry.0 ≡ b → (if b then place_number (frame_of_text old) entry.0 else None) ≡ Some k → slice_get (slot_kinds (frame_of_text new)) n ≡ slice_get (slot_kinds (frame_of_text old)) k
    chosen entry true to kept e = kinds_kept old new old_last new_last entry.0 n k to e kept
    chosen entry false to kept e = cc

    by : (o : Option (Location × Content)) → slice_get (frame_of_text new) n ≡ o → option_and_then (number_if_kept old new) o ≡ Some k → slice_get (slot_kinds (frame_of_text new)) n ≡ slice_get (slot_kinds (frame_of_text old)) k
    by None there e = cc
    by (Some entry) there e = chosen entry (keeps old new entry.0) (own entry there) refl e

-- the kind at the place that is answered stays
pub kind_answered : (old new : Text) (n : ℕ) (result : Option Place) → ((k : ℕ) → carried_number old new n ≡ Some k → slice_get (slot_kinds (frame_of_text new)) n ≡ slice_get (slot_kinds (frame_of_text old)) k) → option_map (λ p. p.0) result ≡ carried_number old new n →
    IfSome result (λ p. slice_get (slot_kinds (frame_of_text new)) n ≡ slice_get (slot_kinds (frame_of_text old)) p.0)
kind_answered old new n None kind is = tt
kind_answered old new n (Some p) kind is = kind p.0 (sym is)
