-- The numbers that are carried over are the contents of the store that is carried over.
use Rattle.wc_model.proofs.Common.{◌≡◌, ℕ, zero, suc, ◌+◌, ◌<◌, ◌≤◌, Bool, true, false, cond, List, [], ◌∷◌, length, Option, Some, None, option_map, ℤ, refl, sym, ap, ◌∙◌, ◌⊎◌, inl, inr, arith, if◌then◌else◌, option_and_then, reverse, slice_get, slice_set, cases_lt, length-map, length-set, slice_get_within, position_from}
use Rattle.wc_cost.proofs.CarriedKinds.{slots_alike}
use Rattle.wc_text_flat.proofs.Images.{first_numbers_are_contents}
use Rattle.wc_text_flat.proofs.PlaceNumbers.{set_elsewhere, set_here, there_is}
use Rattle.wc_text_flat.specs.Contents.{AreContents, frame_of_reversed, frame_of_text}
use Rattle.wc_execution.proofs.Moments.{written_moment}
use Rattle.wc_machine.specs.Machines.{AreCarried, number_carried}
use Rattle.wc_execution.specs.Lines.{AreBefore}
use Rattle.wc_model.specs.Definitions.{carried, keeps, carried_number, number_if_kept, content_number, first_numbers, place_number, initial_of, initial_of_reversed, Location, Content, Store, same_place, store_of, ProgramUnit, Text, IsProgramLast}
use Rattle.wc_model.specs.declared.kind.SlotKind.{SlotKind}
use Rattle.wc_laws_language.proofs.Carrying.{carried_holds, first_holds, kept_leads}
use Rattle.wc_laws_language.proofs.FramePlaces.{number_within, place_found}
use Rattle.wc_laws_language.specs.Typing.{SameSlots, slot_of}

-- what has no number holds nothing
lost : (entries : List (Location × Content)) (place : Location) (i : ℕ) → position_from (λ (e : Location × Content). same_place e.0 place) i entries ≡ None → store_of entries place ≡ None
lost [] place i e = refl
lost (entry ∷ entries) place i e = step (same_place entry.0 place) e (lost entries place (i + 1))
  where
    step : (b : Bool) → cond b (Some i) (position_from (λ (x : Location × Content). same_place x.0 place) (i + 1) entries) ≡ None → (position_from (λ (x : Location × Content). same_place x.0 place) (i + 1) entries ≡ None → store_of entries place ≡ None) → (if b then Some entry.1 else store_of entries place) ≡ None
    step true e onward = cc
    step false e onward = onward e

lost_in : (units : List ProgramUnit) (place : Location) → place_number (frame_of_reversed units) place ≡ None → initial_of_reversed units place ≡ None
lost_in [] place e = refl
lost_in (program ∷ before) place e = lost (frame_of_reversed (program ∷ before)) place 0 e

-- so a place that keeps its value has a number in the old text
kept_number : (old new : Text) (place : Location) → IsProgramLast old → keeps old new place ≡ true → (k : ℕ) × (place_number (frame_of_text old) place ≡ Some k)
kept_number old new place last kept = by (place_number (frame_of_text old) place) refl
  where
    by : (o : Option ℕ) → place_number (frame_of_text old) place ≡ o → (k : ℕ) × (o ≡ Some k)
    by (Some k) e = (k, refl)
    by None e =
        let leads = kept_leads old new place kept in
        let there = first_holds old place leads.lead last leads.old_lead in
        let none : None ≡ Some there.kind = sym (ap (option_map slot_of) (lost_in (reverse old) place e)) ∙ there.held in
        absurd (let f : ⊥ = cc in f)

-- the contents
pub contents_carried : (old new : Text) → IsProgramLast old → IsProgramLast new → (store : Store) → SameSlots (initial_of old) store → (numbers : List ℤ) → AreContents (frame_of_text old) store numbers → (all : List ℤ) →
    AreCarried old new numbers (first_numbers (frame_of_text new)) all → AreContents (frame_of_text new) (carried old store new) all
contents_carried old new old_last new_last store same numbers contents all are = record {
  count = are.count ∙ length-map (frame_of_text new) (λ entry. content_number entry.1);
  kinds = λ place k e. first.kinds place k e ∙ slots_alike (initial_of new place) ∙ sym (carried_holds old new store old_last new_last same place) ∙ sym (slots_alike (carried old store new place));
  each = λ place k e. at place k e (keeps old new place) refl (place_found (frame_of_text new) place k e);
}
  where
    first : AreContents (frame_of_text new) (initial_of new) (first_numbers (frame_of_text new))
    first = first_numbers_are_contents new

    at : (place : Location) (k : ℕ) → place_number (frame_of_text new) place ≡ Some k → (b : Bool) → keeps old new place ≡ b → (entry : Location × Content) × (slice_get (frame_of_text new) k ≡ Some entry) × (entry.0 ≡ place) →
        slice_get all k ≡ option_map content_number (if b then store place else initial_of new place)
    at place k e b is found =
        let numbered : carried_number old new k ≡ (if b then place_number (frame_of_text old) place else None) =
        ap (option_and_then (number_if_kept old new)) found.1
        ∙ ap (λ p. if keeps old new p then place_number (frame_of_text old) p else None) found.2
        ∙ ap (λ x. if x then place_number (frame_of_text old) place else None) is
        in
        are.each k (number_within (frame_of_text new) place k e) ∙ ap (λ (o : Option ℕ). elim o as (λ x. Option ℤ) [ Some j ↦ slice_get numbers j | None ↦ slice_get (first_numbers (frame_of_text new)) k ]) numbered ∙ by b is
      where
        by : (b : Bool) → keeps old new place ≡ b → (elim (if b then place_number (frame_of_text old) place else None) as (λ x. Option ℤ) [ Some j ↦ slice_get numbers j | None ↦ slice_get (first_numbers (frame_of_text new)) k ]) ≡ option_map content_number (if b then store place else initial_of new place)
        by true kept =
            let from = kept_number old new place old_last kept in
            ap (λ (o : Option ℕ). elim o as (λ x. Option ℤ) [ Some j ↦ slice_get numbers j | None ↦ slice_get (first_numbers (frame_of_text new)) k ]) from.1 ∙ contents.each place from.0 from.1
        by false kept = first.each place k e

-- the numbers so far, and the first ones after them
pub record AreCarriedTo (old new : Text) (numbers first now : List ℤ) (at : ℕ) : Type 0 where
  pub count : length now ≡ length first
  pub done : (n : ℕ) → n < at → slice_get now n ≡ number_carried old new numbers first n
  pub rest : (n : ℕ) → at ≤ n → slice_get now n ≡ slice_get first n

pub none_carried : (old new : Text) (numbers first : List ℤ) → AreCarriedTo old new numbers first first 0
none_carried old new numbers first = record { count = refl; done = λ n below. absurd (omega (arith, below)); rest = λ n from. refl }

-- a place that keeps no value
pub first_stays : (old new : Text) (numbers first now : List ℤ) (at : ℕ) → carried_number old new at ≡ None → AreCarriedTo old new numbers first now at → AreCarriedTo old new numbers first now (at + 1)
first_stays old new numbers first now at none so_far = record {
  count = so_far.count;
  done = λ n below. by n below (cases_lt n at);
  rest = λ n from. so_far.rest n (omega (arith, from));
}
  where
    by : (n : ℕ) → n < at + 1 → (n < at) ⊎ (at ≤ n) → slice_get now n ≡ number_carried old new numbers first n
    by n below (inl earlier) = so_far.done n earlier
    by n below (inr from) =
        let same : n ≡ at = omega (arith, below, from) in
        so_far.rest n from ∙ sym (ap (λ (o : Option ℕ). elim o as (λ x. Option ℤ) [ Some k ↦ slice_get numbers k | None ↦ slice_get first n ]) (ap (carried_number old new) same ∙ none))

-- and one that does
pub one_carried : (old new : Text) (numbers first now : List ℤ) (at k : ℕ) (number : ℤ) → carried_number old new at ≡ Some k → slice_get numbers k ≡ Some number → at < length first → AreCarriedTo old new numbers first now at → AreCarriedTo old new numbers first (slice_set now at number) (at + 1)
one_carried old new numbers first now at k number some there within so_far = record {
  count = length-set now at number ∙ so_far.count;
  done = λ n below. by n below (cases_lt n at);
  rest = λ n from. set_elsewhere now at n number (λ same. omega (arith, from, same)) ∙ so_far.rest n (omega (arith, from));
}
  where
    by : (n : ℕ) → n < at + 1 → (n < at) ⊎ (at ≤ n) → slice_get (slice_set now at number) n ≡ number_carried old new numbers first n
    by n below (inl earlier) = set_elsewhere now at n number (λ same. omega (arith, earlier, same)) ∙ so_far.done n earlier
    by n below (inr from) =
        let same : at ≡ n = omega (arith, below, from) in
        let old_there = there_is now at (let c = so_far.count in omega (arith, within, c)) in
        ap (slice_get (slice_set now at number)) (sym same) ∙ set_here now at number old_there.0 old_there.1
        ∙ sym (ap (λ (o : Option ℕ). elim o as (λ x. Option ℤ) [ Some j ↦ slice_get numbers j | None ↦ slice_get first n ]) (ap (carried_number old new) (sym same) ∙ some) ∙ there)

-- a moment that is carried on is not ahead
pub moment_carried : (last : ℕ) (kinds old_kinds : List SlotKind) (now numbers : List ℤ) (at k : ℕ) (number : ℤ) → slice_get kinds at ≡ slice_get old_kinds k → slice_get numbers k ≡ Some number → AreBefore last kinds now → AreBefore last old_kinds numbers → AreBefore last kinds (slice_set now at number)
moment_carried last kinds old_kinds now numbers at k number kind there before old_before = record {
  each = λ place m moment represents. elim (written_moment now at place m number represents) [
    | inl both ↦ old_before.each k m (sym kind ∙ ap (slice_get kinds) (sym both.0) ∙ moment) (there ∙ ap Some both.1)
    | inr old ↦ before.each place m moment old
  ];
}

-- and comes from a place that there is
pub carried_within : (kinds old_kinds : List SlotKind) (at k : ℕ) → slice_get kinds at ≡ slice_get old_kinds k → at < length kinds → k < length old_kinds
carried_within kinds old_kinds at k kind below =
    let found = kind_there kinds at below in
    slice_get_within old_kinds k found.0 (sym kind ∙ found.1)
  where
    kind_there : (kinds : List SlotKind) (at : ℕ) → at < length kinds → (s : SlotKind) × (slice_get kinds at ≡ Some s)
    kind_there [] at below = absurd (omega (arith, below))
    kind_there (s ∷ kinds) zero below = (s, refl)
    kind_there (s ∷ kinds) (suc at) below = kind_there kinds at (omega (arith, below))

-- no moment is ahead of a later one
pub before_later : (now later : ℕ) (kinds : List SlotKind) (numbers : List ℤ) → now ≤ later → AreBefore now kinds numbers → AreBefore later kinds numbers
before_later now later kinds numbers le before = record { each = λ place n moment there. let l = before.each place n moment there in omega (arith, l, le) }
