-- As many changes of the program as one likes: each scan ends well.
use Rattle.std.proofs.Common.{ℕ, List, [], ◌∷◌, Option, refl, reverse}
use Rattle.wc_controller.proofs.ScanEndings.{ends_within}
use Rattle.wc_controller.specs.Headline.{KeepsInTurn, ShowsInTurn, AreLoaded, Turns, change_in, first_turn, in_turn, turns_after, with_store}
use Rattle.wc_laws_instrument.proofs.Independence.{is_free_of_programs}
use Rattle.wc_model.specs.Definitions.{PlateData, IsLoaded, Outcome, Done, Stuck, initial_of, scan_of, with_image, Store, Text, image_after, RowData, Counts, Bytes, Inputs, Scan, Change, Past, result_of, state_with}
use Rattle.wc_model.specs.declared.image.Image.{Image}
use Rattle.wc_model.specs.declared.value.Value.{Value}
use Rattle.wc_laws_language.proofs.Carrying.{carried_holds}
use Rattle.wc_laws_language.proofs.Places.{SameSlots-refl}
use Rattle.wc_laws_language.proofs.Runs.{left_by}
use Rattle.wc_laws_language.proofs.Spelled.{loaded_text_is_never_stuck}
use Rattle.wc_laws_language.specs.{EndsWell, SameSlots}

-- the text that runs is loaded, its store holds the kinds of what it declares, and the texts that follow are loaded
record AreSound (turns : Turns) : Type 0 where
  bytes : List ℕ
  loaded : IsLoaded bytes turns.text
  same : SameSlots (initial_of turns.text) turns.store
  nexts : AreLoaded turns.nexts

first_sound : (bytes : List ℕ) (text : Text) → IsLoaded bytes text → (nexts : List Text) → AreLoaded nexts → AreSound (first_turn text nexts)
first_sound bytes text loaded nexts others = record { bytes = bytes; loaded = loaded; same = SameSlots-refl (initial_of text); nexts = others }

-- the next scan ends well
sound_scan : (turns : Turns) → AreSound turns → (image : Image) (ms : ℕ) →
    EndsWell (λ (result : Option Value). Unit {0}) (initial_of turns.text) (scan_of turns.text turns.store image ms)
sound_scan turns sound image ms = loaded_text_is_never_stuck sound.bytes turns.text sound.loaded turns.store sound.same image ms

-- a change leaves them sound
changed_sound : (text : Text) (store : Store) (nexts : List Text) → AreSound (record { text = text; store = store; nexts = nexts }) → AreSound (change_in text store nexts)
changed_sound text store [] sound = sound
changed_sound text store (new ∷ nexts) sound = record {
  bytes = sound.nexts.0.0;
  loaded = sound.nexts.0.1;
  same = carried_holds text new store sound.loaded.read.spelled.order sound.nexts.0.1.read.spelled.order sound.same;
  nexts = sound.nexts.1;
}

-- so does what a row brings
sound_with : (plate : PlateData) (brings : RowData) (ms : ℕ) (past : Past) (turns : Turns) → AreSound turns → AreSound (state_with plate in_turn brings ms past turns)
sound_with plate (Counts counts) ms past turns sound = sound
sound_with plate (Bytes line) ms past turns sound = sound
sound_with plate (Inputs inputs) ms past turns sound = sound
sound_with plate Scan ms past turns sound = record {
  bytes = sound.bytes;
  loaded = sound.loaded;
  same = left_by (initial_of turns.text) turns.store (scan_of turns.text turns.store (image_after plate past) ms) (sound_scan turns sound (image_after plate past) ms);
  nexts = sound.nexts;
}
sound_with plate Change ms past turns sound = changed_sound turns.text turns.store turns.nexts sound

-- after whatever rows they are sound
sound_after : (plate : PlateData) (turns : Turns) → AreSound turns → (past : Past) → AreSound (turns_after plate turns past)
sound_after plate turns sound [] = sound
sound_after plate turns sound (row ∷ past) = sound_with plate row.brings row.ms past (turns_after plate turns past) (sound_after plate turns sound past)

-- what a scan that ends shows
shows_in_turn : (first : Store) (turns : Turns) (outcome : Outcome) → EndsWell (λ (result : Option Value). Unit {0}) first outcome
    → ShowsInTurn turns outcome (with_store turns (result_of turns.store outcome))
shows_in_turn first turns (Done result store trace) well = (refl, refl, refl)
shows_in_turn first turns (Stuck reason) well = absurd well

-- a loaded text keeps to itself, whatever loaded texts follow it
pub keeps_in_turn : (plate : PlateData) (bytes : List ℕ) (text : Text) → IsLoaded bytes text → (nexts : List Text) → AreLoaded nexts → KeepsInTurn plate (first_turn text nexts)
keeps_in_turn plate bytes text loaded nexts others = record {
  scan = λ past ms bound longest.
      let turns : Turns = turns_after plate (first_turn text nexts) past in
      ends_within (reverse turns.text) bound (initial_of turns.text) (with_image (image_after plate past) turns.store) ms longest
      (sound_scan turns (sound_after plate (first_turn text nexts) (first_sound bytes text loaded nexts others) past) (image_after plate past) ms);
  shown = λ past ms.
      let turns : Turns = turns_after plate (first_turn text nexts) past in
      shows_in_turn (initial_of turns.text) turns (scan_of turns.text turns.store (image_after plate past) ms)
      (sound_scan turns (sound_after plate (first_turn text nexts) (first_sound bytes text loaded nexts others) past) (image_after plate past) ms);
  line = λ rows. is_free_of_programs plate in_turn (first_turn text nexts) rows;
}
