-- Whatever rows have come, no scan is stuck.
use Rattle.std.proofs.Common.{ℕ, List, [], ◌∷◌, Option, Some, None}
use Rattle.wc_model.specs.Definitions.{IsLoaded, IsNextLoaded, Outcome, Done, Stuck, PlateData, image_after, Logic, change_to, first_logic, logic_following, programs, result_of, state_with, RowData, Counts, Bytes, Inputs, Scan, Change, Past, scan_of, initial_of, Store, Text}
use Rattle.wc_model.specs.declared.image.Image.{Image}
use Rattle.wc_laws_language.proofs.Carrying.{carried_holds}
use Rattle.wc_laws_language.proofs.Places.{SameSlots-refl}
use Rattle.wc_laws_language.proofs.Programs.{Any}
use Rattle.wc_laws_language.proofs.Spelled.{loaded_text_is_never_stuck}
use Rattle.wc_laws_language.specs.{NoRunIsEverStuck, EndsWell, SameSlots}

-- a scan that ends well leaves a store of the same kinds
pub left_by : (first old : Store) (outcome : Outcome) → EndsWell Any first outcome → SameSlots first (result_of old outcome).after
left_by first old (Done result store trace) ends = ends.1
left_by first old (Stuck reason) ends = absurd ends

-- A logic is sound: its text and the next one are loaded, and its store holds the kinds of what the text declares.
pub record IsSoundLogic (logic : Logic) : Type 0 where
  pub bytes : List ℕ
  pub loaded : IsLoaded bytes logic.text
  pub same : SameSlots (initial_of logic.text) logic.store
  pub next : IsNextLoaded logic.next

-- before its first scan it is
pub first_sound : (bytes : List ℕ) (text : Text) → IsLoaded bytes text → (next : Option Text) → IsNextLoaded next → IsSoundLogic (first_logic text next)
first_sound bytes text loaded next other = record { bytes = bytes; loaded = loaded; same = SameSlots-refl (initial_of text); next = other }

-- the next scan of a sound logic ends well
pub sound_scan : (logic : Logic) → IsSoundLogic logic → (image : Image) (now : ℕ) →
    EndsWell Any (initial_of logic.text) (scan_of logic.text logic.store image now)
sound_scan logic sound image now = loaded_text_is_never_stuck sound.bytes logic.text sound.loaded logic.store sound.same image now

-- a change leaves it sound
changed_sound : (text : Text) (store : Store) (next : Option Text) → IsSoundLogic (record { text = text; store = store; next = next }) →
    IsSoundLogic (change_to (record { text = text; store = store; next = next }) next)
changed_sound text store None sound = sound
changed_sound text store (Some new) sound = record {
  bytes = sound.next.0;
  loaded = sound.next.1;
  same = carried_holds text new store sound.loaded.read.spelled.order sound.next.1.read.spelled.order sound.same;
  next = tt;
}

-- so does what a row brings
sound_with : (plate : PlateData) (brings : RowData) (ms : ℕ) (past : Past) (logic : Logic) → IsSoundLogic logic → IsSoundLogic (state_with plate programs brings ms past logic)
sound_with plate (Counts counts) ms past logic sound = sound
sound_with plate (Bytes line) ms past logic sound = sound
sound_with plate (Inputs inputs) ms past logic sound = sound
sound_with plate Scan ms past logic sound = record {
  bytes = sound.bytes;
  loaded = sound.loaded;
  same = left_by (initial_of logic.text) logic.store (scan_of logic.text logic.store (image_after plate past) ms) (sound_scan logic sound (image_after plate past) ms);
  next = sound.next;
}
sound_with plate Change ms past logic sound = changed_sound logic.text logic.store logic.next sound

-- after whatever rows it is sound
pub sound_after : (plate : PlateData) (logic : Logic) → IsSoundLogic logic → (past : Past) → IsSoundLogic (logic_following plate logic past)
sound_after plate logic sound [] = sound
sound_after plate logic sound (row ∷ past) = sound_with plate row.brings row.ms past (logic_following plate logic past) (sound_after plate logic sound past)

pub no_run_is_ever_stuck : NoRunIsEverStuck
no_run_is_ever_stuck bytes text loaded next other plate past run now =
    sound_scan (logic_following plate (first_logic text next) past) (sound_after plate (first_logic text next) (first_sound bytes text loaded next other) past) (image_after plate past) now
