-- The headline of a loaded text.
use Rattle.std.proofs.Common.{◌≡◌, refl, ◌∙◌, subst, ℕ, List, [], ◌∷◌, reverse, Option, None}
use Rattle.wc_controller.proofs.ManyChanges.{keeps_in_turn}
use Rattle.wc_controller.proofs.ScanEndings.{ends_within, has_bound, shows_outcome}
use Rattle.wc_controller.specs.Headline.{IsTheHeadline, outcome_of, store_after}
use Rattle.wc_laws_instrument.proofs.Independence.{is_free_of_programs}
use Rattle.wc_laws_instrument.specs.Changes.{HasNoChange, IsNoChange}
use Rattle.wc_model.specs.Definitions.{image_after, Logic, first_logic, logic_following, programs, state_with, initial_of, scan_of, with_image, PlateData, IsLoaded, IsNextLoaded, Text, RowData, Counts, Bytes, Inputs, Scan, Change, Past}
use Rattle.wc_model.specs.declared.value.Value.{Value}
use Rattle.wc_laws_language.specs.SoundnessLaws.{EndsWell}
use Rattle.wc_laws_language.proofs.Runs.{first_sound, sound_after, sound_scan}

-- the next scan ends well, whatever rows have come
well : (plate : PlateData) (bytes : List ℕ) (text : Text) → IsLoaded bytes text → (next : Option Text) → IsNextLoaded next → (past : Past) (ms : ℕ) →
    EndsWell (λ (result : Option Value). Unit {0}) (initial_of (logic_following plate (first_logic text next) past).text)
    (outcome_of plate (logic_following plate (first_logic text next) past) past ms)
well plate bytes text loaded next other past ms =
    sound_scan (logic_following plate (first_logic text next) past) (sound_after plate (first_logic text next) (first_sound bytes text loaded next other) past) (image_after plate past) ms

-- what changes no program leaves the text
text_with : (plate : PlateData) (brings : RowData) (ms : ℕ) (past : Past) (logic : Logic) → IsNoChange brings → (state_with plate programs brings ms past logic).text ≡ logic.text
text_with plate (Counts counts) ms past logic none = refl
text_with plate (Bytes bytes) ms past logic none = refl
text_with plate (Inputs inputs) ms past logic none = refl
text_with plate Scan ms past logic none = refl
text_with plate Change ms past logic none = absurd none

text_stays : (plate : PlateData) (logic : Logic) (past : Past) → HasNoChange past → (logic_following plate logic past).text ≡ logic.text
text_stays plate logic [] none = refl
text_stays plate logic (row ∷ past) none =
    text_with plate row.brings row.ms past (logic_following plate logic past) none.0 ∙ text_stays plate logic past none.1

-- so without a change the next scan of the text ends well
well_alone : (plate : PlateData) (bytes : List ℕ) (text : Text) → IsLoaded bytes text → (past : Past) → HasNoChange past → (ms : ℕ) →
    EndsWell (λ (result : Option Value). Unit {0}) (initial_of text) (scan_of text (store_after plate text past) (image_after plate past) ms)
well_alone plate bytes text loaded past none ms =
    subst (λ t. EndsWell (λ (result : Option Value). Unit {0}) (initial_of t) (scan_of t (store_after plate text past) (image_after plate past) ms))
    (text_stays plate (first_logic text None) past none) (well plate bytes text loaded None tt past ms)

-- the headline of every text that is loaded from its bytes
pub headline_holds : IsTheHeadline
headline_holds = λ plate bytes text loaded.
    let some_bound = has_bound (reverse text) (initial_of text) (with_image (image_after plate []) (initial_of text)) 0 (well plate bytes text loaded None tt [] 0) in
    record {
      bound = some_bound.0;
      is_bound = some_bound.1;
      keeps = λ bound longest. record {
        scan = λ past none ms. ends_within (reverse text) bound (initial_of text) (with_image (image_after plate past) (store_after plate text past)) ms longest
            (well_alone plate bytes text loaded past none ms);
        shown = λ past none ms. shows_outcome (initial_of text) (record { text = text; store = store_after plate text past; next = None })
            (scan_of text (store_after plate text past) (image_after plate past) ms) (well_alone plate bytes text loaded past none ms);
        line = λ rows none. is_free_of_programs plate programs (first_logic text None) rows;
      };
      changes = λ next other. record {
        scan = λ past run ms bound longest.
            let logic : Logic = logic_following plate (first_logic text next) past in
            ends_within (reverse logic.text) bound (initial_of logic.text) (with_image (image_after plate past) logic.store) ms longest (well plate bytes text loaded next other past ms);
        shown = λ past run ms. shows_outcome (initial_of (logic_following plate (first_logic text next) past).text) (logic_following plate (first_logic text next) past)
            (outcome_of plate (logic_following plate (first_logic text next) past) past ms) (well plate bytes text loaded next other past ms);
        line = λ rows run. is_free_of_programs plate programs (first_logic text next) rows;
      };
      turns = keeps_in_turn plate bytes text loaded;
    }
