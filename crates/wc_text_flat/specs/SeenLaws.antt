-- What is seen of a scan: statements.
use Rattle.std.specs.Prelude.{◌≡◌, ℕ, List, map, None, ℤ}
use Rattle.wc_text_flat.specs.Contents.{frame_of_text, AreContents, with_image_numbers}
use Rattle.wc_text_flat.specs.FlatPaths.{sources_of}
use Rattle.wc_text_flat.specs.Lowered.{AreLowered}
use Rattle.wc_model.specs.Definitions.{body_fault, slot_kinds, Outcome, Done, Stuck, initial_of, scan_of, Store, Text, IsRead}
use Rattle.wc_model.specs.declared.code.Code.{Code}
use Rattle.wc_model.specs.declared.image.Image.{Image}
use Rattle.wc_laws_language.specs.Typing.{SameSlots}
use Rattle.wc_text_flat.specs.FlatSeen.{AreSeenAs, flat_seen_of_program}
use Rattle.wc_text_flat.specs.Seen.{Seen, seen_of_scan}

-- the items that are seen are the trace of the outcome, one by one
abbrev pub HasItems : Outcome → List Seen → Type 0
HasItems (Done result store trace) seen = map (λ s. s.item) seen ≡ trace
HasItems (Stuck reason) seen = Unit {0}

-- what is seen of a scan are the items of its trace
abbrev pub SeenIsTheTrace : Type 0
SeenIsTheTrace = (text : Text) (store : Store) (image : Image) (now : ℕ) → HasItems (scan_of text store image now) (seen_of_scan text store image now)

-- the lines of the text at which the flat lines of each unit are
abbrev pub sources_of_text : Text → List (List ℕ)
sources_of_text text = map (λ unit. sources_of unit.body) text

-- For every text that is read and whose bodies break no rule, every flat codes of its units, every store that holds what its
-- declarations say, and the numbers of that store: what is seen of the flat code is what is seen of the text.
abbrev pub FlatCodeIsSeenAsTheText : Type 0
FlatCodeIsSeenAsTheText = (bytes : List ℕ) (text : Text) → IsRead bytes text → body_fault text ≡ None →
    (codes : List (List Code)) → AreLowered text codes →
    (store : Store) → SameSlots (initial_of text) store → (numbers : List ℤ) → AreContents (frame_of_text text) store numbers → (image : Image) (now : ℕ) →
    AreSeenAs (frame_of_text text) (seen_of_scan text store image now) (flat_seen_of_program (slot_kinds (frame_of_text text)) codes (sources_of_text text) now (with_image_numbers image numbers))
