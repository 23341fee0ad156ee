-- Flat code and the text that it is: statements.
use Rattle.std.specs.Prelude.{◌≡◌, ℕ, suc, ◌+◌, ◌<◌, ◌≤◌, List, drop, reverse, length, Option, Some, None, option_map, ℤ, slice_get, slice_index, pos}
use Rattle.wc_text_flat.specs.Bounds.{frame_sizes, IsWithin, IsDepthRight}
use Rattle.wc_text_flat.specs.Contents.{frame_of_text, AreContents, with_image_numbers}
use Rattle.wc_text_flat.specs.FlatMeaning.{State, Skips, Ended, Ran, Here, ended, runs, calls_below, unit_runs, program_runs}
use Rattle.wc_text_flat.specs.FlatPaths.{sources_of, worst_of}
use Rattle.wc_text_flat.specs.Lowered.{AreLowered}
use Rattle.wc_model.specs.Definitions.{OutputBit, OutputWord, body_fault, content_number, first_numbers, scopes_of, slot_kinds, Outcome, Done, Stuck, program_means, IsLongest, IsRead, first_of_reversed, initial_of, scan_of, bit_of, word_of, Scope, most_bytes, Text, AreWorstLines}
use Rattle.wc_model.specs.Language.Store.{Location, Direct, Content, Plain, Store, value_at}
use Rattle.wc_model.specs.declared.code.Code.{Code}
use Rattle.wc_model.specs.declared.image.Image.{Image}
use Rattle.wc_model.specs.declared.kind.SlotKind.{SlotKind}
use Rattle.wc_laws_language.specs.Typing.{SameSlots}

-- the flat run is as the outcome: it leaves the numbers of its store and the number of its result, and takes a step for each item
-- of its trace
abbrev pub RunsAlike : List (Location × Content) → Outcome → Option Ran → Type 0
RunsAlike frame (Done result store trace) o =
    (ran : Ran) × (o ≡ Some ran) × (ran.result ≡ option_map (λ value. content_number (Plain value)) result) × AreContents frame store ran.numbers × (ran.steps ≡ length trace)
RunsAlike frame (Stuck reason) o = ⊥

-- the meaning of a text's program at a moment, from a store
abbrev pub text_means : Text → ℕ → Store → Outcome
text_means text now store = first_of_reversed (reverse text) (λ before program. program_means before program now store)

-- For every text that is read and whose bodies break no rule, every flat codes of its units, every store that holds what its
-- declarations say, and the numbers of that store: the flat run of the program's code means what the text means.
abbrev pub FlatCodeMeansTheText : Type 0
FlatCodeMeansTheText = (bytes : List ℕ) (text : Text) → IsRead bytes text → body_fault text ≡ None →
    (codes : List (List Code)) → AreLowered text codes →
    (store : Store) → SameSlots (initial_of text) store → (numbers : List ℤ) → AreContents (frame_of_text text) store numbers → (now : ℕ) →
    RunsAlike (frame_of_text text) (text_means text now store) (program_runs (slot_kinds (frame_of_text text)) codes now numbers)

-- and a scan is the flat run over the numbers with the image in place of the first 25
abbrev pub FlatCodeScansTheText : Type 0
FlatCodeScansTheText = (bytes : List ℕ) (text : Text) → IsRead bytes text → body_fault text ≡ None →
    (codes : List (List Code)) → AreLowered text codes →
    (store : Store) → SameSlots (initial_of text) store → (numbers : List ℤ) → AreContents (frame_of_text text) store numbers → (image : Image) (now : ℕ) →
    RunsAlike (frame_of_text text) (scan_of text store image now) (program_runs (slot_kinds (frame_of_text text)) codes now (with_image_numbers image numbers))

-- the first numbers of the frame are those of the declarations' store
abbrev pub FirstNumbersAreContents : Type 0
FirstNumbersAreContents = (text : Text) → AreContents (frame_of_text text) (initial_of text) (first_numbers (frame_of_text text))

-- the numbers are those of some store that holds what the declarations say
abbrev pub AreHeld : Text → List ℤ → Type 0
AreHeld text numbers = (store : Store) × SameSlots (initial_of text) store × AreContents (frame_of_text text) store numbers

-- from numbers that are held a scan is defined, and the numbers that it leaves are held again
abbrev pub HeldNumbersStayHeld : Type 0
HeldNumbersStayHeld = (bytes : List ℕ) (text : Text) → IsRead bytes text → body_fault text ≡ None →
    (codes : List (List Code)) → AreLowered text codes → (numbers : List ℤ) → AreHeld text numbers → (image : Image) (now : ℕ) →
    (ran : Ran) × (program_runs (slot_kinds (frame_of_text text)) codes now (with_image_numbers image numbers) ≡ Some ran) × AreHeld text ran.numbers

-- a call of an earlier unit is that unit's run
abbrev pub CallsAreRuns : Type 0
CallsAreRuns = (kinds : List SlotKind) (codes : List (List Code)) (now n unit base : ℕ) (numbers : List ℤ) → unit < n →
    calls_below kinds codes now n unit base numbers ≡ unit_runs kinds codes now unit base numbers

-- each line of the code of each unit keeps within the unit's frame, within the code, and calls an earlier unit
abbrev pub LoweredCodeKeepsWithin : Type 0
LoweredCodeKeepsWithin = (text : Text) (codes : List (List Code)) → AreLowered text codes →
    (unit size : ℕ) (code : List Code) → slice_get codes unit ≡ Some code → slice_get (frame_sizes text) unit ≡ Some size →
    (k left : ℕ) (line : Code) → slice_get code k ≡ Some line → suc k + left ≡ length code → IsWithin (frame_sizes text) unit size left line

-- the bounds of the first n units are the lengths of their codes' worst paths
abbrev pub AreBoundsBelow : Text → List (List Code) → List ℕ → ℕ → Type 0
AreBoundsBelow text codes bounds n = (k : ℕ) → k < n → (scope : Scope) (code : List Code) → slice_get (scopes_of text) k ≡ Some scope → slice_get codes k ≡ Some code →
    slice_index bounds k ≡ (worst_of bounds code (sources_of scope.unit.body)).steps

-- if the bounds of the units before are known, the worst path of a unit's flat code has the length of a longest path of the
-- unit, and the lines of its worst path
abbrev pub FlatCodeHasTheWorstPath : Type 0
FlatCodeHasTheWorstPath = (bytes : List ℕ) (text : Text) → IsRead bytes text → (codes : List (List Code)) → AreLowered text codes →
    (bounds : List ℕ) (n : ℕ) → AreBoundsBelow text codes bounds n →
    (scope : Scope) (code : List Code) → slice_get (scopes_of text) n ≡ Some scope → slice_get codes n ≡ Some code →
    IsLongest scope (worst_of bounds code (sources_of scope.unit.body)).steps × AreWorstLines scope (worst_of bounds code (sources_of scope.unit.body)).lines

-- in the code of each unit the parentheses match, and are not too deep
abbrev pub LoweredCodeNests : Type 0
LoweredCodeNests = (bytes : List ℕ) (text : Text) → IsRead bytes text → (codes : List (List Code)) → AreLowered text codes →
    (unit : ℕ) (code : List Code) → slice_get codes unit ≡ Some code → (k : ℕ) (line : Code) → slice_get code k ≡ Some line → IsDepthRight code k line

-- lines that are passed over are dropped, and so is what follows the end of a body
abbrev pub SkippedLinesAreDropped : Type 0
SkippedLinesAreDropped = (here : Here) (code : List Code) (n : ℕ) (state : State) → n ≤ length code → runs here code (Skips n) state ≡ runs here (drop n code) (Skips 0) state

abbrev pub EndedBodiesAreOver : Type 0
EndedBodiesAreOver = (here : Here) (code : List Code) (state : State) → runs here code Ended state ≡ Some (ended state)

-- no unit has more flat lines than a text may have bytes, so that a number of 32 bits is enough to count those passed over
abbrev pub FlatCodeIsShort : Type 0
FlatCodeIsShort = (bytes : List ℕ) (text : Text) → IsRead bytes text → (codes : List (List Code)) → AreLowered text codes →
    (unit : ℕ) (code : List Code) → slice_get codes unit ≡ Some code → length code ≤ most_bytes

-- the output bits of a store are the numbers from place 25 on, and the output words those from place 41 on
abbrev pub OutputsAreNumbers : Type 0
OutputsAreNumbers = (bytes : List ℕ) (text : Text) → IsRead bytes text → (store : Store) → SameSlots (initial_of text) store → (numbers : List ℤ) → AreContents (frame_of_text text) store numbers →
    ((i : ℕ) → i < 16 → slice_get numbers (25 + i) ≡ Some (pos (bit_of (value_at store (Direct (OutputBit i))))))
    × ((i : ℕ) → i < 4 → slice_get numbers (41 + i) ≡ Some (word_of (value_at store (Direct (OutputWord i)))))
