-- The headline, stated of the definitions: the meaning of the text, its bound, and the report, also of programs that follow one another with a scale. (The profile's own.)
use Rattle.std.specs.Prelude.{⊤, ℕ, List, [], ◌∷◌, ◌≡◌, ◌≤◌, length, reverse, Option, None}
use Rattle.wc_model.specs.Definitions.{PlateData, carried, IsLoaded, IsNextLoaded, Store, Text, Past, LogRow, scans_of, Logic, first_logic, logic_following, programs, Program, ScanResult, state_after, IsFreeOfPrograms, Outcome, Done, Stuck, IsProgramBound, image_after, AreRun}
use Rattle.wc_model.specs.Language.Scans.{initial_of, outputs_of, scan_of}
use Rattle.wc_laws_instrument.specs.Changes.{HasNoChange}

-- the text that runs, the store from which its next scan goes on, and the texts that follow
pub record Turns : Type 0 where
  pub text : Text
  pub store : Store
  pub nexts : List Text

-- a text before its first scan, and those that follow it
abbrev pub first_turn : Text → List Text → Turns
first_turn text nexts = record { text = text; store = initial_of text; nexts = nexts }

-- what a scan shows, and the text with the store that the scan leaves
abbrev pub with_store : Turns → ScanResult Store → ScanResult Turns
with_store turns result =
    record { steps = result.steps; outputs = result.outputs; after = record { text = turns.text; store = result.after; nexts = turns.nexts } }

-- a change takes the first text that follows, which goes on from what is carried over; if none follows nothing changes
abbrev pub change_in : Text → Store → List Text → Turns
change_in text store [] = record { text = text; store = store; nexts = [] }
change_in text store (new ∷ nexts) = record { text = new; store = carried text store new; nexts = nexts }

-- the programs in turn, with a scale
abbrev pub in_turn : Program Turns
in_turn = record {
  scan = λ turns image ms. with_store turns (scans_of turns.text turns.store image ms);
  change = λ turns. change_in turns.text turns.store turns.nexts;
}

-- what runs after whatever rows have come, newest first
abbrev pub turns_after : PlateData → Turns → Past → Turns
turns_after plate turns past = state_after plate in_turn turns past

-- each text is loaded from some bytes
abbrev pub AreLoaded : List Text → Type 0
AreLoaded [] = ⊤
AreLoaded (text ∷ texts) = ((bytes : List ℕ) × IsLoaded bytes text) × AreLoaded texts

-- the outcome is done, in at most n items
abbrev pub EndsWithin : ℕ → Outcome → Type 0
EndsWithin bound (Done result store trace) = length trace ≤ bound
EndsWithin bound (Stuck reason) = ⊥

-- what a scan's line shows is the length of the outcome's trace and the outputs of the store that
-- it leaves, from which the next scan of the same text goes on; no line is that of a stuck scan
abbrev pub ShowsOutcome : Logic → Outcome → ScanResult Logic → Type 0
ShowsOutcome logic (Done result store trace) shown =
    (shown.steps ≡ length trace) × (shown.outputs ≡ outputs_of store) × (shown.after ≡ record { text = logic.text; store = store; next = logic.next })
ShowsOutcome logic (Stuck reason) shown = ⊥

-- the store after rows, from that of the declarations on
abbrev pub store_after : PlateData → Text → Past → Store
store_after plate text past = (logic_following plate (first_logic text None) past).store

-- the outcome of a logic's scan at a moment, after rows
abbrev pub outcome_of : PlateData → Logic → Past → ℕ → Outcome
outcome_of plate logic past ms = scan_of logic.text logic.store (image_after plate past) ms

-- A program with a scale, after whatever rows have come (newest first), none of which changes
-- the program:
--     scan     the scan of the next moment ends within the bound
--     shown    its line shows what that scan means
--     line     the answers in a report are those of a run with no program
pub record KeepsToItself (plate : PlateData) (text : Text) (bound : ℕ) : Type 0 where
  pub scan : (past : Past) → HasNoChange past → (ms : ℕ) → EndsWithin bound (scan_of text (store_after plate text past) (image_after plate past) ms)
  pub shown : (past : Past) → HasNoChange past → (ms : ℕ) →
      ShowsOutcome (record { text = text; store = store_after plate text past; next = None }) (scan_of text (store_after plate text past) (image_after plate past) ms)
      (programs.scan (record { text = text; store = store_after plate text past; next = None }) (image_after plate past) ms)
  pub line : (rows : List LogRow) → HasNoChange rows → IsFreeOfPrograms plate programs (first_logic text None) rows

-- A program that has a next one keeps to itself too, after whatever rows have come that are run, with
-- the change to the next one among them or not. The text is the one that runs at that scan, and the bound
-- its own.
pub record KeepsOverAChange (plate : PlateData) (text : Text) (next : Option Text) : Type 0 where
  pub scan : (past : Past) → AreRun next (reverse past) → (ms bound : ℕ) → IsProgramBound (logic_following plate (first_logic text next) past).text bound →
      EndsWithin bound (outcome_of plate (logic_following plate (first_logic text next) past) past ms)
  pub shown : (past : Past) → AreRun next (reverse past) → (ms : ℕ) →
      ShowsOutcome (logic_following plate (first_logic text next) past) (outcome_of plate (logic_following plate (first_logic text next) past) past ms)
      (programs.scan (logic_following plate (first_logic text next) past) (image_after plate past) ms)
  pub line : (rows : List LogRow) → AreRun next rows → IsFreeOfPrograms plate programs (first_logic text next) rows

-- what a scan of one of several programs shows is what it means, and the others stay next
abbrev pub ShowsInTurn : Turns → Outcome → ScanResult Turns → Type 0
ShowsInTurn turns (Done result store trace) shown =
    (shown.steps ≡ length trace) × (shown.outputs ≡ outputs_of store) × (shown.after ≡ record { text = turns.text; store = store; nexts = turns.nexts })
ShowsInTurn turns (Stuck reason) shown = ⊥

-- A program that others follow, as many as there are, keeps to itself: after whatever rows, in whatever
-- order scans and changes come, the next scan of the text that runs then ends within its bound, its
-- line shows what that scan means, and the answers are those of a run with no program.
pub record KeepsInTurn (plate : PlateData) (first : Turns) : Type 0 where
  pub scan : (past : Past) (ms bound : ℕ) → IsProgramBound (turns_after plate first past).text bound →
      EndsWithin bound (scan_of (turns_after plate first past).text (turns_after plate first past).store (image_after plate past) ms)
  pub shown : (past : Past) (ms : ℕ) →
      ShowsInTurn (turns_after plate first past) (scan_of (turns_after plate first past).text (turns_after plate first past).store (image_after plate past) ms)
      (in_turn.scan (turns_after plate first past) (image_after plate past) ms)
  pub line : (rows : List LogRow) → IsFreeOfPrograms plate in_turn first rows

-- Each loaded text has a bound, and with it keeps to itself with every plate; and so it does over a
-- change to whatever next text is loaded, and over as many changes as one likes.
pub record HasTheHeadline (plate : PlateData) (text : Text) : Type 0 where
  pub bound : ℕ
  pub is_bound : IsProgramBound text bound
  pub keeps : (n : ℕ) → IsProgramBound text n → KeepsToItself plate text n
  pub changes : (next : Option Text) → IsNextLoaded next → KeepsOverAChange plate text next
  pub turns : (nexts : List Text) → AreLoaded nexts → KeepsInTurn plate (first_turn text nexts)

abbrev pub IsTheHeadline : Type 0
IsTheHeadline = (plate : PlateData) (bytes : List ℕ) (text : Text) → IsLoaded bytes text → HasTheHeadline plate text
