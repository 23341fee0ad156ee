-- What a run of a program writes: the report whose scans are the text's, up to a change those of the first text and from there
-- those of the next. (The profile's own.)
use Rattle.std.specs.Prelude.{ℕ, List, Option, Some, None}
use Rattle.wc_model.specs.Language.Carried.{carried}
use Rattle.wc_model.specs.Language.Meaning.{Outcome, Done, Stuck}
use Rattle.wc_model.specs.Instrument.Plates.{PlateData}
use Rattle.wc_model.specs.Say.Report.{Program, ScanResult, Scans, report, report_last, state_after}
use Rattle.wc_model.specs.Run.Rows.{LogRow, Past}
use Rattle.wc_model.specs.Language.Scans.{scan_of, initial_of, outputs_of, steps_of}
use Rattle.wc_model.specs.Language.Store.{Store}
use Rattle.wc_model.specs.Language.Tree.{Text}

-- what a scan that is done shows; one that is stuck would show the store it began with, and no text that is loaded is ever
-- stuck
abbrev pub result_of : Store → Outcome → ScanResult Store
result_of old (Done result store trace) = record { steps = steps_of (Done result store trace); outputs = outputs_of store; after = store }
result_of old (Stuck reason) = record { steps = 0; outputs = outputs_of old; after = old }

-- the scans of a text, each from the store that the one before left
abbrev pub scans_of : Text → Scans Store
scans_of text store image now = result_of store (scan_of text store image now)

-- the logic with a scale: the text that runs, the store from which its next scan goes on, and the next text if one is left
pub record Logic : Type 0 where
  pub text : Text
  pub store : Store
  pub next : Option Text

-- a text before its first scan, and the next one
abbrev pub first_logic : Text → Option Text → Logic
first_logic text next = record { text = text; store = initial_of text; next = next }

-- what a scan shows, and the logic with the store that it leaves
abbrev pub with_logic : Logic → ScanResult Store → ScanResult Logic
with_logic logic result =
    record { steps = result.steps; outputs = result.outputs; after = record { text = logic.text; store = result.after; next = logic.next } }

-- the scans of a logic are those of its text
abbrev pub scan_logic : Scans Logic
scan_logic logic image now = with_logic logic (scans_of logic.text logic.store image now)

-- a change to a next text, which goes on from what is carried over; no further one is left then
abbrev pub change_to : Logic → Option Text → Logic
change_to logic None = logic
change_to logic (Some new) = record { text = new; store = carried logic.text logic.store new; next = None }

-- a change takes the next text; a row that wants one if none is left is refused, and not run
abbrev pub change_logic : Logic → Logic
change_logic logic = change_to logic logic.next

-- programs with a scale, the one that runs and the next
abbrev pub programs : Program Logic
programs = record { scan = scan_logic; change = change_logic }

-- what a run writes, from a logic on
abbrev pub program_report : PlateData → Logic → List LogRow → List ℕ
program_report plate logic rows = report plate programs logic rows

-- what a run writes that keeps the last n scans
abbrev pub program_report_last : ℕ → PlateData → Logic → List LogRow → List ℕ
program_report_last n plate logic rows = report_last n plate programs logic rows

-- the logic after rows, the newest first
abbrev pub logic_following : PlateData → Logic → Past → Logic
logic_following plate logic past = state_after plate programs logic past
