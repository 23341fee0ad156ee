-- What a picture has seen of a run, of whose bytes nothing is said: its rows, in the columns of their time. (The profile's own.)
use Rattle.std.specs.Prelude.{◌≡◌, ⊤, ℕ, ℤ, Bool, true, pos, List, [], ◌∷◌, ◌++◌, Option, Some, None, length, max, option_map}
use Rattle.wc_model.specs.Definitions.{PlateData, requests_in, RowData, Counts, Bytes, Inputs, Scan, Change, LogRow, Past, answer_of_row, history_of, line_bytes, Logic, ReportLine, AnswerLine, ScanLine}
use Rattle.wc_model.specs.Run.ProcessImage.{inputs_of}
use Rattle.wc_model.specs.declared.image.Outputs.{Outputs}
use Rattle.wc_run.specs.{lines_of_row, logic_after, text_in_all, silent_plan}
use Rattle.wc_sma.specs.Feeding.{HasRead}
use Rattle.wc_view_columns.specs.{HasFollowed, counted, AreFrom, Row, nothing, held_at, IsTimeLineOf}
use Rattle.wc_view_columns.specs.declared.events.Events.{Events}
use Rattle.wc_view_columns.specs.declared.line.TimeLine.{TimeLine}
use Rattle.wc_view_watch.specs.{numbers_of, begins_with as names_begin, IsFirstUnknown, FitLogic, HasRefused as names_refused}
use Rattle.wc_view_watch.specs.declared.watched_names.WatchedNames.{WatchedNames}
use Rattle.wc_controller.specs.{Observed, Writer}
use Rattle.wc_view_watch.specs.declared.names.UnknownName.{UnknownName}
use Rattle.wc_view_picture.specs.declared.view.ScanSteps.{ScanSteps}
use Rattle.wc_view_picture.specs.declared.picture.Picture.{Picture}

-- outputs none of which is set
abbrev pub no_outputs : Outputs
no_outputs = record { bits = 0; words = pos 0 ∷ pos 0 ∷ pos 0 ∷ pos 0 ∷ [] }

-- the outputs of the scan in some lines of the report, and those before them if there is none
abbrev pub outputs_with : List ReportLine → Outputs → Outputs
outputs_with [] outputs = outputs
outputs_with (ScanLine ms steps new ∷ lines) outputs = outputs_with lines new
outputs_with (AnswerLine ms bytes ∷ lines) outputs = outputs_with lines outputs

-- the outputs of the last scan so far; before the first one none is set
abbrev pub outputs_after : PlateData → Option Logic → Past → Outputs
outputs_after plate logic [] = no_outputs
outputs_after plate logic (row ∷ past) = outputs_with (lines_of_row plate logic past row) (outputs_after plate logic past)

-- the scan in some lines, with its steps; nothing if there is none
abbrev pub scan_in : List ReportLine → Events
scan_in [] = nothing
scan_in (ScanLine ms steps outputs ∷ lines) = record nothing { scans = 1; steps = steps }
scan_in (AnswerLine ms bytes ∷ lines) = scan_in lines

-- a change of the program, if one runs
abbrev pub change_of : ℕ → Option Logic → Events
change_of ms None = nothing
change_of ms (Some logic) = record nothing { changes = 1; marked = Some ms }

-- the most steps of a scan, with those of the scan in some lines
abbrev pub most_with : List ReportLine → ℕ → ℕ
most_with [] most = most
most_with (ScanLine ms steps outputs ∷ lines) most = most_with lines (max most steps)
most_with (AnswerLine ms bytes ∷ lines) most = most_with lines most

-- the most steps of a scan of the program that runs at a row that brings this: none has run yet after a change
abbrev pub most_at : RowData → ℕ → ℕ
most_at (Counts counts) most = most
most_at (Bytes bytes) most = most
most_at (Inputs inputs) most = most
most_at Scan most = most
most_at Change most = 0

-- the most steps of a scan of the program that runs after the rows so far
abbrev pub most_after : PlateData → Option Logic → Past → ℕ
most_after plate logic [] = 0
most_after plate logic (row ∷ past) = most_with (lines_of_row plate logic past row) (most_at row.brings (most_after plate logic past))

-- the most steps that are kept of a program, if there is one
abbrev pub most_of : Option ScanSteps → Option ℕ
most_of steps = option_map (λ steps. steps.most) steps

-- the most steps of the program whose place another one takes at a row that brings this, if one runs; else those before
abbrev pub replaced_at : RowData → Option ℕ → Option ℕ → Option ℕ
replaced_at (Counts counts) running before = before
replaced_at (Bytes bytes) running before = before
replaced_at (Inputs inputs) running before = before
replaced_at Scan running before = before
replaced_at Change None before = before
replaced_at Change (Some most) before = Some most

-- the most steps of the program that the running one has replaced, if there is one
abbrev pub replaced_after : PlateData → Option Logic → Past → Option ℕ
replaced_after plate logic [] = None
replaced_after plate logic (row ∷ past) =
    replaced_at row.brings (option_map (λ running. most_after plate logic past) logic) (replaced_after plate logic past)

-- What happened at a row that brings this, after those so far: of bytes the requests that they complete, each with the answer
-- that the line gave.
abbrev pub HasHappened : PlateData → Option Logic → Past → LogRow → RowData → Events → Type 0
HasHappened plate logic past row (Counts counts) events = events ≡ nothing
HasHappened plate logic past row (Bytes bytes) events =
    (at : ℕ) × HasFollowed row.ms (requests_in (line_bytes past) bytes) (answer_of_row plate past row) at events
HasHappened plate logic past row (Inputs inputs) events = events ≡ nothing
HasHappened plate logic past row Scan events = events ≡ scan_in (lines_of_row plate logic past row)
HasHappened plate logic past row Change events = events ≡ change_of row.ms logic

-- the list of the names whose variables are drawn, if there is one
abbrev pub list_of : Picture → Option (List ℕ)
list_of picture = option_map (λ list. list.now) picture.list

-- a run begins if none of them is unknown
abbrev pub begins_with : Option (List ℕ) → Option Logic → Bool
begins_with None logic = true
begins_with (Some list) logic = names_begin list logic

-- they mean what they mean in the logic
abbrev pub AreNamesOf : Option (List ℕ) → WatchedNames → Option Logic → Type 0
AreNamesOf None names logic = ⊤
AreNamesOf (Some list) names logic = FitLogic names list logic

-- the first unknown one was found
abbrev pub HasRefused : Option (List ℕ) → Picture → Option Logic → Type 0
HasRefused None picture logic = ⊥
HasRefused (Some list) picture logic = names_refused list picture.names logic

-- the numbers of the variables after the rows so far
abbrev pub numbers_after : Option (List ℕ) → PlateData → Option Logic → Past → List (Option ℤ)
numbers_after None plate logic past = []
numbers_after (Some list) plate logic past = numbers_of list (logic_after plate logic past)

-- a row of the picture is that of the log, after those so far: at its time, with what then holds and what happened at it
pub record IsRowOf (list : Option (List ℕ)) (plate : PlateData) (logic : Option Logic) (past : Past) (row : LogRow) (shown : Row) : Type 0 where
  pub ms : shown.ms ≡ row.ms
  pub held : shown.held ≡ held_at plate (history_of (row ∷ past)) (inputs_of (row ∷ past)) (outputs_after plate logic (row ∷ past)) (numbers_after list plate logic (row ∷ past))
  pub events : HasHappened plate logic past row row.brings shown.events

-- the rows of the picture are those of the log so far, in the order of the log
abbrev pub AreRowsOf : Option (List ℕ) → PlateData → Option Logic → Past → List Row → Type 0
AreRowsOf list plate logic [] rows = rows ≡ []
AreRowsOf list plate logic (row ∷ past) rows =
    (before : List Row) × ((shown : Row) × (rows ≡ before ++ (shown ∷ [])) × AreRowsOf list plate logic past before × IsRowOf list plate logic past row shown)

-- The columns are those of the rows, whose times never go back in a log; there are none before the first row.
abbrev pub IsTimeOf : List Row → Option TimeLine → Type 0
IsTimeOf rows None = rows ≡ []
IsTimeOf rows (Some line) = AreFrom 0 rows → IsTimeLineOf rows line

-- no row has been seen, and no program
pub record IsNew (picture : Picture) : Type 0 where
  pub inputs : picture.inputs ≡ 0
  pub outputs : picture.outputs ≡ no_outputs
  pub requests : HasRead picture.tracker.requests []
  pub running : picture.running ≡ None
  pub before : picture.before ≡ None
  pub rows : picture.rows ≡ 0
  pub line : picture.line ≡ None

-- What a picture has seen of the rows so far: what they leave, how many there are, and the columns of their time.
pub record HasSeen (picture : Picture) (plate : PlateData) (logic : Option Logic) (past : Past) : Type 0 where
  pub inputs : picture.inputs ≡ inputs_of past
  pub outputs : picture.outputs ≡ outputs_after plate logic past
  pub requests : HasRead picture.tracker.requests (line_bytes past)
  pub running : most_of picture.running ≡ option_map (λ running. most_after plate logic past) logic
  pub before : most_of picture.before ≡ replaced_after plate logic past
  pub count : picture.rows ≡ counted (length past)
  pub names : AreNamesOf (list_of picture) picture.names (logic_after plate logic past)
  pub line : (rows : List Row) × AreRowsOf (list_of picture) plate logic past rows × IsTimeOf rows picture.line

-- it begins if no name of the list is unknown
abbrev pub drawn : Option (List ℕ) → Observed
drawn list = record { written = text_in_all silent_plan; begins = begins_with list }

-- a writer of which only the failed calls are counted
abbrev pub unsaid : ℕ → Writer
unsaid failures = record { taken = None; failures = failures }

-- this is the first name of the list that the logic has not, if there is a list
abbrev pub IsUnknownOf : Option (List ℕ) → Option Logic → UnknownName → Type 0
IsUnknownOf None logic name = ⊥
IsUnknownOf (Some list) logic name = IsFirstUnknown list logic name
