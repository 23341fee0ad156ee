-- A report over a change of the program: up to it that of the old program alone, and from it that of the new one from what is
-- carried over. (The profile's own.)
use Rattle.std.specs.Prelude.{◌≡◌, ⊤, List, [], ◌∷◌, ◌++◌, Option, Some, None}
use Rattle.wc_model.specs.Definitions.{PlateData, carried, Store, Text, LogOf, image_after, RowData, Counts, Bytes, Inputs, Scan, Change, LogRow, Past, answer_of_row, AreRun, log_for, Logic, logic_following, programs, Program, ReportLine, answer_line, report_lines, scan_line, state_with}

-- a row that changes no program
abbrev pub IsNoChange : RowData → Type 0
IsNoChange (Counts counts) = ⊤
IsNoChange (Bytes bytes) = ⊤
IsNoChange (Inputs inputs) = ⊤
IsNoChange Scan = ⊤
IsNoChange Change = ⊥

-- no row of these does
abbrev pub HasNoChange : List LogRow → Type 0
HasNoChange [] = ⊤
HasNoChange (row ∷ rows) = IsNoChange row.brings × HasNoChange rows

-- the lines of a row that comes to a program in this state, after the rows so far
abbrev pub lines_at : {State : Type 0} → PlateData → Program State → State → RowData → Past → LogRow → List ReportLine
lines_at plate program state (Counts counts) past row = []
lines_at plate program state (Bytes bytes) past row = answer_line row.ms (answer_of_row plate past row)
lines_at plate program state (Inputs inputs) past row = []
lines_at plate program state Scan past row = scan_line row.ms (program.scan state (image_after plate past) row.ms)
lines_at plate program state Change past row = []

-- the lines of rows that come to it, each from what the one before left
abbrev pub lines_from : {State : Type 0} → PlateData → Program State → State → Past → List LogRow → List ReportLine
lines_from plate program state past [] = []
lines_from plate program state past (row ∷ rows) =
    lines_at plate program state row.brings past row
    ++ lines_from plate program (state_with plate program row.brings row.ms past state) (row ∷ past) rows

-- Before the first change the report is that of the text alone, whatever the next one is.
abbrev pub ReportsUpToTheChange : Type 0
ReportsUpToTheChange =
    (plate : PlateData) (text : Text) (store : Store) (next other : Option Text) (first following : List LogRow) → HasNoChange first →
    (rest : List ReportLine)
    × (report_lines plate programs (record { text = text; store = store; next = next }) [] (first ++ following)
    ≡ report_lines plate programs (record { text = text; store = store; next = other }) [] first ++ rest)

-- At a change the report goes on with the next text from the store that is carried over to it: no line is the change's.
abbrev pub ReportsFromTheChange : Type 0
ReportsFromTheChange =
    (plate : PlateData) (start : Logic) (past : Past) (text new : Text) (store : Store) (row : LogRow) (rows : List LogRow) → row.brings ≡ Change →
    logic_following plate start past ≡ record { text = text; store = store; next = Some new } →
    report_lines plate programs start past (row ∷ rows)
    ≡ lines_from plate programs (record { text = new; store = carried text store new; next = None }) (row ∷ past) rows

-- The rows that a run takes of a log are all run with its machine; rows without a change are, whether or not there is a next
-- program; and of rows that are run the first n are.
pub record RowsAreRun : Type 0 where
  pub taken : (logic : Logic) (log : LogOf) → AreRun logic.next (log_for (Some logic) log).rows
  pub unchanged : (next : Option Text) (rows : List LogRow) → HasNoChange rows → AreRun next rows
  pub first : (next : Option Text) (rows more : List LogRow) → AreRun next (rows ++ more) → AreRun next rows
