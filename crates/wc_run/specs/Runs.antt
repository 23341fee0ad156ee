-- What an answer of a run says of the log and of what was written.
use Rattle.std.specs.Prelude.{◌≡◌, ◌≤◌, ℕ, List, ◌++◌, length, Option, Some, None, IfSome, IsErrOf, Result, Ok, Err}
use Rattle.std.specs.Io.KnownBytes.{Appends}
use Rattle.wc_model.specs.Definitions.{LogOf, Record, PlateData, LogRow, HasFailedSince, line_report, Logic}
use Rattle.wc_laws_instrument.specs.Logs.{without_scan_lines}
use Rattle.wc_record.specs.{HasCause}
use Rattle.wc_record.specs.Reported.{record_at, records_read}
use Rattle.wc_run.specs.Logics.{run_report, run_report_last}
use Rattle.wc_run.specs.Observing.{Written}
use Rattle.wc_run.specs.declared.fault.RunFault.{RunFault}
use Rattle.wc_run.specs.declared.fault.RunFault.TheVariants.{Refused, Read, Write, Memory}

-- a prefix of the text was written
abbrev pub AppendsPrefix : Option (List ℕ) → Option (List ℕ) → List ℕ → Type 0
AppendsPrefix old new text = (prefix : List ℕ) × (rest : List ℕ) × (text ≡ prefix ++ rest) × Appends old new prefix

-- the text of the first of these rows was written
abbrev pub AppendsFirst : (List LogRow → List ℕ) → List LogRow → Option (List ℕ) → Option (List ℕ) → Type 0
AppendsFirst text rows old new = (first : List LogRow) × (left : List LogRow) × (rows ≡ first ++ left) × Appends old new (text first)

-- All rows were run, or those before the refused one, and their whole text was written; after a
-- read fault or out of memory what is written of the first of them as they come, after a write
-- fault a prefix of the whole.
abbrev pub ReportsBy : (List LogRow → List ℕ) → (List LogRow → List ℕ) → LogOf → Result ℕ RunFault → Option (List ℕ) → Option (List ℕ) → Type 0
ReportsBy whole coming log (Ok count) old new = (log.refusal ≡ None) × (count ≡ length log.rows) × Appends old new (whole log.rows)
ReportsBy whole coming log (Err (Refused number place)) old new = (log.refusal ≡ Some (record { number = number; row = place })) × Appends old new (whole log.rows)
ReportsBy whole coming log (Err Write) old new = AppendsPrefix old new (whole log.rows)
ReportsBy whole coming log (Err fault) old new = AppendsFirst coming log.rows old new

-- what a run of rows writes that prints every scan, or the last n alone
abbrev pub report_printing : Option ℕ → PlateData → Option Logic → List LogRow → List ℕ
report_printing None plate logic = run_report plate logic
report_printing (Some number) plate logic = run_report_last number plate logic

-- the same, whatever the refusal after them
abbrev pub report_written : Option ℕ → Written
report_written last plate logic refusal rows = report_printing last plate logic rows

-- what it writes of rows as they come: of the last scans none, so the answers alone
abbrev pub report_coming : Option ℕ → PlateData → Option Logic → List LogRow → List ℕ
report_coming None plate logic = run_report plate logic
report_coming (Some number) plate logic = line_report plate

-- A run writes the report, line for line as the rows come; or, if the last n scans are asked
-- for, the answers, which are those of a run with no program, and those scans after them.
abbrev pub Reports : Option ℕ → PlateData → Option Logic → LogOf → Result ℕ RunFault → Option (List ℕ) → Option (List ℕ) → Type 0
Reports last plate logic log answer old new = ReportsBy (report_printing last plate logic) (report_coming last plate logic) log answer old new

-- What was written is the line's answers to the rows, once the lines that begin with an S are taken out of it.
abbrev pub AppendsLine : PlateData → List LogRow → Option (List ℕ) → Option (List ℕ) → Type 0
AppendsLine plate rows old new = (text : List ℕ) × Appends old new text × (without_scan_lines text ≡ line_report plate rows)

-- so of the first of these rows
abbrev pub AppendsLineOfFirst : PlateData → List LogRow → Option (List ℕ) → Option (List ℕ) → Type 0
AppendsLineOfFirst plate rows old new = (first : List LogRow) × (left : List LogRow) × (rows ≡ first ++ left) × AppendsLine plate first old new

-- What was written is a prefix of the line's answers to the rows, once the lines that begin with an S
-- are taken out of it: the last line may be cut, and one of a scan still begins with an S then.
abbrev pub AppendsLinePrefix : PlateData → List LogRow → Option (List ℕ) → Option (List ℕ) → Type 0
AppendsLinePrefix plate rows old new = (text : List ℕ) × (rest : List ℕ) × Appends old new text × (line_report plate rows ≡ without_scan_lines text ++ rest)

-- Whatever the program, what is left of the bytes that a run writes without its lines of scans is
-- what a run with no program writes: of all rows, of those before the refused one, or, after a read
-- fault or out of memory, of the first of them. After a write fault it is a prefix of that of all rows.
abbrev pub LeavesLine : PlateData → LogOf → Result ℕ RunFault → Option (List ℕ) → Option (List ℕ) → Type 0
LeavesLine plate log (Ok count) old new = AppendsLine plate log.rows old new
LeavesLine plate log (Err (Refused number place)) old new = AppendsLine plate log.rows old new
LeavesLine plate log (Err Write) old new = AppendsLinePrefix plate log.rows old new
LeavesLine plate log (Err fault) old new = AppendsLineOfFirst plate log.rows old new

-- The log's reader has not failed if a run came to the log's end or to a refused row.
abbrev pub HasNotFailed : Result ℕ RunFault → ℕ → ℕ → Type 0
HasNotFailed (Ok count) old new = new ≤ old
HasNotFailed (Err (Refused number place)) old new = new ≤ old
HasNotFailed (Err fault) old new = Unit {0}

-- at a refusal these are the fields of the refused row: the record of that number
abbrev pub ReportsFault : List Record → Record → RunFault → Type 0
ReportsFault records fields (Refused number place) = fields ≡ record_at records place
ReportsFault records fields fault = Unit {0}

-- at a refusal a run answers with the fields of the refused row
abbrev pub ReportsRow : {X : Type 0} → List Record → Record → Result X RunFault → Type 0
ReportsRow records fields (Ok x) = Unit {0}
ReportsRow records fields (Err fault) = ReportsFault records fields fault

-- the refused row of a log whose bytes are known is reported
abbrev pub ReportsRefused : {X : Type 0} → Option (List ℕ) → Record → Result X RunFault → Type 0
ReportsRefused known fields answer = IfSome known (λ bytes. ReportsRow (records_read bytes) fields answer)

-- a write fault is reported if the writer's failed calls rose, and only then
abbrev pub ReportsWrite : RunFault → ℕ → ℕ → Type 0
ReportsWrite Write old new = HasFailedSince old new
ReportsWrite fault old new = new ≡ old

-- a run answers with a write fault if the writer's failed calls rose, and only then
abbrev pub ReportsWrites : {X : Type 0} → Result X RunFault → ℕ → ℕ → Type 0
ReportsWrites (Ok x) old new = new ≡ old
ReportsWrites (Err fault) old new = ReportsWrite fault old new

-- A read fault is reported if the reader has failed since, or as much was read as may be, and out of memory only without such a
-- cause; a write fault if the writer failed, and only then. After the last row, or a refused one, the reader has not failed.
pub record ReportsFaults (result : Result ℕ RunFault) (failures_before failures spent_before spent writes_before writes : ℕ) : Type 0 where
  pub read : IsErrOf result Read → HasCause failures_before failures spent_before spent
  pub memory : IsErrOf result Memory → HasCause failures_before failures spent_before spent → ⊥
  pub writer : ReportsWrites result writes_before writes
  pub reader : HasNotFailed result failures_before failures

-- a fault at a row is a refusal of that row, or of a device or memory
abbrev pub IsFaultAt : ℕ → RunFault → Type 0
IsFaultAt row (Refused number place) = place ≡ row
IsFaultAt row fault = Unit {0}

-- a fault of a device or of memory
abbrev pub IsNoRefusal : RunFault → Type 0
IsNoRefusal (Refused number place) = ⊥
IsNoRefusal fault = Unit {0}
