-- What comes of one row, whatever the scale represents, and of a log that gives no further row, with whoever observes the run: stated
-- of the row's moment and of what it brings. (The profile's own.)
use Rattle.wc_model.specs.declared.fault.Fault.TheVariants as fault
use Rattle.wc_record.specs.declared.row_kind.LogFault.TheVariants as log
use Rattle.std.specs.Prelude.{◌≡◌, ⊤, ℕ, List, ◌∷◌, ◌++◌, Option, IfSome, ◌⊎◌, Bool, true, false, [], length, Some, None, Result, Ok, Err}
use Rattle.std.specs.Io.KnownBytes.{Appends, Keeps}
use Rattle.wc_model.specs.Definitions.{PlateData, Logic, answer_line, RowData, LogRow, Past, LogOf, LogRefusal}
use Rattle.wc_model.specs.declared.fault.Fault.{Fault}
use Rattle.wc_record.specs.declared.row_kind.LogFault.{LogFault}
use Rattle.wc_run.specs.Logics.{IsRefusedRow, IsTaken, lines_of_row, logic_after}
use Rattle.wc_run.specs.Observing.{AreItems, items_of, lines_of_scan, Plan, Start, onto, text_coming, text_in_all}
use Rattle.wc_run.specs.Representation.{Represents}
use Rattle.wc_run.specs.declared.fault.RunFault.{RunFault}
use Rattle.wc_run.specs.declared.fault.RunFault.TheVariants.{Refused, Read, Write, Memory}
use Rattle.wc_run.specs.declared.row_seen.ScanSeen.{ScanSeen}
use Rattle.wc_run.specs.declared.log_scale.LogScale.{LogScale}
use Rattle.wc_run.specs.Runs.{AppendsFirst, AppendsPrefix, ReportsBy}

-- the row of this number and moment that brings this
abbrev pub row_at : ℕ → ℕ → RowData → LogRow
row_at number ms brings = record { number = number; ms = ms; brings = brings }

-- the scale represents what it represented, and one row more
abbrev pub TakesRow : {S : Type 0} → LogScale S → LogScale S → ℕ → RowData → Type 0
TakesRow old new ms brings = (plate : PlateData) (logic : Option Logic) (past : Past) (number : ℕ) → Represents old plate logic past → Represents new plate logic (row_at number ms brings ∷ past)

-- these answers, and this scan, are what the report has of that row
abbrev pub Gives : {S : Type 0} → LogScale S → ℕ → RowData → List ℕ → Option ScanSeen → Type 0
Gives old ms brings answers scan = (plate : PlateData) (logic : Option Logic) (past : Past) (number : ℕ) → Represents old plate logic past → lines_of_row plate logic past (row_at number ms brings) ≡ answer_line ms answers ++ lines_of_scan scan

-- and these the items of its scan, if they are looked at
abbrev pub GivesItems : {S : Type 0} → LogScale S → ℕ → RowData → Option ScanSeen → Type 0
GivesItems old ms brings scan = (plate : PlateData) (logic : Option Logic) (past : Past) (number : ℕ) → Represents old plate logic past → IfSome scan (λ done. AreItems plate logic past (row_at number ms brings) (items_of done))

-- a run with whatever logic the scale represents takes the row
abbrev pub RunsRow : {S : Type 0} → LogScale S → LogRow → Type 0
RunsRow old row = (plate : PlateData) (logic : Option Logic) (past : Past) → Represents old plate logic past → IsTaken (logic_after plate logic past) (logic_after plate logic (row ∷ past)) row

-- a scale is kept from a row by lack of memory, or because a run with whatever logic it represents refuses the row
abbrev pub StopsAtRow : {S : Type 0} → LogScale S → LogRow → RunFault → Type 0
StopsAtRow old row (Refused code place) = (plate : PlateData) (logic : Option Logic) (past : Past) → Represents old plate logic past → IsRefusedRow (logic_after plate logic past) row code place
StopsAtRow old row Read = ⊥
StopsAtRow old row Write = ⊥
StopsAtRow old row Memory = ⊤

-- A prefix of a text that is not written whole is written at a write fault, and when out of
-- memory nothing: a text is made before it is written.
abbrev pub IsCutShort : RunFault → Option (List ℕ) → Option (List ℕ) → List ℕ → Type 0
IsCutShort (Refused number place) old new text = ⊥
IsCutShort Read old new text = ⊥
IsCutShort Write old new text = AppendsPrefix old new text
IsCutShort Memory old new text = Keeps old new

-- the text is written, or cut short
abbrev pub Writes : {X : Type 0} → List ℕ → Result X RunFault → Option (List ℕ) → Option (List ℕ) → Type 0
Writes text (Ok x) old new = Appends old new text
Writes text (Err fault) old new = IsCutShort fault old new text

-- which rows an observer has seen, the newest first, of a run with this plate and this logic
abbrev pub Seeing : Type 0 → Type 1
Seeing O = O → PlateData → Option Logic → Past → Type 0

-- what an observer says of the bytes that its writer has taken after these rows, the newest first, of a run that began so
abbrev pub Writing : Type 0 → Type 1
Writing O = O → Start → Option (List ℕ) → PlateData → Option Logic → Past → Type 0

-- both, of an observer and the bytes that its writer has taken
abbrev pub seen_writing : {O : Type 0} → Seeing O → Writing O → Start → Seeing (O × Option (List ℕ))
seen_writing has_seen has_written start both plate logic past = has_seen both.0 plate logic past × has_written both.0 start both.1 plate logic past

-- what is said of the bytes that a writer has taken once these rows are all, with the refusal after them or with none
abbrev pub Ended : Type 1
Ended = Start → Option (List ℕ) → PlateData → Option Logic → List LogRow → Option LogRefusal → Type 0

-- so it is if a run came to the log's end, or to a refused row
abbrev pub EndsWhole : Ended → Start → PlateData → Option Logic → LogOf → Result ℕ RunFault → Option (List ℕ) → Type 0
EndsWhole ended start plate logic log (Ok count) taken = ended start taken plate logic log.rows log.refusal
EndsWhole ended start plate logic log (Err (Refused number place)) taken = ended start taken plate logic log.rows log.refusal
EndsWhole ended start plate logic log (Err fault) taken = ⊤

-- The row is done, seen and written. Or it is refused, and nothing is written; or the writer failed
-- at a prefix of what is written of it; or memory was refused, and nothing is written.
abbrev pub Does : {S O X : Type 0} → Seeing O → Plan → PlateData → Option Logic → Past → LogRow → LogScale S → O → Result X RunFault → Option (List ℕ) → Option (List ℕ) → Type 0
Does has_seen plan plate logic past row scale observer (Ok x) old new =
    IsTaken (logic_after plate logic past) (logic_after plate logic (row ∷ past)) row
    × Represents scale plate logic (row ∷ past) × has_seen observer plate logic (row ∷ past)
    × Appends old new (plan.at_row plate logic past row)
Does has_seen plan plate logic past row scale observer (Err (Refused code place)) old new =
    IsRefusedRow (logic_after plate logic past) row code place × has_seen observer plate logic past × Keeps old new
Does has_seen plan plate logic past row scale observer (Err Read) old new = ⊥
Does has_seen plan plate logic past row scale observer (Err Write) old new =
    IsTaken (logic_after plate logic past) (logic_after plate logic (row ∷ past)) row
    × AppendsPrefix old new (plan.at_row plate logic past row)
Does has_seen plan plate logic past row scale observer (Err Memory) old new = Keeps old new

-- the observer has seen all of these rows
abbrev pub HasSeenAll : {O : Type 0} → Seeing O → O → PlateData → Option Logic → List LogRow → Type 0
HasSeenAll has_seen observer plate logic rows = (past : Past) × (rows ≡ onto past []) × has_seen observer plate logic past

-- All rows were run, or those before the refused one, and seen and written. After a fault that of the
-- first of them was written, or a prefix of it.
abbrev pub RunsRows : {O : Type 0} → Seeing O → Plan → PlateData → Option Logic → LogOf → O → Result ℕ RunFault → Option (List ℕ) → Option (List ℕ) → Type 0
RunsRows has_seen plan plate logic log observer (Ok count) old new =
    (log.refusal ≡ None) × (count ≡ length log.rows) × HasSeenAll has_seen observer plate logic log.rows × Appends old new (text_coming plan plate logic [] log.rows)
RunsRows has_seen plan plate logic log observer (Err (Refused code place)) old new =
    (log.refusal ≡ Some (record { number = code; row = place })) × HasSeenAll has_seen observer plate logic log.rows × Appends old new (text_coming plan plate logic [] log.rows)
RunsRows has_seen plan plate logic log observer (Err Write) old new = AppendsPrefix old new (text_coming plan plate logic [] log.rows)
RunsRows has_seen plan plate logic log observer (Err fault) old new = AppendsFirst (text_coming plan plate logic []) log.rows old new

-- whether a fault of a device or of memory cut the rows short
abbrev pub is_cut_short : Result ℕ RunFault → Bool
is_cut_short (Ok count) = false
is_cut_short (Err (Refused number place)) = false
is_cut_short (Err fault) = true

-- the refusal with which the rows ended, if they did
abbrev pub refused_in : Result ℕ RunFault → Option (ℕ × ℕ)
refused_in (Ok count) = None
refused_in (Err (Refused number place)) = Some (number, place)
refused_in (Err fault) = None

-- A run writes by a plan: of each row as it comes, and after the last one, or the last before a refused one, the rest.
abbrev pub WritesBy : Plan → PlateData → Option Logic → LogOf → Result ℕ RunFault → Option (List ℕ) → Option (List ℕ) → Type 0
WritesBy plan plate logic log answer old new = ReportsBy (text_in_all plan plate logic log.refusal) (text_coming plan plate logic []) log answer old new

-- a refusal and a write fault stay as they are; what else kept the log from being run is classified by its cause
abbrev pub IsClassified : RunFault → RunFault → Type 0
IsClassified Read classified = (classified ≡ Read) ⊎ (classified ≡ Memory)
IsClassified Memory classified = (classified ≡ Read) ⊎ (classified ≡ Memory)
IsClassified fault classified = classified ≡ fault

-- what a run answers at a fault of a plate or a text
abbrev pub from_fault : Fault → RunFault
from_fault (fault.Refused number place) = Refused number place
from_fault fault.Memory = Memory

-- what a run answers at a log that gives no further row
abbrev pub from_log_fault : LogFault → RunFault
from_log_fault (log.Refused number place) = Refused number place
from_log_fault log.Read = Read
from_log_fault log.Memory = Memory
