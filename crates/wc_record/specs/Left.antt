-- What is left of a log: its rows and its refusal, if the bytes of the reader are known.
use Rattle.std.specs.Prelude.{◌≡◌, ◌≤◌, ◌<◌, ◌^◌, ◌⊎◌, ⊤, ℕ, ◌-◌, true, List, [], ◌∷◌, length, Option, Some, None, Result, Ok, Err, IfOk, IfSome}
use Rattle.wc_model.specs.Definitions.{Record, LogOf, log_of, log_after, last_moment, refused_at, with_row, LogRow}
use Rattle.csv.specs.Reading.{reader_source}
use Rattle.wc_record.specs.Cutting.{is_exhausted}
use Rattle.wc_record.specs.Reading.{HasRecords, borrowed}
use Rattle.wc_record.specs.Views.{IsDataInRange, head_view}
use Rattle.wc_record.specs.declared.log.LogEnd.{LogEnd}
use Rattle.wc_record.specs.declared.log.LogEnd.TheVariants.{AllRead, Raised}
use Rattle.wc_record.specs.declared.log.Rows.{Rows}
use Rattle.wc_record.specs.declared.row_head.RowHead.{RowHead}
use Rattle.wc_record.specs.declared.row_kind.LogFault.{LogFault}
use Rattle.wc_record.specs.declared.row_kind.LogFault.TheVariants as fault

-- what a call answers: a row or its head, nothing if no row is left, or a fault
abbrev pub Answer : Type 0 → Type 0
Answer A = Result (Option A) LogFault

-- what each call answers after an end
abbrev pub answer_at : {A : Type 0} → LogEnd → Answer A
answer_at AllRead = Ok None
answer_at (Raised raised) = Err raised

-- how an answer ends the log, if it does
abbrev pub end_after : {A : Type 0} → Answer A → Option LogEnd
end_after (Ok (Some row)) = None
end_after (Ok None) = Some AllRead
end_after (Err raised) = Some (Raised raised)

-- how the log has ended, if it has
abbrev pub ended : {R : Type 0} → Rows R → Option LogEnd
ended rows = rows.end

-- the number of rows that were read, the first one too
abbrev pub rows_read : {R : Type 0} → Rows R → ℕ
rows_read rows = rows.number

-- the moment of the last row, 0 before it
abbrev pub last_ms : {R : Type 0} → Rows R → ℕ
last_ms rows = rows.last

-- the bytes that are borrowed with the last row
abbrev pub row_bytes : {R : Type 0} → Rows R → List ℕ
row_bytes rows = rows.buffer.items

-- what the reader had spent when it was borrowed
abbrev pub started_at : {R : Type 0} → Rows R → ℕ
started_at rows = rows.start

-- the count of the reader from which on the bound on what is read is measured
abbrev pub bounded_from : {R : Type 0} → Rows R → ℕ
bounded_from rows = (reader_source rows.records.csv).start

-- a count of the reader that is borrowed
abbrev pub count_in : {R : Type 0} → (R → ℕ) → Rows R → ℕ
count_in count rows = count (borrowed (reader_source rows.records.csv))

-- the moment of a row, 0 if there is none
abbrev pub moment_or_zero : Option ℕ → ℕ
moment_or_zero None = 0
moment_or_zero (Some ms) = ms

-- the log after the records that were read (newest first)
abbrev pub log_following : List Record → List Record → LogOf
log_following [] left = log_of left
log_following (fields ∷ before) left = log_after (fields ∷ before) left

-- these records were read, and after them is this log
pub record IsAfterRecords {R : Type 0} (bytes_left : R → Option (List ℕ)) (rows : Rows R) (before left : List Record) : Type 0 where
  pub has : HasRecords bytes_left rows.records left
  pub number : rows.number ≡ length before
  pub last : rows.last ≡ moment_or_zero (last_moment before)
  pub few : rows.number ≤ 1000000

-- a log of which nothing is left
abbrev pub nothing_left : LogOf
nothing_left = record { rows = []; refusal = None }

-- an end says what is left; after a fault of the reader or of memory nothing is known
abbrev pub EndSays : LogEnd → LogOf → Type 0
EndSays AllRead log = log ≡ nothing_left
EndSays (Raised (fault.Refused number place)) log = log ≡ refused_at number place
EndSays (Raised fault.Read) log = ⊥
EndSays (Raised fault.Memory) log = ⊥

-- this is left
abbrev pub IsLeft : {R : Type 0} → (R → Option (List ℕ)) → Option LogEnd → Rows R → LogOf → Type 0
IsLeft bytes_left (Some end) rows log = EndSays end log
IsLeft bytes_left None rows log = (before : List Record) × (left : List Record) × IsAfterRecords bytes_left rows before left × (log ≡ log_following before left)

-- these rows and this refusal are left
abbrev pub HasLeft : {R : Type 0} → (R → Option (List ℕ)) → Rows R → LogOf → Type 0
HasLeft bytes_left rows log = IsLeft bytes_left rows.end rows log

-- a fault is the refusal that is left; a fault of the reader or of memory says nothing
abbrev pub IsRefusalLeft : {R : Type 0} → (R → Option (List ℕ)) → LogOf → LogFault → Rows R → Type 0
IsRefusalLeft bytes_left log (fault.Refused number place) rows = (log ≡ refused_at number place) × HasLeft bytes_left rows log
IsRefusalLeft bytes_left log fault.Read rows = ⊤
IsRefusalLeft bytes_left log fault.Memory rows = ⊤

-- an answer takes the first row that is left, which is the view of what it gives, or says that
-- none is left, or the refusal; a fault of the reader or of memory says nothing
abbrev pub Takes : {R A : Type 0} → (A → LogRow) → (R → Option (List ℕ)) → LogOf → Answer A → Rows R → Type 0
Takes view bytes_left log (Ok (Some given)) rows = (rest : LogOf) × (log ≡ with_row (view given) rest) × HasLeft bytes_left rows rest
Takes view bytes_left log (Ok None) rows = (log ≡ nothing_left) × HasLeft bytes_left rows log
Takes view bytes_left log (Err raised) rows = IsRefusalLeft bytes_left log raised rows

-- a row of that number, not before that moment, is the last that was read
pub record IsNext {R : Type 0} (number ms : ℕ) (rows : Rows R) (row : LogRow) : Type 0 where
  pub number_is : row.number ≡ number
  pub counted : rows_read rows ≡ row.number
  pub few : row.number ≤ 1000000
  pub in_order : ms ≤ row.ms
  pub kept : last_ms rows ≡ row.ms
  pub early : row.ms < 2 ^ 40
  pub in_range : IsDataInRange row.brings

-- an answer gives a row, or its head, that is the next: of that number, not before the last one
abbrev pub GivesNext : {R A : Type 0} → (A → LogRow) → ℕ → Rows R → Answer A → Rows R → Type 0
GivesNext view number old answer new = IfOk answer (λ given. IfSome given (λ row. IsNext number (last_ms old) new (view row)))

-- an answer gives the head of the next row, whose bytes are borrowed with it
abbrev pub GivesHead : {R : Type 0} → ℕ → Rows R → Answer RowHead → Rows R → Type 0
GivesHead number old answer new = GivesNext (head_view (row_bytes new)) number old answer new

-- a failed read has its cause in the reader: it has failed since, or its count of failures is
-- at its end, or as much was read as may be
abbrev pub HasCause : ℕ → ℕ → ℕ → ℕ → Type 0
HasCause failures_before failures start spent = (failures_before < failures) ⊎ (failures ≡ 2 ^ 64 - 1) ⊎ (is_exhausted start spent ≡ true)

-- a failed read of the borrowed reader has its cause in it
abbrev pub HasCauseIn : {R : Type 0} → (R → ℕ) → (R → ℕ) → ℕ → Rows R → Type 0
HasCauseIn failures spent before rows = HasCause before (count_in failures rows) (started_at rows) (count_in spent rows)

-- a fault that is the cause of a failed read: the reader's, if it has one, else memory
abbrev pub IsCause : {R : Type 0} → (R → ℕ) → (R → ℕ) → ℕ → Rows R → LogFault → Type 0
IsCause failures spent before rows raised =
    (raised ≡ fault.Read → HasCauseIn failures spent before rows) × (raised ≡ fault.Memory → HasCauseIn failures spent before rows → ⊥)
    × ((raised ≡ fault.Read) ⊎ (raised ≡ fault.Memory))

-- a failed read of the borrowed reader has its cause in what came since these rows
abbrev pub HasCauseSince : {R : Type 0} → (R → ℕ) → (R → ℕ) → Rows R → Rows R → Type 0
HasCauseSince failures spent old new = HasCauseIn failures spent (count_in failures old) new
