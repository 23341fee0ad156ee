-- What the steps on the way to a row say and keep.
use Rattle.std.specs.Prelude.{◌≡◌, ⊤, IfErr, ℕ, List, [], ◌∷◌, Option, Some, None, Ok, Err}
use Rattle.csv.specs.Records.{fields_of}
use Rattle.wc_model.specs.Run.Log.{Record, LogOf, log_after, log_of, refused_at, with_row}
use Rattle.wc_record.specs.Left.{Answer, GivesHead, IsAfterRecords, log_following, nothing_left}
use Rattle.wc_record.specs.Reported.{HasRefused, IsAmong, all_records}
use Rattle.wc_record.specs.Views.{head_view}
use Rattle.wc_record.specs.declared.log.Rows.{Rows}
use Rattle.wc_record.specs.declared.row_head.RowHead.{RowHead}
use Rattle.wc_record.specs.declared.row_kind.LogFault.{LogFault}
use Rattle.wc_record.specs.declared.row_kind.LogFault.TheVariants as fault

-- the first row was read, and after it is the rest of these records
abbrev pub IsAfterFirst : {R : Type 0} → (R → Option (List ℕ)) → Rows R → List Record → Type 0
IsAfterFirst bytes_left rows left =
    (fields : Record) × (rest : List Record) × (log_of left ≡ log_after (fields ∷ []) rest) × IsAfterRecords bytes_left rows (fields ∷ []) rest × (left ≡ fields ∷ rest)

-- a refusal says what is left; a fault of the reader or of memory says nothing
abbrev pub RefusesRow : LogFault → LogOf → Type 0
RefusesRow (fault.Refused number place) log = log ≡ refused_at number place
RefusesRow fault.Read log = ⊤
RefusesRow fault.Memory log = ⊤

-- a refusal says what is left of the log, and its record is the current one
abbrev pub RefusesAt : {R : Type 0} → LogFault → List Record → List Record → Rows R → Type 0
RefusesAt raised before left rows = RefusesRow raised (log_following before left) × HasRefused raised (all_records before left) (fields_of rows.row)

-- if these records were read and these are left, an answer gives the first row that is left, with its bytes in the
-- buffer and its current record, or says that none is left, or the refusal
abbrev pub GivesRecord : {R : Type 0} → (R → Option (List ℕ)) → List Record → List Record → Answer RowHead → Rows R → Type 0
GivesRecord bytes_left before left (Ok (Some row)) rows =
    (read : List Record) × (rest : List Record) × (log_following before left ≡ with_row (head_view rows.buffer.items row) (log_following read rest))
    × IsAmong bytes_left rows (all_records before left) read rest
GivesRecord bytes_left before left (Ok None) rows = log_following before left ≡ nothing_left
GivesRecord bytes_left before left (Err raised) rows = RefusesAt raised before left rows

-- whatever records were read and are left, the answer gives the first row that is left
abbrev pub GivesLeft : {R : Type 0} → (R → Option (List ℕ)) → Rows R → Answer RowHead → Rows R → Type 0
GivesLeft bytes_left old answer new = (before left : List Record) → IsAfterRecords bytes_left old before left → GivesRecord bytes_left before left answer new

-- what a step on the way to a row keeps
pub record Keeps {R : Type 0} (old new : Rows R) : Type 0 where
  pub start : new.start ≡ old.start
  pub end : new.end ≡ old.end

-- a step gives the head of the row of that number or a fault that is not the reader's, and keeps start and end
abbrev pub Steps : {R : Type 0} → ℕ → Rows R → Answer RowHead → Rows R → Type 0
Steps number old answer new = GivesHead number old answer new × IfErr answer (λ raised. raised ≡ fault.Read → ⊥) × Keeps old new
