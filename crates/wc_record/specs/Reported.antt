-- The row of a log that is reported if one is refused: the record of that number among those that are read. (The
-- profile's own.)
use Rattle.std.specs.Prelude.{◌≡◌, ⊤, ℕ, zero, suc, List, [], ◌∷◌, ◌++◌, reverse, Option, Some, None, slice_get, unwrap_or}
use Rattle.csv.specs.Records.{fields_of}
use Rattle.wc_model.specs.Run.Log.{Record}
use Rattle.wc_record.specs.Cutting.{cut_from, log_start}
use Rattle.wc_record.specs.Left.{IsAfterRecords}
use Rattle.wc_record.specs.Reading.{records_of}
use Rattle.wc_record.specs.declared.log.LogEnd.{LogEnd}
use Rattle.wc_record.specs.declared.log.LogEnd.TheVariants.{AllRead, Raised}
use Rattle.wc_record.specs.declared.log.Rows.{Rows}
use Rattle.wc_record.specs.declared.refused_row.RefusedRow.{RefusedRow}
use Rattle.wc_record.specs.declared.row_kind.LogFault.{LogFault}
use Rattle.wc_record.specs.declared.row_kind.LogFault.TheVariants as fault

-- the fields of the row that is reported
abbrev pub fields_reported : RefusedRow → Record
fields_reported reported = fields_of reported.row

-- the fields of the record that was read last
abbrev pub current_record : {R : Type 0} → Rows R → Record
current_record rows = fields_of rows.row

-- the records that are read of a log's bytes
abbrev pub records_read : List ℕ → List Record
records_read bytes = records_of (cut_from log_start bytes)

-- the record of that number, counted from 1; no fields if there is none
abbrev pub record_at : List Record → ℕ → Record
record_at records zero = []
record_at records (suc before) = unwrap_or (slice_get records before) []

-- the records that were read, newest first, and those that are left
abbrev pub all_records : List Record → List Record → List Record
all_records before left = reverse before ++ left

-- the current record was read last, if any was
abbrev pub IsCurrent : List Record → Record → Type 0
IsCurrent [] fields = ⊤
IsCurrent (newest ∷ earlier) fields = fields ≡ newest

-- so far these records were read, and after them these are left
pub record IsAmong {R : Type 0} (bytes_left : R → Option (List ℕ)) (rows : Rows R) (records before left : List Record) : Type 0 where
  pub represents : IsAfterRecords bytes_left rows before left
  pub all : records ≡ all_records before left
  pub current : IsCurrent before (fields_of rows.row)

-- at a refusal the current record is the one of the refused row
abbrev pub HasRefused : LogFault → List Record → Record → Type 0
HasRefused (fault.Refused number place) records fields = fields ≡ record_at records place
HasRefused fault.Read records fields = ⊤
HasRefused fault.Memory records fields = ⊤

-- these are the records of a log of which some were read, up to its end
abbrev pub ReadsTo : {R : Type 0} → (R → Option (List ℕ)) → Option LogEnd → Rows R → List Record → Type 0
ReadsTo bytes_left None rows records = (before : List Record) × (left : List Record) × IsAmong bytes_left rows records before left
ReadsTo bytes_left (Some AllRead) rows records = ⊤
ReadsTo bytes_left (Some (Raised raised)) rows records = HasRefused raised records (fields_of rows.row)

abbrev pub Reads : {R : Type 0} → (R → Option (List ℕ)) → Rows R → List Record → Type 0
Reads bytes_left rows records = ReadsTo bytes_left rows.end rows records
