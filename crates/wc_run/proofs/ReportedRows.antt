-- The refused row that is reported, while a log is run.
use Rattle.std.proofs.Common.{◌≡◌, ◌≤◌, ◌∙◌, ℕ, List, [], ◌∷◌, Option, Some, None, arith, inl, inr, sym}
use Rattle.wc_model.specs.Run.Log.{Record}
use Rattle.wc_record.proofs.LogSteps.{reads_still, record_read}
use Rattle.wc_record.specs.{ended, rows_read, IsAmong, Reads, current_record, record_at}
use Rattle.wc_record.specs.declared.log.LogEnd.TheVariants.{Raised}
use Rattle.wc_record.specs.declared.log.Rows.{Rows}
use Rattle.wc_record.specs.declared.row_kind.LogFault.{LogFault}
use Rattle.wc_record.specs.declared.row_kind.LogFault.TheVariants as fault
use Rattle.wc_run.specs.{from_log_fault, IsClassified, IsFaultAt, IsNoRefusal, ReportsFault}
use Rattle.wc_run.specs.declared.fault.RunFault.{RunFault}
use Rattle.wc_run.specs.declared.fault.RunFault.TheVariants.{Refused, Read, Memory}

-- the current record is that of the last row
last_read : {R : Type 0} (bytes_left : R → Option (List ℕ)) (rows : Rows R) (records : List Record) (n : ℕ) → rows_read rows ≡ n → 1 ≤ n
    → (before left : List Record) → IsAmong bytes_left rows records before left → current_record rows ≡ record_at records n
last_read bytes_left rows records n counted some [] left among = absurd (omega (arith, among.represents.number, counted))
last_read bytes_left rows records n counted some (newest ∷ earlier) left among =
    rw among.all (among.current ∙ record_read newest earlier left n (sym counted ∙ among.represents.number))

-- a row that is refused by the run is the current one
pub reported_at_row : {R : Type 0} (bytes_left : R → Option (List ℕ)) (rows : Rows R) (records : List Record) (n : ℕ) → ended rows ≡ None → rows_read rows ≡ n → 1 ≤ n
    → Reads bytes_left rows records → (raised : RunFault) → IsFaultAt n raised → ReportsFault records (current_record rows) raised
reported_at_row bytes_left rows records n open_still counted some reads (Refused number place) at =
    let now = reads_still bytes_left rows records rows.end open_still reads in
    rw at (last_read bytes_left rows records n counted some now.0 now.1 now.2)
reported_at_row bytes_left rows records n open_still counted some reads raised at = tt

-- a row that is refused by the log is the current one
pub reported_at_end : {R : Type 0} (bytes_left : R → Option (List ℕ)) (rows : Rows R) (records : List Record) (raised : LogFault) → ended rows ≡ Some (Raised raised)
    → Reads bytes_left rows records → ReportsFault records (current_record rows) (from_log_fault raised)
reported_at_end bytes_left rows records (fault.Refused number place) e reads = rw e at reads
reported_at_end bytes_left rows records raised e reads = tt

-- a fault that is classified is refused as it was
pub reported_still : (records : List Record) (fields : Record) (raised classified : RunFault) → IsClassified raised classified → ReportsFault records fields raised → ReportsFault records fields classified
reported_still records fields Read classified (inl e) says = rw e tt
reported_still records fields Read classified (inr e) says = rw e tt
reported_still records fields Memory classified (inl e) says = rw e tt
reported_still records fields Memory classified (inr e) says = rw e tt
reported_still records fields raised classified e says = rw e says

-- if nothing is refused, nothing is reported
pub none_of_rows : (records : List Record) (fields : Record) (raised : RunFault) → IsNoRefusal raised → ReportsFault records fields raised
none_of_rows records fields (Refused number place) h = absurd h
none_of_rows records fields raised h = tt
