use Rattle.std.proofs.Common.{◌≡◌, ◌≤◌, ◌+◌, ◌-◌, List, [], Option}
use Rattle.std.specs.Prelude.{max}
use Rattle.wc_model.specs.Definitions.{LogOf, Record, PlateData, log_for, Logic}
use Rattle.wc_record.specs.{HasLeft, last_ms, rows_read, Reads}
use Rattle.wc_run.specs.{seen_writing, Start, said, IsNotAfter, Represents}
use Rattle.wc_run.proofs.RunsOn.{Running}
use Rattle.wc_run.proofs.log_rows.run_rows.Given as goal

-- n rows are done, and no scan was after the last of them
abbrev pub invariant-loop-row : goal.invariant-loop-row
invariant-loop-row g l = record {
  running : (log : LogOf) → HasLeft g.R.ByteIn.bytes_left l.initial.rows log → (start : Start) (plate : PlateData) (logic : Option Logic)
      → Represents l.initial.scale plate logic []
      → seen_writing g.O.Observer.has_seen g.O.Observer.has_written start (l.initial.observer, g.W.ByteOut.bytes_taken l.initial.writer) plate logic []
      → Running g.R.ByteIn.bytes_left l.rows l.scale (seen_writing g.O.Observer.has_seen g.O.Observer.has_written start) (l.observer, g.W.ByteOut.bytes_taken l.writer)
      (g.O.Observer.plan l.initial.observer) plate logic (log_for logic log) l.count
      (said g.O.Observer.speaks (g.W.ByteOut.bytes_taken l.initial.writer)) (said g.O.Observer.speaks (g.W.ByteOut.bytes_taken l.writer));
  settings : g.O.Observer.settings l.observer ≡ g.O.Observer.settings l.initial.observer;
  plan : g.O.Observer.plan l.observer ≡ g.O.Observer.plan l.initial.observer;
  reported : (records : List Record) → Reads g.R.ByteIn.bytes_left l.initial.rows records → Reads g.R.ByteIn.bytes_left l.rows records;
  in_order : IsNotAfter l.scale (last_ms l.rows);
  numbered : l.count + 1 ≡ max 1 (rows_read l.rows);
  few : rows_read l.rows ≤ 1000000;
  steady : g.W.ByteOut.failure_count l.writer ≡ g.W.ByteOut.failure_count l.initial.writer;
}

abbrev pub decreases-loop-row : goal.decreases-loop-row
decreases-loop-row g l = 1000000 - rows_read l.rows
