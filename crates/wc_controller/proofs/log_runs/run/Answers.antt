use Rattle.wc_model.proofs.Common.{None, IfSome_then}
use Rattle.wc_controller.proofs.log_runs.run.Goals as goal
use Rattle.wc_model.specs.Definitions.{log_of, log_for}
use Rattle.wc_record.specs.Reading.{records_of}
use Rattle.wc_run.specs.Observing.{start_of}
use Rattle.wc_run.proofs.LeftLines.{run_leaves}
use Rattle.wc_run.proofs.Lines.{writes_report}

pub returns-in-Ok-clause-reports : goal.returns-in-Ok-clause-reports
returns-in-Ok-clause-reports g c = IfSome_then (g.R.ByteIn.bytes_left c.args.reader.now) c.run.ensures.writes
    (λ bytes says logic represents. writes_report None c.args.plate.now logic (log_for logic (log_of (records_of bytes))) c.run.result
    (g.W.ByteOut.bytes_taken c.args.writer.now) (g.W.ByteOut.bytes_taken c.run.new.writer) (says (start_of None None None) c.args.plate.now logic (c.in-Ok.ensures.represents logic represents) (tt, tt)))

pub returns-in-Ok-clause-line : goal.returns-in-Ok-clause-line
returns-in-Ok-clause-line g c = IfSome_then (g.R.ByteIn.bytes_left c.args.reader.now) (returns-in-Ok-clause-reports g c)
    (λ bytes says logic represents. run_leaves None c.args.plate.now logic (log_for logic (log_of (records_of bytes))) c.run.result
    (g.W.ByteOut.bytes_taken c.args.writer.now) (g.W.ByteOut.bytes_taken c.run.new.writer) (says logic represents))
