use Rattle.wc_model.proofs.Common.{[], Err, None, Some, sym, subst, IfSome_then}
use Rattle.wc_controller.proofs.Allowing.{on_each}
use Rattle.wc_controller.proofs.log_runs.run_last.Goals as goal
use Rattle.wc_model.specs.Definitions.{LogOf, log_of, log_for}
use Rattle.wc_record.specs.Reading.{records_of}
use Rattle.wc_run.specs.{start_of, IsClassified, WritesBy, HoldsScans, last_plan}
use Rattle.wc_run.proofs.LeftLines.{run_leaves}
use Rattle.wc_run.proofs.Lines.{none_reported, writes_report}

pub returns-in-Err-clause-line : goal.returns-in-Err-clause-line
returns-in-Err-clause-line g c =
    let taken = g.W.ByteOut.bytes_taken c.args.writer.now in
    on_each (g.R.ByteIn.bytes_left c.args.reader.now) _
    (λ bytes logic represents.
    let log : LogOf = log_for logic (log_of (records_of bytes)) in
    run_leaves (Some c.args.last) c.args.plate.now logic log (Err c.classify.result) taken taken
    (none_reported (Some c.args.last) c.args.plate.now logic log c.classify.result taken
    (subst (λ fault. IsClassified fault c.classify.result) c.in-Err.ensures.memory c.classify.ensures.classified)))

pub returns-clause-line : goal.returns-clause-line
returns-clause-line g c =
    let taken = g.W.ByteOut.bytes_taken c.args.writer.now in
    on_each (g.R.ByteIn.bytes_left c.args.reader.now) _
    (λ bytes logic represents.
    let log : LogOf = log_for logic (log_of (records_of bytes)) in
    run_leaves (Some c.args.last) c.args.plate.now logic log (Err c.classify-in-Err-new.result) taken taken
    (none_reported (Some c.args.last) c.args.plate.now logic log c.classify-in-Err-new.result taken
    (subst (λ fault. IsClassified fault c.classify-in-Err-new.result) c.in-Err-new.ensures.memory c.classify-in-Err-new.ensures.classified)))

pub returns-in-Ok-new-clause-reports : goal.returns-in-Ok-new-clause-reports
returns-in-Ok-new-clause-reports g c =
    let old = g.W.ByteOut.bytes_taken c.args.writer.now in
    let new = g.W.ByteOut.bytes_taken c.run.new.writer in
    IfSome_then (g.R.ByteIn.bytes_left c.args.reader.now) c.run.ensures.writes
    (λ bytes says logic represents.
    let log : LogOf = log_for logic (log_of (records_of bytes)) in
    writes_report (Some c.args.last) c.args.plate.now logic log c.run.result old new
    (subst (λ number. WritesBy (last_plan number) c.args.plate.now logic log c.run.result old new) c.in-Ok.ensures.number
    (says (start_of None None None) c.args.plate.now logic (c.in-Ok-new.ensures.represents logic represents)
    (subst (λ number. HoldsScans c.in-Ok.scans.recorder number []) (sym c.in-Ok.ensures.number) c.in-Ok.ensures.holds, tt))))

pub returns-in-Ok-new-clause-line : goal.returns-in-Ok-new-clause-line
returns-in-Ok-new-clause-line g c = IfSome_then (g.R.ByteIn.bytes_left c.args.reader.now) (returns-in-Ok-new-clause-reports g c)
    (λ bytes says logic represents. run_leaves (Some c.args.last) c.args.plate.now logic (log_for logic (log_of (records_of bytes))) c.run.result
    (g.W.ByteOut.bytes_taken c.args.writer.now) (g.W.ByteOut.bytes_taken c.run.new.writer) (says logic represents))
