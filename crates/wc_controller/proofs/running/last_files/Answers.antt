use Rattle.std.proofs.Common.{Some, subst, true}
use Rattle.wc_controller.proofs.HeadlineRuns.{by_headline}
use Rattle.wc_controller.proofs.running.last_files.Goals as goal
use Rattle.wc_controller.specs.{report_observed, RunsAs, writer_of}
use Rattle.wc_record.specs.Reported.{fields_reported}
use Rattle.wc_run.proofs.Lines.{whole_written}
use Rattle.wc_run.specs.{Written, text_in_all, last_plan}

pub returns-in-Ok-clause-runs : goal.returns-in-Ok-clause-runs
returns-in-Ok-clause-runs g c =
    let writer = writer_of g.W.ByteOut.bytes_taken g.W.ByteOut.failure_count in
    let runs = λ (written : Written). RunsAs (record { written = written; begins = λ logic. true }) c.args.inputs.now c.run_files.new.inputs (fields_reported c.run_files.new.reported) c.run_files.result
    (writer c.args.writer.now) (writer c.run_files.new.writer) in
    subst runs (whole_written (Some c.args.last)) (subst (λ number. runs (text_in_all (last_plan number))) c.in-Ok.ensures.number c.run_files.ensures.runs)

pub returns-in-Ok-clause-headline : goal.returns-in-Ok-clause-headline
returns-in-Ok-clause-headline g c =
    let taken = g.W.ByteOut.bytes_taken in
    by_headline (report_observed (Some c.args.last)) c.args.inputs.now c.run_files.result (taken c.args.writer.now) (taken c.run_files.new.writer) (returns-in-Ok-clause-runs g c).ends
