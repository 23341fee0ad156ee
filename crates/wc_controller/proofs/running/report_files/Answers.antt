use Rattle.std.proofs.Common.{None, subst, true}
use Rattle.wc_controller.proofs.Frames.{answers_in_frames}
use Rattle.wc_controller.proofs.HeadlineRuns.{by_headline}
use Rattle.wc_controller.proofs.ShortAnswers.{answers_are_short}
use Rattle.wc_controller.proofs.running.report_files.Goals as goal
use Rattle.wc_controller.specs.{report_observed, RunsAs, writer_of}
use Rattle.wc_record.specs.Reported.{fields_reported}
use Rattle.wc_run.proofs.Lines.{whole_written}
use Rattle.wc_run.specs.Observing.{Written}

pub returns-clause-runs : goal.returns-clause-runs
returns-clause-runs g c =
    let writer = writer_of g.W.ByteOut.bytes_taken g.W.ByteOut.failure_count in
    subst (λ (written : Written). RunsAs (record { written = written; begins = λ logic. true }) c.args.inputs.now c.run_files.new.inputs (fields_reported c.run_files.new.reported) c.run_files.result
    (writer c.args.writer.now) (writer c.run_files.new.writer)) (whole_written None) c.run_files.ensures.runs

pub returns-clause-headline : goal.returns-clause-headline
returns-clause-headline g c =
    let taken = g.W.ByteOut.bytes_taken in
    by_headline (report_observed None) c.args.inputs.now c.run_files.result (taken c.args.writer.now) (taken c.run_files.new.writer) (returns-clause-runs g c).ends

pub returns-clause-frames : goal.returns-clause-frames
returns-clause-frames g c = answers_in_frames

pub returns-clause-short : goal.returns-clause-short
returns-clause-short g c = answers_are_short
