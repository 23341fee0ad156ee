use Rattle.wc_controller.proofs.EndedRuns.{run_ended}
use Rattle.wc_controller.proofs.Givings.{ends_said}
use Rattle.wc_controller.proofs.HeadlineRuns.{by_headline}
use Rattle.wc_controller.proofs.RefusedNames.{stopped_at_names}
use Rattle.wc_controller.proofs.WrittenRuns.{run_after}
use Rattle.wc_controller.proofs.running.run_files.Goals as goal
use Rattle.wc_controller.specs.TakenLogs.{observed_by, writer_of}
use Rattle.wc_record.specs.Reported.{fields_reported}
use Rattle.wc_run.specs.Observing.{said_by}

pub returns-clause-runs : goal.returns-clause-runs
returns-clause-runs g c =
    let speaks = g.O.Observer.speaks in
    let taken = g.W.ByteOut.bytes_taken in
    let failures = g.W.ByteOut.failure_count in
    let writer = writer_of (said_by speaks taken) failures in
    let ran = c.run_inputs-answer.ensures.runs in
    run_ended (observed_by g.O.Observer.plan g.O.Observer.begins c.args.observer.now) c.args.inputs.now c.run_inputs-answer.new.inputs (fields_reported c.run_inputs-answer.new.reported)
    c.run_inputs-answer.result c.end.result
    (writer c.args.writer.now) (writer c.run_inputs-answer.new.writer) (writer c.end.new.writer)
    ran (ends_said speaks c.run_inputs-answer.result c.end.result (taken c.run_inputs-answer.new.writer) (taken c.end.new.writer) c.end.ensures.ends)
    (c.end.ensures.failures (failures c.args.writer.now) ran.failures)

pub returns-clause-headline : goal.returns-clause-headline
returns-clause-headline g c =
    let taken = said_by g.O.Observer.speaks g.W.ByteOut.bytes_taken in
    by_headline (observed_by g.O.Observer.plan g.O.Observer.begins c.args.observer.now) c.args.inputs.now c.end.result (taken c.args.writer.now) (taken c.end.new.writer)
    (returns-clause-runs g c).ends

pub returns-clause-refused : goal.returns-clause-refused
returns-clause-refused g c = λ at.
    let taken = g.W.ByteOut.bytes_taken in
    c.run_inputs-answer.ensures.refused
    (stopped_at_names c.run_inputs-answer.result c.end.result (taken c.run_inputs-answer.new.writer) (taken c.end.new.writer) c.end.ensures.ends at)

pub returns-clause-ended : goal.returns-clause-ended
returns-clause-ended g c =
    let o = g.O.Observer in
    let taken = g.W.ByteOut.bytes_taken in
    run_after (o.has_ended c.run_inputs-answer.new.observer (o.settings c.args.observer.now)) c.args.inputs.now (taken c.args.writer.now) (taken c.run_inputs-answer.new.writer) (taken c.end.new.writer)
    c.run_inputs-answer.result c.end.result c.end.ensures.ends c.run_inputs-answer.ensures.ended c.run_inputs-answer.ensures.unwritten
