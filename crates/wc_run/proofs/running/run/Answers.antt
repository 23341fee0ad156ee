use Rattle.wc_model.proofs.Common.{[], Err, arith, subst, ltb-false, IfSome_then}
use Rattle.wc_model.specs.Definitions.{LogOf, log_of, log_for}
use Rattle.wc_record.specs.{records_of, fields_reported, records_read}
use Rattle.wc_run.proofs.RunEnds.{classified_at_end, classified_faults, classified_says}
use Rattle.wc_run.proofs.ReportedRows.{reported_still}
use Rattle.wc_run.proofs.running.run.Goals as goal
use Rattle.wc_run.specs.{EndsWhole, said_by, text_coming, text_in_all}

pub returns-in-Ok-clause-writes : goal.returns-in-Ok-clause-writes
returns-in-Ok-clause-writes g c =
    let o = g.O.Observer in
    IfSome_then (g.R.ByteIn.bytes_left c.args.reader.now) c.new-rows.ensures.rows
    (λ bytes left start plate logic represents seen.
    let read : LogOf = log_of (records_of bytes) in
    c.in-Ok.ensures.writes start (o.plan c.args.observer.now) plate logic (log_for logic read) (said_by o.speaks g.W.ByteOut.bytes_taken c.args.writer.now)
    c.run_rows-answer.ensures.plan (c.run_rows-answer.ensures.runs read left start plate logic represents seen))

pub returns-in-Ok-clause-ended : goal.returns-in-Ok-clause-ended
returns-in-Ok-clause-ended g c =
    let o = g.O.Observer in
    IfSome_then (g.R.ByteIn.bytes_left c.args.reader.now) c.new-rows.ensures.rows
    (λ bytes left start plate logic represents seen.
    let read : LogOf = log_of (records_of bytes) in
    rw c.run_rows-answer.ensures.settings at
    (c.in-Ok.ensures.ended start (o.plan c.args.observer.now) plate logic (log_for logic read) (said_by o.speaks g.W.ByteOut.bytes_taken c.args.writer.now)
    (c.run_rows-answer.ensures.runs read left start plate logic represents seen)))

pub returns-clause-writes : goal.returns-clause-writes
returns-clause-writes g c =
    let o = g.O.Observer in
    let taken = said_by o.speaks g.W.ByteOut.bytes_taken in
    let plan = o.plan c.args.observer.now in
    IfSome_then (g.R.ByteIn.bytes_left c.args.reader.now) c.new-rows.ensures.rows
    (λ bytes left start plate logic represents seen.
    let read : LogOf = log_of (records_of bytes) in
    let log : LogOf = log_for logic read in
    classified_says (text_in_all plan plate logic log.refusal) (text_coming plan plate logic []) log (taken c.args.writer.now) (taken c.end_rows.new.writer)
    c.in-Err.fault c.classify.result c.classify.ensures.classified
    (c.in-Err.ensures.writes start plan plate logic log (taken c.args.writer.now) c.run_rows-answer.ensures.plan
    (c.run_rows-answer.ensures.runs read left start plate logic represents seen)))

pub returns-clause-ended : goal.returns-clause-ended
returns-clause-ended g c =
    let o = g.O.Observer in
    IfSome_then (g.R.ByteIn.bytes_left c.args.reader.now) c.new-rows.ensures.rows
    (λ bytes left start plate logic represents seen.
    let read : LogOf = log_of (records_of bytes) in
    let log : LogOf = log_for logic read in
    classified_at_end (o.has_ended c.end_rows.new.observer (o.settings c.args.observer.now)) start plate logic log (g.W.ByteOut.bytes_taken c.end_rows.new.writer)
    c.in-Err.fault c.classify.result c.classify.ensures.classified
    (subst (λ settings. EndsWhole (o.has_ended c.end_rows.new.observer settings) start plate logic log (Err c.in-Err.fault) (g.W.ByteOut.bytes_taken c.end_rows.new.writer)) c.run_rows-answer.ensures.settings
    (c.in-Err.ensures.ended start (o.plan c.args.observer.now) plate logic log (said_by o.speaks g.W.ByteOut.bytes_taken c.args.writer.now)
    (c.run_rows-answer.ensures.runs read left start plate logic represents seen))))

pub returns-clause-reported : goal.returns-clause-reported
returns-clause-reported g c = IfSome_then (g.R.ByteIn.bytes_left c.args.reader.now) c.new-rows.ensures.records
    (λ bytes reads.
    let fields = fields_reported c.report.new.reported in
    reported_still (records_read bytes) fields c.in-Err.fault c.classify.result c.classify.ensures.classified
    (c.in-Err.ensures.reported (records_read bytes) fields
    (rw c.report.ensures (c.run_rows-answer.ensures.reported (records_read bytes) reads))))

pub returns-in-Ok-clause-faults : goal.returns-in-Ok-clause-faults
returns-in-Ok-clause-faults g c = record {
  read = λ e. absurd (cc);
  memory = λ e. absurd (cc);
  writer = c.in-Ok.ensures.failures (g.W.ByteOut.failure_count c.args.writer.now) c.run_rows-answer.ensures.failures;
  reader = c.in-Ok.ensures.reader (g.R.ByteIn.failure_count c.args.reader.now) _
      (λ steady. let at_most = ltb-false c.failures-failures.result c.failures.result steady in omega (arith, at_most));
}

pub returns-clause-faults : goal.returns-clause-faults
returns-clause-faults g c =
    classified_faults (g.R.ByteIn.failure_count c.args.reader.now) _ (g.R.ByteIn.spent_count c.args.reader.now) _ (g.W.ByteOut.failure_count c.args.writer.now) _
    c.in-Err.fault c.classify.result c.classify.ensures.classified
    (λ read. rw (c.failures-failures.ensures, c.spent-spent.ensures) at (c.classify.ensures.read read))
    (λ memory. rw (c.failures-failures.ensures, c.spent-spent.ensures) at (c.classify.ensures.memory memory))
    (c.in-Err.ensures.failures (g.W.ByteOut.failure_count c.args.writer.now) c.run_rows-answer.ensures.failures)
    (c.in-Err.ensures.reader (g.R.ByteIn.failure_count c.args.reader.now) _
    (λ steady. let at_most = ltb-false c.failures-failures.result c.failures.result steady in omega (arith, at_most)))
