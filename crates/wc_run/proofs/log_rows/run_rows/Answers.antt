use Rattle.wc_run.specs.{said_by, from_log_fault, Does, RunsRows, seen_writing, ReportsRow, IsNotAfter}
use Rattle.std.proofs.Common.{Ok, Err, ap, sym, subst, ◌∙◌, arith}
use Rattle.wc_model.specs.Say.LogFor.{log_for}
use Rattle.wc_run.proofs.RunsOn.{at_end, at_fault, at_row, one_more}
use Rattle.wc_record.specs.{end_after, current_record, head_view}
use Rattle.wc_run.proofs.HandedOn.{propagated}
use Rattle.wc_run.proofs.ReportedRows.{reported_at_end, reported_at_row}
use Rattle.wc_run.proofs.log_rows.run_rows.Goals as goal

pub returns-in_err-run_row-clause-runs : goal.returns-in_err-run_row-clause-runs
returns-in_err-run_row-clause-runs g c = λ log has start plate logic represents seen.
    let o = g.O.Observer in
    let bytes_taken = g.W.ByteOut.bytes_taken in
    let taken = said_by g.O.Observer.speaks g.W.ByteOut.bytes_taken in
    let now = c.loop-row in
    let plan = o.plan c.args.observer.now in
    let fault = c.in_err-run_row.field-0.0 in
    let r = now.invariant.running log has start plate logic represents seen in
    propagated (λ result. RunsRows (seen_writing o.has_seen o.has_written start) plan plate logic (log_for logic log) (c.run_row.new.observer, bytes_taken c.run_row.new.writer) result (taken c.args.writer.now) (taken c.run_row.new.writer))
    fault c.from_residual-in_err-run_row.result c.from_residual-in_err-run_row.ensures
    (at_row g.R.ByteIn.bytes_left now.rows now.scale (seen_writing o.has_seen o.has_written start) (now.observer, bytes_taken now.writer) plan plate logic (log_for logic log) now.count
    (taken c.args.writer.now) (taken now.writer) r c.next_head.new.self c.run_row.new.scale (c.run_row.new.observer, bytes_taken c.run_row.new.writer) (taken c.run_row.new.writer)
    c.in-Some.row (Unit {0})
    (rw c.in-Some.is at (c.in_ok-row.ensures.takes r.left r.has_left)) fault
    (subst (λ p. Does {X = Unit {0}} (seen_writing o.has_seen o.has_written start) p plate logic r.past (head_view c.next_head.new.self.buffer.items c.in-Some.row) c.run_row.new.scale (c.run_row.new.observer, bytes_taken c.run_row.new.writer)
    (Err fault) (taken now.writer) (taken c.run_row.new.writer)) now.invariant.plan
    (subst (λ bytes. Does {X = Unit {0}} (seen_writing o.has_seen o.has_written start) (o.plan now.observer) plate logic r.past (head_view bytes c.in-Some.row) c.run_row.new.scale (c.run_row.new.observer, bytes_taken c.run_row.new.writer)
    (Err fault) (taken now.writer) (taken c.run_row.new.writer)) c.bytes.ensures
    (c.in_err-run_row.ensures.does start plate logic r.past r.represents r.seen))))

pub loop-row-preserved : goal.loop-row-preserved
loop-row-preserved g c =
    let o = g.O.Observer in
    let bytes_taken = g.W.ByteOut.bytes_taken in
    let taken = said_by g.O.Observer.speaks g.W.ByteOut.bytes_taken in
    let now = c.loop-row in
    let next = rw c.in-Some.is at c.in_ok-row.ensures.row in
    let done = c.in_ok-run_row.ensures in
    record {
      running = λ log has start plate logic represents seen.
          let r = now.invariant.running log has start plate logic represents seen in
          let takes = rw c.in-Some.is at (c.in_ok-row.ensures.takes r.left r.has_left) in
          one_more g.R.ByteIn.bytes_left now.rows now.scale (seen_writing o.has_seen o.has_written start) (now.observer, bytes_taken now.writer) (o.plan c.args.observer.now) plate logic (log_for logic log) now.count
          (taken c.args.writer.now) (taken now.writer) r c.next_head.new.self c.run_row.new.scale (c.run_row.new.observer, bytes_taken c.run_row.new.writer) (taken c.run_row.new.writer)
          c.in-Some.row {X = Unit {0}} tt
          takes
          (rw (now.invariant.plan, c.bytes.ensures) at done.does start plate logic r.past r.represents r.seen);
      settings = c.run_row.ensures.settings ∙ now.invariant.settings;
      plan = c.run_row.ensures.plan ∙ now.invariant.plan;
      reported = λ records reads. c.in_ok-row.ensures.records records (now.invariant.reported records reads);
      in_order = subst (λ ms. IsNotAfter c.run_row.new.scale ms) (sym next.kept) done.in_order;
      numbered = omega (arith, now.invariant.numbered, next.number_is, next.counted);
      few = omega (arith, next.counted, next.few);
      steady = done.failures ∙ now.invariant.steady;
    }

pub returns-in_default-clause-runs : goal.returns-in_default-clause-runs
returns-in_default-clause-runs g c = λ log has start plate logic represents seen.
    let o = g.O.Observer in
    let bytes_taken = g.W.ByteOut.bytes_taken in
    let taken = said_by g.O.Observer.speaks g.W.ByteOut.bytes_taken in
    let now = c.loop-row in
    let r = now.invariant.running log has start plate logic represents seen in
    at_end g.R.ByteIn.bytes_left now.rows now.scale (seen_writing o.has_seen o.has_written start) (now.observer, bytes_taken now.writer) (o.plan c.args.observer.now) plate logic (log_for logic log) now.count
    (taken c.args.writer.now) (taken now.writer) r c.next_head.new.self (rw c.in_default.is at (c.in_ok-row.ensures.takes r.left r.has_left))

pub returns-in_err-row-clause-runs : goal.returns-in_err-row-clause-runs
returns-in_err-row-clause-runs g c = λ log has start plate logic represents seen.
    let o = g.O.Observer in
    let bytes_taken = g.W.ByteOut.bytes_taken in
    let taken = said_by g.O.Observer.speaks g.W.ByteOut.bytes_taken in
    let now = c.loop-row in
    let raised = c.in_err-row.field-0.0 in
    let r = now.invariant.running log has start plate logic represents seen in
    propagated (λ result. RunsRows (seen_writing o.has_seen o.has_written start) (o.plan c.args.observer.now) plate logic (log_for logic log) (now.observer, bytes_taken now.writer) result (taken c.args.writer.now) (taken now.writer))
    (from_log_fault raised) c.from_residual.result c.from_residual.ensures
    (at_fault g.R.ByteIn.bytes_left now.rows now.scale (seen_writing o.has_seen o.has_written start) (now.observer, bytes_taken now.writer) (o.plan c.args.observer.now) plate logic (log_for logic log) now.count
    (taken c.args.writer.now) (taken now.writer) r c.next_head.new.self raised (c.in_err-row.ensures.takes r.left r.has_left))

pub returns-in_err-run_row-clause-reported : goal.returns-in_err-run_row-clause-reported
returns-in_err-run_row-clause-reported g c = λ records reads.
    let next = rw c.in-Some.is at c.in_ok-row.ensures.row in
    let fault = c.in_err-run_row.field-0.0 in
    propagated (ReportsRow records (current_record c.next_head.new.self)) fault c.from_residual-in_err-run_row.result c.from_residual-in_err-run_row.ensures
    (reported_at_row g.R.ByteIn.bytes_left c.next_head.new.self records c.in-Some.row.number (c.in_ok-row.ensures.ends ∙ ap (λ given. end_after (Ok given)) c.in-Some.is) next.counted
    (omega (arith, next.number_is)) (c.in_ok-row.ensures.records records (c.loop-row.invariant.reported records reads)) fault c.in_err-run_row.ensures.place)

pub returns-in_err-row-clause-reported : goal.returns-in_err-row-clause-reported
returns-in_err-row-clause-reported g c = λ records reads.
    let raised = c.in_err-row.field-0.0 in
    propagated (ReportsRow records (current_record c.next_head.new.self)) (from_log_fault raised) c.from_residual.result c.from_residual.ensures
    (reported_at_end g.R.ByteIn.bytes_left c.next_head.new.self records raised c.in_err-row.ensures.ends (c.in_err-row.ensures.records records (c.loop-row.invariant.reported records reads)))
