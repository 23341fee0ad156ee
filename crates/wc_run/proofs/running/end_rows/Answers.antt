use Rattle.std.proofs.Common.{◌≡◌, [], Ok, Err, true, false, sym, subst, ◌∙◌, append-nil}
use Rattle.wc_run.proofs.HandedOn.{propagated}
use Rattle.wc_run.proofs.Failures.{short_says_nothing, whole_writes}
use Rattle.wc_run.proofs.ReportedRows.{none_of_rows}
use Rattle.wc_run.proofs.RunEnds.{all_done, came_short, came_to_end, cut_at_end, ends_plan, ends_short, ends_whole, failed_there}
use Rattle.wc_run.proofs.running.end_rows.Goals as goal
use Rattle.wc_run.specs.{EndsWhole, Writes, WritesBy, is_cut_short, refused_in, seen_writing, said_by, onto, refusal_of, ReportsRow, ReportsWrite, ReportsWrites}

pub returns-then-is_cut_short-clause-writes : goal.returns-then-is_cut_short-clause-writes
returns-then-is_cut_short-clause-writes g c = λ start plan plate logic log taken same runs.
    let o = g.O.Observer in
    let mid = said_by o.speaks g.W.ByteOut.bytes_taken c.args.writer.now in
    ends_short (seen_writing o.has_seen o.has_written start) plan plate logic log taken mid mid
    (c.args.observer.now, g.W.ByteOut.bytes_taken c.args.writer.now) c.args.answer (sym c.is_cut_short.ensures ∙ c.if-is_cut_short.true) runs

pub returns-then-is_cut_short-clause-ended : goal.returns-then-is_cut_short-clause-ended
returns-then-is_cut_short-clause-ended g c = λ start plan plate logic log taken runs.
    let o = g.O.Observer in
    came_short (o.has_ended c.args.observer.now (o.settings c.args.observer.now)) start plate logic log (g.W.ByteOut.bytes_taken c.args.writer.now)
    c.args.answer (sym c.is_cut_short.ensures ∙ c.if-is_cut_short.true)

pub returns-then-is_cut_short-clause-reader : goal.returns-then-is_cut_short-clause-reader
returns-then-is_cut_short-clause-reader g c = λ before after steady.
    short_says_nothing c.args.answer before after (sym c.is_cut_short.ensures ∙ c.if-is_cut_short.true)

pub returns-then-has_failed-clause-writes : goal.returns-then-has_failed-clause-writes
returns-then-has_failed-clause-writes g c = λ start plan plate logic log taken same runs.
    let o = g.O.Observer in
    let mid = said_by o.speaks g.W.ByteOut.bytes_taken c.args.writer.now in
    let done = all_done (seen_writing o.has_seen o.has_written start) plan plate logic log taken mid mid
    (c.args.observer.now, g.W.ByteOut.bytes_taken c.args.writer.now) c.args.answer (sym c.is_cut_short.ensures ∙ c.if-is_cut_short.false) runs in
    (log.rows, [], sym (append-nil log.rows), done.written)

pub returns-then-has_failed-clause-failures : goal.returns-then-has_failed-clause-failures
returns-then-has_failed-clause-failures g c = λ count says.
    whole_writes c.args.answer count (g.W.ByteOut.failure_count c.args.writer.now) (sym c.is_cut_short.ensures ∙ c.if-is_cut_short.false) says

pub returns-in_err-end-clause-writes : goal.returns-in_err-end-clause-writes
returns-in_err-end-clause-writes g c = λ start plan plate logic log taken same runs.
    let o = g.O.Observer in
    let bytes_taken = g.W.ByteOut.bytes_taken in
    let has_seen = seen_writing o.has_seen o.has_written start in
    let whole : is_cut_short c.args.answer ≡ false = sym c.is_cut_short.ensures ∙ c.if-is_cut_short.false in
    let mid = said_by o.speaks bytes_taken c.args.writer.now in
    let new = said_by o.speaks bytes_taken c.end.new.writer in
    let fault = c.in_err-end.field-0.0 in
    let done = all_done has_seen plan plate logic log taken mid new (c.args.observer.now, bytes_taken c.args.writer.now) c.args.answer whole runs in
    propagated (λ result. WritesBy plan plate logic log result taken new) fault c.from_residual.result c.from_residual.ensures
    (cut_at_end has_seen plan plate logic log taken mid new fault done.written
    (ends_plan has_seen plan plate logic log taken mid new {X = Unit {0}} (c.args.observer.now, bytes_taken c.args.writer.now) c.args.answer (Err fault) done
    (λ past has. subst (λ p. Writes {X = Unit {0}} (p.at_end plate logic (onto past []) (refusal_of (refused_in c.args.answer))) (Err fault) mid new) same
    (subst (λ refused. Writes {X = Unit {0}} ((o.plan c.args.observer.now).at_end plate logic (onto past []) (refusal_of refused)) (Err fault) mid new) c.refused_in.ensures
    (c.in_err-end.ensures.writes plate logic past has.0)))))

pub returns-in_err-end-clause-ended : goal.returns-in_err-end-clause-ended
returns-in_err-end-clause-ended g c = λ start plan plate logic log taken runs.
    let o = g.O.Observer in
    let fault = c.in_err-end.field-0.0 in
    let now = g.W.ByteOut.bytes_taken c.end.new.writer in
    propagated (λ result. EndsWhole (o.has_ended c.end.new.self (o.settings c.args.observer.now)) start plate logic log result now) fault c.from_residual.result c.from_residual.ensures
    (failed_there (o.has_ended c.end.new.self (o.settings c.args.observer.now)) start plate logic log now fault c.in_err-end.ensures.held)

pub returns-in_err-end-clause-failures : goal.returns-in_err-end-clause-failures
returns-in_err-end-clause-failures g c = λ count says.
    let failures = g.W.ByteOut.failure_count in
    let fault = c.in_err-end.field-0.0 in
    propagated (λ result. ReportsWrites result count (failures c.end.new.writer)) fault c.from_residual.result c.from_residual.ensures
    (subst (λ before. ReportsWrite fault before (failures c.end.new.writer))
    (whole_writes c.args.answer count (failures c.args.writer.now) (sym c.is_cut_short.ensures ∙ c.if-is_cut_short.false) says)
    c.in_err-end.ensures.failures)

pub returns-in_err-end-clause-reported : goal.returns-in_err-end-clause-reported
returns-in_err-end-clause-reported g c = λ records fields says.
    let fault = c.in_err-end.field-0.0 in
    propagated (ReportsRow records fields) fault c.from_residual.result c.from_residual.ensures
    (none_of_rows records fields fault c.in_err-end.ensures.held)

pub returns-clause-writes : goal.returns-clause-writes
returns-clause-writes g c = λ start plan plate logic log taken same runs.
    let o = g.O.Observer in
    let bytes_taken = g.W.ByteOut.bytes_taken in
    let has_seen = seen_writing o.has_seen o.has_written start in
    let whole : is_cut_short c.args.answer ≡ false = sym c.is_cut_short.ensures ∙ c.if-is_cut_short.false in
    let mid = said_by o.speaks bytes_taken c.args.writer.now in
    let new = said_by o.speaks bytes_taken c.end.new.writer in
    let done = all_done has_seen plan plate logic log taken mid new (c.args.observer.now, bytes_taken c.args.writer.now) c.args.answer whole runs in
    ends_whole has_seen plan plate logic log taken mid new (c.args.observer.now, bytes_taken c.args.writer.now) c.args.answer whole runs
    (ends_plan has_seen plan plate logic log taken mid new {X = Unit {0}} (c.args.observer.now, bytes_taken c.args.writer.now) c.args.answer (Ok tt) done
    (λ past has. subst (λ p. Writes {X = Unit {0}} (p.at_end plate logic (onto past []) (refusal_of (refused_in c.args.answer))) (Ok tt) mid new) same
    (subst (λ refused. Writes {X = Unit {0}} ((o.plan c.args.observer.now).at_end plate logic (onto past []) (refusal_of refused)) (Ok tt) mid new) c.refused_in.ensures
    (c.in_ok-end.ensures.writes plate logic past has.0))))

pub returns-clause-ended : goal.returns-clause-ended
returns-clause-ended g c = λ start plan plate logic log taken runs.
    let o = g.O.Observer in
    let bytes_taken = g.W.ByteOut.bytes_taken in
    let whole : is_cut_short c.args.answer ≡ false = sym c.is_cut_short.ensures ∙ c.if-is_cut_short.false in
    let mid = said_by o.speaks bytes_taken c.args.writer.now in
    let new = said_by o.speaks bytes_taken c.end.new.writer in
    let now = bytes_taken c.end.new.writer in
    let ended = o.has_ended c.end.new.self (o.settings c.args.observer.now) in
    let done = all_done (seen_writing o.has_seen o.has_written start) plan plate logic log taken mid new (c.args.observer.now, bytes_taken c.args.writer.now) c.args.answer whole runs in
    came_to_end ended start plate logic log now c.args.answer whole
    (subst (λ refusal. ended start now plate logic log.rows refusal) (sym done.refusal)
    (subst (λ rows. ended start now plate logic rows (refusal_of (refused_in c.args.answer))) (sym done.seen.1)
    (subst (λ refused. ended start now plate logic (onto done.seen.0 []) (refusal_of refused)) c.refused_in.ensures
    (c.in_ok-end.ensures.ended start plate logic done.seen.0 done.seen.2.0 done.seen.2.1))))

pub returns-clause-failures : goal.returns-clause-failures
returns-clause-failures g c = λ count says.
    subst (λ after. ReportsWrites c.args.answer count after) (sym c.in_ok-end.ensures.failures) says
