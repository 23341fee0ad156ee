use Rattle.wc_model.proofs.Common.{◌∷◌, subst, Appends}
use Rattle.wc_run.proofs.ScaleRows.{on_ok_of}
use Rattle.wc_run.specs.Observing.{row_of}
use Rattle.wc_view_trace.proofs.Traced.{all_written, runs_logic, traced_on}
use Rattle.wc_view_trace.proofs.tracer.TracerObserverSlotStore.see.Goals as goal

pub returns-clause-written : goal.returns-clause-written
returns-clause-written g c =
    let old = g.W.ByteOut.bytes_taken c.args.writer.now in
    let new = g.W.ByteOut.bytes_taken c.write_text.new.writer in
    let text = c.follow.new.self.text.items in
    on_ok_of _ _ c.write_text.result
    (λ appends start plate logic past looked looks looked_at shown represents seen written.
    traced_on c.args.self.now c.turn.new.self c.follow.new.self start old new plate logic past c.args.seen.now c.args.scale.now.opened.machine looked text
    written c.turn.ensures.same c.follow.ensures.same c.turn.ensures.counts.scans c.turn.ensures.counts.shown c.turn.ensures.turns c.follow.ensures.legends c.in_ok-follow.ensures.follows
    looks looked_at shown (runs_logic c.args.scale.now plate logic (row_of c.args.seen.now ∷ past) represents) (subst (λ bytes. Appends old new bytes) c.deref.ensures.value appends))
    (all_written c.deref.result.now c.write_text.result old new c.write_text.ensures.writes)
