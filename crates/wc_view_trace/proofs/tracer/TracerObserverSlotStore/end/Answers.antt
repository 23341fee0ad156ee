use Rattle.wc_model.proofs.Common.{[], sym, subst, ◌∙◌, Appends-nil, Appends}
use Rattle.wc_run.proofs.ScaleRows.{on_ok_of}
use Rattle.wc_run.specs.Observing.{refusal_of}
use Rattle.wc_view_trace.proofs.Traced.{all_written, end_refused, end_said, traced_all}
use Rattle.wc_view_trace.proofs.tracer.TracerObserverSlotStore.end.Goals as goal

pub returns-then-is_some-clause-ended : goal.returns-then-is_some-clause-ended
returns-then-is_some-clause-ended g c = λ start plate logic past seen written.
    let taken = g.W.ByteOut.bytes_taken c.args.writer.now in
    let old = c.args.self.now in
    traced_all old start taken taken plate logic past (refusal_of c.args.refused) [] written
    (end_refused old.format old.scans old.shown c.args.refused (sym c.is_some.ensures ∙ c.if-is_some.true)) (Appends-nil taken)

pub returns-clause-ended : goal.returns-clause-ended
returns-clause-ended g c =
    let before = g.W.ByteOut.bytes_taken c.args.writer.now in
    let after = g.W.ByteOut.bytes_taken c.write_text.new.writer in
    let old = c.args.self.now in
    let text = c.put_end.new.self.text.items in
    on_ok_of _ _ c.write_text.result
    (λ appends start plate logic past seen written.
    traced_all old start before after plate logic past (refusal_of c.args.refused) text written
    (end_said old.format old.scans old.shown c.args.refused text (sym c.is_some.ensures ∙ c.if-is_some.false) c.in_ok-put_end.ensures.puts)
    (subst (λ bytes. Appends before after bytes) c.deref.ensures.value appends))
    (all_written c.deref.result.now c.write_text.result before after c.write_text.ensures.writes)
