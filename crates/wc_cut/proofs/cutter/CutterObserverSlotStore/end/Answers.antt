use Rattle.wc_model.proofs.Common.{◌≡◌, ◌∙◌, [], ap, subst, sym, Appends-nil, Appends}
use Rattle.wc_cut.proofs.Observed.{always, counted_after, counted_before, ends_after, ends_before, ends_refused, none_refused, some_refused}
use Rattle.wc_cut.proofs.cutter.CutterObserverSlotStore.end.Goals as goal
use Rattle.wc_cut.proofs.cutter.CutterObserverSlotStore.end.Goals.{then-self-via-then-self, then-self-via-else-self+then-is_some}
use Rattle.wc_cut.specs.Cuts.{end_written}
use Rattle.wc_cut.specs.declared.cutter.Cutter.{Cutter}
use Rattle.wc_run.specs.{Writes, onto, refusal_of}

pub returns-then-self-clause-writes : goal.returns-then-self-clause-writes
returns-then-self-clause-writes g c plate logic past seen =
    let old : Cutter = c.args.self.now in
    let none : end_written old.count plate logic (onto past []) (refusal_of c.args.refused) ≡ [] = elim c.then-self.branch [
      | then-self-via-then-self w ↦ ends_after old plate logic past old.opened w.if-self.true seen (refusal_of c.args.refused)
      | then-self-via-else-self+then-is_some w ↦ ends_refused old.count plate logic (onto past []) c.args.refused (sym w.is_some.ensures ∙ w.if-is_some.true)
    ] in
    subst (λ text. Appends (g.W.ByteOut.bytes_taken c.args.writer.now) (g.W.ByteOut.bytes_taken c.args.writer.now) text) (sym none)
    (Appends-nil (g.W.ByteOut.bytes_taken c.args.writer.now))

pub returns-clause-writes : goal.returns-clause-writes
returns-clause-writes g c plate logic past seen =
    let old : Cutter = c.args.self.now in
    subst (λ text. Writes text c.write_text.result (g.W.ByteOut.bytes_taken c.args.writer.now) (g.W.ByteOut.bytes_taken c.write_text.new.writer))
    (c.deref.ensures.value ∙ c.in_ok-put_opening.ensures.text ∙ ends_before old plate logic past old.opened c.if-self.false seen
    ∙ ap (end_written old.count plate logic (onto past [])) (sym (none_refused c.args.refused (sym c.is_some.ensures ∙ c.if-is_some.false))))
    c.write_text.ensures.writes

pub returns-then-self-clause-ended : goal.returns-then-self-clause-ended
returns-then-self-clause-ended g c start plate logic past seen written none =
    let old : Cutter = c.args.self.now in
    elim c.then-self.branch [
      | then-self-via-then-self w ↦ counted_after old plate past old.opened w.if-self.true seen
      | then-self-via-else-self+then-is_some w ↦ absurd (some_refused c.args.refused (sym w.is_some.ensures ∙ w.if-is_some.true) none)
    ]

pub returns-clause-ended : goal.returns-clause-ended
returns-clause-ended g c = always c.write_text.result (λ start plate logic past seen written none.
    let old : Cutter = c.args.self.now in
    counted_before old c.put_opening.new.self.capacity plate past old.opened c.if-self.false seen c.in_ok-put_opening.ensures.capacity)
