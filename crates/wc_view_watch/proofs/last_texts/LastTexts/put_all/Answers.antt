use Rattle.wc_model.proofs.Common.{◌≡◌, ◌∙◌, Global, Vec, ap, drop, length, rules, subst, sym, take, arith, min, length-drop, take_all}
use Rattle.std.specs.Prelude.{◌-◌, ℕ}
use Rattle.wc_names.proofs.HandedOn.{on_ok}
use Rattle.wc_view_watch.proofs.RingSteps.{both_put}
use Rattle.wc_view_watch.proofs.last_texts.LastTexts.put_all.Goals as goal
use Rattle.wc_view_watch.specs.Ring.{HoldsLast, RingState}

pub returns-clause-puts : goal.returns-clause-puts
returns-clause-puts c =
    let kept = c.self.inside.texts.items in
    let at = c.min-first.result in
    let len : c.len.result ≡ length kept = search rules in
    on_ok c.put_texts-2.result
    (λ put number all holds.
    both_put (λ (text : Vec ℕ Global). text.items) c.args.out.now.items c.put_texts.new.out.items c.put_texts-2.new.out.items kept (take (length c.deref.result.now - at) (drop at c.deref.result.now)) (take at c.deref-2.result.now)
    c.self.inside.first at number all (c.min-first.ensures ∙ ap (min c.self.inside.first) len) c.in_ok-put_texts.ensures.texts
    (take_all (length c.deref.result.now - at) (drop at c.deref.result.now) (omega (arith, length-drop at c.deref.result.now)) ∙ ap (drop at) c.deref.ensures.value) put (ap (take at) c.deref-2.ensures.value)
    (subst (λ (ring : RingState). HoldsLast ring number all) (sym c.self.view_is) holds))
    c.put_texts-2.ensures.texts
