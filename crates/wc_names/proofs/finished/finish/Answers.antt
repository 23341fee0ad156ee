use Rattle.std.proofs.Common.{rules, ◌≡◌, ◌∷◌, [], ◌++◌, sym, subst}
use Rattle.wc_names.specs.Carrying.{AreFinished, EachHoldsFirst}
use Rattle.wc_names.proofs.Spread.{first_on, finished_on}
use Rattle.wc_names.proofs.finished.finish.Goals as goal

pub returns-clause-finished : goal.returns-clause-finished
returns-clause-finished c = λ done.
    let frame = c.push_unit.new.frame in
    let more : c.push.new.self.items ≡ c.args.finished.now.items ++ frame ∷ [] = search rules in
    let borrowed = subst (λ fs. AreFinished c.args.units.now c.args.unit fs) (sym c.deref.ensures.value) done in
    finished_on c.args.units.now c.args.unit c.args.finished.now.items c.push.new.self.items c.no_slots-frame.result frame c.no_slots-frame.ensures.kinds c.no_slots-frame.ensures.initials more
    (λ before u h e. c.in_ok-push_unit.ensures.grown before u h e borrowed) done

pub returns-clause-first : goal.returns-clause-first
returns-clause-first c = λ each.
    let frame = c.push_unit.new.frame in
    let more : c.push.new.self.items ≡ c.args.finished.now.items ++ frame ∷ [] = search rules in
    first_on c.args.finished.now.items c.push.new.self.items frame more (c.in_ok-push_unit.ensures.first (subst EachHoldsFirst (sym c.deref.ensures.value) each) c.no_slots-frame.ensures.first) each
