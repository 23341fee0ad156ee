use Rattle.std.proofs.Common.{sym, subst}
use Rattle.wc_names.specs.Carrying.{AreFinished, IsStarted}
use Rattle.wc_names.proofs.Spread.{frame_spread}
use Rattle.wc_names.proofs.finished.slots.Goals as goal

pub returns-clause-kinds : goal.returns-clause-kinds
returns-clause-kinds c = λ scope h e.
    let begins = subst (λ b. IsStarted b c.in_ok-frame.frame) (c.is_function_block.ensures scope.before scope.unit h e) c.in_ok-frame.ensures.begins in
    let done = subst (λ fs. AreFinished c.args.units.now c.args.unit fs) (sym c.deref.ensures.value) c.in_ok-finished.ensures.finished in
    (frame_spread scope c.in_ok-frame.frame c.push_unit.new.frame begins (c.in_ok-push_unit.ensures.grown scope.before scope.unit h e done)).0

pub returns-clause-initials : goal.returns-clause-initials
returns-clause-initials c = λ scope h e.
    let begins = subst (λ b. IsStarted b c.in_ok-frame.frame) (c.is_function_block.ensures scope.before scope.unit h e) c.in_ok-frame.ensures.begins in
    let done = subst (λ fs. AreFinished c.args.units.now c.args.unit fs) (sym c.deref.ensures.value) c.in_ok-finished.ensures.finished in
    (frame_spread scope c.in_ok-frame.frame c.push_unit.new.frame begins (c.in_ok-push_unit.ensures.grown scope.before scope.unit h e done)).1
