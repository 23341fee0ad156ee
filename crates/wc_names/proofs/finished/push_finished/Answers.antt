use Rattle.wc_model.proofs.Common.{◌≡◌, ◌++◌, ◌∙◌, Some, ap, refl, slice_get}
use Rattle.wc_names.specs.declared.frame.Frame.{Frame}
use Rattle.wc_names.proofs.HandedOn.{on_ok}
use Rattle.wc_names.proofs.Lists.{same_found}
use Rattle.wc_names.proofs.finished.push_finished.Goals as goal
use Rattle.wc_names.proofs.finished.push_finished.Goals.{After-append}

-- the frame that is found is the one that is there
found : (c : After-append) (more : Frame) → slice_get c.args.finished.now c.args.unit ≡ Some more → c.in-Some.more.now ≡ more
found c more there = same_found c.args.finished.now c.args.finished.now c.args.unit more c.in-Some.more.now refl there c.in-Some.ensures.lookup.3.0 c.in-Some.ensures.lookup.1

pub returns-in-Some-clause-kinds : goal.returns-in-Some-clause-kinds
returns-in-Some-clause-kinds c = on_ok c.append.result
    (λ is more there. is ∙ ap (λ (f : Frame). c.args.frame.now.kinds.items ++ f.kinds.items) (found c more there))
    c.append.ensures.kinds

pub returns-in-Some-clause-initials : goal.returns-in-Some-clause-initials
returns-in-Some-clause-initials c = on_ok c.append.result
    (λ is more there. is ∙ ap (λ (f : Frame). c.args.frame.now.initials.items ++ f.initials.items) (found c more there))
    c.append.ensures.initials
