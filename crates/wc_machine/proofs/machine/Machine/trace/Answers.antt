-- What is kept of a scan is what was shown of it.
use Rattle.wc_model.proofs.Common.{◌∙◌, ◌++◌, List, ap, subst, sym, IfOk-weaker}
use Rattle.wc_machine.proofs.machine.Machine.trace.Goals as goal
use Rattle.wc_machine.specs.Seeing.{IsSeen}
use Rattle.wc_machine.specs.declared.seen.SeenLine.{SeenLine}

pub returns-clause-seen : goal.returns-clause-seen
returns-clause-seen g c = λ text store represents.
    let scan = c.observe_scan-steps.ensures.shown text store represents in
    IfOk-weaker c.into_lines.result _ _
    (λ lines held. subst (λ (l : List SeenLine). IsSeen text store c.args.image.now c.args.now l)
    (sym (held.1 ∙ ((scan.are_shown held.0).1 ∙ ap (λ (l : List SeenLine). l ++ scan.lines) c.new-sight.ensures.nothing))) scan.seen)
    c.into_lines.ensures.lines
