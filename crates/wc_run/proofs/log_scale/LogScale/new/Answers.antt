use Rattle.wc_run.proofs.ScaleRows.{is_first}
use Rattle.wc_run.proofs.log_scale.LogScale.new.Goals as goal

pub returns-clause-represents : goal.returns-clause-represents
returns-clause-represents g c = λ logic represents.
    is_first c.args.alloc c.in_ok-opened.opened c.args.machine c.args.next c.args.plate.now logic c.in_ok-opened.ensures.represents represents
