use Rattle.std.proofs.Common.{Some, refl}
use Rattle.wc_controller.proofs.Allowing.{on_success}
use Rattle.wc_controller.proofs.loaded.scale_of.Goals as goal
use Rattle.wc_model.specs.Definitions.{text_view, first_logic}
use Rattle.wc_run.specs.Logics.{text_of_next}

pub returns-clause-represents : goal.returns-clause-represents
returns-clause-represents c =
    on_success c.new-2.result _ _
    (λ scale represents. represents (Some (first_logic (text_view c.args.loaded.source) (text_of_next c.args.next))) (c.in_ok-machine.ensures.represents, refl))
    c.new-2.ensures.represents
