use Rattle.wc_model.proofs.Common.{None, IfOk-weaker}
use Rattle.wc_scale.proofs.scale.opened_by.Goals as goal

pub returns-in-Ok-clause-plate : goal.returns-in-Ok-clause-plate
returns-in-Ok-clause-plate c =
    IfOk-weaker c.new.result _ _
    (λ opened represents. record { plate = c.in-Ok.plate; given = (c.in-Ok.ensures.verdict, (represents None tt).is_plate); represents = represents None tt }) c.new.ensures.represents
