-- The number at the place is that of what the store holds there.
use Rattle.wc_model.proofs.Common.{◌∙◌, ap, slice_get}
use Rattle.wc_machine.proofs.machine.Machine.number.Goals as goal
use Rattle.wc_machine.specs.Machines.{MachineState}

pub returns : goal.returns
returns g c = λ text store location represents at.
    c.number_at.ensures
    ∙ ap (λ (m : MachineState). slice_get m.numbers c.args.place.0) c.self.view_is
    ∙ represents.contents.each location c.args.place.0 at
