use Rattle.wc_scale.proofs.Opened.{is_started}
use Rattle.wc_scale.proofs.Refusing.{refuses_load}
use Rattle.wc_scale.proofs.scale.Scale.load.Goals as goal

pub returns-in-Ok-clause-taken : goal.returns-in-Ok-clause-taken
returns-in-Ok-clause-taken c = λ done.
    is_started c.args.self.now c.in-Some.opened c.load.new.self c.args.text.now c.in-Ok.machine c.in-Some.is c.in-Ok.ensures.begins c.in-Ok.ensures.accepted c.load.ensures.represents
    c.load.ensures.machine

pub returns-in-Err-clause-refused : goal.returns-in-Err-clause-refused
returns-in-Err-clause-refused c =
    refuses_load c.args.self.now c.in-Some.opened c.args.text.now c.in-Err.fault c.of_fault.result c.in-Some.is c.in-Err.ensures.refused c.in-Err.ensures.only c.of_fault.ensures
