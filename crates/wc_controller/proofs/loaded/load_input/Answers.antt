use Rattle.std.proofs.Common.{sym, subst}
use Rattle.wc_controller.proofs.Blaming.{not_loaded_why}
use Rattle.wc_controller.proofs.loaded.load_input.Goals as goal
use Rattle.wc_controller.specs.Blames.{IsUnloaded}

pub returns-in-Err-clause-refused : goal.returns-in-Err-clause-refused
returns-in-Err-clause-refused c =
    subst (λ why. IsUnloaded c.args.text.now why) (sym c.from.ensures) (not_loaded_why c.args.text.now c.in-Err.fault c.in-Err.ensures.refused)
