use Rattle.wc_names.proofs.HandedOn.{propagated}
use Rattle.wc_verify.specs.Instructions.{GoesOn}
use Rattle.wc_verify.proofs.Found.{goes_wrong}
use Rattle.wc_verify.proofs.instructions.kind_following.Goals as goal

pub returns-in_err-validated : goal.returns-in_err-validated
returns-in_err-validated c = λ scope line following kind more validated after. propagated (GoesOn scope line following kind more) c.in_err-validated.field-0.0 c.from_residual.result c.from_residual.ensures (goes_wrong scope line following kind more c.args.validated c.in_err-validated.field-0.0 c.in_err-validated.was validated)
