use Rattle.wc_diag_warnings.proofs.DeclaredLaws.{declared_so}
use Rattle.wc_diag_warnings.proofs.laws.each_declared_warning_is_so.Goals as goal

pub returns : goal.returns
returns c = declared_so
