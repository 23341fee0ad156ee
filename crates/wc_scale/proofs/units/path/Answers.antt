use Rattle.std.proofs.Common.{sym, subst}
use Rattle.wc_scale.proofs.Refusing.{no_unit_answer, refused_at}
use Rattle.wc_scale.specs.Opening.{ReportsFault}
use Rattle.wc_scale.proofs.units.path.Goals as goal

pub returns-in-Err-clause-refused : goal.returns-in-Err-clause-refused
returns-in-Err-clause-refused c = λ is.
    refused_at c.args.text.now c.in-Err.fault c.no_path.result.text c.in-Err.ensures.refused c.in-Err.ensures.only
    (subst (λ reported. ReportsFault c.in-Err.fault reported) (sym c.no_path.ensures.text) c.of_fault.ensures) is

pub returns-in-Err-clause-no_unit : goal.returns-in-Err-clause-no_unit
returns-in-Err-clause-no_unit c =
    no_unit_answer c.args.text.now c.args.unit c.in-Err.fault c.no_path.result.text
    (subst (λ reported. ReportsFault c.in-Err.fault reported) (sym c.no_path.ensures.text) c.of_fault.ensures)
