use Rattle.wc_laws_loading.proofs.OneReport.{one_report}
use Rattle.wc_laws_loading.proofs.a_text_has_one_report.Goals as goal

pub returns : goal.returns
returns c = one_report
