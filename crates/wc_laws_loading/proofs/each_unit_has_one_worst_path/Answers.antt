use Rattle.wc_laws_loading.proofs.OneReport.{each_has_one}
use Rattle.wc_laws_loading.proofs.each_unit_has_one_worst_path.Goals as goal

pub returns : goal.returns
returns c = each_has_one
