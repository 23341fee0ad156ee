use Rattle.wc_laws_language.proofs.WorstPaths.{same_report}
use Rattle.wc_laws_language.proofs.without_outputs.a_check_prints_what_it_printed.Goals as goal

pub returns : goal.returns
returns c = same_report
