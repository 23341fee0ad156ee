use Rattle.wc_diag_warnings.proofs.EventLaws.{events_so}
use Rattle.wc_diag_warnings.proofs.laws.each_event_warning_is_so.Goals as goal

pub returns : goal.returns
returns c = events_so
