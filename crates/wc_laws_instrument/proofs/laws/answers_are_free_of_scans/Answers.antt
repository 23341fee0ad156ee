use Rattle.wc_laws_instrument.proofs.Independence.{is_free_of_scans}
use Rattle.wc_laws_instrument.proofs.laws.answers_are_free_of_scans.Goals as goal

pub returns : goal.returns
returns c = is_free_of_scans
