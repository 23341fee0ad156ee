use Rattle.wc_laws_instrument.proofs.Independence.{is_free_of_programs}
use Rattle.wc_laws_instrument.proofs.laws.answers_are_free_of_programs.Goals as goal

pub returns : goal.returns
returns g c = is_free_of_programs
