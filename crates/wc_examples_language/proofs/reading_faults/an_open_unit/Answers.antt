use Rattle.std.proofs.Common.{refl}
use Rattle.wc_examples_language.proofs.reading_faults.an_open_unit.Goals as goal
use Rattle.wc_examples_language.specs.Faulty.{loaded}
use Rattle.wc_laws_grammar.proofs.FaultLaws.{raised_at_end}
use Rattle.wc_model.specs.Text.ReadingFaults.{UnitNotClosed}

pub returns : goal.returns
returns c = raised_at_end loaded 3 (record { fault = UnitNotClosed; line = 1 }) _ refl tt refl
