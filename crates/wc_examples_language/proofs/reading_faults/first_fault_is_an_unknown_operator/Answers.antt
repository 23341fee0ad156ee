use Rattle.std.proofs.Common.{◌++◌, refl}
use Rattle.wc_model.specs.Text.ReadingFaults.{UnexpectedToken}
use Rattle.wc_laws_grammar.proofs.Readings.{refused_is_first}
use Rattle.wc_examples_language.specs.Faulty.{jmpnc_before, jmpnc_left}
use Rattle.wc_examples_language.proofs.reading_faults.first_fault_is_an_unknown_operator.Goals as goal

pub returns : goal.returns
returns c = refused_is_first (jmpnc_before ++ jmpnc_left) 3 (record { fault = UnexpectedToken; line = 2 }) refl
