use Rattle.std.proofs.Common.{refl}
use Rattle.wc_laws_grammar.proofs.Spelling.{spelling}
use Rattle.wc_examples_language.proofs.spelled.two_units_on_one_line.Goals as goal

pub returns : goal.returns
returns c = record {
  spelled = search spelling depth 90 fits 20000;
  order = (refl, refl);
}
