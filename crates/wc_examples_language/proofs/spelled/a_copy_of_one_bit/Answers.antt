use Rattle.std.proofs.Common.{refl}
use Rattle.wc_laws_grammar.proofs.Spelling.{spelling}
use Rattle.wc_examples_language.proofs.spelled.a_copy_of_one_bit.Goals as goal

pub returns : goal.returns
returns c = record {
  spelled = search spelling depth 60 fits 20000;
  order = refl;
}
