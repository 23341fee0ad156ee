use Rattle.std.proofs.Common.{refl, inl, inr}
use Rattle.std.specs.Prelude.{drop}
use Rattle.wc_laws_grammar.proofs.Spelling.{spelling}
use Rattle.wc_examples_language.specs.Texts.{ampersand_tokens, ampersand_lines_from_4, program_text, body_then_end}
use Rattle.wc_examples_language.proofs.spelled.ampersands.Goals as goal

-- the lines from line 4 on
from_4 : body_then_end ampersand_lines_from_4 (drop 9 (program_text ampersand_tokens 6))
from_4 = search (spelling, inl, inr) depth 60 fits 20000

pub returns : goal.returns
returns c = record {
  spelled = search (spelling, inl, inr, from_4) depth 60 fits 20000;
  order = refl;
}
