use Rattle.std.proofs.Common.{refl, inl}
use Rattle.std.specs.Prelude.{drop}
use Rattle.wc_laws_grammar.proofs.Languages.{either_right}
use Rattle.wc_laws_grammar.proofs.Spelling.{spelling}
use Rattle.wc_examples_language.specs.Texts.{bare_call_tokens, bare_call_lines_from_4, program_text, body_then_end}
use Rattle.wc_examples_language.proofs.spelled.calls_without_arguments.Goals as goal

-- the second call, with an empty list, and the line end before it
from_4 : body_then_end bare_call_lines_from_4 (drop 6 (program_text bare_call_tokens 5))
from_4 = search (spelling, either_right) depth 60 fits 20000

pub returns : goal.returns
returns c = record {
  spelled = search (spelling, inl, from_4) depth 60 fits 20000;
  order = refl;
}
