use Rattle.std.proofs.Common.{refl, inl}
use Rattle.std.specs.Prelude.{drop}
use Rattle.wc_laws_grammar.proofs.Spelling.{spelling}
use Rattle.wc_examples_language.specs.Texts.{jump_tokens, jump_lines_from_10, jump_lines_from_8, jump_lines_from_4, program_text, body_then_end}
use Rattle.wc_examples_language.proofs.spelled.labels_jumps_and_parentheses.Goals as goal

-- the lines from line 10 on, with the line end before them
from_10 : body_then_end jump_lines_from_10 (drop 26 (program_text jump_tokens 12))
from_10 = search spelling depth 60 fits 20000

-- from line 8 on
from_8 : body_then_end jump_lines_from_8 (drop 20 (program_text jump_tokens 12))
from_8 = search (spelling, inl, from_10) depth 60 fits 20000

-- from line 4 on
from_4 : body_then_end jump_lines_from_4 (drop 9 (program_text jump_tokens 12))
from_4 = search (spelling, inl, from_8) depth 60 fits 20000

pub returns : goal.returns
returns c = record {
  spelled = search (spelling, from_4) depth 60 fits 20000;
  order = refl;
}
