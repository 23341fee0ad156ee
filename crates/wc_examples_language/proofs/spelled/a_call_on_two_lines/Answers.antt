use Rattle.std.proofs.Common.{refl}
use Rattle.std.specs.Prelude.{drop}
use Rattle.wc_laws_grammar.proofs.Languages.{cut_at}
use Rattle.wc_laws_grammar.proofs.Spelling.{spelling}
use Rattle.wc_examples_language.specs.Texts.{program_text, call_tokens, call_arguments}
use Rattle.wc_model.specs.Definitions.{ClosingBracket, Comma, LineEnd, is_line_end, ◌then◌, separated, skipping, empty, end_word, End, InBody, symbol, argument, identifier, lines, line_ends}
use Rattle.wc_model.specs.declared.source.UnitKind.TheVariants.{Program}
use Rattle.wc_examples_language.proofs.spelled.a_call_on_two_lines.Goals as goal

-- the list, in which line ends are skipped, and what follows
list : (skipping is_line_end (separated (symbol Comma) argument call_arguments) then symbol ClosingBracket then (symbol LineEnd then lines InBody End) then identifier (end_word Program) then empty then line_ends) (drop 6 (program_text call_tokens 4))
list = cut_at 14 (search spelling depth 60 fits 20000) (search spelling depth 60 fits 20000)

pub returns : goal.returns
returns c = record {
  spelled = search (spelling, list) depth 60 fits 20000;
  order = refl;
}
