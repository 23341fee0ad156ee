use Rattle.wc_laws_grammar.proofs.LineStarts.{lines_start}
use Rattle.wc_model.specs.Definitions.{End, InBody, identifier, end_word}
use Rattle.wc_examples_language.proofs.spelled.an_empty_body_is_line_ends.Goals as goal

pub returns : goal.returns
returns c = λ kind token tokens h. lines_start InBody End (identifier (end_word kind)) token tokens h
