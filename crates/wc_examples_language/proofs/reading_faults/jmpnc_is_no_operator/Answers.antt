use Rattle.wc_model.proofs.Common.{◌≡◌, true, codes}
use Rattle.wc_laws_grammar.proofs.OperatorWords.{is_operator_word, operator_of_is_word}
use Rattle.wc_model.specs.Language.Names.{name_of}
use Rattle.wc_examples_language.proofs.reading_faults.jmpnc_is_no_operator.Goals as goal

pub returns : goal.returns
returns c = λ step line h. let word : is_operator_word (name_of (codes "JMPNC")) ≡ true = operator_of_is_word step (codes "JMPNC") line h in cc
