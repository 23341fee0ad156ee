use Rattle.wc_sma.proofs.AnswerLetters.{letters_are_answers}
use Rattle.wc_sma.proofs.letters.letters_are_those_of_answers.Goals as goal

pub returns : goal.returns
returns c = letters_are_answers
