use Rattle.wc_laws_instrument.proofs.Answers.{length_answer}
use Rattle.wc_laws_instrument.proofs.laws.answers_have_twenty_bytes.Goals as goal

pub returns : goal.returns
returns c = length_answer
