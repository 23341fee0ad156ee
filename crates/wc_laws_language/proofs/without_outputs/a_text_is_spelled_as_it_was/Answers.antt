use Rattle.wc_laws_language.proofs.Spelling.{same_spelling}
use Rattle.wc_laws_language.proofs.without_outputs.a_text_is_spelled_as_it_was.Goals as goal

pub returns : goal.returns
returns c = same_spelling
