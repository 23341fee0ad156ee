use Rattle.wc_laws_language.proofs.PathsBefore.{same_too_long}
use Rattle.wc_laws_language.proofs.without_outputs.a_text_is_too_long_where_it_was.Goals as goal

pub returns : goal.returns
returns c = same_too_long
