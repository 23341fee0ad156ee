use Rattle.wc_laws_language.proofs.Declared.{ignore_directions}
use Rattle.wc_laws_language.proofs.without_outputs.declarations_ignore_directions.Goals as goal

pub returns : goal.returns
returns c = ignore_directions
