use Rattle.wc_laws_loading.proofs.FittingTexts.{loaded_is_small}
use Rattle.wc_laws_loading.proofs.loaded_texts_are_small.Goals as goal

pub returns : goal.returns
returns c = loaded_is_small
