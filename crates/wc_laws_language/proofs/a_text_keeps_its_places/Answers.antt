use Rattle.wc_laws_language.proofs.KeptPlaces.{keeps_its_places}
use Rattle.wc_laws_language.proofs.a_text_keeps_its_places.Goals as goal

pub returns : goal.returns
returns c = keeps_its_places
