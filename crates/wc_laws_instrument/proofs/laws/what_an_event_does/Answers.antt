use Rattle.wc_laws_instrument.proofs.Indication.{effects_of}
use Rattle.wc_laws_instrument.proofs.laws.what_an_event_does.Goals as goal

pub returns : goal.returns
returns c = effects_of
