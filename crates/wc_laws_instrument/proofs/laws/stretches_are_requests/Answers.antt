use Rattle.wc_laws_instrument.proofs.Requests.{stretch_is_request}
use Rattle.wc_laws_instrument.proofs.laws.stretches_are_requests.Goals as goal

pub returns : goal.returns
returns c = stretch_is_request
