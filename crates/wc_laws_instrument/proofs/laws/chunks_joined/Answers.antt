use Rattle.wc_laws_instrument.proofs.Requests.{requests_join}
use Rattle.wc_laws_instrument.proofs.laws.chunks_joined.Goals as goal

pub returns : goal.returns
returns c = requests_join
