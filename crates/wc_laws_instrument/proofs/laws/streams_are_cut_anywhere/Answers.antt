use Rattle.wc_laws_instrument.proofs.Requests.{is_cut_anywhere}
use Rattle.wc_laws_instrument.proofs.laws.streams_are_cut_anywhere.Goals as goal

pub returns : goal.returns
returns c = is_cut_anywhere
