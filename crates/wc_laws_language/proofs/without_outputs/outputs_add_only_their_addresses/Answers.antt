use Rattle.wc_laws_language.proofs.Declared.{only_addresses}
use Rattle.wc_laws_language.proofs.without_outputs.outputs_add_only_their_addresses.Goals as goal

pub returns : goal.returns
returns c = only_addresses
