use Rattle.wc_laws_language.proofs.Declared.{fail_only_by_addresses}
use Rattle.wc_laws_language.proofs.without_outputs.outputs_fail_only_by_their_addresses.Goals as goal

pub returns : goal.returns
returns c = fail_only_by_addresses
