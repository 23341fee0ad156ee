use Rattle.wc_laws_language.proofs.Carrying.{carried_holds}
use Rattle.wc_laws_language.proofs.soundness.carried_store_holds_its_kinds.Goals as goal

pub returns : goal.returns
returns c = carried_holds
