use Rattle.wc_laws_loading.proofs.LoadLaws.{one_refusal}
use Rattle.wc_laws_loading.proofs.one_refusal.Goals as goal

pub returns : goal.returns
returns c = one_refusal
