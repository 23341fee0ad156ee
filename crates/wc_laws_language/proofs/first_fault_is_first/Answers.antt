use Rattle.wc_laws_language.proofs.Refusing.{found_is_first, first_is_found}
use Rattle.wc_laws_language.proofs.first_fault_is_first.Goals as goal

pub returns : goal.returns
returns c = λ checks refusal. (found_is_first checks refusal, first_is_found checks refusal)
