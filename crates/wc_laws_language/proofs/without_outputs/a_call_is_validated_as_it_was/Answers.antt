use Rattle.std.proofs.Common.{[]}
use Rattle.wc_laws_language.proofs.Unchanged.{same_rules}
use Rattle.wc_laws_language.proofs.without_outputs.a_call_is_validated_as_it_was.Goals as goal

pub returns : goal.returns
returns c = λ scope line members arguments e. same_rules scope line members [] arguments e
