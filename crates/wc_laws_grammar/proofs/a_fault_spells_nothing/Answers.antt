use Rattle.wc_laws_grammar.proofs.FaultLaws.{fault_spells_nothing}
use Rattle.wc_laws_grammar.proofs.a_fault_spells_nothing.Goals as goal

pub returns : goal.returns
returns c = fault_spells_nothing
