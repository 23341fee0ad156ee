use Rattle.wc_laws_grammar.proofs.FirstFaults.{one_first_fault}
use Rattle.wc_laws_grammar.proofs.prefixes.one_first_fault.Goals as goal

pub returns : goal.returns
returns c = one_first_fault
