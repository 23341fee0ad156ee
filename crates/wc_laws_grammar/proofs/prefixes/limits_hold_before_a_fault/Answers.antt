use Rattle.wc_model.specs.Text.ReadingFaults.{TooDeep, TooMany}
use Rattle.wc_laws_grammar.proofs.prefixes.limits_hold_before_a_fault.Goals as goal

pub returns : goal.returns
returns c = λ before left free seen mark more line e. (free seen mark more line e TooDeep, free seen mark more line e TooMany)
