use Rattle.wc_model.proofs.Common.{◌≡◌, ◌++◌, decimal}
use Rattle.wc_sma.proofs.weight.WeightField.put_decimal.Given as goal

-- the digits left before those put are the number's
abbrev pub invariant-loop-rest : goal.invariant-loop-rest
invariant-loop-rest l = decimal l.rest ++ l.self ≡ decimal l.number ++ l.initial.self

abbrev pub decreases-loop-rest : goal.decreases-loop-rest
decreases-loop-rest l = l.rest
