use Rattle.std.proofs.Common.{◌≡◌, ◌++◌}
use Rattle.wc_model.specs.Instrument.Answers.{last_digits}
use Rattle.wc_sma.proofs.weight.WeightField.put_last_digits.Given as goal

-- the digits left before those put are the last of the number
abbrev pub invariant-loop-left : goal.invariant-loop-left
invariant-loop-left l = last_digits l.left l.rest ++ l.self ≡ last_digits l.count l.number ++ l.initial.self

abbrev pub decreases-loop-left : goal.decreases-loop-left
decreases-loop-left l = l.left
