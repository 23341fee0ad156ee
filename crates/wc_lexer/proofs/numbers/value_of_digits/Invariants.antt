use Rattle.std.proofs.Common.{◌≡◌, ◌<◌, ◌^◌, length, filter, not}
use Rattle.std.specs.Str.Parse.{digits_value_after}
use Rattle.wc_lexer.proofs.numbers.value_of_digits.Given as goal
use Rattle.wc_model.specs.Definitions.{is_underscore, value_of_digits}

abbrev pub invariant-loop-rest : goal.invariant-loop-rest
invariant-loop-rest l = record {
  within : l.value < 2 ^ 64;
  all : digits_value_after l.base l.value (filter (λ b. not (is_underscore b)) l.rest) ≡ value_of_digits l.base l.text;
}

abbrev pub decreases-loop-rest : goal.decreases-loop-rest
decreases-loop-rest l = length l.rest
