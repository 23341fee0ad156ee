use Rattle.wc_model.proofs.Common.{arith, subst, common_steps}
use Rattle.wc_lexer.proofs.PartSums.{no_milliseconds}
use Rattle.wc_lexer.proofs.durations.milliseconds.Goals as goal
use Rattle.wc_lexer.specs.Numbers.{IsParsedSum}
use Rattle.wc_model.specs.Text.Durations.{are_duration_parts, billionths, duration_parts}

pub returns-in_err-sum : goal.returns-in_err-sum
returns-in_err-sum c =
    rw c.from_residual.ensures (no_milliseconds c.args.negative (duration_parts c.args.text.now) (subst (IsParsedSum (are_duration_parts (duration_parts c.args.text.now)) (billionths (duration_parts c.args.text.now))) c.in_err-sum.was c.all_billionths.ensures))

pub returns-then-sum-eq0 : goal.returns-then-sum-eq0
returns-then-sum-eq0 c = grind (arith, common_steps)

pub returns-else-sum-eq0 : goal.returns-else-sum-eq0
returns-else-sum-eq0 c = grind (arith, common_steps)
