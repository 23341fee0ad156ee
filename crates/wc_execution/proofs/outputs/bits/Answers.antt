-- All sixteen bits.
use Rattle.std.proofs.Common.{◌≡◌, ◌*◌, ◌^◌, map, sum, ap, ◌∙◌, arith}
use Rattle.wc_execution.proofs.outputs.bits.Goals as goal
use Rattle.wc_model.specs.Language.DirectVariables.{numbers_below}

pub returns : goal.returns
returns g c = λ on each.
    let end : c.loop-bit.bit ≡ 16 = omega arith in
    c.loop-bit.invariant.reported on each ∙ ap (λ n. sum (map (λ i. 2 ^ i * on i) (numbers_below n))) end
