use Rattle.std.proofs.Common.{◌≡◌, ◌+◌, sym, ap, ◌∙◌, arith}
use Rattle.wc_text_flat.specs.FlatPaths.{Worst, from_line, line_worst}
use Rattle.wc_cost.specs.LoadedInside.{bounds_of}
use Rattle.wc_cost.proofs.WorstLengths.{then_steps, way_after}
use Rattle.wc_cost.proofs.path_lengths.way.Goals as goal

pub returns : goal.returns
returns c = λ source rest are small.
    let bounds = bounds_of c.args.units.now in
    let e : (line_worst bounds source rest c.args.line.now).steps ≡ c.cost.result + c.way_from.result =
    ap (λ (x : Worst). x.steps) (c.lines_passed-skip.ensures bounds source rest are) ∙ then_steps bounds source c.args.line.now (from_line rest c.lines_passed-skip.result)
    ∙ (λ i. sym c.cost.ensures i + (way_after c.args.path_lengths.now c.args.next rest are c.lines_passed-skip.result ∙ sym c.way_from.ensures) i)
    in
    let f = c.saturating_add.ensures in
    omega (arith, e, f, small)
