use Rattle.wc_model.proofs.Common.{◌≡◌, ◌==◌, false, length, sym, ap, arith, nat_tests}
use Rattle.wc_text_bodies.proofs.Openings.{innermost_of}
use Rattle.wc_diag_stops.specs.Allowed.{allowed_at_line}
use Rattle.wc_diag_stops.proofs.expected.at_line.Goals as goal

pub returns-else-is_empty : goal.returns-else-is_empty
returns-else-is_empty c =
    let more : (length c.args.body.now.openings.items == 0) ≡ false = grind (arith, nat_tests, c.args.body.now.openings.ok.0) in
    let some = innermost_of c.args.body.now.openings.items more in
    λ units. sym (ap allowed_at_line some.same)
