-- After the first row are the same log and the same records.
use Rattle.std.proofs.Common.{◌≡◌, [], ◌∷◌, subst, sym, arith}
use Rattle.wc_record.proofs.LogSteps.{gives_as, none_read}
use Rattle.wc_record.proofs.log.Rows.row_after_heading.Goals as goal
use Rattle.wc_record.specs.{IsAfterRecords, GivesRecord}

pub returns-in-Ok-clause-gives : goal.returns-in-Ok-clause-gives
returns-in-Ok-clause-gives g c =
    λ before left represents.
    let known = g.R.ByteIn.bytes_left in
    let none : before ≡ [] = none_read before (omega (arith, represents.number)) in
    let first = c.in-Ok.ensures.first left (subst (λ b. IsAfterRecords known c.args.self.now b left) none represents) in
    subst (λ b. GivesRecord known b left c.later_row.result c.later_row.new.self) (sym none)
    (gives_as known [] left (first.0 ∷ []) first.1 c.later_row.result c.later_row.new.self first.2 first.4 (c.later_row.ensures.gives first.0 [] first.1 first.3))
