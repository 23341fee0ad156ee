use Rattle.std.proofs.Common.{◌∷◌, subst, sym, refl}
use Rattle.wc_record.proofs.log.Rows.later_row.Goals as goal
use Rattle.wc_record.specs.Steps.{GivesRecord}

pub returns-in-Ok-true-clause-gives : goal.returns-in-Ok-true-clause-gives
returns-in-Ok-true-clause-gives g c =
    λ first before left represents.
    let read = (rw c.in-Ok-true.field-0-test at c.in-Ok-true.ensures) left represents.has in
    subst (λ l. GivesRecord g.R.ByteIn.bytes_left (first ∷ before) l c.row_of_record.result c.row_of_record.new.self) (sym read.1)
    (c.row_of_record.ensures.gives first before read.0 (record { has = read.2; number = represents.number; last = represents.last; few = represents.few }))

pub returns-in-Ok-false-clause-gives : goal.returns-in-Ok-false-clause-gives
returns-in-Ok-false-clause-gives g c =
    λ first before left represents.
    let none = (rw c.in-Ok-false.field-0-test at c.in-Ok-false.ensures) left represents.has in
    rw none refl
