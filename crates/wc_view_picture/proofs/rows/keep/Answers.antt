use Rattle.std.proofs.Common.{Option, Some, None, List, subst, sym}
use Rattle.wc_view_columns.specs.{Row, IsTimeLineOf, row_at}
use Rattle.wc_view_columns.specs.declared.line.TimeLine.{TimeLine}
use Rattle.wc_view_picture.proofs.Kept.{without_last}
use Rattle.wc_view_picture.proofs.rows.keep.Goals as goal
use Rattle.wc_view_picture.specs.Seen.{IsTimeOf}

pub returns-in-Some : goal.returns-in-Some
returns-in-Some c = λ rows held time is from.
    let before : IsTimeOf rows (Some c.in-Some.line) = subst (λ (line : Option TimeLine). IsTimeOf rows line) c.in-Some.is time in
    c.take.ensures rows held (before (without_last 0 rows (row_at c.args.ms held c.args.row) from)) from is

pub returns-in_ok-first-in-None : goal.returns-in_ok-first-in-None
returns-in_ok-first-in-None c = λ rows held time is from.
    let none : IsTimeOf rows None = subst (λ (line : Option TimeLine). IsTimeOf rows line) c.in-None.is time in
    c.take-in-None.ensures rows held (subst (λ (list : List Row). IsTimeLineOf list c.in_ok-first-in-None.first) (sym none) c.in_ok-first-in-None.ensures) from is
