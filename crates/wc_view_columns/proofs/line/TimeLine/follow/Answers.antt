use Rattle.std.proofs.Common.{get_or, subst, refl}
use Rattle.wc_view_columns.proofs.Rows.{followed, without_last}
use Rattle.wc_view_columns.specs.{AreJoined, row_at}
use Rattle.wc_view_columns.proofs.line.TimeLine.follow.Goals as goal

pub returns-clause-columns : goal.returns-clause-columns
returns-clause-columns c rows after are from held is =
    let row = row_at c.args.ms after c.args.row.now in
    let line = c.reach.new.self in
    let wide = c.reach.ensures.columns rows (without_last c.args.self.now.start rows row from) are in
    let joined : AreJoined (get_or c.fill.new.columns.items c.number-index.result c.index.result.now) c.args.row.now c.merge-column.result =
    subst (λ a. AreJoined a c.args.row.now c.merge-column.result) (c.index.ensures)
    (record { state = c.merge-column.ensures.state; events = c.merge-column.ensures.events }) in
    let both = followed line.start line.power c.args.self.now.start rows row line.columns.items c.fill.new.columns.items c.args.held.now c.args.row.now c.merge-column.result
    c.index.result.now c.number-index.result from wide.count wide.each held c.number-index.ensures c.fill.ensures.columns is refl joined in
    record { count = both.0; each = both.1 }
