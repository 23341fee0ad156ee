use Rattle.std.proofs.Common.{◌+◌, ◌/◌, ap, sym, ◌∙◌}
use Rattle.wc_view_columns.proofs.Rows.{count_halved, each_halved}
use Rattle.wc_view_columns.proofs.line.TimeLine.halve.Goals as goal

pub returns-clause-columns : goal.returns-clause-columns
returns-clause-columns c rows from are =
    let line = c.args.self.now in
    record {
      count = c.pair_up.ensures.halved.count ∙ ap (λ n. (n + 1) / 2) are.count ∙ sym (count_halved line.start line.power rows);
      each = each_halved line.start line.power rows line.columns.items c.pair_up.new.columns.items from are.count are.each c.pair_up.ensures.halved;
    }
