use Rattle.std.proofs.Common.{◌≡◌, [], ◌∷◌, ◌++◌, refl, sym, ap, ◌∙◌, length, subst}
use Rattle.wc_view_columns.proofs.Rows.{AreEach, count_first, each_first}
use Rattle.wc_view_columns.specs.TimeLines.{row_at}
use Rattle.wc_view_columns.proofs.line.TimeLine.begin.Goals as goal

pub returns-clause-columns : goal.returns-clause-columns
returns-clause-columns c held is =
    let row = row_at c.args.ms held c.args.row.now in
    let one : c.push_reserved.new.self.items ≡ c.merge.result ∷ [] =
    c.push_reserved.ensures.items ∙ ap (λ columns. columns ++ c.merge.result ∷ []) c.clear.ensures.items in
    record {
      count = ap length one ∙ count_first c.args.self.now.power c.args.ms row refl;
      each = subst (λ columns. AreEach c.args.ms c.args.self.now.power (row ∷ []) columns) (sym one)
          (each_first c.args.self.now.power c.args.ms row c.holding.result c.args.row.now c.merge.result refl c.holding.ensures is refl
          (record { state = c.merge.ensures.state; events = c.merge.ensures.events }));
    }
