use Rattle.std.proofs.Common.{◌≡◌, ◌<◌, [], ◌∷◌, ◌++◌, ap, sym, ◌∙◌, subst, arith}
use Rattle.wc_view_columns.proofs.Joined.{from_start, moved, narrow_on, start_stays}
use Rattle.wc_view_columns.proofs.Rows.{left_last}
use Rattle.wc_view_columns.specs.{IsStateOf, column_count, left_by, AreColumns, IsLeft, IsStart, row_at}
use Rattle.wc_view_columns.specs.declared.line.TimeLine.{TimeLine}
use Rattle.wc_view_columns.proofs.line.TimeLine.take.Goals as goal
use Rattle.wc_view_columns.proofs.line.TimeLine.take.Goals.{in-Some, in-None}

pub returns : goal.returns
returns c rows held was from is =
    let row = row_at c.args.ms held c.args.row in
    let old = c.args.self.now in
    elim c.match-self.branch [
      | in-Some w ↦
          let left : IsStateOf (left_by rows) w.in-Some.held = subst (λ o. IsLeft rows o) w.in-Some.is was.held in
          let start : c.match-self.self.start ≡ old.start = ap (λ (l : TimeLine). l.start) w.self-is ∙ w.follow.ensures.start in
          record {
            start = subst (λ s. IsStart (rows ++ row ∷ []) s) (sym start) (start_stays rows row old.start w.in-Some.held left was.start);
            columns = moved (rows ++ row ∷ []) w.follow.new.self _ (ap (λ (l : TimeLine). l.columns.items) w.self-is) (ap (λ (l : TimeLine). l.start) w.self-is)
                (ap (λ (l : TimeLine). l.power) w.self-is)
                (w.follow.ensures.columns rows held was.columns (from_start rows row old.start w.in-Some.held left was.start from) left is);
            narrow = λ p l.
                subst (λ s. 720 < column_count s p (rows ++ row ∷ [])) (sym start)
                (narrow_on old.start old.power rows row was.narrow p (w.follow.ensures.power p (subst (λ k. p < k) (ap (λ (l : TimeLine). l.power) w.self-is) l)));
            held = subst (λ hs. IsStateOf hs c.args.row.state) (sym (left_last rows row)) is;
          }
      | in-None w ↦
          let empty : rows ≡ [] = subst (λ o. IsLeft rows o) w.in-None.is was.held in
          record {
            start = subst (λ rs. IsStart (rs ++ row ∷ []) c.match-self.self.start) (sym empty) (ap (λ (l : TimeLine). l.start) w.self-is ∙ w.begin.ensures.start);
            columns = moved (rows ++ row ∷ []) w.begin.new.self _ (ap (λ (l : TimeLine). l.columns.items) w.self-is) (ap (λ (l : TimeLine). l.start) w.self-is)
                (ap (λ (l : TimeLine). l.power) w.self-is)
                (subst (λ rs. AreColumns (rs ++ row ∷ []) w.begin.new.self) (sym empty) (w.begin.ensures.columns held is));
            narrow = λ p l.
                let before : p < old.power = subst (λ k. p < k) (ap (λ (l : TimeLine). l.power) w.self-is ∙ w.begin.ensures.power) l in
                let none : 720 < 0 = subst (λ rs. 720 < column_count old.start p rs) empty (was.narrow p before) in
                absurd (omega (arith, none));
            held = subst (λ hs. IsStateOf hs c.args.row.state) (sym (left_last rows row)) is;
          }
    ]
