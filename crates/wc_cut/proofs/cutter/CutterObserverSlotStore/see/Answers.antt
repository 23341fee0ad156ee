use Rattle.wc_model.proofs.Common.{◌≡◌, ◌∙◌, ◌-◌, ◌∷◌, ◌++◌, ap, arith, refl, subst, sym, true, Appends-nil, Appends}
use Rattle.wc_cut.proofs.Observed.{always, has_gone_on, has_opened, keeps, writes_first, writes_more, writes_none}
use Rattle.wc_cut.proofs.cutter.CutterObserverSlotStore.see.Goals as goal
use Rattle.wc_cut.proofs.cutter.CutterObserverSlotStore.see.Goals.{then-self, else-self+in_ok-put_opening}
use Rattle.wc_cut.specs.{row_written, HasSeenBy, row_text}
use Rattle.wc_cut.specs.declared.cutter.Cutter.{Cutter}
use Rattle.wc_model.specs.Run.Rows.{LogRow}
use Rattle.wc_run.specs.{came_by, program_of, Came, Writes, logic_after, row_of}
use Rattle.wc_run.specs.OpenScales as open_scale

pub returns-then-self-gt0-clause-seen : goal.returns-then-self-gt0-clause-seen
returns-then-self-gt0-clause-seen g c plate logic past shown represents seen =
    let came : Came = came_by (row_of c.args.seen.now ∷ past) (program_of (logic_after plate logic (row_of c.args.seen.now ∷ past))) in
    let opened : open_scale.Represents c.open_scale.result.now plate came = subst (λ s. open_scale.Represents s plate came) (sym c.open_scale.ensures) represents.opened in
    keeps c.args.self.now.opened c.args.self.now _ c.prelude.result plate past (row_of c.args.seen.now) seen c.if-self-gt0.true refl refl refl refl
    (c.prelude.ensures.window plate came opened) (c.prelude.ensures.state plate came opened)

pub returns-then-self-gt0-clause-writes : goal.returns-then-self-gt0-clause-writes
returns-then-self-gt0-clause-writes g c plate logic past shown represents seen =
    subst (λ text. Appends (g.W.ByteOut.bytes_taken c.args.writer.now) (g.W.ByteOut.bytes_taken c.args.writer.now) text)
    (sym (writes_none c.args.self.now.opened c.args.self.now plate logic past (row_of c.args.seen.now) seen c.if-self-gt0.true))
    (Appends-nil (g.W.ByteOut.bytes_taken c.args.writer.now))

pub returns-clause-writes : goal.returns-clause-writes
returns-clause-writes g c plate logic past shown represents seen =
    let row : LogRow = row_of c.args.seen.now in
    let old : Cutter = c.args.self.now in
    let none : old.left ≡ 0 = omega (arith, c.if-self-gt0.false) in
    let start : c.if-self.self.text.items ++ row_text row ≡ row_written old.count plate logic past row = elim c.if-self.branch [
      | then-self w ↦ ap (λ s. s.text.items ++ row_text row) w.self-is ∙ ap (λ t. t ++ row_text row) w.clear.ensures.items
          ∙ writes_more old plate logic past row old.opened w.if-self.true seen
      | else-self+in_ok-put_opening w ↦ ap (λ s. s.text.items ++ row_text row) w.self-is ∙ ap (λ t. t ++ row_text row) w.in_ok-put_opening.ensures.text
          ∙ writes_first old plate logic past row old.opened w.if-self.false seen none
    ] in
    subst (λ text. Writes text c.write_text.result (g.W.ByteOut.bytes_taken c.args.writer.now) (g.W.ByteOut.bytes_taken c.write_text.new.writer))
    (c.deref.ensures.value ∙ c.in_ok-put_row.ensures.text ∙ start) c.write_text.ensures.writes

pub returns-clause-seen : goal.returns-clause-seen
returns-clause-seen g c = always c.write_text.result (λ plate logic past shown represents seen.
    let row : LogRow = row_of c.args.seen.now in
    let old : Cutter = c.args.self.now in
    let new : Cutter = record c.if-self.self { text = c.put_row.new.text; capacity = c.saturating_sub-self.result } in
    let none : old.left ≡ 0 = omega (arith, c.if-self-gt0.false) in
    elim c.if-self.branch [
      | then-self w ↦ subst (λ b. HasSeenBy b new plate (row ∷ past)) (sym (ap (λ s. s.opened) w.self-is ∙ w.if-self.true))
          (has_gone_on old new plate past row old.opened w.if-self.true seen none (ap (λ s. s.left) w.self-is) (ap (λ s. s.count) w.self-is) (c.saturating_sub-self.ensures ∙ ap (λ s. s.capacity - 1) w.self-is))
      | else-self+in_ok-put_opening w ↦ subst (λ b. HasSeenBy b new plate (row ∷ past)) (sym (ap (λ s. s.opened) w.self-is))
          (has_opened old new c.if-self.self.capacity plate past row old.opened w.if-self.false seen none (ap (λ s. s.left) w.self-is ∙ w.put_opening.ensures.left)
          (ap (λ s. s.count) w.self-is ∙ w.put_opening.ensures.count) (ap (λ s. s.capacity) w.self-is ∙ w.in_ok-put_opening.ensures.capacity) c.saturating_sub-self.ensures)
    ])
