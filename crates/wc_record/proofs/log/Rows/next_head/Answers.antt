-- The end is kept if there is one; else none was known before.
use Rattle.std.proofs.Common.{◌≡◌, Option, Some, None, sym, ◌∙◌, subst}
use Rattle.wc_record.proofs.LogSteps.{not_ended, read_on, reads_still, taken}
use Rattle.wc_record.proofs.log.Rows.next_head.Goals as goal
use Rattle.wc_record.specs.{Takes, row_bytes, Reads, head_view}
use Rattle.wc_record.specs.declared.log.LogEnd.{LogEnd}

pub returns-in-Some-end_after-clause-takes : goal.returns-in-Some-end_after-clause-takes
returns-in-Some-end_after-clause-takes g c =
    λ log h.
    let now = not_ended g.R.ByteIn.bytes_left c.args.self.now log c.args.self.now.end c.in-None.is h in
    rw now.3 (taken g.R.ByteIn.bytes_left now.0 now.1 c.row_or_cause-answer.result c.row_or_cause-answer.new.self (Some c.in-Some-end_after.end) (sym c.in-Some-end_after.is ∙ c.end_after.ensures)
    (c.row_or_cause-answer.ensures.gives now.0 now.1 now.2))

pub returns-in_default-clause-takes : goal.returns-in_default-clause-takes
returns-in_default-clause-takes g c =
    λ log h.
    let now = not_ended g.R.ByteIn.bytes_left c.args.self.now log c.args.self.now.end c.in-None.is h in
    let none : None ≡ c.row_or_cause-answer.new.self.end = sym (c.row_or_cause-answer.ensures.keeps.end ∙ c.in-None.is) in
    subst (λ (end : Option LogEnd). Takes (head_view (row_bytes c.row_or_cause-answer.new.self)) g.R.ByteIn.bytes_left log c.row_or_cause-answer.result (record c.row_or_cause-answer.new.self { end = end })) none
    (rw now.3 (taken g.R.ByteIn.bytes_left now.0 now.1 c.row_or_cause-answer.result c.row_or_cause-answer.new.self None (sym c.in_default.is ∙ c.end_after.ensures) (c.row_or_cause-answer.ensures.gives now.0 now.1 now.2)))

pub returns-in-Some-end_after-clause-records : goal.returns-in-Some-end_after-clause-records
returns-in-Some-end_after-clause-records g c =
    λ records h.
    let now = reads_still g.R.ByteIn.bytes_left c.args.self.now records c.args.self.now.end c.in-None.is h in
    rw now.2.all (read_on g.R.ByteIn.bytes_left now.0 now.1 c.row_or_cause-answer.result c.row_or_cause-answer.new.self (Some c.in-Some-end_after.end) (sym c.in-Some-end_after.is ∙ c.end_after.ensures)
    (c.row_or_cause-answer.ensures.gives now.0 now.1 now.2.represents))

pub returns-in_default-clause-records : goal.returns-in_default-clause-records
returns-in_default-clause-records g c =
    λ records h.
    let now = reads_still g.R.ByteIn.bytes_left c.args.self.now records c.args.self.now.end c.in-None.is h in
    let none : None ≡ c.row_or_cause-answer.new.self.end = sym (c.row_or_cause-answer.ensures.keeps.end ∙ c.in-None.is) in
    subst (λ (end : Option LogEnd). Reads g.R.ByteIn.bytes_left (record c.row_or_cause-answer.new.self { end = end }) records) none
    (rw now.2.all (read_on g.R.ByteIn.bytes_left now.0 now.1 c.row_or_cause-answer.result c.row_or_cause-answer.new.self None (sym c.in_default.is ∙ c.end_after.ensures) (c.row_or_cause-answer.ensures.gives now.0 now.1 now.2.represents)))
