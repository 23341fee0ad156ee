use Rattle.std.proofs.Common.{◌≡◌, ◌∙◌, ◌+◌, ◌∷◌, suc, sym, ap, refl, add-one, arith}
use Rattle.csv.specs.Records.{fields_of}
use Rattle.wc_record.proofs.LogSteps.{one_read, record_there, row_facts, step_refused, step_row, step_too_many}
use Rattle.wc_record.proofs.log.Rows.row_of_record.Goals as goal
use Rattle.wc_record.specs.{moment_or_zero, head_view}

pub returns-in-Ok-clause-gives : goal.returns-in-Ok-clause-gives
returns-in-Ok-clause-gives g c =
    λ first before rest represents.
    let fields = fields_of c.args.self.now.row in
    let says = c.in-Ok.ensures.says in
    let facts = row_facts _ c.args.self.now.last fields (head_view c.row_in.new.buffer.items c.in-Ok.row) says in
    let counted = represents.number in (
      fields ∷ (first ∷ before),
      rest,
      step_row (first ∷ before) rest fields c.args.self.now.number c.args.self.now.last (head_view c.row_in.new.buffer.items c.in-Ok.row) represents.number c.if-self-ge-MOST_ROWS.false represents.last says,
      record {
        represents = record {
          has = represents.has;
          number = add-one c.args.self.now.number ∙ ap suc represents.number;
          last = sym (ap moment_or_zero (facts.moment (first ∷ before)));
          few = omega arith;
        };
        all = one_read fields (first ∷ before) rest;
        current = refl;
      },
    )

pub returns-in-Ok-clause-steps : goal.returns-in-Ok-clause-steps
returns-in-Ok-clause-steps g c =
    let facts = row_facts _ c.args.self.now.last (fields_of c.args.self.now.row) (head_view c.row_in.new.buffer.items c.in-Ok.row) c.in-Ok.ensures.says in (
      record {
        number_is = facts.number ∙ add-one c.args.self.now.number;
        counted = sym facts.number;
        few = omega (arith, facts.number);
        in_order = facts.in_order;
        kept = refl;
        early = facts.early;
        in_range = c.in-Ok.ensures.range;
      },
      tt,
      record { start = refl; end = refl },
    )

pub returns-in-Err-Refused-clause-gives : goal.returns-in-Err-Refused-clause-gives
returns-in-Err-Refused-clause-gives g c =
    λ first before rest represents. (
      step_refused (first ∷ before) rest (fields_of c.args.self.now.row) c.args.self.now.number c.args.self.now.last c.in-Err-Refused.rule represents.number c.if-self-ge-MOST_ROWS.false represents.last (rw c.in-Err-Refused.field-0-is at c.in-Err-Refused.ensures.says),
      record_there (fields_of c.args.self.now.row) (first ∷ before) rest c.args.self.now.number represents.number,
    )

pub returns-then-self-ge-MOST_ROWS-clause-gives : goal.returns-then-self-ge-MOST_ROWS-clause-gives
returns-then-self-ge-MOST_ROWS-clause-gives g c =
    λ first before rest represents.
    let fields = fields_of c.args.self.now.row in
    let n = c.args.self.now.number in
    let place : c.saturating_add.result ≡ n + 1 = omega (arith, represents.few) in (
      step_too_many (first ∷ before) rest fields n c.saturating_add.result represents.number c.if-self-ge-MOST_ROWS.true place,
      rw place (record_there fields (first ∷ before) rest n represents.number),
    )
