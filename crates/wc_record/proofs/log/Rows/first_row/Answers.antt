use Rattle.std.proofs.Common.{◌∙◌, sym, ap, refl, arith}
use Rattle.csv.specs.Records.{fields_of}
use Rattle.wc_record.proofs.LogSteps.{first_has_none, first_read, first_refused, none_refused}
use Rattle.wc_record.proofs.log.Rows.first_row.Goals as goal
use Rattle.wc_record.proofs.log.Rows.first_row.Goals.{else-found-via-then-found+else-is_first_row, else-found-via-else-found}
use Rattle.wc_record.specs.Left.{moment_or_zero}

pub returns-then-is_first_row-clause-first : goal.returns-then-is_first_row-clause-first
returns-then-is_first_row-clause-first g c =
    λ left represents.
    let read = (rw c.if-found.true at c.in-Ok.ensures) left represents.has in
    let first = c.if-is_first_row.ensures in
    let fields = fields_of c.read.new.row in (
      fields,
      read.0,
      first_read left read.0 fields read.1 first,
      record {
        has = read.2;
        number = refl;
        last = represents.last ∙ sym (ap moment_or_zero (first_has_none fields first));
        few = omega arith;
      },
      read.1,
    )

pub returns-then-not-found-clause-refused : goal.returns-then-not-found-clause-refused
returns-then-not-found-clause-refused g c =
    λ left represents.
    let none = (rw c.if-not-found.true at c.in-Ok.ensures) left represents.has in
    none_refused left (fields_of c.clear.new.self) none c.clear.ensures.fields

pub returns-else-not-found-clause-refused : goal.returns-else-not-found-clause-refused
returns-else-not-found-clause-refused g c = elim c.else-found.branch [
  | else-found-via-then-found+else-is_first_row w ↦
      λ left represents.
      let read = (rw c.if-not-found.false at c.in-Ok.ensures) left represents.has in
      first_refused left read.0 (fields_of c.read.new.row) read.1 w.if-is_first_row.ensures
  | else-found-via-else-found w ↦ cc
]
