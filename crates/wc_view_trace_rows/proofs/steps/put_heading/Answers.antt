use Rattle.wc_model.proofs.Common.{◌++◌, ap, ◌∙◌, codes, decimal, on_ok_weaker}
use Rattle.std.proofs.lemmas.List.{append_assoc}
use Rattle.wc_view_trace_rows.proofs.Joins.{two_parts}
use Rattle.wc_view_trace_rows.proofs.steps.put_heading.Goals as goal

pub returns-then-is_changed : goal.returns-then-is_changed
returns-then-is_changed c =
    let old = c.args.text.now.items in
    let number = decimal c.args.number in
    let rest = decimal c.args.ms ++ codes " ms, next program\n" in
    let first = rw c.from.ensures at c.in_ok-put_between.ensures.0 in
    rw c.if-is_changed.true (
      on_ok_weaker c.put_between-then-is_changed.result
          (λ put. two_parts old (codes "scan " ++ (number ++ codes " at ")) rest
          c.put_between.new.text.items c.put_between-then-is_changed.new.text.items first put
          ∙ ap (λ l. old ++ (codes "scan " ++ l)) (append_assoc number (codes " at ") rest))
          c.put_between-then-is_changed.ensures.0,
      c.put_between-then-is_changed.ensures.1,
    )
