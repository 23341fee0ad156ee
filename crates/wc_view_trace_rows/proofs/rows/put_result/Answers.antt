use Rattle.wc_model.proofs.Common.{◌≡◌, ◌∙◌, ◌++◌, ap, arith, of_z, sym, to_z, w32, ints, on_ok_weaker}
use Rattle.wc_view_trace_rows.proofs.Joins.{numbered, one_cell}
use Rattle.wc_model.specs.Language.Store.{Plain}
use Rattle.wc_view_changes.specs.ChangeReport.{content_text}
use Rattle.wc_view_trace_rows.specs.{result_column, is_part, literal, result_cell}
use Rattle.wc_view_trace_rows.proofs.rows.put_result.Goals as goal

pub returns-clause-puts : goal.returns-clause-puts
returns-clause-puts c =
    let item = c.args.item.now in
    let number = c.in-Some.number in
    let raw : to_z w32 (of_z w32 number) ≡ number = omega (arith, ints) in
    on_ok_weaker c.put_value.result
    (λ put. one_cell result_column c.args.start c.args.text.now.items c.put_gap.new.text.items c.put_value.new.out.items (literal item.said.result number) (result_cell item)
    (numbered (is_part item.seen.line) (literal item.said.result) item.seen.result number (sym c.is_part.ensures ∙ c.if-is_part.false) c.in-Some.is)
    c.in_ok-put_gap.ensures.0 (put ∙ ap (λ v. c.put_gap.new.text.items ++ content_text (Plain v)) c.value_of.ensures ∙ ap (λ n. c.put_gap.new.text.items ++ literal item.said.result n) raw))
    c.put_value.ensures.value
