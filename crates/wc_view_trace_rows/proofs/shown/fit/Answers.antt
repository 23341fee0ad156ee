use Rattle.wc_model.proofs.Common.{◌∙◌, ◌<◌, ap, drop, subst, on_ok_weaker}
use Rattle.wc_view_trace_rows.proofs.Chunks.{cut_off}
use Rattle.wc_view_trace_rows.specs.Columns.{first_columns}
use Rattle.wc_view_trace_rows.proofs.shown.fit.Goals as goal

pub returns-clause-fits : goal.returns-clause-fits
returns-clause-fits c =
    let back = c.bytes_from-put.result.now in
    let prefix = c.bytes_of-kept.ensures.prefix ∙ ap (λ n. first_columns n back) c.saturating_sub.ensures in
    let wide = subst (λ n. c.args.columns < n) c.characters.ensures.count c.if-characters-columns.false in
    on_ok_weaker c.put_bytes.result
    (λ put. put
    ∙ cut_off c.args.start c.bytes_of-kept.result c.args.columns c.args.text.now.items back c.truncate.new.self.items
    (c.bytes_from-put.ensures ∙ ap (drop c.args.start) c.deref.ensures.value) wide prefix c.truncate.ensures.items)
    c.put_bytes.ensures.bytes
