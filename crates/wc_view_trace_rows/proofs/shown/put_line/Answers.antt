use Rattle.wc_model.proofs.Common.{◌≡◌, arith, length, on_ok_weaker}
use Rattle.wc_view_trace_rows.proofs.Ends.{between_words_is}
use Rattle.wc_view_trace_rows.proofs.Joins.{line_put}
use Rattle.wc_view_trace_rows.proofs.shown.put_line.Goals as goal

pub returns : goal.returns
returns c =
    let start : c.len-start.result ≡ length c.args.text.now.items = omega (arith, c.args.text.now.ok.0) in
    let words = between_words_is c.args.line.now c.trim_ascii.result.now c.trim_ascii.ensures.value in (
      on_ok_weaker c.fit.result
          (λ fits. line_put c.args.text.now.items c.put_shown.new.text.items c.fit.new.text.items c.args.line.now c.trim_ascii.result.now c.len-start.result c.args.columns
          start words c.in_ok-put_shown.ensures.0 fits)
          c.fit.ensures.fits,
      c.fit.ensures.memory,
    )
