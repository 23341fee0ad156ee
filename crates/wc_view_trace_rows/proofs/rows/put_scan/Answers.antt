use Rattle.wc_model.proofs.Common.{length, refl, on_ok_weaker}
use Rattle.wc_view_trace_rows.proofs.RowsPut.{scan_put}
use Rattle.wc_view_trace_rows.proofs.rows.put_scan.Goals as goal

pub returns-clause-puts : goal.returns-clause-puts
returns-clause-puts c =
    on_ok_weaker c.put_steps.result
    (λ put. scan_put c.args.legend.now c.args.machine.now c.args.scan.now c.args.text.now.items c.put_heading.new.text.items c.put_rows.new.text.items c.put_steps.new.text.items
    (length c.args.scan.now.lines.now) c.bound.result c.in_ok-put_heading.ensures.0 c.in_ok-put_rows.ensures.puts refl c.bound.ensures put)
    c.put_steps.ensures.0
