use Rattle.std.proofs.Common.{◌∙◌, ◌++◌, codes, ap}
use Rattle.wc_model.proofs.Common.{decimal, on_ok_weaker}
use Rattle.wc_view_decode.proofs.RowTexts.{one_more, two_more}
use Rattle.wc_view_decode.proofs.entry_formats.put_scan_prefix.Goals as goal

pub returns : goal.returns
returns c =
    let old = c.args.text.now.items in
    let m1 = c.in_ok-put_number_after.ensures.0 in
    let m2 = two_more old _ (codes "  ") (decimal c.args.row.now.steps.0) _ _ m1
    (c.in_ok-put_number_after-2.ensures.0 ∙ ap (λ n. c.put_number_after.new.text.items ++ (codes "  " ++ decimal n)) c.from.ensures) in
    let m3 = one_more old _ (codes " steps  on:") _ _ m2 c.in_ok-put_bytes.ensures.bytes in
    (on_ok_weaker c.put_bits.result (one_more old _ _ _ _ m3) c.put_bits.ensures.0, c.put_bits.ensures.1)
