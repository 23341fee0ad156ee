use Rattle.wc_model.proofs.Common.{length, refl, on_ok_weaker}
use Rattle.wc_view_trace.proofs.Joins.{four_parts}
use Rattle.wc_view_trace.specs.Members.{image_tokens}
use Rattle.wc_view_trace.specs.Scans.{head_tokens, items_tokens, tail_tokens}
use Rattle.wc_view_trace.proofs.scans.write_scan.Goals as goal

pub returns-clause-tokens : goal.returns-clause-tokens
returns-clause-tokens c =
    let scan = c.args.scan.now in
    let legend = c.args.legend.now in
    let image = c.in_ok-write_image.ensures.tokens in
    let written = c.in_ok-write_items.ensures.tokens in
    let tail = tail_tokens (length scan.lines.now) c.bound.result scan.outputs in
    on_ok_weaker c.write_tail.result
    (λ last. (
      _,
      record { image = image.0; image_is = image.1; items = written.0; items_are = written.1; bound = c.bound.result; bounds = c.bound.ensures; are = refl },
      four_parts c.args.writer.now.tokens (head_tokens scan) (image_tokens image.0) (items_tokens legend written.0) tail
          c.write_head.new.writer.tokens c.write_image.new.writer.tokens c.write_items.new.writer.tokens c.write_tail.new.writer.tokens
          c.in_ok-write_head.ensures.tokens image.2 written.2 last,
    ))
    c.write_tail.ensures.0
