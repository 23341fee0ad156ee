use Rattle.std.proofs.Common.{◌∙◌, ◌++◌, refl, sym, ap, arith}
use Rattle.std.proofs.lemmas.List.{append-nil}
use Rattle.wc_view_decode.specs.Formats.{bit_text, none_text}
use Rattle.wc_view_decode.proofs.RowTexts.{all_bits, bit_more}
use Rattle.wc_view_decode.proofs.entry_formats.put_bits.Goals as goal

pub loop-index-preserved : goal.loop-index-preserved
loop-index-preserved c =
    bit_more (bit_text c.args.format c.args.bits) c.loop-index.index (c.args.text.now.items ++ none_text c.args.format c.args.bits) _ _ c.loop-index.invariant c.in_ok-put_bit.ensures.0

pub loop-index-init : goal.loop-index-init
loop-index-init c =
    c.in_ok-put_bytes.ensures.bytes ∙ ap (λ part. c.args.text.now.items ++ part) c.none_text.ensures
    ∙ sym (append-nil (c.args.text.now.items ++ none_text c.args.format c.args.bits))

pub returns : goal.returns
returns c = (all_bits c.args.format c.args.bits c.loop-index.index c.args.text.now.items _ _ (omega arith) refl c.loop-index.invariant, tt)
