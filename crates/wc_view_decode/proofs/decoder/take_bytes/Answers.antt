use Rattle.std.proofs.Common.{◌∙◌, ◌++◌, take, refl, sym, subst, arith}
use Rattle.std.proofs.lemmas.List.{append-nil, take_all}
use Rattle.wc_view_decode.proofs.Takings.{one_taken_more}
use Rattle.wc_view_decode.specs.Running.{Represents}
use Rattle.wc_view_decode.proofs.decoder.take_bytes.Goals as goal

pub loop-byte-preserved : goal.loop-byte-preserved
loop-byte-preserved c = record {
  format = c.in_ok-take_byte.ensures.0 ∙ c.loop-byte.invariant.format;
  takes = λ read text represents.
      subst (λ r. Represents c.take_byte.new.decoder r (text ++ c.take_byte.new.text.items)) (one_taken_more read c.args.bytes.now c.loop-byte.byte-index _ c.loop-byte-test.true)
      (c.in_ok-take_byte.ensures.2 (read ++ take c.loop-byte.byte-index c.args.bytes.now) text (c.loop-byte.invariant.takes read text represents));
}

pub loop-byte-init : goal.loop-byte-init
loop-byte-init c = record {
  format = refl;
  takes = λ read text represents.
      subst (λ r. Represents c.args.decoder.now r (text ++ c.args.text.now.items)) (sym (append-nil read)) represents;
}

pub returns : goal.returns
returns c = (
  c.loop-byte.invariant.format,
  tt,
  λ read text represents.
      subst (λ bytes. Represents c.loop-byte.decoder (read ++ bytes) (text ++ c.loop-byte.text.items))
      (take_all c.loop-byte.byte-index c.args.bytes.now (omega arith)) (c.loop-byte.invariant.takes read text represents),
)
