use Rattle.wc_model.proofs.Common.{◌≡◌, ◌∙◌, ◌++◌, ◌∷◌, [], true, false, length, refl, subst, arith, common_steps, on_ok_weaker}
use Rattle.wc_view_decode.proofs.Standings.{byte_kept, long_ended, long_more}
use Rattle.wc_view_decode.proofs.Takings.{after_text}
use Rattle.wc_view_decode.specs.Running.{IsInState}
use Rattle.wc_view_decode.proofs.decoder.take_byte.Goals as goal

pub returns-then-byte-ne10 : goal.returns-then-byte-ne10
returns-then-byte-ne10 c =
    let format = c.args.decoder.now.format in
    let kept = c.args.decoder.now.line.items in
    let old = c.args.text.now.items in (
      refl,
      c.put_passed.ensures.1,
      on_ok_weaker c.put_passed.result
          (λ e read text represents. rw c.if-decoder.true
          (subst (IsInState format (read ++ c.args.byte ∷ []) kept true) (after_text text old c.put_passed.new.text.items _ e)
          (long_more format read kept (text ++ old) c.args.byte c.if-byte-ne10.true (subst (λ b. IsInState format read kept b (text ++ old)) c.if-decoder.true represents))))
          c.put_passed.ensures.0,
    )

pub returns-then-decoder : goal.returns-then-decoder
returns-then-decoder c =
    let format = c.args.decoder.now.format in
    let kept = c.args.decoder.now.line.items in
    let old = c.args.text.now.items in (
      refl,
      c.put_closing.ensures.1,
      on_ok_weaker c.put_closing.result
          (λ e read text represents. rw c.if-byte-ne10.false
          (subst (IsInState format (read ++ 10 ∷ []) kept false) (after_text text old c.put_closing.new.text.items _ e)
          (long_ended format read kept (text ++ old) (subst (λ b. IsInState format read kept b (text ++ old)) c.if-decoder.true represents))))
          c.put_closing.ensures.0,
    )

pub returns : goal.returns
returns c =
    let format = c.args.decoder.now.format in
    let kept = c.args.decoder.now.line.items in
    let old = c.args.text.now.items in
    let size : c.len.result ≡ length kept = grind (arith, common_steps) in (
      refl,
      c.put_bytes.ensures.memory,
      on_ok_weaker c.put_bytes.result
          (λ (e : c.put_bytes.new.text.items ≡ kept ++ c.args.byte ∷ []) read text represents. rw (e, c.if-decoder.false)
          (byte_kept format read kept (text ++ old) c.args.byte c.if-byte-eq10.false (λ full. c.if-len-eq-LONGEST_LINE.false (size ∙ full)) (subst (λ b. IsInState format read kept b (text ++ old)) c.if-decoder.false represents)))
          c.put_bytes.ensures.bytes,
    )
