use Rattle.std.proofs.Common.{◌∙◌, ◌++◌, ◌∷◌, [], true, ap, refl, subst}
use Rattle.wc_view_decode.proofs.RowTexts.{one_more}
use Rattle.wc_view_decode.proofs.Standings.{long_started}
use Rattle.wc_view_decode.proofs.Takings.{after_text}
use Rattle.wc_view_decode.specs.{opening, passed_on, IsInState}
use Rattle.wc_view_decode.proofs.decoder.begin_long.Goals as goal

pub returns : goal.returns
returns c = (
  refl,
  tt,
  λ read text represents.
      let format = c.args.decoder.now.format in
      let kept = c.args.decoder.now.line.items in
      let old = c.args.text.now.items in
      let passed = c.in_ok-put_passed_on.ensures.0 ∙ ap (λ l. c.put_opening.new.text.items ++ passed_on format l) c.deref.ensures.value in
      let m2 = one_more old (opening format) (passed_on format kept) _ _ c.in_ok-put_opening.ensures.0 passed in
      let m3 = one_more old _ (passed_on format (c.args.byte ∷ [])) _ _ m2 c.in_ok-put_passed.ensures.0 in
      rw c.clear.ensures.items
      (subst (IsInState format (read ++ c.args.byte ∷ []) [] true) (after_text text old c.put_passed.new.text.items _ m3)
      (long_started format read kept (text ++ old) c.args.byte c.requires.inside c.requires.full (subst (λ b. IsInState format read kept b (text ++ old)) c.requires.short represents))),
)
