use Rattle.wc_model.proofs.Common.{◌∙◌, ◌++◌, true, false, ◌<◌, length, ap, subst, arith, common_steps, on_ok_weaker}
use Rattle.wc_view_decode.proofs.Standings.{finished_kept, finished_long}
use Rattle.wc_view_decode.proofs.Takings.{after_text}
use Rattle.wc_view_decode.specs.{Decodes, unknown, IsInState}
use Rattle.wc_view_decode.proofs.decoder.finish.Goals as goal

pub returns-then-decoder-clause-finishes : goal.returns-then-decoder-clause-finishes
returns-then-decoder-clause-finishes c =
    let format = c.args.decoder.now.format in
    let kept = c.args.decoder.now.line.items in
    let old = c.args.text.now.items in
    on_ok_weaker c.put_closing.result
    (λ e read text represents.
    subst (Decodes format read) (after_text text old c.put_closing.new.text.items _ e)
    (finished_long format read kept (text ++ old) (subst (λ b. IsInState format read kept b (text ++ old)) c.if-decoder.true represents)))
    c.put_closing.ensures.0

pub returns-clause-finishes : goal.returns-clause-finishes
returns-clause-finishes c =
    let format = c.args.decoder.now.format in
    let kept = c.args.decoder.now.line.items in
    let old = c.args.text.now.items in
    let some : 0 < length kept = grind (arith, common_steps) in
    on_ok_weaker c.put_unknown.result
    (λ e read text represents.
    subst (Decodes format read) (after_text text old c.put_unknown.new.text.items (unknown format kept) (e ∙ ap (λ l. old ++ unknown format l) c.deref.ensures.value))
    (finished_kept format read kept (text ++ old) (λ none. omega (arith, some, ap length none)) (subst (λ b. IsInState format read kept b (text ++ old)) c.if-decoder.false represents)))
    c.put_unknown.ensures.0
