use Rattle.std.proofs.Common.{◌≡◌, ◌∙◌, ◌+◌, ◌≤◌, ◌++◌, ◌∷◌, [], false, length, refl, sym, subst}
use Rattle.wc_view_decode.proofs.Standings.{line_ended}
use Rattle.wc_view_decode.proofs.Takings.{after_text}
use Rattle.wc_view_decode.specs.{IsDecodedLine, longest_line, HasNoEnd, IsInState}
use Rattle.wc_view_decode.proofs.decoder.end_line.Goals as goal

pub returns : goal.returns
returns c = (
  refl,
  tt,
  λ read text represents.
      let format = c.args.decoder.now.format in
      let kept = c.args.decoder.now.line.items in
      let puts = c.in_ok-put_line.ensures.line in
      let line_is : c.deref.result.now ≡ kept ++ 10 ∷ [] = c.deref.ensures.value ∙ c.in_ok-put_bytes.ensures.bytes in
      let state = subst (λ b. IsInState format read kept b (text ++ c.args.text.now.items)) c.requires represents in
      let decodes : length (kept ++ 10 ∷ []) ≤ longest_line + 1 → IsDecodedLine format (kept ++ 10 ∷ []) puts.0 = λ small. subst (λ l. IsDecodedLine format l puts.0) line_is (puts.2 kept line_is (subst HasNoEnd state.keeps.0 state.single) (subst (λ l. length l ≤ longest_line + 1) (sym line_is) small)) in
      rw (c.clear.ensures.items, c.requires)
      (subst (IsInState format (read ++ 10 ∷ []) [] false) (after_text text c.args.text.now.items c.put_line.new.text.items puts.0 puts.1)
      (line_ended format read kept (text ++ c.args.text.now.items) puts.0 decodes state)),
)
