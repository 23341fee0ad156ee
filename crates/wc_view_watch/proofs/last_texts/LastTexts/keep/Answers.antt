use Rattle.wc_model.proofs.Common.{◌≡◌, ◌+◌, ◌<◌, ◌≤◌, ◌⊎◌, ◌∙◌, ◌++◌, ◌∷◌, [], Global, Vec, ap, inl, inr, length, map, rules, set, subst, sym, arith, length-map, map-set}
use Rattle.std.specs.Prelude.{ℕ}
use Rattle.wc_view_watch.proofs.RingSteps.{one_kept}
use Rattle.wc_view_watch.proofs.last_texts.LastTexts.keep.Goals as goal
use Rattle.wc_view_watch.proofs.last_texts.LastTexts.keep.Goals.{then-self-len, else-self-len}
use Rattle.wc_view_watch.specs.Ring.{HoldsLast, RingState}

pub returns-clause-keeps : goal.returns-clause-keeps
returns-clause-keeps c = λ number all holds.
    let items = λ (text : Vec ℕ Global). text.items in
    let texts = map items c.self.inside.texts.items in
    let counted : length texts ≡ length c.self.inside.texts.items = length-map c.self.inside.texts.items items in
    let at = c.if-self-len.at in
    let held = subst (λ (ring : RingState). HoldsLast ring number all) (sym c.self.view_is) holds in
    let len : c.len.result ≡ length c.self.inside.texts.items = search rules in
    let where_at : ((c.self.inside.first < length texts) × (at ≡ c.self.inside.first)) ⊎ ((length texts ≤ c.self.inside.first) × (at ≡ 0)) = elim c.if-self-len.branch [
      | then-self-len w ↦ inl (let within : c.self.inside.first < length texts = omega (arith, w.if-self-len.true, counted, len) in within, w.at-is)
      | else-self-len w ↦ inr (let past : length texts ≤ c.self.inside.first = omega (arith, w.if-self-len.false, counted, len) in past, w.at-is)
    ] in
    let same : map items (set c.self.inside.texts.items at c.put_bytes.new.text) ≡ set texts at c.args.text.now =
    map-set items c.self.inside.texts.items at c.put_bytes.new.text ∙ ap (set texts at) (c.in_ok-put_bytes.ensures.bytes ∙ ap (λ kept. kept ++ c.args.text.now) c.clear.ensures.items) in
    subst (λ kept. HoldsLast (record { texts = kept; first = at + 1 }) number (all ++ c.args.text.now ∷ [])) (sym same)
    (one_kept texts c.self.inside.first at c.args.text.now number all where_at held)
