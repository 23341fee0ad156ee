use Rattle.wc_model.proofs.Common.{◌≡◌, ap, drop, false, sym, ◌∙◌, drop-drop}
use Rattle.wc_diag_texts.proofs.CalmTexts.{calm_on}
use Rattle.wc_diag_texts.specs.Plain.{is_calm, starts_acting}
use Rattle.wc_diag_texts.proofs.plain.is_calm.Goals as goal

pub loop-index-preserved : goal.loop-index-preserved
loop-index-preserved c =
    let text = c.args.text.now in
    let rest = drop c.loop-index.index text in
    let calm : starts_acting rest ≡ false = ap starts_acting (sym c.split_at.ensures.back) ∙ sym c.starts_acting.ensures ∙ c.if-starts_acting.false in
    c.loop-index.invariant ∙ calm_on rest calm ∙ ap is_calm (drop-drop 1 c.loop-index.index text)
