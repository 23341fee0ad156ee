use Rattle.wc_model.proofs.Common.{[], ◌∷◌, map, sym, ap, ◌∙◌, arith, w64, from_le_bytes}
use Rattle.wc_names.specs.Keys.{caseless}
use Rattle.wc_names.proofs.KeyNames.{eight, small_eight}
use Rattle.wc_names.proofs.key.first_word.Goals as goal

pub returns-in_default : goal.returns-in_default
returns-in_default c =
    let few = c.in_default.ensures.cases in
    let many = c.requires in
    absurd (omega (arith, few, many))

pub returns : goal.returns
returns c =
    let small = eight c.args.text.now c.requires ∙ ap small_eight (sym c.in-Some.ensures.cases.same) in
    c.from_le_bytes.ensures
    ∙ ap (from_le_bytes w64)
    ((λ i. c.caseless.ensures i ∷ c.caseless-2.ensures i ∷ c.caseless-3.ensures i ∷ c.caseless-4.ensures i ∷ c.caseless-5.ensures i ∷ c.caseless-6.ensures i ∷ c.caseless-7.ensures i ∷ c.caseless-8.ensures i ∷ [])
    ∙ sym (ap (map caseless) small))
