use Rattle.wc_model.proofs.Common.{◌≡◌, ap, sym, ◌∙◌, subst, arith, to_z, of_z, w32, get_or, length, ints}
use Rattle.std.specs.Prelude.{◌<◌, unsigned_abs, IfSome}
use Rattle.wc_model.specs.Instrument.Plates.{IsPlate}
use Rattle.wc_model.specs.Instrument.Answers as answers
use Rattle.wc_laws_instrument.proofs.Answers.{short_weight, length_unit}
use Rattle.wc_sma.specs.Replies.{mode_view}
use Rattle.wc_sma.proofs.Digits.{three_of, parts_joined, short_where_some}
use Rattle.wc_sma.proofs.answers.answer.Goals as goal

pub returns : goal.returns
returns c = λ p history st.
    let plate : IsPlate p = subst (λ q. IsPlate q) (c.plate.ensures p history st) c.decimals.ensures.ranges in
    let asked = c.weight_asked.ensures p history st in
    let short : IfSome c.weight_asked.result (λ value. unsigned_abs value < 10000000) =
    subst (λ w. IfSome w (λ value. unsigned_abs value < 10000000)) (sym asked)
    (short_where_some (answers.weight_asked p history (mode_view c.args.mode)) (short_weight p history (mode_view c.args.mode) plate)) in
    let decimals : unsigned_abs (to_z w32 (of_z w32 c.decimals.result)) ≡ p.decimals =
    (omega (arith, ints, c.decimals.ensures.decimals, c.decimals.ensures.ranges.few_decimals)) ∙ ap (λ q. q.decimals) (c.plate.ensures p history st) in
    let weight = c.copy_from_slice.ensures.after ∙ c.weight_field-weight.ensures short ∙ (λ i. answers.weight_text (decimals i) (asked i)) in
    let unit : c.unit.result ≡ p.unit = c.unit.ensures.unit ∙ ap (λ q. q.unit) (c.plate-2.ensures p history st) in
    parts_joined c.status_byte-status.result c.mode_byte-letter.result c.motion_byte-motion.result
    (get_or c.unit.result 0 0) (get_or c.unit.result 1 0) (get_or c.unit.result 2 0) c.copy_from_slice.new.self
    _ _ _ _ _
    (c.status_byte-status.ensures p history st) (c.mode_byte-letter.ensures p history st) (c.motion_byte-motion.ensures p history st)
    weight (three_of c.unit.result (ap (λ u. length u) unit ∙ length_unit p.unit plate.known_unit) ∙ unit)
