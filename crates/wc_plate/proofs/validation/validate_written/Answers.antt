use Rattle.wc_model.proofs.Common.{◌≡◌, ◌∙◌, false, ap, arith, of_z, rules, sym, to_z, w64, ints}
use Rattle.std.specs.Prelude.{int_div, pos, ◌*ℤ◌}
use Rattle.wc_model.specs.Instrument.PlateTable.{KeyValues, is_between}
use Rattle.wc_plate.specs.KeyFaults.{written_seen}
use Rattle.wc_plate.proofs.Texts.{validated_is_plate, refused_507}
use Rattle.wc_plate.proofs.validation.validate_written.Goals as goal

pub invariant_of-result : goal.invariant_of-result
invariant_of-result c = validated_is_plate (written_seen c.args.written.now) _ (search rules)

pub returns-in_default-between : goal.returns-in_default-between
returns-in_default-between c =
    let w : KeyValues = written_seen c.args.written.now in
    let max : to_z w64 (of_z w64 c.args.written.now.max) ≡ c.args.written.now.max = omega (arith, ints) in
    let e : to_z w64 (of_z w64 c.args.written.now.e) ≡ c.args.written.now.e = omega (arith, ints) in
    let decimals : to_z w64 (of_z w64 c.args.written.now.decimals) ≡ c.args.written.now.decimals = omega (arith, ints) in
    let counts : to_z w64 (of_z w64 c.args.written.now.span_counts) ≡ c.args.written.now.span_counts = omega (arith, ints) in
    let is_unit = c.in_ok-unit.ensures.ok_part in
    let is_decimals = c.in_ok-decimals.ensures.ok_part in
    let is_e = c.in_ok-e.ensures.ok_part in
    let between = rw (decimals, is_decimals) at c.between.ensures in
    let allowed = rw (e, is_e) at c.interval.ensures in
    let interval : w.e ≡ pos c.in_ok-e.e = allowed.same.0 in
    let div : int_div w.max w.e ≡ pos c.in-Some.n = ap (int_div w.max) interval ∙ (rw max at c.in-Some.ensures.same.1) in
    let span : is_between (pos 4 *ℤ int_div w.max w.e) (pos 8000000) w.span_counts ≡ false = rw div (sym (rw counts at c.in_default-between.ensures.fits)) in (
      refused_507 w c.in_ok-unit.unit c.in_ok-decimals.decimals c.in_ok-e.e (sym c.line_unit.ensures ∙ is_unit) (sym between.fits) between.same.0
          (sym allowed.fits) interval (sym (rw max at c.in-Some.ensures.fits)) span,
      (div, span),
    )
