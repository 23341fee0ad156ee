use Rattle.wc_model.proofs.Common.{◌≡◌, ◌≤◌, ap, sym, ◌∙◌, subst, arith, ints}
use Rattle.std.specs.Prelude.{pos}
use Rattle.wc_model.specs.Instrument.Indication.{in_units}
use Rattle.wc_indicator.specs.Kept.{RepresentsHistory, kept_view}
use Rattle.wc_indicator.proofs.Units.{few_units, product_fits, units_fit, units_kept}
use Rattle.wc_indicator.proofs.indicator.Indicator.in_units.Goals as goal

pub returns : goal.returns
returns c = λ p history st.
    let before : RepresentsHistory (kept_view c.self.inside) p history = subst (λ k. RepresentsHistory k p history) (sym c.self.view_is) st in
    let few : c.self.inside.plate.e ≤ 50 = few_units c.self.inside.plate c.self.invariant.ranges.plate in
    let units : c.from.result ≡ pos c.self.inside.plate.e = omega (arith, ints, few, c.from.ensures, c.e.ensures.e) in
    units_kept c.args.intervals c.from.result c.self.inside.plate.e c.requires few units ∙ ap (λ q. in_units q c.args.intervals) before.same_plate

pub overflow_mul-result : goal.overflow_mul-result
overflow_mul-result c =
    let few : c.self.inside.plate.e ≤ 50 = few_units c.self.inside.plate c.self.invariant.ranges.plate in
    let units : c.from.result ≡ pos c.self.inside.plate.e = omega (arith, ints, few, c.from.ensures, c.e.ensures.e) in
    product_fits c.args.intervals c.from.result c.self.inside.plate.e c.requires few units

pub overflow_cast-result : goal.overflow_cast-result
overflow_cast-result c =
    let few : c.self.inside.plate.e ≤ 50 = few_units c.self.inside.plate c.self.invariant.ranges.plate in
    let units : c.from.result ≡ pos c.self.inside.plate.e = omega (arith, ints, few, c.from.ensures, c.e.ensures.e) in
    units_fit c.args.intervals c.from.result c.self.inside.plate.e c.requires few units
