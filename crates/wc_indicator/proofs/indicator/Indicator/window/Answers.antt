use Rattle.std.proofs.Common.{sym, ◌∙◌, subst, length, ◌≤◌}
use Rattle.wc_indicator.specs.Kept.{kept_view, RepresentsHistory}
use Rattle.wc_indicator.proofs.Windows.{both_taken, few_latest}
use Rattle.wc_indicator.proofs.indicator.Indicator.window.Goals as goal

pub returns : goal.returns
returns c p history represents =
    let inside : RepresentsHistory (kept_view c.self.inside) p history = subst (λ k. RepresentsHistory k p history) (sym c.self.view_is) represents in
    both_taken c.as_slices.result.0.now c.as_slices.result.1.now c.new-window.result.items c.try_extend_from_slice-first.new.self.items
    c.try_extend_from_slice-second.new.self.items c.try_extend_from_slice-first.result c.try_extend_from_slice-second.result c.new-window.ensures
    (subst (λ l. length l ≤ 16) (sym c.as_slices.ensures) (few_latest (kept_view c.self.inside) p history c.self.invariant.ranges.plate inside))
    c.try_extend_from_slice-first.ensures.variant c.try_extend_from_slice-first.ensures.ok
    c.try_extend_from_slice-second.ensures.variant c.try_extend_from_slice-second.ensures.ok
    ∙ c.as_slices.ensures ∙ inside.same_latest
