use Rattle.wc_model.proofs.Common.{◌≡◌, ◌+◌, ◌-◌, ℕ, List, drop, subst, ap, ◌∙◌, arith, length-set}
use Rattle.wc_text_flat.specs.FlatPaths.{worst_from}
use Rattle.wc_cost.specs.{bounds_of, steps_of}
use Rattle.wc_cost.proofs.WorstLengths.{one_more_way}
use Rattle.wc_cost.proofs.path_lengths.path_lengths.Goals as goal

pub returns-clause-path_lengths : goal.returns-clause-path_lengths
returns-clause-path_lengths c = λ small few sources.
    let end : c.loop-index.index ≡ 0 = omega (arith, c.loop-index-test.false) in
    subst (λ i. drop i c.loop-index.path_lengths.items ≡ steps_of (worst_from (bounds_of c.args.units.now) (drop i c.args.code.now) (drop i sources))) end (c.loop-index.invariant.1 small few sources)

pub loop-index-preserved-in-Some : goal.loop-index-preserved-in-Some
loop-index-preserved-in-Some c =
    let i = c.loop-index.index - 1 in
    let next : c.loop-index.index ≡ i + 1 = omega (arith, c.loop-index-test.true) in
    let bounds = bounds_of c.args.units.now in
    let path_lengths = c.loop-index.path_lengths.items in (
      length-set path_lengths i c.way.result ∙ c.loop-index.invariant.0,
      λ small few sources.
          one_more_way bounds small c.args.code.now path_lengths i c.in-Some.line.now sources c.way.result few c.in-Some.ensures.lookup.3.0 c.in-Some.ensures.lookup.1 c.loop-index.invariant.0
          (subst (λ n. drop n path_lengths ≡ steps_of (worst_from bounds (drop n c.args.code.now) (drop n sources))) next (c.loop-index.invariant.1 small few sources))
          (λ source rest are. c.way.ensures source rest (ap (λ (xs : List ℕ). drop (i + 1) xs) c.deref.ensures.value ∙ are)),
    )
