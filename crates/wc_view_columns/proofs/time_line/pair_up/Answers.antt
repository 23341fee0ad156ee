use Rattle.std.proofs.Common.{◌*◌, ◌<◌, length, length-set, subst, arith, ◌∙◌}
use Rattle.std.proofs.lemmas.List.{get_or-set_other}
use Rattle.wc_view_columns.proofs.Rows.{pairs_more}
use Rattle.wc_view_columns.specs.Rows.{IsPairOf}
use Rattle.wc_view_columns.proofs.time_line.pair_up.Goals as goal

pub loop-index-preserved : goal.loop-index-preserved
loop-index-preserved c =
    let now = c.loop-index.columns.items in
    let old = c.args.columns.now.items in
    let k = c.loop-index.index in
    let inside : k < length now = omega (arith, c.loop-index-test.true, c.div_ceil-half.ensures, c.len.ensures, c.loop-index.invariant.count) in
    record {
      count = length-set now k c.pair_at-pair.result ∙ c.loop-index.invariant.count;
      capacity = c.loop-index.invariant.capacity;
      done = pairs_more old now k c.pair_at-pair.result c.loop-index.invariant.count c.loop-index.invariant.rest inside c.loop-index.invariant.done
          (subst (λ columns. IsPairOf columns (2 * k) c.pair_at-pair.result) c.deref.ensures.value c.pair_at-pair.ensures);
      rest = λ i other l.
          get_or-set_other now k i c.pair_at-pair.result other (λ e. absurd (omega (arith, e, l))) ∙ c.loop-index.invariant.rest i other (omega (arith, l));
    }
