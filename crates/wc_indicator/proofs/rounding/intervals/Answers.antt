use Rattle.wc_model.proofs.Common.{◌≡◌, ◌*◌, ap, ◌∙◌, arith, to_z, of_z, w32, ints}
use Rattle.std.specs.Prelude.{pos, ◌<ℤ◌, unsigned_abs}
use Rattle.wc_model.specs.Instrument.Rounding.{nearest_above_zero}
use borrow.Author.Differences.{neg_is}
use Rattle.wc_indicator.proofs.Near.{no_more, below_zero}
use Rattle.wc_indicator.proofs.rounding.intervals.Goals as goal

pub returns-then-counts-lt0-clause-nearest : goal.returns-then-counts-lt0-clause-nearest
returns-then-counts-lt0-clause-nearest c =
    let raw : to_z w32 (of_z w32 c.args.counts) ≡ c.args.counts = omega (arith, ints) in
    let size : c.from-magnitude.result ≡ unsigned_abs c.args.counts = c.from-magnitude.ensures ∙ c.unsigned_abs.ensures.value ∙ ap unsigned_abs raw in
    let is : c.nearest_above_zero-distance.result ≡ nearest_above_zero (unsigned_abs c.args.counts * c.args.n) c.args.span =
    c.nearest_above_zero-distance.ensures ∙ ap (λ m. nearest_above_zero (m * c.from.result) c.args.span) size
    ∙ ap (λ m. nearest_above_zero (unsigned_abs c.args.counts * m) c.args.span) c.from.ensures in
    let few = no_more (unsigned_abs c.args.counts) c.args.n c.args.span c.requires.span.0 c.requires.span.1 in
    let low : c.args.counts <ℤ pos 0 = omega (arith, ints) in
    let reported = below_zero c.args.counts c.args.n c.args.span c.nearest_above_zero-distance.result c.requires.span.0 low is in
    omega (arith, ints, is, few, neg_is (pos c.nearest_above_zero-distance.result), reported)

pub returns-then-counts-lt0-clause-few : goal.returns-then-counts-lt0-clause-few
returns-then-counts-lt0-clause-few c =
    let raw : to_z w32 (of_z w32 c.args.counts) ≡ c.args.counts = omega (arith, ints) in
    let size : c.from-magnitude.result ≡ unsigned_abs c.args.counts = c.from-magnitude.ensures ∙ c.unsigned_abs.ensures.value ∙ ap unsigned_abs raw in
    let is : c.nearest_above_zero-distance.result ≡ nearest_above_zero (unsigned_abs c.args.counts * c.args.n) c.args.span =
    c.nearest_above_zero-distance.ensures ∙ ap (λ m. nearest_above_zero (m * c.from.result) c.args.span) size
    ∙ ap (λ m. nearest_above_zero (unsigned_abs c.args.counts * m) c.args.span) c.from.ensures in
    let few = no_more (unsigned_abs c.args.counts) c.args.n c.args.span c.requires.span.0 c.requires.span.1 in
    let low : c.args.counts <ℤ pos 0 = omega (arith, ints) in
    omega (arith, ints, is, few)

pub returns-else-counts-lt0-clause-few : goal.returns-else-counts-lt0-clause-few
returns-else-counts-lt0-clause-few c =
    let raw : to_z w32 (of_z w32 c.args.counts) ≡ c.args.counts = omega (arith, ints) in
    let size : c.from-magnitude.result ≡ unsigned_abs c.args.counts = c.from-magnitude.ensures ∙ c.unsigned_abs.ensures.value ∙ ap unsigned_abs raw in
    let is : c.nearest_above_zero-distance.result ≡ nearest_above_zero (unsigned_abs c.args.counts * c.args.n) c.args.span =
    c.nearest_above_zero-distance.ensures ∙ ap (λ m. nearest_above_zero (m * c.from.result) c.args.span) size
    ∙ ap (λ m. nearest_above_zero (unsigned_abs c.args.counts * m) c.args.span) c.from.ensures in
    let few = no_more (unsigned_abs c.args.counts) c.args.n c.args.span c.requires.span.0 c.requires.span.1 in
    omega (arith, ints, is, few)
