use Rattle.wc_model.proofs.Common.{◌≡◌, int_max, int_min}
use Rattle.std.specs.Prelude.{fold}
use Rattle.wc_indicator.proofs.spread.spread.Given as goal

-- with the samples that are left, the greatest and the least so far come to those of all
abbrev pub invariant-loop-sample : goal.invariant-loop-sample
invariant-loop-sample l = record {
  most : fold int_max l.greatest l.sample-iterator ≡ fold int_max l.initial.greatest l.samples.items;
  least : fold int_min l.least l.sample-iterator ≡ fold int_min l.initial.least l.samples.items;
}
