use Rattle.std.proofs.Common.{ap, arith, unwrap_or, ◌∙◌}
use Rattle.indexmap.specs.Entry.{map_with_value}
use Rattle.wc_diag_warnings.proofs.Following.{led_more}
use Rattle.wc_diag_warnings.proofs.edges.lead.Goals as goal

pub returns : goal.returns
returns c = record {
  led = λ source key.
      let all = c.both.result in
      let led = led_more c.args.labels.now (map_with_value c.in_ok-entry.entry all) (record { text = c.args.label }) c.no_paths.result c.or_insert-kept.result.now c.args.paths all (c.in_ok-entry.ensures.update.0 all)
      c.no_paths.ensures (c.or_insert-kept.ensures.value ∙ ap (λ o. unwrap_or o c.no_paths.result) c.in_ok-entry.ensures.value) c.both.ensures source key in
      grind (arith, led);
}
