use Rattle.std.proofs.Common.{refl}
use Rattle.wc_diag_messages.proofs.PlacedWarnings.{follows}
use Rattle.wc_diag_messages.proofs.warned_parts.warning_parts.Goals as goal

pub returns : goal.returns
returns c =
    let f = follows c.args.text.now c.args.tokens.now c.args.warning.now c.in_ok-diagnostic.diagnostic c.in_ok-diagnostic.ensures in
    record {
      placed = c.in_ok-diagnostic.ensures;
      below = f.below;
      own = f.own;
      within = f.within;
      represents = f.represents;
      said = c.words_of.result.0.now;
      reported_is = c.in_ok-warning_sentence.ensures;
      severity_is = refl;
      number_is = c.from.ensures;
      line_is = refl;
      place_is = c.new.ensures.nothing;
      expected_are = c.new-2.ensures.nothing;
      advice = c.as_bytes.result.now;
      advice_is = c.in_ok-shown_text.ensures;
    }
