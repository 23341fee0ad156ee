use Rattle.std.proofs.Common.{refl}
use Rattle.wc_diag_messages.proofs.parts.parts_of.Goals as goal
use Rattle.wc_diag_texts.proofs.OnLines.{one_shown}

pub returns : goal.returns
returns c =
    record {
      found = c.in_ok-diagnostic.ensures;
      says = c.in_ok-reported_of.ensures;
      severity_is = refl;
      number_is = refl;
      line_is = c.named_line.ensures;
      place_is = c.in_ok-place_words.ensures;
      expected_are = one_shown _ c.as_bytes.result.now c.in_ok-shown_text.ensures;
      advice_is = one_shown _ c.as_bytes-2.result.now c.in_ok-shown_text-2.ensures;
    }
