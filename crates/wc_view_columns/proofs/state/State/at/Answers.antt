use Rattle.wc_model.proofs.Common.{ap, sym, ◌∙◌, not, None, get_or, option_to_list}
use Rattle.wc_view_columns.proofs.Together.{one_flag, one_given}
use Rattle.wc_view_columns.specs.Held.{held_at, span_of}
use Rattle.wc_view_columns.proofs.state.State.at.Goals as goal

pub returns : goal.returns
returns c p history numbers st given =
    let h = held_at p history c.args.inputs c.args.outputs.now numbers in
    record {
      gross = c.of.ensures ∙ ap (λ o. span_of (option_to_list o)) (c.wide_weight.ensures ∙ c.gross.ensures p history st) ∙ ap span_of (sym (one_given (λ h. h.gross) h));
      net = c.of-2.ensures ∙ ap (λ o. span_of (option_to_list o)) (c.wide_weight-2.ensures ∙ c.net_of.ensures p history st) ∙ ap span_of (sym (one_given (λ h. h.net) h));
      motion = ap not (c.stable.ensures p history st) ∙ sym (one_flag h.motion);
      over = c.over.ensures p history st ∙ sym (one_flag h.over);
      under = c.under.ensures p history st ∙ sym (one_flag h.under);
      invalid = ap not (c.valid.ensures p history st) ∙ sym (one_flag h.invalid);
      inputs = c.at.ensures;
      outputs = c.at-2.ensures;
      words = c.words_of.ensures;
      variables = λ i within. c.variables_of.ensures i within ∙ ap (λ o. span_of (option_to_list o)) (given i within) ∙ ap span_of (sym (one_given (λ h. get_or h.variables i None) h));
    }
