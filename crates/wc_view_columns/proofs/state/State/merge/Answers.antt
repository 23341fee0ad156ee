use Rattle.wc_model.proofs.Common.{map, get_or, None, pos, refl, filter_map}
use Rattle.wc_view_columns.proofs.Together.{bits_on, flags_on, spans_on, words_on}
use Rattle.wc_view_columns.proofs.state.State.merge.Goals as goal

pub returns : goal.returns
returns c held others first second = record {
  gross = spans_on (λ h. h.gross) held others _ (c.join.ensures.both (filter_map (λ h. h.gross) held) (filter_map (λ h. h.gross) others) first.gross second.gross);
  net = spans_on (λ h. h.net) held others _ (c.join-2.ensures.both (filter_map (λ h. h.net) held) (filter_map (λ h. h.net) others) first.net second.net);
  motion = flags_on (λ h. h.motion) held others _ _ _ refl first.motion second.motion;
  over = flags_on (λ h. h.over) held others _ _ _ refl first.over second.over;
  under = flags_on (λ h. h.under) held others _ _ _ refl first.under second.under;
  invalid = flags_on (λ h. h.invalid) held others _ _ _ refl first.invalid second.invalid;
  inputs = bits_on (λ h. h.inputs) held others _ (c.merge.ensures (map (λ h. h.inputs) held) (map (λ h. h.inputs) others) first.inputs second.inputs);
  outputs = bits_on (λ h. h.outputs.bits) held others _ (c.merge-2.ensures (map (λ h. h.outputs.bits) held) (map (λ h. h.outputs.bits) others) first.outputs second.outputs);
  words = λ other i within.
      words_on (λ h. get_or h.outputs.words i (pos 0)) held others _
      (c.merge_words.ensures (λ k. map (λ h. get_or h.outputs.words k (pos 0)) held) (λ k. map (λ h. get_or h.outputs.words k (pos 0)) others) first.words second.words other i within);
  variables = λ i within.
      spans_on (λ h. get_or h.variables i None) held others _
      (c.merge_variables.ensures (λ k. filter_map (λ h. get_or h.variables k None) held) (λ k. filter_map (λ h. get_or h.variables k None) others) first.variables second.variables i within);
}
