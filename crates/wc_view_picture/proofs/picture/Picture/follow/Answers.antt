use Rattle.std.proofs.Common.{◌≡◌, ◌∙◌, ◌∷◌, ◌++◌, Option, suc, length, ap, arith, subst, sym}
use Rattle.std.specs.Prelude.{ℕ, List, None, ◌-◌, ◌^◌, get_or, min, option_map}
use Rattle.wc_indicator.specs.Kept.{IndicatorState, RepresentsHistory}
use Rattle.wc_model.specs.Definitions.{inputs_with, history_of, line_bytes, answer_line}
use Rattle.wc_record.specs.Views.{head_data_view}
use Rattle.wc_run.specs.{logic_after, lines_of_scan, row_of}
use Rattle.wc_sma.specs.Feeding.{HasRead}
use Rattle.wc_sma.specs.declared.requests.RequestReader.{RequestReader}
use Rattle.wc_view_columns.specs.declared.line.TimeLine.{TimeLine}
use Rattle.wc_view_picture.proofs.Kept.{names_turned, on_ok, row_seen, runs}
use Rattle.wc_view_picture.proofs.picture.Picture.follow.Goals as goal
use Rattle.wc_view_picture.specs.Seen.{AreNamesOf, IsTimeOf, list_of, most_after, numbers_after, most_at, most_of, most_with, outputs_with, replaced_at}
use Rattle.wc_view_picture.specs.declared.picture.Picture.{Picture}
use Rattle.wc_view_watch.specs.declared.watched_names.WatchedNames.{WatchedNames}

pub returns : goal.returns
returns c = record {
  seen =
      on_ok c.keep.result
      (λ kept plate logic past shown represents before.
      let old = c.args.self.now in
      let seen = c.args.seen.now in
      let turned = c.turn.new.self in
      let named = c.turn-2.new.self in
      let same_inputs : turned.inputs ≡ old.inputs = ap (λ (p : Picture). p.inputs) c.turn.ensures.same ∙ ap (λ (p : Picture). p.inputs) c.events-events.ensures.same in
      let same_outputs : turned.outputs ≡ old.outputs = ap (λ (p : Picture). p.outputs) c.turn.ensures.same ∙ ap (λ (p : Picture). p.outputs) c.events-events.ensures.same in
      let same_rows : turned.rows ≡ old.rows = ap (λ (p : Picture). p.rows) c.turn.ensures.same ∙ ap (λ (p : Picture). p.rows) c.events-events.ensures.same in
      let same_line : turned.line ≡ old.line = ap (λ (p : Picture). p.line) c.turn.ensures.same ∙ ap (λ (p : Picture). p.line) c.events-events.ensures.same in
      let same_requests : turned.tracker.requests ≡ c.events-events.new.self.tracker.requests = ap (λ (p : Picture). p.tracker.requests) c.turn.ensures.same in
      let same_names : turned.names ≡ old.names = ap (λ (p : Picture). p.names) c.turn.ensures.same ∙ ap (λ (p : Picture). p.names) c.events-events.ensures.same in
      let list : list_of turned ≡ list_of old = ap list_of c.turn.ensures.same ∙ ap list_of c.events-events.ensures.same in
      let names : AreNamesOf (list_of old) named (logic_after plate logic (row_of seen ∷ past)) =
      names_turned old.list turned.names named (logic_after plate logic past) (logic_after plate logic (row_of seen ∷ past)) (λ list fit. c.turn-2.ensures list plate logic past fit)
      (subst (λ (names : WatchedNames). AreNamesOf (list_of old) names (logic_after plate logic past)) (sym same_names) before.names) in
      let count : c.saturating_add-self.result ≡ min (suc (length past)) (2 ^ 32 - 1) = omega (arith, c.saturating_add-self.ensures, before.count, same_rows) in
      row_seen old _ seen plate logic past c.indicator-indicator.result.now (record { state = c.at-state.result; events = c.events-events.result }) c.numbers.result shown
      (subst (λ (indicator : IndicatorState). RepresentsHistory indicator plate (history_of (row_of seen ∷ past))) (sym c.indicator-indicator.ensures) represents.opened.indicator) before
      (record {
        inputs = λ bytes. c.inputs_after-self.ensures bytes ∙ ap (inputs_with (head_data_view bytes seen.row.kind)) same_inputs;
        outputs = λ ms answer. c.outputs_after-self.ensures ms answer ∙ ap (outputs_with (answer_line ms answer ++ lines_of_scan seen.scan)) same_outputs;
        requests = subst (λ (reader : RequestReader). HasRead reader (line_bytes (row_of seen ∷ past))) (sym same_requests) (c.events-events.ensures.read past before.requests);
        running = λ ms answer. c.turn.ensures.runs ms answer
            ∙ ap (λ (p : Picture). option_map (most_with (answer_line ms answer ++ lines_of_scan seen.scan)) (option_map (most_at (row_of seen).brings) (most_of p.running))) c.events-events.ensures.same;
        before = c.turn.ensures.replaced ∙ ap (λ (p : Picture). replaced_at (row_of seen).brings (most_of p.running) (most_of p.before)) c.events-events.ensures.same;
        count = count;
        state = λ p history held numbers given. c.at-state.ensures p history numbers held given;
        variables = λ i within. c.numbers.ensures plate logic (row_of seen ∷ past) represents (subst (λ of. AreNamesOf of named (logic_after plate logic (row_of seen ∷ past))) (sym list) names) i within ∙ ap (λ (of : Option (List ℕ)). get_or (numbers_after of plate logic (row_of seen ∷ past)) i None) list;
        list = list;
        names = names;
        happened = c.events-events.ensures.happened plate logic past shown before.requests (runs old.running (most_after plate logic past) logic before.running);
        line = λ rows held time is. kept rows held (subst (λ (line : Option TimeLine). IsTimeOf rows line) (sym same_line) time) is;
      }))
      c.keep.ensures;
}
