use Rattle.wc_model.proofs.Common.{◌∙◌, ap, drop_all}
use Rattle.wc_text_lines.specs.Words.{marks_of}
use Rattle.wc_reader.specs.TextViews.{reading_view}
use Rattle.wc_text_bodies.specs.Views.{walk}
use Rattle.wc_diag_stops.proofs.Stopped.{read_at_end}
use Rattle.wc_diag_stops.proofs.stops.fault_at.Goals.{in-Ok-at_text_end, in-Err-at_text_end}
use Rattle.wc_diag_stops.proofs.stops.fault_at.Goals as goal

pub returns-clause-read : goal.returns-clause-read
returns-clause-read c =
    let reading = reading_view c.loop-place.reading in
    let whole = c.loop-place.invariant.goes_on ∙ ap (λ l. walk reading (marks_of l) c.args.last) (drop_all c.loop-place.place c.args.tokens.now c.loop-place-test.false) in
    elim c.match-at_text_end.branch [
      | in-Ok-at_text_end w ↦ rw w.result-is (read_at_end _ reading c.args.last _ whole w.in-Ok-at_text_end.ensures.reported)
      | in-Err-at_text_end w ↦ rw w.result-is tt
    ]
