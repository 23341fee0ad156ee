use Rattle.std.proofs.Common.{sym, ◌∙◌}
use Rattle.wc_lexer.specs.Views.{token_view}
use Rattle.wc_model.specs.Text.Reading.{mark_of_token}
use Rattle.wc_text_lines.proofs.Outcomes.{err-map, on_ok-map}
use Rattle.wc_text_bodies.proofs.WalkSteps.{at_move}
use Rattle.wc_reader.proofs.ReadingSteps.{at_fault, at_unexpected}
use Rattle.wc_reader.specs.TextViews.{reading_view}
use Rattle.wc_reader.proofs.text.read_token.Goals as goal

pub returns-in-Some-clause-stops : goal.returns-in-Some-clause-stops
returns-in-Some-clause-stops c = λ following e.
    at_fault (reading_view c.args.reading.now) (mark_of_token (token_view c.args.token)) following c.args.colon c.in-Some.fault e (sym c.in-Some.is ∙ c.fault_at.ensures)

pub returns-in-None-clause-goes_on : goal.returns-in-None-clause-goes_on
returns-in-None-clause-goes_on c = on_ok-map c.move_on.result (λ h following e. record {
  same = λ last. at_move (reading_view c.args.reading.now) (reading_view c.move_on.new.reading) (mark_of_token (token_view c.args.token)) following last c.args.colon e (sym c.in-None.is ∙ c.fault_at.ensures) h;
}) c.move_on.ensures.goes_on

pub returns-in-None-clause-stops : goal.returns-in-None-clause-stops
returns-in-None-clause-stops c = err-map c.move_on.result (λ fault h following e.
    at_unexpected (reading_view c.args.reading.now) (mark_of_token (token_view c.args.token)) following c.args.colon fault e (sym c.in-None.is ∙ c.fault_at.ensures) h) c.move_on.ensures.stops
