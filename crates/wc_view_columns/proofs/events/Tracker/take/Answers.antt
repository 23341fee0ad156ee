use Rattle.wc_model.proofs.Common.{[], ◌∷◌, refl, sym, ap, ◌∙◌, option_to_list}
use Rattle.std.specs.Prelude.{option_map}
use Rattle.wc_model.specs.Instrument.Requests.{requests_in}
use Rattle.wc_sma.specs.Seen.{command_view}
use Rattle.wc_view_columns.proofs.Followed.{one_followed}
use Rattle.wc_view_columns.proofs.events.Tracker.take.Goals as goal

pub returns-clause-followed : goal.returns-clause-followed
returns-clause-followed c = λ before texts read so.
    one_followed c.args.ms texts (requests_in before (c.args.byte ∷ [])) c.args.answers.now c.args.at.now c.answer_at-answer.result.1 c.args.events.now c.request.new.self
    (record { ms = c.args.ms; command = c.in-Some.command; answer = c.answer_at-answer.result.0 }) so
    (sym (ap (λ o. option_to_list (option_map command_view o)) c.in-Some.is) ∙ c.take.ensures.command before read)
    refl c.answer_at-answer.ensures.answer c.answer_at-answer.ensures.left c.request.ensures.counts
