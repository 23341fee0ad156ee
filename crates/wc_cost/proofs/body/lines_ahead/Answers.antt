use Rattle.std.proofs.Common.{sym, ◌∙◌}
use Rattle.wc_model.specs.Definitions.{named_in, name_of}
use Rattle.wc_cost.proofs.LabelsLowered.{found_ahead, not_ahead}
use Rattle.wc_cost.proofs.body.lines_ahead.Goals as goal

pub returns-in-Some : goal.returns-in-Some
returns-in-Some c = λ rest holds near.
    found_ahead rest (name_of c.args.label.now) (named_in c.args.labels.now (name_of c.args.label.now)) c.in-Some.left c.args.count c.distance.result (holds (name_of c.args.label.now)) (sym c.get.ensures ∙ c.in-Some.is) near c.distance.ensures

pub returns-in-None : goal.returns-in-None
returns-in-None c = λ rest holds near.
    absurd (not_ahead rest (name_of c.args.label.now) (named_in c.args.labels.now (name_of c.args.label.now)) c.args.count (holds (name_of c.args.label.now)) (sym c.get.ensures ∙ c.in-None.is) near)
