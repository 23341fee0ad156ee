use Rattle.std.proofs.Common.{ap, ◌∙◌}
use Rattle.wc_model.specs.Definitions.{named_in, name_of}
use Rattle.wc_verify.proofs.LabelRows.{looked_up}
use Rattle.wc_cost.proofs.labels.LabelCounts.get.Goals as goal

pub returns : goal.returns
returns c = c.in_ok-get.ensures.value ∙ looked_up (record { text = c.args.name }) c.self.inside.entries.entries ∙ ap (λ rows. named_in rows (name_of c.args.name.now)) c.self.view_is

pub returns-in_err-get : goal.returns-in_err-get
returns-in_err-get c = c.from_residual.ensures ∙ c.in_err-get.ensures.value ∙ looked_up (record { text = c.args.name }) c.self.inside.entries.entries ∙ ap (λ rows. named_in rows (name_of c.args.name.now)) c.self.view_is
