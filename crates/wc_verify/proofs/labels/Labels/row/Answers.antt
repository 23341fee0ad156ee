use Rattle.std.proofs.Common.{ap, ◌∙◌}
use Rattle.wc_model.specs.Language.Names.{name_of}
use Rattle.wc_verify.specs.Bodies.{row_named, row_of}
use Rattle.wc_verify.proofs.LabelRows.{looked_up}
use Rattle.wc_verify.proofs.labels.Labels.row.Goals as goal

pub returns-in-Some : goal.returns-in-Some
returns-in-Some c =
    ap row_of (c.in-Some.ensures.value ∙ looked_up (record { text = c.args.name }) c.self.inside.entries.entries) ∙ ap (λ rows. row_named rows (name_of c.args.name.now)) c.self.view_is

pub returns-in-None : goal.returns-in-None
returns-in-None c =
    ap row_of (c.in-None.ensures.value ∙ looked_up (record { text = c.args.name }) c.self.inside.entries.entries) ∙ ap (λ rows. row_named rows (name_of c.args.name.now)) c.self.view_is
