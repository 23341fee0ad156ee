use Rattle.wc_model.proofs.Common.{Some, ap, ◌∙◌, if◌then◌else◌}
use Rattle.wc_model.specs.Definitions.{named_in, same_name, name_of}
use Rattle.wc_verify.specs.Bodies.{named_rows}
use Rattle.wc_verify.proofs.LabelRows.{kept}
use Rattle.wc_cost.proofs.labels.LabelCounts.set.Goals as goal

pub returns : goal.returns
returns c = λ other.
    ap (λ es. named_in (named_rows es) other) c.in_ok-insert.ensures.entries ∙ kept (record { text = c.args.name }) c.args.left c.self.inside.entries.entries other
    ∙ ap (λ rows. if same_name (name_of c.args.name.now) other then Some c.args.left else named_in rows other) c.self.view_is
