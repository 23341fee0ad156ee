use Rattle.wc_model.proofs.Common.{ap, ◌∙◌, if◌then◌else◌}
use Rattle.wc_model.specs.Definitions.{named_in, same_name, name_of}
use Rattle.wc_verify.specs.Bodies.{named_rows, row_named, row_of}
use Rattle.wc_verify.proofs.LabelRows.{kept, row_chosen}
use Rattle.wc_verify.proofs.labels.Labels.set.Goals as goal
use Rattle.wc_verify.proofs.labels.Labels.set.Goals.{in-Ok, in-Err}

pub returns-clause-rows : goal.returns-clause-rows
returns-clause-rows c = elim c.match-insert.branch [
  | in-Ok w ↦ rw w.result-is (λ other.
      ap (λ es. row_named (named_rows es) other) w.in-Ok.ensures.entries ∙ ap row_of (kept (record { text = c.args.name }) c.args.row c.self.inside.entries.entries other)
      ∙ row_chosen (same_name (name_of c.args.name.now) other) c.args.row (named_in (named_rows c.self.inside.entries.entries) other)
      ∙ ap (λ rows. if same_name (name_of c.args.name.now) other then c.args.row else row_named rows other) c.self.view_is)
  | in-Err w ↦ rw w.result-is tt
]
