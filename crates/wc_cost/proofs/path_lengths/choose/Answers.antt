use Rattle.std.proofs.Common.{sym, ◌∙◌}
use Rattle.wc_text_flat.specs.FlatPaths.{from_line}
use Rattle.wc_cost.proofs.WorstLengths.{way_after}
use Rattle.wc_cost.proofs.path_lengths.choose.Goals as goal

pub returns-then-act : goal.returns-then-act
returns-then-act c = λ rest are.
    c.if-act.ensures (from_line rest c.args.acting) (from_line rest c.args.passing) (way_after c.args.path_lengths.now c.args.next rest are c.args.acting ∙ sym c.way_from.ensures) (way_after c.args.path_lengths.now c.args.next rest are c.args.passing ∙ sym c.way_from-2.ensures)

pub returns-else-act : goal.returns-else-act
returns-else-act c = λ rest are.
    c.if-act.ensures (from_line rest c.args.acting) (from_line rest c.args.passing) (way_after c.args.path_lengths.now c.args.next rest are c.args.acting ∙ sym c.way_from.ensures) (way_after c.args.path_lengths.now c.args.next rest are c.args.passing ∙ sym c.way_from-2.ensures)
