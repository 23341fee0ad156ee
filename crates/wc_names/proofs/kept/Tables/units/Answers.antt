-- There is a table for each unit.
use Rattle.std.proofs.Common.{[], arith}
use Rattle.wc_names.proofs.ScopeTables.{all_units}
use Rattle.wc_names.proofs.kept.Tables.units.Goals as goal

pub returns-clause-text : goal.returns-clause-text
returns-clause-text c = λ text are.
    omega (arith, c.len.ensures, c.args.self.now.units.ok, all_units text [] c.args.self.now.units.items are)
