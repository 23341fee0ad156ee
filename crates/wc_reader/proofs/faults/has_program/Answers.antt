use Rattle.std.proofs.Common.{◌∙◌}
use Rattle.wc_reader.proofs.Units.{any-program}
use Rattle.wc_reader.proofs.faults.has_program.Goals as goal

pub returns : goal.returns
returns c = c.any_program.ensures ∙ any-program c.args.units.now
