-- The table has a row for what 16 leaves.
use Rattle.std.proofs.Common.{refl}
use Rattle.wc_execution.proofs.BitRows.{first_bit, fourth_bit, row_fits, row_there, second_bit, third_bit}
use Rattle.wc_execution.proofs.image.four_bits.Goals as goal

pub offset_bounds-from : goal.offset_bounds-from
offset_bounds-from c = row_fits c.from.result c.args.bits c.from.ensures

pub bounds-from : goal.bounds-from
bounds-from c = row_there c.from.result c.args.bits c.from.ensures

pub returns-clause-first : goal.returns-clause-first
returns-clause-first c = first_bit _ _ c.from.result c.args.bits refl c.from.ensures

pub returns-clause-second : goal.returns-clause-second
returns-clause-second c = second_bit _ _ c.from.result c.args.bits refl c.from.ensures

pub returns-clause-third : goal.returns-clause-third
returns-clause-third c = third_bit _ _ c.from.result c.args.bits refl c.from.ensures

pub returns-clause-fourth : goal.returns-clause-fourth
returns-clause-fourth c = fourth_bit _ _ c.from.result c.args.bits refl c.from.ensures
