-- Each number is the bit, and no moment is written.
use Rattle.std.proofs.Common.{◌∙◌}
use Rattle.wc_execution.proofs.FourBools.{four_are, four_fit, four_in_range, four_moments, four_there}
use Rattle.wc_execution.proofs.SlotKinds.{wide_bit}
use Rattle.wc_execution.proofs.image.copy_four.Goals as goal
use Rattle.wc_model.specs.Language.Scans.{is_bit_set}

pub set_four-requires-clause-places : goal.set_four-requires-clause-places
set_four-requires-clause-places g c = four_there (g.S.Store.slot_kinds c.args.store.now) c.args.first c.requires.slots

pub set_four-requires-clause-fit : goal.set_four-requires-clause-fit
set_four-requires-clause-fit g c = four_fit (g.S.Store.slot_kinds c.args.store.now) c.args.first 65536 c.requires.capacity c.requires.slots

pub set_four-requires-clause-first : goal.set_four-requires-clause-first
set_four-requires-clause-first g c =
    (four_in_range (g.S.Store.slot_kinds c.args.store.now) c.args.first c.requires.slots).head (is_bit_set c.args.bits 0) c.four_bits-four.result.0 c.four_bits-four.ensures.first

pub set_four-requires-clause-second : goal.set_four-requires-clause-second
set_four-requires-clause-second g c =
    (four_in_range (g.S.Store.slot_kinds c.args.store.now) c.args.first c.requires.slots).second (is_bit_set c.args.bits 1) c.four_bits-four.result.1 c.four_bits-four.ensures.second

pub set_four-requires-clause-third : goal.set_four-requires-clause-third
set_four-requires-clause-third g c =
    (four_in_range (g.S.Store.slot_kinds c.args.store.now) c.args.first c.requires.slots).third (is_bit_set c.args.bits 2) c.four_bits-four.result.2 c.four_bits-four.ensures.third

pub set_four-requires-clause-fourth : goal.set_four-requires-clause-fourth
set_four-requires-clause-fourth g c =
    (four_in_range (g.S.Store.slot_kinds c.args.store.now) c.args.first c.requires.slots).fourth (is_bit_set c.args.bits 3) c.four_bits-four.result.3 c.four_bits-four.ensures.fourth

pub returns-clause-numbers : goal.returns-clause-numbers
returns-clause-numbers g c =
    c.set_four.ensures.numbers ∙ four_are (g.S.Store.numbers c.args.store.now) c.args.first
    (wide_bit c.four_bits-four.result.0 (is_bit_set c.args.bits 0) c.four_bits-four.ensures.first)
    (wide_bit c.four_bits-four.result.1 (is_bit_set c.args.bits 1) c.four_bits-four.ensures.second)
    (wide_bit c.four_bits-four.result.2 (is_bit_set c.args.bits 2) c.four_bits-four.ensures.third)
    (wide_bit c.four_bits-four.result.3 (is_bit_set c.args.bits 3) c.four_bits-four.ensures.fourth)

pub returns-clause-kinds : goal.returns-clause-kinds
returns-clause-kinds g c = c.set_four.ensures.kinds

pub returns-clause-moments : goal.returns-clause-moments
returns-clause-moments g c = λ now before.
    four_moments now (g.S.Store.slot_kinds c.args.store.now) (g.S.Store.slot_kinds c.set_four.new.self) (g.S.Store.numbers c.args.store.now) (g.S.Store.numbers c.set_four.new.self)
    c.args.first _ _ _ _ c.requires.slots c.set_four.ensures.kinds c.set_four.ensures.numbers before
