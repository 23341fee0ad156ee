use Rattle.std.proofs.Common.{◌≡◌, ◌≤◌, ◌-◌, length, drop}
use Rattle.wc_model.specs.Language.Names.{name_of}
use Rattle.wc_names.proofs.key.name_number.Given as goal
use Rattle.wc_names.specs.Keys.{name_number, number_after}

-- with the bytes that are left the number is that of the name
abbrev pub invariant-loop-at : goal.invariant-loop-at
invariant-loop-at l = (l.at ≤ length l.fn.text) × (number_after l.number (name_of (drop l.at l.fn.text)) ≡ name_number (name_of l.fn.text))

-- the number of bytes left
abbrev pub decreases-loop-at : goal.decreases-loop-at
decreases-loop-at l = length l.fn.text - l.at
