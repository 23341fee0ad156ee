use Rattle.std.proofs.Common.{◌≡◌, ℕ, ◌≤◌, List, drop, length}
use Rattle.wc_text_flat.specs.FlatPaths.{worst_from}
use Rattle.wc_cost.specs.{bounds_of, AreSmall, steps_of}
use Rattle.wc_cost.proofs.path_lengths.path_lengths.Given as goal

-- the paths from the index on are there
abbrev pub invariant-loop-index : goal.invariant-loop-index
invariant-loop-index l =
    (length l.path_lengths.items ≡ length l.code)
    × (AreSmall (bounds_of l.units) → length l.code ≤ 65536 → (sources : List ℕ) → drop l.index l.path_lengths.items ≡ steps_of (worst_from (bounds_of l.units) (drop l.index l.code) (drop l.index sources)))
