use Rattle.std.proofs.Common.{List, ℕ}
use Rattle.wc_cost.specs.PathLengths.{ArePathLengths}
use Rattle.wc_cost.proofs.WorstLengths.{Lists}
use Rattle.wc_cost.proofs.path_lengths.worst_lines.Given as goal

-- what is listed, with what is left of the path
abbrev pub invariant-loop-index : goal.invariant-loop-index
invariant-loop-index l = (bounds : List ℕ) → ArePathLengths bounds l.code l.path_lengths → Lists bounds l.code l.sources l.index l.left l.lines.items
