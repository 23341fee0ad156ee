use Rattle.std.proofs.Common.{◌≡◌, ℕ, ◌<◌, ◌≤◌, ◌⊎◌, List}
use Rattle.wc_view_columns.specs.{AreFrom, Row, column_number, AreColumns}
use Rattle.wc_view_columns.proofs.line.TimeLine.reach.Given as goal

-- the columns so wide are of the same rows, and narrower ones do not reach
abbrev pub invariant-loop-self : goal.invariant-loop-self
invariant-loop-self l = record {
  columns : (rows : List Row) → AreFrom l.initial.self.start rows → AreColumns rows l.initial.self → AreColumns rows l.self;
  power : (p : ℕ) → p < l.self.power → (p < l.initial.self.power) ⊎ (720 ≤ column_number l.initial.self.start p l.ms);
  start : l.self.start ≡ l.initial.self.start;
}

abbrev pub decreases-loop-self : goal.decreases-loop-self
decreases-loop-self l = column_number l.self.start l.self.power l.ms
