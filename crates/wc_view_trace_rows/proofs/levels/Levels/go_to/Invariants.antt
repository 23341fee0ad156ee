use Rattle.std.proofs.Common.{◌≡◌, ◌≤◌, ◌-◌, ◌++◌, length, map, replicate}
use Rattle.wc_view_trace_rows.specs.Levels.{fresh, level_view}
use Rattle.wc_view_trace_rows.proofs.levels.Levels.go_to.Given as goal

-- there are as many bodies as the loop has come to, and those after the ones that were there are new
pub record StartedLine (l : goal.Live-loop-level) : Type 0 where
  pub reached : length l.self.levels.items ≡ l._level
  pub within : l._level ≤ l.count
  pub from : length l.initial.self.levels.items ≤ l._level
  pub started : map level_view l.self.levels.items ≡ map level_view l.initial.self.levels.items ++ replicate (l._level - length l.initial.self.levels.items) fresh

abbrev pub invariant-loop-level : goal.invariant-loop-level
invariant-loop-level l = StartedLine l
