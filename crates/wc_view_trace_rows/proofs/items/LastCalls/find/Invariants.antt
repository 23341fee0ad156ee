use Rattle.std.proofs.Common.{◌≡◌, ℕ, ◌<◌, length, get_or, take}
use Rattle.wc_view_trace_rows.specs.Items.{last_call}
use Rattle.wc_view_trace_rows.proofs.items.LastCalls.find.Given as goal

-- the last calls among the items so far
pub record SoFar (l : goal.Live-loop-index) : Type 0 where
  pub count : length l.items.items ≡ l.places
  pub each : (place : ℕ) → place < l.places → get_or l.items.items place 0 ≡ last_call place (take l.index l.lines)

abbrev pub invariant-loop-index : goal.invariant-loop-index
invariant-loop-index l = SoFar l
