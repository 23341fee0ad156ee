use Rattle.std.proofs.Common.{◌≡◌, ◌≤◌, ◌-◌, drop, length}
use Rattle.wc_text_lines.specs.Words.{marks_of}
use Rattle.wc_reader.specs.TextViews.{IsStateCounted, reading_view}
use Rattle.wc_text_bodies.specs.Views.{walk}
use Rattle.wc_diag_stops.proofs.stops.fault_at.Given as goal

abbrev pub invariant-loop-place : goal.invariant-loop-place
invariant-loop-place l = record {
  goes_on : walk (reading_view l.fn.reading) (marks_of l.tokens) l.last ≡ walk (reading_view l.reading) (marks_of (drop l.place l.tokens)) l.last;
  counted : IsStateCounted l.reading.state;
  within : l.place ≤ length l.tokens;
}

abbrev pub decreases-loop-place : goal.decreases-loop-place
decreases-loop-place l = length l.tokens - l.place
