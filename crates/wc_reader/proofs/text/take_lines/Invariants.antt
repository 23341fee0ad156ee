use Rattle.std.proofs.Common.{◌≤◌, drop, length}
use Rattle.wc_text_bodies.specs.Several.{GoesOn}
use Rattle.wc_reader.specs.TextViews.{IsStateCounted, reading_view}
use Rattle.wc_text_lines.specs.Words.{marks_of}
use Rattle.wc_reader.proofs.text.take_lines.Given as goal

abbrev pub invariant-loop-index : goal.invariant-loop-index
invariant-loop-index l = record {
  goes_on : GoesOn (reading_view l.fn.reading) (marks_of (drop l.from l.tokens)) (reading_view l.reading) (marks_of (drop l.place l.tokens));
  counted : IsStateCounted l.reading.state;
  on : l.from ≤ l.place;
  within : l.place ≤ length l.tokens;
}
