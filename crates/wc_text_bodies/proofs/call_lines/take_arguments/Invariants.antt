use Rattle.std.proofs.Common.{◌≤◌, drop, length}
use Rattle.wc_text_lines.specs.LineViews.{listed_view}
use Rattle.wc_text_bodies.specs.Several.{ListsOn}
use Rattle.wc_text_lines.specs.Words.{marks_of}
use Rattle.wc_text_bodies.proofs.call_lines.take_arguments.Given as goal

abbrev pub invariant-loop-index : goal.invariant-loop-index
invariant-loop-index l = record {
  goes_on : ListsOn (listed_view l.fn.call) (marks_of l.tokens) (listed_view l.call) (marks_of (drop l.place l.tokens));
  within : l.place ≤ length l.tokens;
}
