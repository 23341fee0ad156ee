use Rattle.wc_reader.proofs.ReadingSteps.{stopped_as}
use Rattle.wc_reader.specs.TextViews.{reading_view}
use Rattle.wc_text_lines.specs.Words.{marks_of}
use Rattle.std.proofs.Common.{drop}
use Rattle.wc_reader.proofs.text.read_on.Goals as goal

pub returns-in-Err-clause-reported : goal.returns-in-Err-clause-reported
returns-in-Err-clause-reported c =
    rw c.loop-place.invariant.goes_on (stopped_as (reading_view c.loop-place.reading) (marks_of (drop c.loop-place.place c.args.tokens.now)) c.args.last_line c.in-Err.fault c.in-Err.ensures.stops)
