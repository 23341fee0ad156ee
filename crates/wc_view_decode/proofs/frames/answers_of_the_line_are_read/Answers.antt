use Rattle.wc_view_decode.proofs.LineReadings.{answers_are_read}
use Rattle.wc_view_decode.proofs.frames.answers_of_the_line_are_read.Goals as goal

pub returns : goal.returns
returns c = answers_are_read
