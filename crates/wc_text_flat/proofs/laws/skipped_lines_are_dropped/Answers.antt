use Rattle.wc_text_flat.proofs.Counts.{skipped_lines_are_dropped}
use Rattle.wc_text_flat.proofs.laws.skipped_lines_are_dropped.Goals as goal

pub returns : goal.returns
returns c = skipped_lines_are_dropped
