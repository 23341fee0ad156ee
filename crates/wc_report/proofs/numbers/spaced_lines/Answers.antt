use Rattle.std.proofs.Common.{rules}
use Rattle.wc_report.proofs.SpacedNumbers.{one_line_more}
use Rattle.wc_report.proofs.numbers.spaced_lines.Goals as goal

pub loop-line-preserved : goal.loop-line-preserved
loop-line-preserved c =
    search (rules, one_line_more)
