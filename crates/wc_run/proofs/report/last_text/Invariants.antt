use Rattle.std.proofs.Common.{◌≡◌, take}
use Rattle.wc_model.specs.Say.Report.{report_text}
use Rattle.wc_run.specs.Observing.{lines_of_records}
use Rattle.wc_run.proofs.report.last_text.Given as goal

-- the lines of the records so far
abbrev pub invariant-loop-index : goal.invariant-loop-index
invariant-loop-index l = l.lines.items ≡ report_text (lines_of_records (take l.index l.recorder.records))
