use Rattle.std.proofs.Common.{◌≡◌, take}
use Rattle.std.specs.String.{string_bytes}
use Rattle.wc_model.specs.Say.UnitReport.{spaced_lines}
use Rattle.wc_report.proofs.numbers.spaced_lines.Given as goal

-- the lines passed so far are written
abbrev pub invariant-loop-line : goal.invariant-loop-line
invariant-loop-line l = string_bytes l.text ≡ spaced_lines (take l.line-index l.fn.lines)
