use Rattle.std.proofs.Common.{sym, arith}
use Rattle.wc_record.proofs.WholeLines.{whole_lines_pass}
use Rattle.wc_record.proofs.place.LogPlace.whole_lines.Goals as goal

pub returns-then-bytes-saturating_sub-clause-passes : goal.returns-then-bytes-saturating_sub-clause-passes
returns-then-bytes-saturating_sub-clause-passes c =
    whole_lines_pass c.args.self c.args.bytes.now c.unquoted_lines.result (sym c.if-is_outside.ensures)
    (omega (arith, c.if-bytes-saturating_sub.true, c.saturating_sub.ensures)) c.unquoted_lines.ensures
