use Rattle.std.proofs.Common.{◌≡◌, ◌++◌, drop, map}
use Rattle.wc_view_trace.specs.Members.{integer_token}
use Rattle.wc_view_trace.proofs.members.write_each.Given as goal

-- with the numbers that are left they are all written
abbrev pub invariant-loop-number : goal.invariant-loop-number
invariant-loop-number l =
    (l.writer.tokens ++ map integer_token (drop l.number-index l.numbers) ≡ l.initial.writer.tokens ++ map integer_token l.numbers)
    × (l.writer.before ≡ l.initial.writer.before)
