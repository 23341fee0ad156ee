use Rattle.std.proofs.Common.{◌≡◌, ◌++◌, take}
use Rattle.wc_diag_messages.specs.Paged.{page_lines}
use Rattle.wc_diag_messages.proofs.page.write_help.Given as goal

-- the lines so far were added
abbrev pub invariant-loop-line : goal.invariant-loop-line
invariant-loop-line l = l.message.bytes.items ≡ l.initial.message.bytes.items ++ page_lines (λ line. line.now) (take l.line-index l.usual)
