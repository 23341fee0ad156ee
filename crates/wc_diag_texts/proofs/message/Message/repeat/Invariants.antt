use Rattle.std.proofs.Common.{◌≡◌, ◌++◌, replicate}
use Rattle.wc_diag_texts.proofs.message.Message.repeat.Given as goal

-- that number of marks was added
abbrev pub invariant-loop-done : goal.invariant-loop-done
invariant-loop-done l = l.self.bytes.items ≡ l.initial.self.bytes.items ++ replicate l._done l.mark
