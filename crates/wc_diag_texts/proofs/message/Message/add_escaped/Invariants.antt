use Rattle.std.proofs.Common.{◌≡◌, ◌++◌, take}
use Rattle.wc_diag_texts.specs.Plain.{escaped_text}
use Rattle.wc_diag_texts.proofs.message.Message.add_escaped.Given as goal

-- the bytes so far were added
abbrev pub invariant-loop-byte : goal.invariant-loop-byte
invariant-loop-byte l = l.self.bytes.items ≡ l.initial.self.bytes.items ++ escaped_text (take l.byte-index l.text)
