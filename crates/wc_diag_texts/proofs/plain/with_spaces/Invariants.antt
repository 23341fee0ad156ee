use Rattle.std.proofs.Common.{◌≡◌, take}
use Rattle.wc_diag_texts.specs.Plain.{with_spaces}
use Rattle.wc_diag_texts.proofs.plain.with_spaces.Given as goal

-- the bytes so far, with spaces
abbrev pub invariant-loop-byte : goal.invariant-loop-byte
invariant-loop-byte l = l.bytes.items ≡ with_spaces (take l.byte-index l.text)
