use Rattle.std.proofs.Common.{◌≡◌, ◌++◌, take}
use Rattle.wc_view_decode.specs.Formats.{passed_on}
use Rattle.wc_view_decode.proofs.decoder.put_passed_on.Given as goal

-- the bytes so far are written
abbrev pub invariant-loop-byte : goal.invariant-loop-byte
invariant-loop-byte l = l.text.items ≡ l.fn.text.items ++ passed_on l.fn.format (take l.byte-index l.fn.bytes)
