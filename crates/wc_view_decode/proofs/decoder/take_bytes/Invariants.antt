use Rattle.std.proofs.Common.{◌≡◌, ◌++◌, List, ℕ, take}
use Rattle.wc_view_decode.specs.Running.{Represents}
use Rattle.wc_view_decode.proofs.decoder.take_bytes.Given as goal

-- the bytes so far are taken
abbrev pub invariant-loop-byte : goal.invariant-loop-byte
invariant-loop-byte l = record {
  format : l.decoder.format ≡ l.fn.decoder.format;
  takes : (read text : List ℕ) → Represents l.fn.decoder read (text ++ l.fn.text.items) → Represents l.decoder (read ++ take l.byte-index l.fn.bytes) (text ++ l.text.items);
}
