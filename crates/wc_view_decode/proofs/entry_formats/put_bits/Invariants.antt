use Rattle.std.proofs.Common.{◌≡◌, ◌++◌}
use Rattle.wc_view_decode.specs.Formats.{bit_text, none_text, of_bits}
use Rattle.wc_view_decode.proofs.entry_formats.put_bits.Given as goal

-- the bits so far are written
abbrev pub invariant-loop-index : goal.invariant-loop-index
invariant-loop-index l = l.text.items ≡ (l.fn.text.items ++ none_text l.fn.format l.fn.bits) ++ of_bits (bit_text l.fn.format l.fn.bits) l.index
