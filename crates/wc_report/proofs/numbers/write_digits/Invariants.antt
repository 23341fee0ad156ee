use Rattle.std.proofs.Common.{◌≡◌, ◌*◌, ◌++◌, take, drop}
use Rattle.wc_model.specs.Run.Hex.{hex_of_bytes}
use Rattle.wc_report.proofs.numbers.write_digits.Given as goal

-- the digits of the bytes so far, and then those of the bytes that are left
abbrev pub invariant-loop-index : goal.invariant-loop-index
invariant-loop-index l =
    take (2 * l.index) l.digits ++ hex_of_bytes (drop l.index l.bytes) ≡ hex_of_bytes l.bytes
