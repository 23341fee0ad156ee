use Rattle.std.proofs.Common.{◌≡◌, ◌++◌, drop, map, take}
use Rattle.wc_diag_further.specs.Further.{blank_of}
use Rattle.wc_diag_further.proofs.blanks.blank_all.Given as goal

abbrev pub invariant-loop-byte : goal.invariant-loop-byte
invariant-loop-byte l = l.text ≡ map blank_of (take l.byte-index l.fn.text) ++ drop l.byte-index l.fn.text
