use Rattle.wc_model.proofs.Common.{◌≡◌, ℕ, Bool, true, refl, bit_or, nat_eq, arith, eqb-true, to_ascii_lowercase, list_all}
use Rattle.wc_model.specs.Language.DirectVariables.{numbers_below}
use Rattle.wc_names.specs.Keys.{caseless}
use Rattle.wc_built_in.proofs.Below.{each_below}
use Rattle.wc_names.proofs.key.caseless.Goals as goal

-- a byte is hashed as its small letter is
abbrev is_same : ℕ → Bool
is_same byte = nat_eq (bit_or byte 32) (caseless (to_ascii_lowercase byte))

all_same : list_all is_same (numbers_below 256) ≡ true
all_same = refl

pub returns : goal.returns
returns c = eqb-true (bit_or c.args.byte 32) (caseless (to_ascii_lowercase c.args.byte)) (each_below is_same 256 c.args.byte all_same (omega arith))
