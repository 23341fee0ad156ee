-- The remainder of a number of 64 bits, as the bits of one of 32, is what `int_wrap` leaves.
use Rattle.std.proofs.Common.{ap, ◌∙◌, to_z, FitsSigned, w32, w64, rules, pos, ◌^◌, unsigned_abs}
use Rattle.std.proofs.lemmas.Int.{to_z-of_z}
use Rattle.std.specs.Int.{int_wrap, int_rem_euclid}
use Rattle.wc_model.proofs.value.wrap32.Goals as goal

pub returns : goal.returns
unfolding int_wrap
returns c =
    let fits : FitsSigned w32 c.cast_signed.result = search rules in
    let number_fits : FitsSigned w64 c.args.number = c.ranges.number in
    let remainder_fits : FitsSigned w64 c.rem_euclid.result = search rules in
    let same = to_z-of_z w64 c.rem_euclid.result remainder_fits ∙ (c.rem_euclid.ensures.value ∙ ap (λ z. int_rem_euclid z (pos (2 ^ 32))) (to_z-of_z w64 c.args.number number_fits)) in
    simp to_z-of_z (c.cast_signed.ensures ∙ ap (λ z. to_z w32 (unsigned_abs z)) same)
