-- Bits of the places of a frame, the last places first.
use Rattle.wc_model.proofs.Common.{◌≡◌, ℕ, suc, ◌+◌, ◌-◌, ◌*◌, ◌^◌, ◌<◌, ◌≤◌, arith, refl, subst, subst₂, pow-suc}
use Rattle.wc_machine.specs.Machines.{MachineState}
use Rattle.wc_view_trace.specs.Members.{HasBits, IsBit}

pub one_more_bit : (machine : MachineState) (first count passed bits bit place : ℕ) → place ≡ first + (count - passed - 1) → passed < count → IsBit machine place bit
    → HasBits machine (first + (count - passed)) passed bits → HasBits machine (first + (count - (passed + 1))) (passed + 1) (bits * 2 + bit)
one_more_bit machine first count passed bits bit place is less one held =
    let there : place ≡ first + (count - (passed + 1)) = omega (arith, is, less) in
    let next : first + (count - passed) ≡ place + 1 = omega (arith, is, less) in
    let more : suc passed ≡ passed + 1 = omega arith in
    let has : HasBits machine place (suc passed) (bits * 2 + bit) = (bit, bits, one, subst (λ p. HasBits machine p passed bits) next held, refl) in
    subst₂ (λ p n. HasBits machine p n (bits * 2 + bit)) there more has

pub still_small : (passed bits bit : ℕ) → bits < 2 ^ passed → bit ≤ 1 → bits * 2 + bit < 2 ^ (passed + 1)
still_small passed bits bit small one =
    let more : suc passed ≡ passed + 1 = omega arith in
    let held : bits * 2 + bit < 2 ^ (suc passed) = omega (arith, small, one, pow-suc 2 passed) in
    subst (λ n. bits * 2 + bit < 2 ^ n) more held
