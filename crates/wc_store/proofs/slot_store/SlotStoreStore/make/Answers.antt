-- As many zeros as kinds are in their ranges.
use Rattle.std.proofs.Common.{rules, ◌≡◌, sym, subst, length, replicate, pos}
use Rattle.wc_store.proofs.Ranges.{zeros_fit}
use Rattle.wc_store.proofs.slot_store.SlotStoreStore.make.Goals as goal
use Rattle.wc_store.specs.Inside.{AreInRange}

pub invariant_of-result : goal.invariant_of-result
invariant_of-result c =
    let zeros : c.in_ok-numbers.numbers.items ≡ replicate (length c.args.kinds.now) (pos 0) = search rules in
    let same : c.in_ok-kinds.kinds.items ≡ c.args.kinds.now = search rules in
    subst (λ kinds. AreInRange kinds c.in_ok-numbers.numbers.items) (sym same)
    (subst (λ numbers. AreInRange c.args.kinds.now numbers) (sym zeros) (zeros_fit c.args.kinds.now))
