-- A store of zeros is filled, and a zero is no moment that is ahead.
use Rattle.wc_model.proofs.Common.{◌≡◌, ◌≤◌, ℕ, zero, suc, length, replicate, pos, Some, sym, ap, ◌∙◌, subst, arith, slice_get, length-replicate}
use Rattle.wc_execution.specs.Lines.{AreBefore}
use Rattle.wc_laws_language.specs.FirstNumbers.{AreFirst}
use Rattle.wc_machine.proofs.stores.first_store.Goals as goal

zero_found : (count place n : ℕ) → slice_get (replicate count (pos 0)) place ≡ Some (pos n) → n ≤ 0
zero_found zero place n e = absurd (let f : ⊥ = cc in f)
zero_found (suc count) zero n e = let same : n ≡ 0 = cc in omega (arith, same)
zero_found (suc count) (suc place) n e = zero_found count place n e

pub with_initials-requires-clause-first : goal.with_initials-requires-clause-first
with_initials-requires-clause-first g c = subst (λ ks. AreFirst ks c.args.initials.now) (sym c.in_ok-store.ensures.kinds) c.requires.first

pub with_initials-requires-clause-numbers : goal.with_initials-requires-clause-numbers
with_initials-requires-clause-numbers g c = ap length c.in_ok-store.ensures.zero ∙ length-replicate (length c.args.kinds.now) (pos 0) ∙ sym c.requires.count

pub with_initials-requires-clause-capacity : goal.with_initials-requires-clause-capacity
with_initials-requires-clause-capacity g c =
    let count = c.requires.count in
    let few = c.requires.capacity in
    omega (arith, count, few)

pub with_initials-requires-clause-moments : goal.with_initials-requires-clause-moments
with_initials-requires-clause-moments g c = subst (AreBefore 0 (g.S.Store.slot_kinds c.in_ok-store.store)) (sym c.in_ok-store.ensures.zero) (record { each = λ place n moment there. zero_found (length c.args.kinds.now) place n there })

pub returns-clause-numbers : goal.returns-clause-numbers
returns-clause-numbers g c = c.with_initials.ensures.numbers

pub returns-clause-kinds : goal.returns-clause-kinds
returns-clause-kinds g c = c.with_initials.ensures.kinds ∙ c.in_ok-store.ensures.kinds

pub returns-clause-moments : goal.returns-clause-moments
returns-clause-moments g c = c.with_initials.ensures.moments

pub returns-clause-memory : goal.returns-clause-memory
returns-clause-memory g c = tt
