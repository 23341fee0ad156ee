-- The numbers that slots may hold before the first scan, one by one.
use Rattle.wc_model.proofs.Common.{◌≡◌, ◌<◌, ℕ, zero, suc, List, [], ◌∷◌, length, get_or, Some, ℤ, pos, refl, ap, sym, subst, arith, IfSome, slice_get, slice_set, ints}
use Rattle.wc_execution.proofs.Moments.{set_keeps, set_moment_keeps}
use Rattle.wc_execution.specs.Lines.{AreBefore}
use Rattle.wc_model.specs.Language.Frames.{IsInRange}
use Rattle.wc_model.specs.declared.kind.SlotKind.{SlotKind}
use Rattle.wc_model.specs.declared.kind.SlotKind.TheVariants as slots
use Rattle.wc_laws_language.specs.FirstNumbers.{AreFirst, IsFirst}
use Rattle.wc_store.specs.Inside.{IsInRangeAt}

-- there are as many as kinds
pub first_count : (kinds : List SlotKind) (numbers : List ℤ) → AreFirst kinds numbers → length kinds ≡ length numbers
first_count [] [] h = refl
first_count (kind ∷ kinds) (n ∷ numbers) h = ap suc (first_count kinds numbers h.1)
first_count [] (n ∷ numbers) h = absurd h
first_count (kind ∷ kinds) [] h = absurd h

-- each is in the range of its kind
in_range : (kind : SlotKind) (n : ℤ) → IsFirst kind n → IsInRange kind n
in_range slots.Bool n h = h
in_range slots.Dint n h = h
in_range slots.Time n h = h
in_range slots.Moment n h = subst (IsInRange slots.Moment) (sym h) (search (arith, ints))
in_range slots.Phase n h = h

-- the slot at a place, and its number
pub record FirstAt (kinds : List SlotKind) (at : ℕ) (n : ℤ) : Type 0 where
  pub kind : SlotKind
  pub there : slice_get kinds at ≡ Some kind
  pub first : IsFirst kind n

pub first_at : (kinds : List SlotKind) (numbers : List ℤ) (at : ℕ) → AreFirst kinds numbers → at < length numbers → FirstAt kinds at (get_or numbers at (pos 0))
first_at kinds [] at h below = absurd (omega (arith, below))
first_at [] (n ∷ numbers) at h below = absurd h
first_at (kind ∷ kinds) (n ∷ numbers) zero h below = record { kind = kind; there = refl; first = h.0 }
first_at (kind ∷ kinds) (n ∷ numbers) (suc at) h below =
    let found = first_at kinds numbers at h.1 (omega (arith, below)) in
    record { kind = found.kind; there = found.there; first = found.first }

pub first_fits : (kinds : List SlotKind) (at : ℕ) (n : ℤ) → FirstAt kinds at n → IsInRangeAt kinds at n
first_fits kinds at n found = subst (λ o. IfSome o (λ kind. IsInRange kind n)) (sym found.there) (in_range found.kind n found.first)

-- a number that a slot may hold before the first scan
pub first_keeps : (kinds : List SlotKind) (numbers : List ℤ) (at : ℕ) (kind : SlotKind) (n : ℤ) → slice_get kinds at ≡ Some kind → IsFirst kind n → AreBefore 0 kinds numbers → AreBefore 0 kinds (slice_set numbers at n)
first_keeps kinds numbers at slots.Moment n is first before = subst (λ m. AreBefore 0 kinds (slice_set numbers at m)) (sym first) (set_moment_keeps 0 kinds numbers at 0 (omega arith) before)
first_keeps kinds numbers at slots.Bool n is first before = set_keeps 0 kinds numbers at n (λ m. cc (is, m)) before
first_keeps kinds numbers at slots.Dint n is first before = set_keeps 0 kinds numbers at n (λ m. cc (is, m)) before
first_keeps kinds numbers at slots.Time n is first before = set_keeps 0 kinds numbers at n (λ m. cc (is, m)) before
first_keeps kinds numbers at slots.Phase n is first before = set_keeps 0 kinds numbers at n (λ m. cc (is, m)) before
