-- Numbers in the ranges of their kinds: their number, each of them, none yet, and one or four written to places that follow one another.
use Rattle.wc_model.specs.declared.kind.SlotKind.TheVariants as slots
use Rattle.wc_model.proofs.Common.{◌≡◌, ◌<◌, ℕ, zero, suc, List, [], ◌∷◌, Some, length, ℤ, pos, refl, ap, sym, ◌∙◌, subst, arith, to_z, of_z, w64, replicate, ◌+◌, ◌++◌, take, drop, slice_get, slice_set, slice_index_or, ints, slice_get_read, take-append_seam, length-set}
use Rattle.wc_model.specs.Language.Frames.{IsInRange}
use Rattle.wc_model.specs.declared.kind.SlotKind.{SlotKind}
use Rattle.wc_store.specs.Inside.{AreInRange, IsInRangeAt, with_four}

-- there are as many numbers as kinds
pub same_length : (kinds : List SlotKind) (numbers : List ℤ) → AreInRange kinds numbers → length kinds ≡ length numbers
same_length [] [] h = refl
same_length (kind ∷ kinds) (n ∷ numbers) h = ap suc (same_length kinds numbers h.1)
same_length [] (n ∷ numbers) h = absurd h
same_length (kind ∷ kinds) [] h = absurd h

-- each is in the range of its kind
pub range_at : (kinds : List SlotKind) (numbers : List ℤ) (place : ℕ) (n : ℤ) → AreInRange kinds numbers → slice_get numbers place ≡ Some n → IsInRangeAt kinds place n
range_at [] numbers place n h e = tt
range_at (kind ∷ kinds) [] place n h e = absurd h
range_at (kind ∷ kinds) (m ∷ numbers) zero n h e = let P : ℤ → Type 0 = λ x. IsInRange kind x in subst P (cc (e)) h.0
range_at (kind ∷ kinds) (m ∷ numbers) (suc place) n h e = range_at kinds numbers place n h.1 e

-- 0 is in every range
pub zero_fits : (kind : SlotKind) → IsInRange kind (pos 0)
zero_fits slots.Bool = search (arith, ints)
zero_fits slots.Dint = search (arith, ints)
zero_fits slots.Time = search (arith, ints)
zero_fits slots.Moment = search (arith, ints)
zero_fits slots.Phase = search (arith, ints)

-- as many zeros as kinds are in range
pub zeros_fit : (kinds : List SlotKind) → AreInRange kinds (replicate (length kinds) (pos 0))
zeros_fit [] = tt
zeros_fit (kind ∷ kinds) = (zero_fits kind, zeros_fit kinds)

-- a number in range is written
pub written_fits : (kinds : List SlotKind) (numbers : List ℤ) (place : ℕ) (n : ℤ) → AreInRange kinds numbers → IsInRangeAt kinds place n → AreInRange kinds (slice_set numbers place n)
written_fits [] [] place n h r = h
written_fits [] (m ∷ numbers) place n h r = absurd h
written_fits (kind ∷ kinds) [] place n h r = absurd h
written_fits (kind ∷ kinds) (m ∷ numbers) zero n h r = (r, h.1)
written_fits (kind ∷ kinds) (m ∷ numbers) (suc place) n h r = (h.0, written_fits kinds numbers place n h.1 r)

-- a number in the range of its kind has 64 bits
pub has_64_bits : (kind : SlotKind) (n : ℤ) → IsInRange kind n → to_z w64 (of_z w64 n) ≡ n
has_64_bits slots.Bool n h = omega (arith, ints, h.at_least, h.at_most)
has_64_bits slots.Dint n h = omega (arith, ints, h)
has_64_bits slots.Time n h = omega (arith, ints, h)
has_64_bits slots.Moment n h = omega (arith, ints, h.at_least, h.at_most)
has_64_bits slots.Phase n h = omega (arith, ints, h.at_least, h.at_most)

-- so has the number at a place
pub number_has_64_bits : (kinds : List SlotKind) (numbers : List ℤ) (place : ℕ) (n : ℤ) → AreInRange kinds numbers → slice_get numbers place ≡ Some n → to_z w64 (of_z w64 n) ≡ n
number_has_64_bits [] [] place n h e = absurd (cc (e))
number_has_64_bits [] (m ∷ numbers) place n h e = absurd h
number_has_64_bits (kind ∷ kinds) [] place n h e = absurd h
number_has_64_bits (kind ∷ kinds) (m ∷ numbers) zero n h e = let P : ℤ → Type 0 = λ x. to_z w64 (of_z w64 x) ≡ x in subst P (cc (e)) (has_64_bits kind m h.0)
number_has_64_bits (kind ∷ kinds) (m ∷ numbers) (suc place) n h e = number_has_64_bits kinds numbers place n h.1 e

-- what is read at a place that there is
pub read_at : (kinds : List SlotKind) (numbers : List ℤ) (place : ℕ) (n : ℤ) → AreInRange kinds numbers → place < length kinds → n ≡ slice_index_or numbers place n → slice_get numbers place ≡ Some n
read_at kinds numbers place n h within e = slice_get_read numbers (length kinds) place n (same_length kinds numbers h) within e

-- what is read is a number of 64 bits, and in range
pub record IsRead (kinds : List SlotKind) (numbers : List ℤ) (place : ℕ) (n : ℤ) : Type 0 where
  pub number : slice_get numbers place ≡ Some (to_z w64 (of_z w64 n))
  pub range : IsInRangeAt kinds place (to_z w64 (of_z w64 n))

pub is_read : (kinds : List SlotKind) (numbers : List ℤ) (place : ℕ) (n : ℤ) → AreInRange kinds numbers → place < length kinds → n ≡ slice_index_or numbers place n → IsRead kinds numbers place n
is_read kinds numbers place n h within e =
    let there = read_at kinds numbers place n h within e in
    let whole = number_has_64_bits kinds numbers place n h there in
    let number : slice_get numbers place ≡ Some (to_z w64 (of_z w64 n)) = there ∙ ap Some (sym whole) in
    record { number = number; range = range_at kinds numbers place _ h number }

-- a number in the range of a slot that there is has 64 bits
pub in_range_has_64_bits : (kinds : List SlotKind) (place : ℕ) (n : ℤ) → place < length kinds → IsInRangeAt kinds place n → to_z w64 (of_z w64 n) ≡ n
in_range_has_64_bits [] place n within r = absurd (omega (arith, within))
in_range_has_64_bits (kind ∷ kinds) zero n within r = has_64_bits kind n r
in_range_has_64_bits (kind ∷ kinds) (suc place) n within r = in_range_has_64_bits kinds place n (omega (arith, within)) r

-- there are as many numbers as before
pub four_length : (numbers : List ℤ) (at : ℕ) (a b c d : ℤ) → length (with_four numbers at a b c d) ≡ length numbers
four_length numbers at a b c d =
    length-set (slice_set (slice_set (slice_set numbers at a) (at + 1) b) (at + 2) c) (at + 3) d
    ∙ length-set (slice_set (slice_set numbers at a) (at + 1) b) (at + 2) c
    ∙ length-set (slice_set numbers at a) (at + 1) b
    ∙ length-set numbers at a

-- a whole list takes the place of one that is as long
pub put_back : (long : ℕ) (numbers old : List ℤ) → length numbers ≡ long → take long (numbers ++ drop (length numbers) old) ≡ numbers
put_back long numbers old e = subst (λ n. take n (numbers ++ drop (length numbers) old) ≡ numbers) e (take-append_seam numbers (drop (length numbers) old))

-- four numbers in range are written
pub fours_fit : (kinds : List SlotKind) (numbers : List ℤ) (at : ℕ) (a b c d : ℤ) → AreInRange kinds numbers →
    IsInRangeAt kinds at a → IsInRangeAt kinds (at + 1) b → IsInRangeAt kinds (at + 2) c → IsInRangeAt kinds (at + 3) d → AreInRange kinds (with_four numbers at a b c d)
fours_fit kinds numbers at a b c d h first second third fourth =
    let one = written_fits kinds numbers at a h first in
    let two = written_fits kinds (slice_set numbers at a) (at + 1) b one second in
    let three = written_fits kinds (slice_set (slice_set numbers at a) (at + 1) b) (at + 2) c two third in
    written_fits kinds (slice_set (slice_set (slice_set numbers at a) (at + 1) b) (at + 2) c) (at + 3) d three fourth

-- the same four numbers
pub same_four : (numbers : List ℤ) (at : ℕ) (a b c d a₂ b₂ c₂ d₂ : ℤ) → a₂ ≡ a → b₂ ≡ b → c₂ ≡ c → d₂ ≡ d → with_four numbers at a₂ b₂ c₂ d₂ ≡ with_four numbers at a b c d
same_four numbers at a b c d a₂ b₂ c₂ d₂ first second third fourth =
    ap (λ n. with_four numbers at n b₂ c₂ d₂) first
    ∙ ap (λ n. with_four numbers at a n c₂ d₂) second
    ∙ ap (λ n. with_four numbers at a b n d₂) third
    ∙ ap (λ n. with_four numbers at a b c n) fourth
