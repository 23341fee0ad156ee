-- What a store is, and what the stores of the code keep: the kinds of slots and their numbers, in the order of the places. (No rule of the language.)
use Rattle.wc_model.specs.declared.kind.SlotKind.TheVariants as slots
use Rattle.wc_store.specs.declared.named_store.TaggedNumber.TheVariants as tagged
use Rattle.std.specs.Prelude.{ℕ, ◌+◌, List, [], ◌∷◌, ℤ, IfSome, slice_get, slice_set, ◌≡◌, map, pos}
use Rattle.wc_model.specs.Language.Frames.{IsInRange, bit_number}
use Rattle.wc_model.specs.declared.kind.SlotKind.{SlotKind}
use Rattle.wc_store.specs.declared.named_store.NamedStore.TheInside.{Inside as NamedFields}
use Rattle.wc_store.specs.declared.slot_store.SlotStore.TheInside.{Inside as SlotFields}
use Rattle.wc_store.specs.declared.named_store.TaggedNumber.{TaggedNumber}

-- kinds and numbers, one of each for a place
pub record SlotNumbers : Type 0 where
  pub kinds : List SlotKind
  pub numbers : List ℤ

-- a number is in the range of the slot at a place
abbrev pub IsInRangeAt : List SlotKind → ℕ → ℤ → Type 0
IsInRangeAt kinds place number = IfSome (slice_get kinds place) (λ kind. IsInRange kind number)

-- there are as many numbers as kinds, each in the range of its kind
abbrev pub AreInRange : List SlotKind → List ℤ → Type 0
AreInRange [] [] = Unit {0}
AreInRange (kind ∷ kinds) (n ∷ numbers) = IsInRange kind n × AreInRange kinds numbers
AreInRange [] (n ∷ numbers) = ⊥
AreInRange (kind ∷ kinds) [] = ⊥

-- the numbers with these four from a place on
abbrev pub with_four : List ℤ → ℕ → ℤ → ℤ → ℤ → ℤ → List ℤ
with_four numbers at a b c d = slice_set (slice_set (slice_set (slice_set numbers at a) (at + 1) b) (at + 2) c) (at + 3) d

-- a store of plain numbers
abbrev pub slots_view : SlotFields → SlotNumbers
slots_view a = record { kinds = a.kinds.items; numbers = a.numbers.items }

-- each number is in the range of its kind
abbrev pub AreSlotsSound : SlotFields → Type 0
AreSlotsSound a = AreInRange a.kinds.items a.numbers.items

-- the kind that a number is tagged with
abbrev pub tag_view : TaggedNumber → SlotKind
tag_view (tagged.Bool b) = slots.Bool
tag_view (tagged.Dint n) = slots.Dint
tag_view (tagged.Time t) = slots.Time
tag_view (tagged.Moment m) = slots.Moment
tag_view (tagged.Phase p) = slots.Phase

-- and the number
abbrev pub number_view : TaggedNumber → ℤ
number_view (tagged.Bool b) = bit_number b
number_view (tagged.Dint n) = n
number_view (tagged.Time t) = t
number_view (tagged.Moment m) = pos m
number_view (tagged.Phase p) = pos p

-- a store of tagged numbers by place
abbrev pub kinds_in : List (ℕ × TaggedNumber) → List SlotKind
kinds_in entries = map (λ e. tag_view e.1) entries

abbrev pub numbers_in : List (ℕ × TaggedNumber) → List ℤ
numbers_in entries = map (λ e. number_view e.1) entries

abbrev pub named_view : NamedFields → SlotNumbers
named_view a = record { kinds = kinds_in a.slots.entries; numbers = numbers_in a.slots.entries }

-- the places are numbered on from this number
abbrev pub ArePlacesFrom : ℕ → List (ℕ × TaggedNumber) → Type 0
ArePlacesFrom first [] = Unit {0}
ArePlacesFrom first (entry ∷ entries) = (entry.0 ≡ first) × ArePlacesFrom (first + 1) entries

-- the places are numbered from 0 on, and each number is in the range of its kind
pub record AreNamesSound (a : NamedFields) : Type 0 where
  pub places : ArePlacesFrom 0 a.slots.entries
  pub ranges : AreInRange (kinds_in a.slots.entries) (numbers_in a.slots.entries)
