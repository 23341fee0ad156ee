-- Slots that hold what they may before the first scan.
use Rattle.wc_model.proofs.Common.{◌≡◌, List, [], ◌∷◌, ◌++◌, ℤ, pos, refl, sym, subst, arith, ints}
use Rattle.wc_model.specs.declared.kind.SlotKind.{SlotKind}
use Rattle.wc_model.specs.declared.kind.SlotKind.TheVariants as slots
use Rattle.wc_model.specs.Language.Frames.{content_number, slot_kind_of}
use Rattle.wc_built_in.specs.Fields.{zero_content}
use Rattle.wc_laws_language.specs.FirstNumbers.{AreFirst, IsFirst}

-- each may hold 0
pub zero_is_first : (kind : SlotKind) → IsFirst kind (pos 0)
zero_is_first slots.Bool = search (arith, ints)
zero_is_first slots.Dint = search (arith, ints)
zero_is_first slots.Time = search (arith, ints)
zero_is_first slots.Moment = refl
zero_is_first slots.Phase = search (arith, ints)

-- the slot of what holds 0, and its number
pub slot_of_zero : (kind : SlotKind) → slot_kind_of (zero_content kind) ≡ kind
slot_of_zero slots.Bool = refl
slot_of_zero kind = refl

pub zero_number : (kind : SlotKind) → content_number (zero_content kind) ≡ pos 0
zero_number slots.Bool = refl
zero_number kind = refl

-- one more slot
one_more : (kinds : List SlotKind) (numbers : List ℤ) (kind : SlotKind) (n : ℤ) → AreFirst kinds numbers → IsFirst kind n → AreFirst (kinds ++ kind ∷ []) (numbers ++ n ∷ [])
one_more [] [] kind n h first = (first, tt)
one_more [] (m ∷ numbers) kind n h first = absurd h
one_more (k ∷ kinds) [] kind n h first = absurd h
one_more (k ∷ kinds) (m ∷ numbers) kind n h first = (h.0, one_more kinds numbers kind n h.1 first)

pub first_added : (kinds more : List SlotKind) (numbers others : List ℤ) (kind : SlotKind) (n : ℤ) → more ≡ kinds ++ kind ∷ [] → others ≡ numbers ++ n ∷ [] → IsFirst kind n → AreFirst kinds numbers → AreFirst more others
first_added kinds more numbers others kind n e f first h =
    subst (λ ks. AreFirst ks others) (sym e) (subst (λ ns. AreFirst (kinds ++ kind ∷ []) ns) (sym f) (one_more kinds numbers kind n h first))

-- the slots of one frame after those of another
joined : (kinds more : List SlotKind) (numbers others : List ℤ) → AreFirst kinds numbers → AreFirst more others → AreFirst (kinds ++ more) (numbers ++ others)
joined [] more [] others h first = first
joined [] more (m ∷ numbers) others h first = absurd h
joined (k ∷ kinds) more [] others h first = absurd h
joined (k ∷ kinds) more (m ∷ numbers) others h first = (h.0, joined kinds more numbers others h.1 first)

pub first_joined : (kinds more all : List SlotKind) (numbers others together : List ℤ) → all ≡ kinds ++ more → together ≡ numbers ++ others → AreFirst more others → AreFirst kinds numbers → AreFirst all together
first_joined kinds more all numbers others together e f first h =
    subst (λ ks. AreFirst ks together) (sym e) (subst (λ ns. AreFirst (kinds ++ more) ns) (sym f) (joined kinds more numbers others h first))
