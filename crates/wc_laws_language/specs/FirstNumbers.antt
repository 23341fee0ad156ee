-- What the slots of a frame may hold before the first scan (the profile's own).
use Rattle.std.specs.Prelude.{◌≡◌, List, [], ◌∷◌, ℤ, pos}
use Rattle.wc_model.specs.Language.Frames.{IsInRange}
use Rattle.wc_model.specs.declared.kind.SlotKind.{SlotKind}
use Rattle.wc_model.specs.declared.kind.SlotKind.TheVariants as slots

-- it is in the kind's range, and no timer has started
abbrev pub IsFirst : SlotKind → ℤ → Type 0
IsFirst slots.Bool n = IsInRange slots.Bool n
IsFirst slots.Dint n = IsInRange slots.Dint n
IsFirst slots.Time n = IsInRange slots.Time n
IsFirst slots.Moment n = n ≡ pos 0
IsFirst slots.Phase n = IsInRange slots.Phase n

-- there are as many numbers as kinds, and each slot may hold its number before the first scan
abbrev pub AreFirst : List SlotKind → List ℤ → Type 0
AreFirst [] [] = Unit {0}
AreFirst (kind ∷ kinds) (n ∷ numbers) = IsFirst kind n × AreFirst kinds numbers
AreFirst [] (n ∷ numbers) = ⊥
AreFirst (kind ∷ kinds) [] = ⊥
