-- Within which bounds the lines of flat code keep, and the number of results put by before each (the profile's own).
use Rattle.std.specs.Prelude.{◌≡◌, ℕ, ◌+◌, ◌<◌, ◌≤◌, List, map, length, Some, slice_get, zero, suc, pred, [], ◌∷◌}
use Rattle.wc_model.specs.Definitions.{frame_of, scopes_of, standard_fields, Text, most_depth}
use Rattle.wc_model.specs.declared.code.Code.{Code}
use Rattle.wc_model.specs.declared.code.Code.TheVariants.{LoadNumber, LoadPlace, Store, ApplyNumber, ApplyPlace, Not, Open, OpenNumber, OpenPlace, Close, Jump, Return, Call, ArgumentNumber, ArgumentPlace, Standard, Body}

-- the number of places the frame of each unit has, in text order
abbrev pub frame_sizes : Text → List ℕ
frame_sizes text = map (λ scope. length (frame_of scope)) (scopes_of text)

-- A line that n lines follow, in a unit whose frame has that size: its places are there; it passes over lines that
-- are there; what it calls is an earlier unit, and the frame of the instance is within its own.
abbrev pub IsWithin : List ℕ → ℕ → ℕ → ℕ → Code → Type 0
IsWithin sizes unit size left (LoadNumber n) = Unit {0}
IsWithin sizes unit size left (LoadPlace negated place) = place.0 < size
IsWithin sizes unit size left (Store storing place) = place.0 < size
IsWithin sizes unit size left (ApplyNumber operator n) = Unit {0}
IsWithin sizes unit size left (ApplyPlace operator place) = place.0 < size
IsWithin sizes unit size left Not = Unit {0}
IsWithin sizes unit size left Open = Unit {0}
IsWithin sizes unit size left (OpenNumber n) = Unit {0}
IsWithin sizes unit size left (OpenPlace place) = place.0 < size
IsWithin sizes unit size left (Close operator) = Unit {0}
IsWithin sizes unit size left (Jump condition skip) = skip ≤ left
IsWithin sizes unit size left (Return condition) = Unit {0}
IsWithin sizes unit size left (Call condition skip) = skip ≤ left
IsWithin sizes unit size left (ArgumentNumber target n) = target.0 < size
IsWithin sizes unit size left (ArgumentPlace place target) = (place.0 < size) × (target.0 < size)
IsWithin sizes unit size left (Standard block at) = at.0 + length (standard_fields block) ≤ size
IsWithin sizes unit size left (Body callee at) = (callee < unit) × (inner : ℕ) × (slice_get sizes callee ≡ Some inner) × (at.0 + inner ≤ size)

-- an opening line puts one by, and a `)` takes the last
abbrev pub depth_after : ℕ → Code → ℕ
depth_after depth Open = suc depth
depth_after depth (OpenNumber n) = suc depth
depth_after depth (OpenPlace place) = suc depth
depth_after depth (Close operator) = pred depth
depth_after depth line = depth

-- the number put by before the line of that number
abbrev pub depth_at : ℕ → List Code → ℕ → ℕ
depth_at depth [] k = depth
depth_at depth (line ∷ code) zero = depth
depth_at depth (line ∷ code) (suc k) = depth_at (depth_after depth line) code k

-- There is space if one is put by, and one if one is taken; and if lines are passed over, as many are put by after them
-- as before.
abbrev pub IsDepthRight : List Code → ℕ → Code → Type 0
IsDepthRight code k Open = depth_at 0 code k < most_depth
IsDepthRight code k (OpenNumber n) = depth_at 0 code k < most_depth
IsDepthRight code k (OpenPlace place) = depth_at 0 code k < most_depth
IsDepthRight code k (Close operator) = 0 < depth_at 0 code k
IsDepthRight code k (Jump condition skip) = depth_at 0 code (suc k + skip) ≡ depth_at 0 code k
IsDepthRight code k (Call condition skip) = depth_at 0 code (suc k + skip) ≡ depth_at 0 code k
IsDepthRight code k line = Unit {0}
