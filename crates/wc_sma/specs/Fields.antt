-- What a `WeightField` holds.
use Rattle.std.specs.Prelude.{◌≡◌, ℕ, ◌≤◌, List, take, drop, replicate}
use Rattle.wc_sma.specs.declared.weight.WeightField.TheInside.{Inside}

-- its text is what is from its place on
abbrev pub request_view : Inside → List ℕ
request_view a = drop a.at a.bytes

-- spaces precede it
pub record IsFilled (a : Inside) : Type 0 where
  pub within : a.at ≤ 10
  pub spaces : take a.at a.bytes ≡ replicate a.at 32
