-- Which rule on the values of a plate is broken, and with which values it was checked. That a rule is reported with
-- these is the profile's own.
use Rattle.std.specs.Prelude.{◌≡◌, ℕ, ◌*ℤ◌, pos, int_div, false, Some, None, Result, Ok, Err}
use Rattle.wc_model.specs.Definitions.{PlateData, least_sample, greatest_sample, KeyValues, is_between, is_count, is_interval, validated, line_unit}
use Rattle.wc_plate.specs.declared.broken.BrokenRule.{BrokenRule}
use Rattle.wc_plate.specs.declared.broken.BrokenRule.TheVariants.{UnknownKey, MissingKey, WrongKind, Unit, Decimals, Interval, Load, ZeroCounts, SpanCounts, Window}

-- the number of the rule
abbrev pub number_of : BrokenRule → ℕ
number_of (UnknownKey key missing) = 502
number_of (MissingKey key) = 502
number_of (WrongKind key) = 502
number_of Unit = 503
number_of Decimals = 504
number_of (Interval unit decimals) = 505
number_of (Load e) = 506
number_of ZeroCounts = 507
number_of (SpanCounts n) = 507
number_of Window = 508

-- what is written breaks this rule on its values
abbrev pub Breaks : KeyValues → BrokenRule → Type 0
Breaks w (UnknownKey key missing) = ⊥
Breaks w (MissingKey key) = ⊥
Breaks w (WrongKind key) = ⊥
Breaks w Unit = line_unit w.unit ≡ None
Breaks w Decimals = is_between (pos 0) (pos 3) w.decimals ≡ false
Breaks w (Interval unit decimals) = (line_unit w.unit ≡ Some unit) × (w.decimals ≡ pos decimals) × (is_interval unit decimals w.e ≡ false)
Breaks w (Load e) = (w.e ≡ pos e) × (is_count w.max w.e ≡ false)
Breaks w ZeroCounts = is_between least_sample greatest_sample w.zero_counts ≡ false
Breaks w (SpanCounts n) = (int_div w.max w.e ≡ pos n) × (is_between (pos 4 *ℤ int_div w.max w.e) (pos 8000000) w.span_counts ≡ false)
Breaks w Window = is_between (pos 2) (pos 16) w.window ≡ false

-- the plate of what is written, or the first rule that it breaks
abbrev pub Validates : KeyValues → Result PlateData BrokenRule → Type 0
Validates w (Ok plate) = validated w (line_unit w.unit) ≡ Ok plate
Validates w (Err rule) = (validated w (line_unit w.unit) ≡ Err (number_of rule)) × Breaks w rule
