-- The plate of an instrument: class III, single range, e = d (OIML R 76-1:2006, 3.1.2 and 3.2). The keys, the ranges
-- of the counts and of the window are the profile's own.
use Rattle.std.specs.Prelude.{◌≡◌, ℕ, ◌*◌, ◌^◌, ◌≤◌, ◌||◌, ◌==◌, List, [], ◌∷◌, Contains, codes, ℤ, pos, negsuc, ◌≤ℤ◌, if◌then◌else◌, bytes_eq}

-- What is written on an instrument. `unit` is the line's three bytes, `decimals` the digits after the point, `max` and
-- `e` the greatest load and the scale interval in units of the last decimal, `n` the number of intervals, `zero_counts`
-- the sample at no load, `span_counts` the counts from there to `max`, `window` the number of samples stability looks at.
pub record PlateData : Type 0 where
  pub unit : List ℕ
  pub decimals : ℕ
  pub max : ℕ
  pub e : ℕ
  pub n : ℕ
  pub zero_counts : ℤ
  pub span_counts : ℕ
  pub window : ℕ

-- the unit gram (OIML R 76-1:2006, 2.1) as the line writes it
abbrev pub grams : List ℕ
grams = codes "g  "

-- the unit kilogram
abbrev pub kilograms : List ℕ
kilograms = codes "kg "

-- the unit tonne
abbrev pub tonnes : List ℕ
tonnes = codes "t  "

-- the number of grams of one unit
abbrev pub grams_of : List ℕ → ℕ
grams_of unit = if bytes_eq unit tonnes then 1000000 else if bytes_eq unit kilograms then 1000 else 1

-- the scale intervals that a number of decimals allows: 1, 2 or 5 times a power of ten (OIML R 76-1:2006, 4.2.2.1)
abbrev pub allowed_intervals : ℕ → List ℕ
allowed_intervals decimals = if decimals == 0 || decimals == 3 then 1 ∷ 2 ∷ 5 ∷ 10 ∷ 20 ∷ 50 ∷ [] else 1 ∷ 2 ∷ 5 ∷ []

-- the least sample
abbrev pub least_sample : ℤ
least_sample = negsuc 8388607

-- the greatest sample
abbrev pub greatest_sample : ℤ
greatest_sample = pos 8388607

-- The ranges of a plate. `five_grams` and `count` are class III with e of 5 g or more (OIML R 76-1:2006, 3.2, table 3).
pub record IsPlate (p : PlateData) : Type 0 where
  pub known_unit : Contains (grams ∷ kilograms ∷ tonnes ∷ []) p.unit
  pub few_decimals : p.decimals ≤ 3
  pub allowed : Contains (allowed_intervals p.decimals) p.e
  pub five_grams : 5 * 10 ^ p.decimals ≤ p.e * grams_of p.unit
  pub exact : p.max ≡ p.n * p.e
  pub count : (500 ≤ p.n) × (p.n ≤ 10000)
  pub zero_in_range : (least_sample ≤ℤ p.zero_counts) × (p.zero_counts ≤ℤ greatest_sample)
  pub span_in_range : (4 * p.n ≤ p.span_counts) × (p.span_counts ≤ 8000000)
  pub window_in_range : (2 ≤ p.window) × (p.window ≤ 16)
