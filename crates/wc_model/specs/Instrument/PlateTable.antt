-- The plate that a table of keys gives, or the number of the first rule that the table breaks. The keys and the numbers
-- are the profile's own.
use Rattle.std.specs.Prelude.{ℕ, ◌*◌, ◌^◌, Bool, ◌&&◌, not, List, [], ◌∷◌, codes, find, ℤ, pos, ◌*ℤ◌, int_le, int_div, int_rem, unsigned_abs, Option, Some, None, Result, Ok, Err, if◌then◌else◌, option_and_then, option_map, bytes_eq}
use Rattle.std.specs.List.{list_all, list_any}
use Rattle.wc_model.specs.Instrument.Plates.{PlateData, grams, kilograms, tonnes, grams_of, allowed_intervals, least_sample, greatest_sample}

-- the value of a key
pub data Entry : Type 0 where
  Text : (text : List ℕ) → Entry
  Whole : (number : ℤ) → Entry
  Other : Entry

-- a table: its keys, each with its value
abbrev pub Table : Type 0
Table = List (List ℕ × Entry)

-- the seven keys of a plate
abbrev pub plate_keys : List (List ℕ)
plate_keys = codes "unit" ∷ codes "decimals" ∷ codes "max" ∷ codes "e" ∷ codes "zero_counts" ∷ codes "span_counts" ∷ codes "window" ∷ []

-- whether the table has no key besides these seven
abbrev pub has_no_other_key : Table → Bool
has_no_other_key table = list_all (λ member. list_any (bytes_eq member.0) plate_keys) table

-- the value of a key, if it is there
abbrev pub entry_at : Table → List ℕ → Option Entry
entry_at table key = option_map (λ member. member.1) (find (λ member. bytes_eq member.0 key) table)

-- a text
abbrev pub text_in : Entry → Option (List ℕ)
text_in (Text text) = Some text
text_in (Whole number) = None
text_in Other = None

-- a whole number
abbrev pub number_in : Entry → Option ℤ
number_in (Text text) = None
number_in (Whole number) = Some number
number_in Other = None

-- the text of a key
abbrev pub text_at : Table → List ℕ → Option (List ℕ)
text_at table key = option_and_then text_in (entry_at table key)

-- the whole number of a key
abbrev pub number_at : Table → List ℕ → Option ℤ
number_at table key = option_and_then number_in (entry_at table key)

-- the values of the seven keys, before they are checked
pub record KeyValues : Type 0 where
  pub unit : List ℕ
  pub decimals : ℤ
  pub max : ℤ
  pub e : ℤ
  pub zero_counts : ℤ
  pub span_counts : ℤ
  pub window : ℤ

-- the second step, if the first gave something
infixl 10 ◌>>=◌
abbrev pub ◌>>=◌ : {A B : Type 0} → Option A → (A → Option B) → Option B
o >>= f = option_and_then f o

-- each of the seven keys in its kind
abbrev pub each_key : Table → Option KeyValues
each_key table = do
  unit ← text_at table (codes "unit")
  decimals ← number_at table (codes "decimals")
  max ← number_at table (codes "max")
  e ← number_at table (codes "e")
  zero_counts ← number_at table (codes "zero_counts")
  span_counts ← number_at table (codes "span_counts")
  window ← number_at table (codes "window")
  Some (record { unit = unit; decimals = decimals; max = max; e = e; zero_counts = zero_counts; span_counts = span_counts; window = window })

-- the seven keys in their kinds, if there is no other key
abbrev pub written_of : Table → Option KeyValues
written_of table = if has_no_other_key table then each_key table else None

-- the line's three bytes for a unit as a plate writes it
abbrev pub line_unit : List ℕ → Option (List ℕ)
line_unit text =
    if bytes_eq text (codes "g") then Some grams
    else if bytes_eq text (codes "kg") then Some kilograms
    else if bytes_eq text (codes "t") then Some tonnes
    else None

-- low ≤ z ≤ high
abbrev pub is_between : ℤ → ℤ → ℤ → Bool
is_between low high z = int_le low z && int_le z high

-- whether the scale interval is allowed, and at least 5 g
abbrev pub is_interval : List ℕ → ℕ → ℤ → Bool
is_interval unit decimals e =
    list_any (λ allowed. int_le e (pos allowed) && int_le (pos allowed) e) (allowed_intervals decimals)
    && int_le (pos (5 * 10 ^ decimals)) (e *ℤ pos (grams_of unit))

-- whether the greatest load is a whole number of intervals, and their number is in range
abbrev pub is_count : ℤ → ℤ → Bool
is_count max e = int_le (int_rem max e) (pos 0) && is_between (pos 500) (pos 10000) (int_div max e)

-- the rules from the number of decimals on, in the order of their numbers, each with whether it holds
abbrev pub rules_after_unit : KeyValues → List ℕ → List (ℕ × Bool)
rules_after_unit w unit =
    (504, is_between (pos 0) (pos 3) w.decimals)
    ∷ (505, is_interval unit (unsigned_abs w.decimals) w.e)
    ∷ (506, is_count w.max w.e)
    ∷ (507, is_between least_sample greatest_sample w.zero_counts && is_between (pos 4 *ℤ int_div w.max w.e) (pos 8000000) w.span_counts)
    ∷ (508, is_between (pos 2) (pos 16) w.window)
    ∷ []

-- the plate of what is written, with the line's bytes of its unit
abbrev pub plate_from : KeyValues → List ℕ → PlateData
plate_from w unit = record {
  unit = unit;
  decimals = unsigned_abs w.decimals;
  max = unsigned_abs w.max;
  e = unsigned_abs w.e;
  n = unsigned_abs (int_div w.max w.e);
  zero_counts = w.zero_counts;
  span_counts = unsigned_abs w.span_counts;
  window = unsigned_abs w.window;
}

-- the plate, unless a rule is broken
abbrev pub unless_broken : Option (ℕ × Bool) → PlateData → Result PlateData ℕ
unless_broken None plate = Ok plate
unless_broken (Some rule) plate = Err rule.0

-- the plate of what is written, or the first broken rule
abbrev pub validated : KeyValues → Option (List ℕ) → Result PlateData ℕ
validated w None = Err 503
validated w (Some unit) = unless_broken (find (λ rule. not rule.1) (rules_after_unit w unit)) (plate_from w unit)

-- the same, if all keys are there in their kinds
abbrev pub plate_of_written : Option KeyValues → Result PlateData ℕ
plate_of_written None = Err 502
plate_of_written (Some w) = validated w (line_unit w.unit)

-- the plate that a table gives, or the number of its refusal; with no table the text was not TOML
abbrev pub plate_of : Option Table → Result PlateData ℕ
plate_of None = Err 501
plate_of (Some table) = plate_of_written (written_of table)
