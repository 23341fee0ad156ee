-- Durations (IEC 61131-3:2003, 2.2.3.1). The limits on digits and on the sum are the profile's own.
use Rattle.std.specs.Prelude.{ℕ, ◌+◌, ◌-◌, ◌*◌, ◌/◌, ◌%◌, ◌^◌, Bool, true, false, not, ◌&&◌, ◌||◌, ◌==◌, List, [], ◌∷◌, ◌++◌, length, map, take, drop, find, zip, sum_by, count_by, codes, bytes_eq, ℤ, pos, neg_ℤ, Option, None, is_some, if◌then◌else◌, nat_lt, nat_le}
use Rattle.std.specs.Char.{is_ascii_alphabetic, is_ascii_digit}
use Rattle.std.specs.List.{list_any, list_all, before_first, after_first}
use Rattle.std.specs.Option.{option_map_or}
use Rattle.std.specs.Str.Parse.{digits_value}
use Rattle.wc_model.specs.Text.Characters.{begins, is_empty, is_minus, is_point, is_underscore}
use Rattle.wc_model.specs.Text.Digits.{are_digits, value_of_digits}
use Rattle.wc_model.specs.Language.Names.{name_of}
use Rattle.wc_model.specs.Text.WholeNumbers.{within_32_bits}

-- a unit of time: its letters, how long it is, and below what number it counts after a greater unit
pub record TimeUnit : Type 0 where
  pub letters : List ℕ
  pub milliseconds : ℕ
  pub below : ℕ

-- Days, hours, minutes, seconds and milliseconds. Days follow no greater unit, so their `below` is never asked.
abbrev pub time_units : List TimeUnit
time_units =
    record { letters = codes "d"; milliseconds = 86400000; below = 0 }
    ∷ record { letters = codes "h"; milliseconds = 3600000; below = 24 }
    ∷ record { letters = codes "m"; milliseconds = 60000; below = 60 }
    ∷ record { letters = codes "s"; milliseconds = 1000; below = 60 }
    ∷ record { letters = codes "ms"; milliseconds = 1; below = 1000 }
    ∷ []

-- the unit with these letters, in either case
abbrev pub unit_named : List ℕ → Option TimeUnit
unit_named letters = find (λ unit. bytes_eq unit.letters (name_of letters)) time_units

-- a part of a duration: what precedes its letters, and its letters
pub record Part : Type 0 where
  pub number : List ℕ
  pub letters : List ℕ

-- the parts with one byte more before them: a letter joins the letters after it, another byte the number after it
abbrev pub onto_parts : ℕ → List Part → List Part
onto_parts b [] = if is_ascii_alphabetic b then record { number = []; letters = b ∷ [] } ∷ [] else (record { number = b ∷ []; letters = [] } ∷ [])
onto_parts b (part ∷ parts) =
    if is_ascii_alphabetic b
    then (if is_empty part.number then record part { letters = b ∷ part.letters } ∷ parts else (record { number = []; letters = b ∷ [] } ∷ part ∷ parts))
    else (record part { number = b ∷ part.number } ∷ parts)

-- the text, cut wherever a letter precedes another byte
abbrev pub parts_of : List ℕ → List Part
parts_of [] = []
parts_of (b ∷ rest) = onto_parts b (parts_of rest)

-- a part without the one underscore that may be between it and the part before
abbrev pub without_separator : Part → Part
without_separator part = record part { number = drop (if begins is_underscore part.number then 1 else 0) part.number }

-- the parts of a duration
abbrev pub duration_parts : List ℕ → List Part
duration_parts text = take 1 (parts_of text) ++ map without_separator (drop 1 (parts_of text))

-- the digits before the point
abbrev pub whole_digits : Part → List ℕ
whole_digits part = before_first is_point part.number

-- the digits after the point, none if there is no point
abbrev pub fraction_digits : Part → List ℕ
fraction_digits part = after_first is_point part.number

-- the part has a point
abbrev pub has_point : Part → Bool
has_point part = list_any is_point part.number

-- the number of milliseconds the part's unit has
abbrev pub unit_milliseconds : Part → ℕ
unit_milliseconds part = option_map_or (λ unit. unit.milliseconds) (unit_named part.letters) 0

-- below what number the part's unit counts after a greater one
abbrev pub unit_below : Part → ℕ
unit_below part = option_map_or (λ unit. unit.below) (unit_named part.letters) 0

-- the whole number of a part
abbrev pub whole_of : Part → ℕ
whole_of part = value_of_digits 10 (whole_digits part)

-- at most 12 digits, with single underscores between them
abbrev pub has_whole_format : Part → Bool
has_whole_format part = are_digits 10 (whole_digits part) && nat_le (count_by (λ b. not (is_underscore b)) (whole_digits part)) 12

-- no point, or a point and 1 to 9 digits
abbrev pub has_fraction_format : Part → Bool
has_fraction_format part =
    not (has_point part) || (nat_le 1 (length (fraction_digits part)) && nat_le (length (fraction_digits part)) 9 && list_all is_ascii_digit (fraction_digits part))

-- a number and a unit
abbrev pub is_part : Part → Bool
is_part part = is_some (unit_named part.letters) && has_whole_format part && has_fraction_format part

-- a part after another
abbrev pub is_later_part : Part → Bool
is_later_part part = is_part part && nat_lt (whole_of part) (unit_below part)

-- each number is below the one before
abbrev pub is_falling : List ℕ → Bool
is_falling numbers = list_all (λ pair. nat_lt pair.1 pair.0) (zip numbers (drop 1 numbers))

-- one part or more; the units fall, and no part but the last has a point
abbrev pub are_duration_parts : List Part → Bool
are_duration_parts [] = false
are_duration_parts (first ∷ later) =
    is_part first && list_all is_later_part later && is_falling (map unit_milliseconds (first ∷ later)) && not (list_any has_point (take (length later) (first ∷ later)))

-- how long a part is, in billionths of a millisecond
abbrev pub billionths_of : Part → ℕ
billionths_of part = (whole_of part * 10 ^ 9 + digits_value 10 (fraction_digits part) * 10 ^ (9 - length (fraction_digits part))) * unit_milliseconds part

-- how long the parts are together, in billionths of a millisecond
abbrev pub billionths : List Part → ℕ
billionths parts = sum_by billionths_of parts

-- the milliseconds of the parts, if they are a whole number of 32 bits with that sign
abbrev pub milliseconds_of : (negative : Bool) → List Part → Option ℤ
milliseconds_of negative parts =
    if are_duration_parts parts && (billionths parts % 10 ^ 9 == 0)
    then within_32_bits (if negative then neg_ℤ (pos (billionths parts / 10 ^ 9)) else pos (billionths parts / 10 ^ 9))
    else None

-- the milliseconds of a duration, as it is written after its `#`
abbrev pub duration_of : List ℕ → Option ℤ
duration_of text =
    if begins is_minus text then milliseconds_of true (duration_parts (drop 1 text)) else milliseconds_of false (duration_parts text)
