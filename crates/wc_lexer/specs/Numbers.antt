-- What the lexer reads of numbers that are digits alone, and of the parts of durations.
use Rattle.wc_model.specs.Text.Durations as durations
use Rattle.std.specs.Prelude.{ℕ, ◌^◌, Option, ◌≡◌, true, List, Some, take, ◌≤◌, ◌+◌, ◌*◌, ◌-◌, length, Bool, false, not, ◌&&◌, ◌||◌, [], ◌∷◌, None, option_map, option_and_then, ◌⊎◌}
use Rattle.std.specs.Bool.{nat_lt, then_some}
use Rattle.std.specs.Char.{is_digit}
use Rattle.std.specs.List.{list_all, prefix_len}
use Rattle.std.specs.Str.Parse.{digits_value}
use Rattle.wc_model.specs.Definitions.{is_number_character, unsigned_of}
use Rattle.wc_lexer.specs.declared.durations.ParsedPart.{ParsedPart}
use Rattle.wc_lexer.specs.declared.durations.TimeUnit.{TimeUnit}

-- the number, if it has 64 bits
abbrev pub within_64_bits : ℕ → Option ℕ
within_64_bits n = then_some (nat_lt n (2 ^ 64)) n

-- the characters of a number at the start
abbrev pub number_prefix : List ℕ → List ℕ
number_prefix text = take (prefix_len is_number_character text) text

-- the characters of a number at the start, this many, are digits of that base, and write this number
pub record IsPlain (base : ℕ) (text : List ℕ) (count value : ℕ) : Type 0 where
  pub counted : count ≡ prefix_len is_number_character text
  pub digits : list_all (λ b. is_digit b base) (number_prefix text) ≡ true
  pub valued : value ≡ digits_value base (number_prefix text)

-- they are a number without a sign
pub record IsUnsigned (text : List ℕ) (count size : ℕ) : Type 0 where
  pub counted : count ≡ prefix_len is_number_character text
  pub sized : unsigned_of (number_prefix text) ≡ Some size

-- the part is so long, has this unit and this whole number, and has a point or none
pub record IsParsedAs (part : durations.Part) (parsed : ParsedPart) : Type 0 where
  pub format : durations.is_part part ≡ true
  pub milliseconds : parsed.milliseconds ≡ durations.unit_milliseconds part
  pub below : parsed.below ≡ durations.unit_below part
  pub whole : parsed.whole ≡ durations.whole_of part
  pub point : parsed.has_point ≡ durations.has_point part
  pub billionths : parsed.billionths ≡ durations.billionths_of part

-- a part that gives nothing has a wrong form or is too long for 64 bits
abbrev pub IsParsedPart : durations.Part → Option ParsedPart → Type 0
IsParsedPart part None = (durations.is_part part ≡ false) ⊎ (2 ^ 64 ≤ durations.billionths_of part)
IsParsedPart part (Some parsed) = IsParsedAs part parsed

-- a part by its unit and its numbers, if its length has 64 bits
abbrev pub part_by : TimeUnit → Option ℕ → Option ℕ → Bool → Option ParsedPart
part_by unit None fraction has_point = None
part_by unit (Some whole) None has_point = None
part_by unit (Some whole) (Some fraction) has_point = option_map (λ n. record { milliseconds = unit.milliseconds; below = unit.below; whole = whole; has_point = has_point; billionths = n }) (within_64_bits ((whole * 10 ^ 9 + fraction) * unit.milliseconds))

-- the billionths after the point of a number, if its form is right and they have 64 bits
abbrev pub parsed_fraction : List ℕ → Option ℕ
parsed_fraction number =
    let part : durations.Part = record { number = number; letters = [] } in
    option_and_then within_64_bits (then_some (durations.has_fraction_format part) (digits_value 10 (durations.fraction_digits part) * 10 ^ (9 - length (durations.fraction_digits part))))

-- there are no parts
abbrev pub are_none : List durations.Part → Bool
are_none [] = true
are_none (part ∷ parts) = false

-- the parts may follow a unit so long: units fall, and none but the last has a point
abbrev pub are_later : ℕ → List durations.Part → Bool
are_later above [] = true
are_later above (part ∷ parts) = durations.is_later_part part && nat_lt (durations.unit_milliseconds part) above && (not (durations.has_point part) || are_none parts) && are_later (durations.unit_milliseconds part) parts

-- the sum, if the form is right; there is none if the form is wrong or the sum is too long
-- for 64 bits
abbrev pub IsParsedSum : Bool → ℕ → Option ℕ → Type 0
IsParsedSum format sum None = (format ≡ false) ⊎ (2 ^ 64 ≤ sum)
IsParsedSum format sum (Some parsed) = (format ≡ true) × (parsed ≡ sum)
