-- Digits with underscores between them (IEC 61131-3:2003, 2.2.1).
use Rattle.std.specs.Prelude.{ℕ, Bool, true, not, ◌&&◌, ◌||◌, List, [], ◌∷◌, filter, Option}
use Rattle.std.specs.Bool.{then_some}
use Rattle.std.specs.Char.{is_digit}
use Rattle.std.specs.List.{list_all}
use Rattle.std.specs.Str.Parse.{digits_value}
use Rattle.wc_model.specs.Text.Characters.{begins, is_underscore}

-- after each underscore comes another character: no two are in a row, and none at the end
abbrev pub has_single_underscores : List ℕ → Bool
has_single_underscores [] = true
has_single_underscores (b ∷ rest) =
    (not (is_underscore b) || begins (λ next. not (is_underscore next)) rest) && has_single_underscores rest

-- the text is digits of that base, letters in either case, with single underscores between them
abbrev pub are_digits : ℕ → List ℕ → Bool
are_digits base text =
    begins (λ b. is_digit b base) text && list_all (λ b. is_digit b base || is_underscore b) text && has_single_underscores text

-- the number that the digits write; underscores say nothing
abbrev pub value_of_digits : ℕ → List ℕ → ℕ
value_of_digits base text = digits_value base (filter (λ b. not (is_underscore b)) text)

-- that number, if the text is such digits
abbrev pub digits_of : ℕ → List ℕ → Option ℕ
digits_of base text = then_some (are_digits base text) (value_of_digits base text)
