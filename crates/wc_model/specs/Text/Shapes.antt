-- What a lexeme says, or the number of its fault (IEC 61131-3:2003, 2.1 and 2.2).
use Rattle.std.specs.Prelude.{ℕ, ◌||◌, Bool, true, false, ◌&&◌, List, [], ◌∷◌, length, find, codes, bytes_eq, ℤ, Option, option_map, Result, Ok, Err, ok_or, if◌then◌else◌, nat_le}
use Rattle.std.specs.Char.{is_ascii_digit}
use Rattle.std.specs.List.{list_any, before_first, after_first}
use Rattle.wc_model.specs.Text.Characters.{begins, starts_identifier, is_hash, is_percent, is_sign}
use Rattle.wc_model.specs.Text.Digits.{has_single_underscores}
use Rattle.wc_model.specs.Text.Durations.{duration_of}
use Rattle.wc_model.specs.Language.Names.{Name, name_of}
use Rattle.wc_model.specs.Text.Keywords.{kind_word}
use Rattle.wc_model.specs.Text.WholeNumbers.{whole_number_of}
use Rattle.wc_model.specs.declared.kind.Kind.TheVariants.{Bool as KindBool, Time as KindTime}

-- what a token is: an identifier, a literal with its value, an address, `&`, `&N`, a mark, or a line end
pub data Shape : Type 0 where
  Identifier : Shape
  Whole : (value : ℤ) → Shape
  Duration : (milliseconds : ℤ) → Shape
  Truth : (value : Bool) → Shape
  Address : Shape
  And : Shape
  AndNot : Shape
  Opening : Shape
  Closing : Shape
  Comma : Shape
  Colon : Shape
  Semicolon : Shape
  Point : Shape
  Assign : Shape
  Arrow : Shape
  LineEnd : Shape

-- how a mark is spelled
pub record Mark : Type 0 where
  pub spelling : List ℕ
  pub shape : Shape

-- the marks; a line feed ends a line
abbrev pub marks : List Mark
marks =
    record { spelling = codes "&"; shape = And }
    ∷ record { spelling = codes "&N"; shape = AndNot }
    ∷ record { spelling = codes "&n"; shape = AndNot }
    ∷ record { spelling = codes "("; shape = Opening }
    ∷ record { spelling = codes ")"; shape = Closing }
    ∷ record { spelling = codes ","; shape = Comma }
    ∷ record { spelling = codes ":"; shape = Colon }
    ∷ record { spelling = codes ";"; shape = Semicolon }
    ∷ record { spelling = codes "."; shape = Point }
    ∷ record { spelling = codes ":="; shape = Assign }
    ∷ record { spelling = codes "=>"; shape = Arrow }
    ∷ record { spelling = 10 ∷ []; shape = LineEnd }
    ∷ []

-- the mark that is spelled so
abbrev pub mark_of : List ℕ → Option Shape
mark_of spelling = option_map (λ mark. mark.shape) (find (λ mark. bytes_eq spelling mark.spelling) marks)

-- the greatest length of a name
abbrev pub longest_name : ℕ
longest_name = 32

-- an identifier is no longer than a name, and has single underscores, none of them at its end
abbrev pub identifier_shape : List ℕ → Result Shape ℕ
identifier_shape lexeme = if nat_le (length lexeme) longest_name && has_single_underscores lexeme then Ok Identifier else Err 104

-- a number has one of the forms of whole-number literals
abbrev pub number_shape : List ℕ → Result Shape ℕ
number_shape lexeme = ok_or (option_map Whole (whole_number_of lexeme)) 105

-- BOOL#0 and BOOL#1 are truth values
abbrev pub truth_shape : List ℕ → Result Shape ℕ
truth_shape value =
    if bytes_eq value (codes "0") then Ok (Truth false)
    else (if bytes_eq value (codes "1") then Ok (Truth true) else Err 105)

-- T# and TIME# precede durations
abbrev pub duration_shape : List ℕ → Result Shape ℕ
duration_shape value = ok_or (option_map Duration (duration_of value)) 106

-- a literal by its type's name and what follows the `#`
abbrev pub typed_shape : Name → List ℕ → Result Shape ℕ
typed_shape type value =
    if bytes_eq type (kind_word KindBool) then truth_shape value
    else (if bytes_eq type (codes "t") || bytes_eq type (kind_word KindTime) then duration_shape value else Err 105)

-- a literal whose type is named before its `#`
abbrev pub literal_shape : List ℕ → Result Shape ℕ
literal_shape lexeme = typed_shape (name_of (before_first is_hash lexeme)) (after_first is_hash lexeme)

-- The shape of a lexeme, or the number of its fault. What starts like an identifier is one, or a typed literal if it holds a `#`.
abbrev pub shape_of : List ℕ → Result Shape ℕ
shape_of lexeme =
    if begins starts_identifier lexeme then (if list_any is_hash lexeme then literal_shape lexeme else identifier_shape lexeme)
    else (if begins (λ b. is_ascii_digit b || is_sign b) lexeme then number_shape lexeme
    else (if begins is_percent lexeme then Ok Address
    else ok_or (mark_of lexeme) 101))
