-- What is at a place of a text: a blank, a lexeme or a fault, by looking ahead from its first byte. (No rule of the language.)
use Rattle.std.proofs.Common.{ℕ, ◌+◌, Bool, false, cond, List, [], ◌∷◌, drop, zero, suc, ◌-◌, ◌==◌, true, ◌||◌, ◌&&◌, length, take, Result, Ok, Err}
use Rattle.std.specs.Char.{is_ascii_digit}
use Rattle.std.specs.List.{prefix_len}
use Rattle.std.specs.Option.{option_map_or}
use Rattle.wc_model.specs.Definitions.{begins, is_address_character, is_hash, is_identifier_character, is_minus, is_number_character, is_percent, is_sign, starts_identifier, is_line_feed, is_star, may_occur_before, mark_of, Shape, shape_of, from_bracket}

-- the characters of a number, with a `-` before them or none
abbrev pub value_reach : List ℕ → ℕ
value_reach rest = cond (begins is_minus rest) (1 + prefix_len is_number_character (drop 1 rest)) (prefix_len is_number_character rest)

-- a `#` and what it takes, if one is here
abbrev pub hash_reach : List ℕ → ℕ
hash_reach [] = 0
hash_reach (b ∷ rest) = cond (is_hash b) (1 + value_reach rest) 0

-- an identifier, or a typed literal
abbrev pub word_reach : List ℕ → ℕ
word_reach rest = prefix_len is_identifier_character rest + hash_reach (drop (prefix_len is_identifier_character rest) rest)

-- a sign and the number after it, or the sign alone
abbrev pub signed_reach : List ℕ → ℕ
signed_reach rest = cond (begins is_ascii_digit rest) (1 + prefix_len is_number_character rest) 1

-- the bytes are a mark that may precede the rest
abbrev pub is_mark_before : List ℕ → List ℕ → Bool
is_mark_before spelling rest = option_map_or (λ shape. may_occur_before shape rest) (mark_of spelling) false

-- the byte and the next one are a mark
abbrev pub is_pair_mark : ℕ → List ℕ → Bool
is_pair_mark b [] = false
is_pair_mark b (c ∷ rest) = is_mark_before (b ∷ c ∷ []) rest

-- a mark of two bytes, or of one
abbrev pub mark_reach : ℕ → List ℕ → ℕ
mark_reach b rest = cond (is_pair_mark b rest) 2 (cond (is_mark_before (b ∷ []) rest) 1 0)

-- the length of the longest lexeme here, 0 if there is none
abbrev pub reach : List ℕ → ℕ
reach [] = 0
reach (b ∷ rest) =
    cond (starts_identifier b) (word_reach (b ∷ rest))
    (cond (is_ascii_digit b) (prefix_len is_number_character (b ∷ rest))
    (cond (is_sign b) (signed_reach rest)
    (cond (is_percent b) (1 + prefix_len is_address_character rest)
    (mark_reach b rest))))

-- what is at a place: a blank of that length, a token of that length, or a fault
pub data Sight : Type 0 where
  Pass : (count : ℕ) → Sight
  Take : (count : ℕ) (shape : Shape) → Sight
  Refuse : (number : ℕ) → Sight

-- after the opening of a comment, by what is left from its first bracket on
abbrev pub sight_in_comment : (inside left : List ℕ) → Sight
sight_in_comment inside [] = Refuse 102
sight_in_comment inside (b ∷ left) = cond (b == 42) (Pass (2 + (length inside - length left) + 1)) (Refuse 103)

-- a lexeme of that length, by its shape
abbrev pub sight_of_lexeme : ℕ → Result Shape ℕ → Sight
sight_of_lexeme count (Ok shape) = Take count shape
sight_of_lexeme count (Err number) = Refuse number

-- what the look ahead finds
abbrev pub sight_by_reach : ℕ → List ℕ → Sight
sight_by_reach zero text = Refuse 101
sight_by_reach (suc n) text = sight_of_lexeme (suc n) (shape_of (take (suc n) text))

-- a comment opens here
abbrev pub opens_comment : List ℕ → Bool
opens_comment [] = false
opens_comment (b ∷ rest) = b == 40 && begins is_star rest

-- a space, a tab, or a CR before LF is here
abbrev pub starts_space : List ℕ → Bool
starts_space [] = false
starts_space (b ∷ rest) = b == 32 || b == 9 || (b == 13 && begins is_line_feed rest)

-- what is where no comment opens
abbrev pub sight_outside : List ℕ → Sight
sight_outside text = elim (starts_space text) [ true ↦ Pass 1 | false ↦ sight_by_reach (reach text) text ]

-- what is here
abbrev pub sight : List ℕ → Sight
sight text = elim (opens_comment text) [ true ↦ sight_in_comment (drop 2 text) (from_bracket (drop 2 text)) | false ↦ sight_outside text ]
