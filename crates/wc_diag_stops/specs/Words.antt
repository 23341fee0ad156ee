-- The words of a line: letters, digits and underscores in a row. (No rule of the language: a line need not be one of a program.)
use Rattle.std.specs.Prelude.{ℕ, Bool, ◌==◌, ◌||◌, List, drop}
use Rattle.std.specs.Char.{is_ascii_alphanumeric, is_ascii_whitespace}
use Rattle.std.specs.List.{prefix_len, take_while}

-- a letter, a digit or an underscore
abbrev pub is_word_byte : ℕ → Bool
is_word_byte byte = is_ascii_alphanumeric byte || byte == 95

-- bytes without the white space at their start
abbrev pub from_word : List ℕ → List ℕ
from_word bytes = drop (prefix_len is_ascii_whitespace bytes) bytes

-- the first word, after white space; empty if another byte is there
abbrev pub first_word : List ℕ → List ℕ
first_word bytes = take_while is_word_byte (from_word bytes)
