-- Where the first fault of a text that has tokens is. (The profile's own.)
use Rattle.std.specs.Prelude.{◌≡◌, ◌==◌, ◌||◌, ℕ, Bool, codes, ◌-◌, ◌≤◌, List, [], drop, find, if◌then◌else◌, length, map, min, nat_lt, slice_get, take, Option, Some, None, ◌⊎◌}
use Rattle.std.specs.List.{prefix_len}
use Rattle.std.specs.Option.{option_map_or}
use Rattle.wc_laws_grammar.specs.Moves.{at_first}
use Rattle.wc_lexer.specs.Spans.{NeedsMemory, IsTokenSpan}
use Rattle.wc_lexer.specs.Views.{shape_view, token_view}
use Rattle.wc_lexer.specs.declared.shape.Token.{Token}
use Rattle.wc_model.specs.Definitions.{same_name, name_of, Spells, IsWithinLimits, Mark, last_line, symbol_of, IsFirstReadingFault, ReadingFault, number_of, IsCut, most_bytes, Text}
use Rattle.wc_model.specs.declared.fault.Fault.{Fault}
use Rattle.wc_model.specs.declared.fault.Fault.TheVariants.{Memory, Refused}
use Rattle.wc_text_bodies.specs.Views.{walk}
use Rattle.wc_diag_stops.specs.Allowed.{allowed, allowed_with}
use Rattle.wc_diag_texts.specs.declared.expected.Expected.{Expected}
use Rattle.wc_diag_texts.specs.declared.expected.Expected.TheVariants.{CommaOrColon, LabelColon}

-- A token as the grammar sees it, with its place for its line: a fault of the grammar then reports the
-- place of the token whose line it reports.
abbrev pub place_mark : Token → Mark
place_mark token = record { symbol = symbol_of (shape_view token.shape) token.text.now; line = token.start }

-- the tokens with their places for their lines
abbrev pub place_marks : List Token → List Mark
place_marks tokens = map place_mark tokens

-- the token that starts at that byte
abbrev pub token_at : List Token → ℕ → Option Token
token_at tokens start = find (λ token. token.start == start) tokens

-- the last token before that byte
abbrev pub token_before : List Token → ℕ → Option Token
token_before tokens start = slice_get tokens (prefix_len (λ token. nat_lt token.start start) tokens - 1)

-- a word, if the token after it is on its line; else that token
abbrev pub word_or_token : (word token : Option Token) → Option Token
word_or_token (Some word) (Some token) = if word.line == token.line then Some word else Some token
word_or_token word found = found

-- a word after VAR of which this language has none
abbrev pub is_left_out : Token → Bool
is_left_out token =
    same_name (name_of (codes "CONSTANT")) (name_of token.text.now)
    || same_name (name_of (codes "RETAIN")) (name_of token.text.now)
    || same_name (name_of (codes "PERSISTENT")) (name_of token.text.now)

-- such a word, if the token after it is on its line; else that token
abbrev pub left_out_or_token : (word token : Option Token) → Option Token
left_out_or_token (Some word) found = if is_left_out word then word_or_token (Some word) found else found
left_out_or_token None found = found

-- the offending token if one is found at that byte: if only a colon could follow a word,
-- the word, which is not an operator; after a word of which this language has none, that word
abbrev pub offending_at : List Token → ℕ → Expected → Option Token
offending_at tokens place LabelColon = word_or_token (token_before tokens place) (token_at tokens place)
offending_at tokens place CommaOrColon = left_out_or_token (token_before tokens place) (token_at tokens place)
offending_at tokens place expected = token_at tokens place

-- the line of a token that is there; else the last one
abbrev pub line_of : Option Token → (last : ℕ) → ℕ
line_of found last = option_map_or (λ token. token.line) found last

-- the start of a token that is there; else the text's end
abbrev pub start_of : Option Token → (end : ℕ) → ℕ
start_of found end = option_map_or (λ token. token.start) found end

-- the length of a token that is there; else no byte
abbrev pub length_of : Option Token → ℕ
length_of found = option_map_or (λ token. length token.text.now) found 0

-- this slice is in the text, from that place on
abbrev pub IsAt : List ℕ → ℕ → List ℕ → Type 0
IsAt text place bytes_at = take (length bytes_at) (drop place text) ≡ bytes_at

-- The first fault of a text that has tokens, with its slice: the token whose line is reported, or at the
-- text's end no token. If that token is unexpected and only a colon could be there, the slice
-- is the word before it.
pub record IsReadingSpan (bytes : List ℕ) (number line start count : ℕ) (expected : Expected) : Type 0 where
  pub short : length bytes ≤ most_bytes
  pub tokens : List Token
  pub cut : IsCut bytes (map token_view tokens)
  pub fault : ReadingFault
  pub place : ℕ
  pub number_is : number ≡ number_of fault
  pub first : IsFirstReadingFault (place_marks tokens) (length bytes) fault place
  pub line_is : line ≡ line_of (token_at tokens place) (last_line bytes)
  pub expected_is : expected ≡ allowed_with number (allowed (walk at_first (place_marks tokens) (length bytes)).state)
  pub start_is : start ≡ start_of (offending_at tokens place expected) (length bytes)
  pub count_is : count ≡ length_of (offending_at tokens place expected)

-- why the reader stops there; out of memory says that memory is needed for a token
abbrev pub StopsReading : List ℕ → Fault → (start count : ℕ) → Expected → Type 0
StopsReading bytes Memory start count expected = NeedsMemory bytes
StopsReading bytes (Refused number place) start count expected =
    IsTokenSpan bytes number place start count ⊎ IsReadingSpan bytes number place start count expected

-- the tokens of bytes that are short enough spell this text with their places for their lines
pub record AreReadByPlaces (bytes : List ℕ) (tokens : List Token) (text : Text) : Type 0 where
  pub short : length bytes ≤ most_bytes
  pub cut : IsCut bytes (map token_view tokens)
  pub spelled : Spells (place_marks tokens) text
  pub within_limits : IsWithinLimits text

-- the bytes are short enough and are cut into tokens, which spell a text within the limits
abbrev pub IsReadByPlaces : List ℕ → Type 0
IsReadByPlaces bytes = (tokens : List Token) × (text : Text) × AreReadByPlaces bytes tokens text

-- The tokens before the place at which bytes can't be cut further; or none.
abbrev pub AreBefore : List ℕ → ℕ → List Token → Type 0
AreBefore bytes start tokens = IsCut (take (min start (length bytes)) bytes) (map token_view tokens) ⊎ (tokens ≡ [])

-- the tokens of bytes, or those before the place at which they can't be cut further
abbrev pub AreUpTo : List ℕ → ℕ → List Token → Type 0
AreUpTo bytes start tokens = IsCut bytes (map token_view tokens) ⊎ AreBefore bytes start tokens

-- if the reader stops there, these are the tokens of the bytes
abbrev pub AreThoseRead : List ℕ → Fault → (start count : ℕ) → Expected → List Token → Type 0
AreThoseRead bytes Memory start count expected tokens = Unit {0}
AreThoseRead bytes (Refused number place) start count expected tokens =
    IsReadingSpan bytes number place start count expected → IsCut bytes (map token_view tokens)
