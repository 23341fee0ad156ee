-- What a refusal of the lexer says of its text, and where the first fault of a text's tokens is. (The profile's own.)
use Rattle.std.specs.Prelude.{◌≡◌, ◌≤◌, ℕ, List, [], ◌++◌, length, Ok, ◌<◌, take, if◌then◌else◌, ◌==◌}
use Rattle.wc_model.specs.Definitions.{IsLongestLexeme, Shape, shape_of, comment_opening}
use Rattle.wc_model.specs.Text.Tokens.{Cuts, IsFirstTokenFault, Token, most_bytes, FaultAt, Foreign, Malformed, Nested, Unclosed, line_after}
use Rattle.wc_model.specs.declared.fault.Fault.{Fault}
use Rattle.wc_model.specs.declared.fault.Fault.TheVariants.{Memory, Refused}
use Rattle.wc_laws_grammar.specs.Sights.{reach, opens_comment}

-- a token is here
abbrev pub AtToken : List ℕ → List ℕ → Type 0
AtToken before rest = (shape : Shape) × (chunk : List ℕ) × (after : List ℕ) × (chunk ++ after ≡ rest) × IsLongestLexeme chunk after × (shape_of chunk ≡ Ok shape)

-- space is needed for a token: the text is not too long, and is cut up to a place at which
-- there is one
pub record NeedsMemory (text : List ℕ) : Type 0 where
  pub short : length text ≤ most_bytes
  pub tokens : List Token
  pub cut : Cuts AtToken [] text tokens

-- the fault is the text's first, or out of memory, if memory is needed
abbrev pub Names : List ℕ → Fault → Type 0
Names text (Refused number place) = IsFirstTokenFault text number place
Names text Memory = NeedsMemory text

-- the slice that a fault is about: the byte that belongs to nothing, the opening of the comment, or
-- the malformed lexeme
abbrev pub fault_slice : (rest : List ℕ) (number : ℕ) → FaultAt rest number → List ℕ
fault_slice rest number (Foreign foreign) = take 1 rest
fault_slice rest number (Unclosed inside opens unclosed) = comment_opening
fault_slice rest number (Nested inside more opens nested) = comment_opening
fault_slice rest number (Malformed chunk after whole longest validated) = chunk

-- at a place the fault of that number is on that line; its slice starts at that byte, and has n
-- bytes
pub record IsSpanAt (number line start count : ℕ) (before rest : List ℕ) : Type 0 where
  pub fault : FaultAt rest number
  pub here : line ≡ line_after before
  pub starts : start ≡ length before
  pub counted : count ≡ length (fault_slice rest number fault)

-- The first fault of a text with its slice: a text that is too long has none, any other is cut up to
-- the slice.
pub data IsTokenSpan (text : List ℕ) : (number line start count : ℕ) → Type 0 where
  NoSlice : most_bytes < length text → IsTokenSpan text 107 0 0 0
  FaultSlice : {number line start count : ℕ} (tokens : List Token) → length text ≤ most_bytes → Cuts (IsSpanAt number line start count) [] text tokens → IsTokenSpan text number line start count

-- why the lexer stops there; out of memory says that memory is needed for a token
abbrev pub StopsAt : List ℕ → Fault → (start count : ℕ) → Type 0
StopsAt text (Refused number place) start count = IsTokenSpan text number place start count
StopsAt text Memory start count = NeedsMemory text

-- the number of bytes of the slice at which a text can't be cut further
abbrev pub stuck_length : List ℕ → ℕ
stuck_length rest = if opens_comment rest then 2 else if reach rest == 0 then 1 else reach rest
