-- Laws of the tokens of a text: its tokens are its slices in rising order, and each text within the limit has either tokens
-- or a first fault, of which there is one.
use Rattle.std.specs.Prelude.{◌≡◌, ℕ, ◌≤◌, ◌<◌, ◌+◌, ◌⊎◌, List, length, take, drop, All, AllPairs}
use Rattle.wc_model.specs.Text.Tokens.{IsCut, IsFirstTokenFault, Token, line_after, most_bytes}

-- a text has one list of tokens
abbrev pub CutIsUnique : Type 0
CutIsUnique = (text : List ℕ) (tokens others : List Token) → IsCut text tokens → IsCut text others → tokens ≡ others

-- a text within the limit that has tokens has no fault
abbrev pub CutHasNoFault : Type 0
CutHasNoFault = (text : List ℕ) (tokens : List Token) (number line : ℕ) → length text ≤ most_bytes → IsCut text tokens → ¬ (IsFirstTokenFault text number line)

-- a text has one first fault
abbrev pub FirstFaultIsUnique : Type 0
FirstFaultIsUnique = (text : List ℕ) (number line other_number other_line : ℕ) → IsFirstTokenFault text number line → IsFirstTokenFault text other_number other_line → (number ≡ other_number) × (line ≡ other_line)

-- a text that is too long has fault 107 at no line, and no other
abbrev pub LongTextIsRefused : Type 0
LongTextIsRefused = (text : List ℕ) → most_bytes < length text → IsFirstTokenFault text 107 0

-- a text has tokens or a first fault
abbrev pub CutOrFault : Type 0
CutOrFault = (text : List ℕ) → ((tokens : List Token) × IsCut text tokens) ⊎ ((number : ℕ) × (line : ℕ) × IsFirstTokenFault text number line)

-- the token is a slice of the text, on the line of its first byte
pub record IsSliceOf (source : List ℕ) (token : Token) : Type 0 where
  pub slice : take (length token.text) (drop token.start source) ≡ token.text
  pub counted : token.line ≡ line_after (take token.start source)

-- the tokens of a text are its slices
abbrev pub TokensAreSlices : Type 0
TokensAreSlices = (text : List ℕ) (tokens : List Token) → IsCut text tokens → All (IsSliceOf text) tokens

-- each token ends before the later ones start
abbrev pub TokensAreInOrder : Type 0
TokensAreInOrder = (text : List ℕ) (tokens : List Token) → IsCut text tokens → AllPairs (λ token later. token.start + length token.text ≤ later.start) tokens
