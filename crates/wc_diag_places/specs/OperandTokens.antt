-- Which tokens of an instruction a refusal of pass 4 means. (The profile's own.)
use Rattle.std.specs.Prelude.{◌≡◌, ◌==◌, ◌||◌, ℕ, ◌+◌, ◌-◌, ◌≤◌, Bool, true, false, List, drop, length, Option, slice_get, take, if◌then◌else◌, ◌⊎◌}
use Rattle.std.specs.List.{position_or_len}
use Rattle.std.specs.Option.{option_map_or}
use Rattle.wc_lexer.specs.declared.shape.Shape.{Shape}
use Rattle.wc_lexer.specs.declared.shape.Shape.TheVariants.{Arrow, Assign, Closing, Comma, LineEnd, Opening, Point}
use Rattle.wc_lexer.specs.declared.shape.Token.{Token}

-- a shape is that one: an opening parenthesis, a closing one, a point, `=>`
abbrev pub is_shape : (wanted shape : Shape) → Bool
is_shape Opening Opening = true
is_shape Closing Closing = true
is_shape Point Point = true
is_shape Arrow Arrow = true
is_shape _ _ = false

abbrev pub is_opening : Option Token → Bool
is_opening found = option_map_or (λ token. is_shape Opening token.shape) found false

abbrev pub is_point : Option Token → Bool
is_point found = option_map_or (λ token. is_shape Point token.shape) found false

-- the tokens from the one that starts at that byte on; none if none does
abbrev pub tokens_from : List Token → ℕ → List Token
tokens_from tokens place = drop (position_or_len (λ token. token.start == place) tokens) tokens

-- that number of tokens from an index on
abbrev pub tokens_at : List Token → (from count : ℕ) → List Token
tokens_at tokens from count = take count (drop from tokens)

-- an instruction begins with its operator
abbrev pub operator_of : List Token → List Token
operator_of tokens = tokens_at tokens 0 1

-- an instruction opens a parenthesis
abbrev pub opens : List Token → Bool
opens tokens = is_opening (slice_get tokens 1)

-- where the operand of an instruction begins: after the operator, and after the parenthesis that it opens
abbrev pub operand_index : List Token → ℕ
operand_index tokens = if opens tokens then 2 else 1

-- the number of tokens of an operand: a name with a field three, any other one
abbrev pub operand_count : List Token → ℕ → ℕ
operand_count tokens index = if is_point (slice_get tokens (index + 1)) then 3 else 1

abbrev pub operand_of : List Token → List Token
operand_of tokens = tokens_at tokens (operand_index tokens) (operand_count tokens (operand_index tokens))

-- an instruction with a list: a call, whose list opens after the instance
abbrev pub is_listed : List Token → Bool
is_listed tokens = is_opening (slice_get tokens 2)

-- where the list of a call ends
abbrev pub list_end : List Token → ℕ
list_end tokens = position_or_len (λ token. is_shape Closing token.shape) tokens

-- a name or a value of a call's list is after such a token: `(`, a comma, `:=`, `=>`, or the end of a line after one of these
abbrev pub starts_item_shape : Shape → Bool
starts_item_shape Opening = true
starts_item_shape Comma = true
starts_item_shape Assign = true
starts_item_shape Arrow = true
starts_item_shape LineEnd = true
starts_item_shape shape = false

-- the instance of a call, or a name or a value of its list, may begin at that index
abbrev pub begins_item : List Token → ℕ → Bool
begins_item tokens index = (index == 1) || option_map_or (λ token. starts_item_shape token.shape) (slice_get tokens (index - 1)) false

-- some tokens of a call, before the end of its list: its instance, or from the start of a name or a value of its list on
pub record IsOfCall (tokens operand_tokens : List Token) : Type 0 where
  pub from : ℕ
  pub count : ℕ
  pub within : from + count ≤ list_end tokens
  pub begins : begins_item tokens from ≡ true
  pub is : operand_tokens ≡ tokens_at tokens from count

-- the kinds do not fit: the operator or the operand
abbrev pub IsOperatorOrOperand : List Token → List Token → Type 0
IsOperatorOrOperand tokens operand_tokens = (operand_tokens ≡ operator_of tokens) ⊎ (operand_tokens ≡ operand_of tokens)

-- what a refusal refers to in an instruction without a list, if its number alone says it: there is no such thing, it may not be
-- written or read, no line below has the label, or it is not a divisor; else the operator, also for a label and a `)`
abbrev pub operand_by_number : ℕ → List Token → List Token
operand_by_number number tokens =
    if number == 408 then (if opens tokens then operator_of tokens else operand_of tokens)
    else if (number == 401) || (number == 404) || (number == 405) || (number == 406) then operand_of tokens
    else operator_of tokens

-- in an instruction, whose tokens are those from its first one on
abbrev pub IsOperandOf : ℕ → List Token → List Token → Type 0
IsOperandOf number tokens operand_tokens =
    (is_listed tokens ≡ true → (operand_tokens ≡ operator_of tokens) ⊎ IsOfCall tokens operand_tokens)
    × (is_listed tokens ≡ false → (number ≡ 402 → IsOperatorOrOperand tokens operand_tokens) × ((number ≡ 402 → ⊥) → operand_tokens ≡ operand_by_number number tokens))

-- the line of a token that is there
abbrev pub line_at : Option Token → ℕ
line_at found = option_map_or (λ token. token.line) found 0

-- A slice that begins on the line of its instruction; of one that begins below, which only a list or a comment can have,
-- the operator is reported.
abbrev pub on_line : List Token → List Token → List Token
on_line tokens operand_tokens = if line_at (slice_get operand_tokens 0) == line_at (slice_get tokens 0) then operand_tokens else operator_of tokens

-- where a slice starts, and its number of bytes, from its first token to its last
abbrev pub start_of_operand : List Token → ℕ
start_of_operand operand_tokens = option_map_or (λ token. token.start) (slice_get operand_tokens 0) 0

abbrev pub length_of_operand : List Token → ℕ
length_of_operand operand_tokens =
    option_map_or (λ token. token.start + length token.text.now) (slice_get operand_tokens (length operand_tokens - 1)) 0 - start_of_operand operand_tokens
