-- The list of a call by its tokens: inputs and outputs, each with a name, a sign and a value, and a comma or `)` after it. A
-- line may end after each of these. (The profile's own.)
use Rattle.std.specs.Prelude.{◌≡◌, ◌≤◌, ◌+◌, ◌-◌, ℕ, zero, suc, Bool, true, false, min, nat_lt, List, [], drop, length, Option, Some, None, slice_get, if◌then◌else◌}
use Rattle.std.specs.List.{position_or_len}
use Rattle.std.specs.Option.{option_map_or}
use Rattle.wc_diag_places.specs.OperandTokens.{begins_item, is_point, is_shape, list_end, tokens_at}
use Rattle.wc_diag_places.specs.declared.arguments.ListItem.{ListItem}
use Rattle.wc_lexer.specs.declared.shape.Shape.{Shape}
use Rattle.wc_lexer.specs.declared.shape.Shape.TheVariants.{Arrow, LineEnd}
use Rattle.wc_lexer.specs.declared.shape.Token.{Token}
use Rattle.wc_model.specs.Definitions.{name_of, Assignment, Field, Term}
use Rattle.wc_model.specs.declared.operator.Direction.{Direction}
use Rattle.wc_model.specs.declared.operator.Direction.TheVariants.{Into, OutOf}
use Rattle.wc_text_lines.specs.Words.{symbol_view}
use Rattle.wc_text_bodies.specs.Several.{operand_of}

-- a token that ends no line
abbrev pub is_mark_shape : Shape → Bool
is_mark_shape LineEnd = false
is_mark_shape shape = true

-- the first index after one whose token ends no line; the number of tokens if there is none
unfoldable pub mark_after : List Token → ℕ → ℕ
mark_after tokens index =
    let from = min (index + 1) (length tokens) in
    from + position_or_len (λ token. is_mark_shape token.shape) (drop from tokens)

-- `=>` gives an output out, `:=` assigns an input
abbrev pub direction_of : Option Token → Direction
direction_of sign = if option_map_or (λ token. is_shape Arrow token.shape) sign false then OutOf else Into

-- the last token of a value: that of the field after a point, or its only one
abbrev pub value_end : List Token → ℕ → ℕ
value_end tokens value =
    if is_point (slice_get tokens (mark_after tokens value)) then mark_after tokens (mark_after tokens value) else value

-- one of a list, after the `(` or the comma at an index
abbrev pub item_after : List Token → ℕ → ListItem
item_after tokens index =
    let name = mark_after tokens index in
    let sign = mark_after tokens name in
    let value = mark_after tokens sign in
    record {
      name = name;
      value = value;
      count = value_end tokens value - value + 1;
      direction = direction_of (slice_get tokens sign);
      end = mark_after tokens (value_end tokens value);
    }

-- the one of that number, counted by commas from 0
unfoldable pub item_at : List Token → ℕ → ListItem
item_at tokens zero = item_after tokens 2
item_at tokens (suc n) = item_after tokens (item_at tokens n).end

-- the text of the token at an index
abbrev pub text_at : List Token → ℕ → List ℕ
text_at tokens index = option_map_or (λ token. token.text.now) (slice_get tokens index) []

-- the operand that some tokens are: one alone, or a name with a field
abbrev pub operand_between : ℕ → Token → Token → Option Term
operand_between count first last =
    if nat_lt 1 count then Some (Field (name_of first.text.now) (name_of last.text.now)) else operand_of (symbol_view first) first.line

abbrev pub operand_in : List Token → Option Term
operand_in operand_tokens =
    elim (slice_get operand_tokens 0) [
      | Some first ↦ (elim (slice_get operand_tokens (length operand_tokens - 1)) [ Some last ↦ operand_between (length operand_tokens) first last | None ↦ None ])
      | None ↦ None
    ]

-- What one of a list assigns or gives out: its tokens are that assignment, between the `(` and the `)`.
pub record IsListedAs (tokens : List Token) (item : ListItem) (assignment : Assignment) : Type 0 where
  pub direction : assignment.direction ≡ item.direction
  pub formal : assignment.formal ≡ name_of (text_at tokens item.name)
  pub actual : Some assignment.actual ≡ operand_in (tokens_at tokens item.value item.count)
  pub name_begins : begins_item tokens item.name ≡ true
  pub name_within : item.name + 1 ≤ list_end tokens
  pub value_begins : begins_item tokens item.value ≡ true
  pub value_within : item.value + item.count ≤ list_end tokens

-- these are assigned and given out by a list, in its order
abbrev pub AreListed : List Token → List Assignment → Type 0
AreListed tokens arguments =
    (k : ℕ) (argument : Assignment) → slice_get arguments k ≡ Some argument → IsListedAs tokens (item_at tokens k) argument
