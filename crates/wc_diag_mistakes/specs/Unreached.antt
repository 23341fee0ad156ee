-- Which line of a text is surely never reached, and which line declares a function block, by its tokens. (The profile's own.)
use Rattle.std.specs.Prelude.{◌≡◌, ℕ, ◌+◌, ◌&&◌, Bool, true, false, List, ◌∷◌, ◌++◌, Option, Some, drop, nat_lt, slice_get, take, ◌||◌}
use Rattle.std.specs.List.{list_any, prefix_len}
use Rattle.std.specs.Option.{option_map, option_map_or}
use Rattle.wc_built_in.specs.Keywords.{keywords}
use Rattle.wc_built_in.specs.declared.keyword.Keyword.{Keyword}
use Rattle.wc_built_in.specs.declared.keyword.Keyword.TheVariants.{Jump, Return, UnitStart, UnitEnd, SectionStart, SectionEnd}
use Rattle.wc_lexer.specs.declared.shape.Shape.{Shape}
use Rattle.wc_lexer.specs.declared.shape.Shape.TheVariants.{Colon}
use Rattle.wc_lexer.specs.declared.shape.Token.{Token}
use Rattle.wc_model.specs.Definitions.{named_in, same_name, name_of}
use Rattle.wc_model.specs.declared.operator.Condition.{Condition}
use Rattle.wc_model.specs.declared.operator.Condition.TheVariants.{Always, IfTrue, IfFalse}
use Rattle.wc_model.specs.declared.source.UnitKind.{UnitKind}
use Rattle.wc_model.specs.declared.source.UnitKind.TheVariants.{FunctionBlock, Program}

-- what a token represents, if it is a reserved word
unfoldable pub keyword_of : Token → Option Keyword
keyword_of token = named_in keywords (name_of token.text.now)

abbrev pub is_always : Condition → Bool
is_always Always = true
is_always IfTrue = false
is_always IfFalse = false

abbrev pub is_function_block : UnitKind → Bool
is_function_block FunctionBlock = true
is_function_block Program = false

-- after this word the line below is not next: JMP and RET
abbrev pub is_leaving : Option Keyword → Bool
is_leaving (Some (Jump condition)) = is_always condition
is_leaving (Some (Return condition)) = is_always condition
is_leaving _ = false

-- this word begins or ends a unit or a section
abbrev pub is_frame : Option Keyword → Bool
is_frame (Some (UnitStart kind)) = true
is_frame (Some (UnitEnd kind)) = true
is_frame (Some (SectionStart section)) = true
is_frame (Some SectionEnd) = true
is_frame _ = false

-- this word is FUNCTION_BLOCK
abbrev pub is_block_start : Option Keyword → Bool
is_block_start (Some (UnitStart kind)) = is_function_block kind
is_block_start _ = false

-- a colon
abbrev pub is_colon_shape : Shape → Bool
is_colon_shape Colon = true
is_colon_shape shape = false

-- the token is the operator of an instruction that leaves the body, or leaves for another line: nothing but a label leads on
abbrev pub leaves : Token → Bool
leaves token = is_leaving (keyword_of token)

-- the token is the colon of a label, or begins or ends a unit or a section
abbrev pub may_pass : Token → Bool
may_pass token = is_colon_shape token.shape || is_frame (keyword_of token)

-- the number of tokens on the lines above that of a number, counted from 1; and these tokens
abbrev pub count_above : List Token → ℕ → ℕ
count_above tokens line = prefix_len (λ token. nat_lt token.line line) tokens

abbrev pub tokens_above : List Token → ℕ → List Token
tokens_above tokens line = take (count_above tokens line) tokens

-- one of these tokens leaves, and none after it may pass
pub record IsLeft (tokens : List Token) : Type 0 where
  pub above : List Token
  pub leaving : Token
  pub below : List Token
  pub all : tokens ≡ above ++ leaving ∷ below
  pub is : leaves leaving ≡ true
  pub closed : list_any may_pass below ≡ false

-- an instruction above the line leaves, and no label is between
abbrev pub FollowsLeaving : List Token → ℕ → Type 0
FollowsLeaving tokens line = IsLeft (tokens_above tokens line)

-- the first of these tokens is a label
abbrev pub has_label : List Token → Bool
has_label tokens = option_map_or (λ token. is_colon_shape token.shape) (slice_get tokens 1) false

-- the line follows one that leaves, and has no label: nothing leads to it
abbrev pub IsUnreached : List Token → ℕ → Type 0
IsUnreached tokens line = (has_label (drop (count_above tokens line) tokens) ≡ false) × FollowsLeaving tokens line

-- the token begins a function block
abbrev pub begins_block : Token → Bool
begins_block token = is_block_start (keyword_of token)

-- the token is this name; letter case is not significant
abbrev pub is_named : List ℕ → Token → Bool
is_named name token = same_name (name_of token.text.now) (name_of name)

-- the token at an index begins the declaration of a function block of that name
abbrev pub declares : List Token → List ℕ → ℕ → Bool
declares tokens name index =
    option_map_or begins_block (slice_get tokens index) false && option_map_or (is_named name) (slice_get tokens (index + 1)) false

-- one token alone begins the declaration of that function block, and it is on this line
pub record IsDeclaredOnce (tokens : List Token) (name : List ℕ) (line : ℕ) : Type 0 where
  pub index : ℕ
  pub declared : declares tokens name index ≡ true
  pub alone : (other : ℕ) → declares tokens name other ≡ true → other ≡ index
  pub line_is : Some line ≡ option_map (λ token. token.line) (slice_get tokens index)
