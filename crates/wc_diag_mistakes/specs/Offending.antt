-- The offending token of a refused text, and the tokens around it. (The profile's own.)
use Rattle.std.specs.Prelude.{ℕ, ◌+◌, List, drop, length, min, nat_lt, slice_get, take}
use Rattle.std.specs.List.{prefix_len}
use Rattle.std.specs.Option.{option_map_or}
use Rattle.wc_lexer.specs.declared.shape.Token.{Token}
use Rattle.wc_diag_mistakes.specs.declared.refused.RefusedText.{RefusedText}

-- the number of tokens that start before a place
abbrev pub count_before : List Token → ℕ → ℕ
count_before tokens place = prefix_len (λ token. nat_lt token.start place) tokens

-- the tokens before the offending one, and those after it
abbrev pub tokens_before : RefusedText → List Token
tokens_before refused = take (min refused.index (length refused.tokens.now)) refused.tokens.now

abbrev pub tokens_after : RefusedText → List Token
tokens_after refused = drop (min (refused.index + 1) (length refused.tokens.now)) refused.tokens.now

-- the bytes of the offending token; of a text that can't be cut further those of the malformed lexeme
abbrev pub offending_text : RefusedText → List ℕ
offending_text refused =
    option_map_or (λ token. token.text.now) (slice_get refused.tokens.now refused.index)
    (take (min refused.span.length (length refused.lexeme.now)) refused.lexeme.now)
