-- What the reader's words and tokens represent.
use Rattle.std.specs.Prelude.{List, map}
use Rattle.wc_laws_grammar.specs.Words as words
use Rattle.wc_lexer.specs.Views.{shape_view, token_view}
use Rattle.wc_lexer.specs.declared.shape.Token.{Token}
use Rattle.wc_model.specs.Definitions.{Symbol, Mark, symbol_of, mark_of_token}
use Rattle.wc_text_lines.specs.declared.operators.OperandOperator.{OperandOperator}
use Rattle.wc_text_lines.specs.declared.operators.OperandOperator.TheVariants.{Loads, Stores, Applies}
use Rattle.wc_text_lines.specs.declared.operators.Operation.{Operation}
use Rattle.wc_text_lines.specs.declared.operators.Operation.TheVariants.{Operates, Negates, Jumps, Calls, Returns}

-- an operator that takes an operand
abbrev pub operating_view : OperandOperator → words.OperandOperator
operating_view (Loads negated) = words.Loads negated
operating_view (Stores storing) = words.Stores storing
operating_view (Applies operator) = words.Applies operator

-- an operator
abbrev pub operation_view : Operation → words.Operation
operation_view (Operates operating) = words.Operates (operating_view operating)
operation_view Negates = words.Negates
operation_view (Jumps condition) = words.Jumps condition
operation_view (Calls condition) = words.Calls condition
operation_view (Returns condition) = words.Returns condition

-- a token's symbol
abbrev pub symbol_view : Token → Symbol
symbol_view token = symbol_of (shape_view token.shape) token.text.now

-- tokens as the grammar sees them
abbrev pub marks_of : List Token → List Mark
marks_of tokens = map mark_of_token (map token_view tokens)
