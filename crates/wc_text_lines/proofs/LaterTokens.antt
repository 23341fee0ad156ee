-- A later token of a line, if it is none of those that have a case of their own.
use Rattle.std.proofs.Common.{◌≡◌, ℕ, Bool, List, refl}
use Rattle.wc_laws_grammar.specs.{AtValue, StartedLine, Formal, OpenCall, Named, OfArgument, OfOpening, OfStep, OperandOf, at_bracketed, at_list, at_operand, at_operated, after_name, line_move, Applies}
use Rattle.wc_lexer.specs.Views.{shape_view}
use Rattle.wc_lexer.specs.declared.shape.Shape.{Shape}
use Rattle.wc_lexer.specs.declared.shape.Shape.TheVariants.{LineEnd, Opening, Point}
use Rattle.wc_model.specs.Definitions.{Name, Setting, symbol_of}
use Rattle.wc_model.specs.declared.operator.Operator.{Operator}

-- after a deferrable operator, other than its bracket
pub applied-other : (started : StartedLine) (operator : Operator) (line : ℕ) (shape : Shape) (bytes : List ℕ) → (shape ≡ Opening → ⊥) → at_operated started (Applies operator) (symbol_of (shape_view shape) bytes) line ≡ at_operand started (OfStep (Applies operator)) (symbol_of (shape_view shape) bytes) line
applied-other started operator line Opening bytes h = absurd (h refl)
applied-other started operator line _ bytes h = refl

-- after an operator's bracket, other than a line end
pub bracketed-other : (started : StartedLine) (operator : Operator) (line : ℕ) (shape : Shape) (bytes : List ℕ) → (shape ≡ LineEnd → ⊥) → at_bracketed started operator (symbol_of (shape_view shape) bytes) line ≡ at_operand started (OfOpening operator) (symbol_of (shape_view shape) bytes) line
bracketed-other started operator line LineEnd bytes h = absurd (h refl)
bracketed-other started operator line _ bytes h = refl

-- after an input's `:=`, other than a line end
pub value-other : (started : StartedLine) (call : OpenCall) (input : Formal) (line : ℕ) (shape : Shape) (bytes : List ℕ) → (shape ≡ LineEnd → ⊥) → at_list started call (AtValue input) (symbol_of (shape_view shape) bytes) line ≡ at_operand started (OfArgument call input) (symbol_of (shape_view shape) bytes) line
value-other started call input line LineEnd bytes h = absurd (h refl)
value-other started call input line _ bytes h = refl

-- after a name, other than a point
pub named-other : (started : StartedLine) (owner : OperandOf) (name : Name) (setting : Setting) (line : ℕ) (colon : Bool) (shape : Shape) (bytes : List ℕ) → (shape ≡ Point → ⊥) → line_move setting (Named started owner name) (symbol_of (shape_view shape) bytes) line colon ≡ after_name started owner name (symbol_of (shape_view shape) bytes)
named-other started owner name setting line colon Point bytes h = absurd (h refl)
named-other started owner name setting line colon _ bytes h = refl
