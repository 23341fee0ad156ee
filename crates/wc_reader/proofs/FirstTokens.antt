-- The first token of a line, if it is none of those that have a case of their own.
use Rattle.wc_model.proofs.Common.{◌≡◌, ℕ, Bool, true, false, List, [], ◌∷◌, Some, None, refl, ap, sym, ◌∙◌, slice_get}
use Rattle.wc_laws_grammar.specs.{Start, line_move, AtLine, started_line, body_move, inside_move, is_colon, colon_next, move, start_move, word_move}
use Rattle.wc_lexer.specs.Views.{shape_view}
use Rattle.wc_lexer.specs.declared.shape.Shape.{Shape}
use Rattle.wc_lexer.specs.declared.shape.Shape.TheVariants.{Identifier, Whole, Duration, Truth, Address, And, AndNot, Opening, Closing, Comma, Colon, LineEnd}
use Rattle.wc_lexer.specs.declared.shape.Token.{Token}
use Rattle.wc_model.specs.Definitions.{InBody, InParentheses, Position, symbol_of}
use Rattle.wc_model.specs.Text.Positions as positions
use Rattle.wc_text_lines.specs.Words.{marks_of}

-- at the start of a line, other than its end
pub line-other : (p : Position) (line : ℕ) (colon : Bool) (shape : Shape) (bytes : List ℕ) → (shape ≡ LineEnd → ⊥) → move (AtLine p) (symbol_of (shape_view shape) bytes) line colon ≡ start_move p p.openings (symbol_of (shape_view shape) bytes) line colon
line-other p line colon LineEnd bytes h = absurd (h refl)
line-other p line colon Identifier bytes h = refl
line-other p line colon (Whole value) bytes h = refl
line-other p line colon (Duration value) bytes h = refl
line-other p line colon (Truth value) bytes h = refl
line-other p line colon another bytes h = refl

-- in parentheses, other than a `)`
pub inside-other : (p : Position) (o : positions.Opening) (outer : List positions.Opening) (line : ℕ) (shape : Shape) (bytes : List ℕ) → (shape ≡ Closing → ⊥) → inside_move p o outer (symbol_of (shape_view shape) bytes) line ≡ started_line p (line_move InParentheses Start (symbol_of (shape_view shape) bytes) line false)
inside-other p o outer line Identifier bytes h = refl
inside-other p o outer line (Whole value) bytes h = refl
inside-other p o outer line (Duration value) bytes h = refl
inside-other p o outer line (Truth value) bytes h = refl
inside-other p o outer line Address bytes h = refl
inside-other p o outer line And bytes h = refl
inside-other p o outer line AndNot bytes h = refl
inside-other p o outer line Opening bytes h = refl
inside-other p o outer line Closing bytes h = absurd (h refl)
inside-other p o outer line Comma bytes h = refl
inside-other p o outer line another bytes h = refl

-- in a body, other than an identifier
pub body-other : (p : Position) (line : ℕ) (colon : Bool) (shape : Shape) (bytes : List ℕ) → (shape ≡ Identifier → ⊥) → body_move p (symbol_of (shape_view shape) bytes) line colon ≡ started_line p (line_move InBody Start (symbol_of (shape_view shape) bytes) line colon)
body-other p line colon Identifier bytes h = absurd (h refl)
body-other p line colon (Whole value) bytes h = refl
body-other p line colon another bytes h = refl

-- with a colon after it, whatever it is
pub body-colon : (p : Position) (line : ℕ) (shape : Shape) (bytes : List ℕ) → body_move p (symbol_of (shape_view shape) bytes) line true ≡ started_line p (line_move InBody Start (symbol_of (shape_view shape) bytes) line true)
body-colon p line Identifier bytes = refl
body-colon p line (Whole value) bytes = refl
body-colon p line (Duration value) bytes = refl
body-colon p line (Truth value) bytes = refl
body-colon p line another bytes = refl

-- an identifier with none
pub body-word : (p : Position) (line : ℕ) (shape : Shape) (bytes : List ℕ) → shape ≡ Identifier → body_move p (symbol_of (shape_view shape) bytes) line false ≡ word_move p bytes line
body-word p line shape bytes e = ap (λ s. body_move p (symbol_of (shape_view s) bytes) line false) e

-- whether a colon is first
is_colon-other : (shape : Shape) (bytes : List ℕ) → (shape ≡ Colon → ⊥) → false ≡ is_colon (symbol_of (shape_view shape) bytes)
is_colon-other Colon bytes h = absurd (h refl)
is_colon-other Identifier bytes h = refl
is_colon-other (Whole value) bytes h = refl
is_colon-other (Duration value) bytes h = refl
is_colon-other (Truth value) bytes h = refl
is_colon-other another bytes h = refl

pub colon_first : (tokens : List Token) (token : Token) → slice_get tokens 0 ≡ Some token → token.shape ≡ Colon → true ≡ colon_next (marks_of tokens) false
colon_first [] token e h = absurd (cc (e))
colon_first (t ∷ ts) token e h =
    let same : t ≡ token = cc (e) in
    let here : t.shape ≡ Colon = ap (λ u. u.shape) same ∙ h in
    ap (λ shape. is_colon (symbol_of (shape_view shape) t.text.now)) (sym here)

pub no_colon_first : (tokens : List Token) (token : Token) → slice_get tokens 0 ≡ Some token → (token.shape ≡ Colon → ⊥) → false ≡ colon_next (marks_of tokens) false
no_colon_first [] token e h = absurd (cc (e))
no_colon_first (t ∷ ts) token e h =
    let same : t ≡ token = cc (e) in
    is_colon-other t.shape t.text.now (λ here. h (ap (λ u. u.shape) (sym same) ∙ here))

pub nothing_first : (tokens : List Token) → slice_get tokens 0 ≡ None → false ≡ colon_next (marks_of tokens) false
nothing_first [] e = refl
nothing_first (t ∷ ts) e = absurd (cc (e))
