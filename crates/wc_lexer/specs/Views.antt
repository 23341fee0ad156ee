-- What the lexer's shapes and tokens say, and what its functions say of a place in a text.
use Rattle.wc_model.specs.Text.Shapes as shapes
use Rattle.wc_model.specs.Text.Tokens as tokens
use Rattle.std.specs.Prelude.{ℕ, Bool, ◌&&◌, Result, Ok, Err, ◌≤◌, List, [], ◌∷◌, nat_le}
use Rattle.wc_laws_grammar.specs.Sights.{Sight, Pass, Take, Refuse, mark_reach}
use Rattle.wc_lexer.specs.declared.shape.Shape.{Shape}
use Rattle.wc_lexer.specs.declared.shape.Shape.TheVariants.{Identifier, Whole, Duration, Truth, Address, And, AndNot, Opening, Closing, Comma, Colon, Semicolon, Point, Assign, Arrow, LineEnd}
use Rattle.wc_lexer.specs.declared.shape.Token.{Token}
use Rattle.wc_lexer.specs.declared.element.LexicalElement.{LexicalElement}
use Rattle.wc_lexer.specs.declared.element.LexicalElement.TheVariants.{Space, Comment, Lexeme, Fault}

-- the shape that a value of the lexer represents
abbrev pub shape_view : Shape → shapes.Shape
shape_view Identifier = shapes.Identifier
shape_view (Whole value) = shapes.Whole value
shape_view (Duration milliseconds) = shapes.Duration milliseconds
shape_view (Truth value) = shapes.Truth value
shape_view Address = shapes.Address
shape_view And = shapes.And
shape_view AndNot = shapes.AndNot
shape_view Opening = shapes.Opening
shape_view Closing = shapes.Closing
shape_view Comma = shapes.Comma
shape_view Colon = shapes.Colon
shape_view Semicolon = shapes.Semicolon
shape_view Point = shapes.Point
shape_view Assign = shapes.Assign
shape_view Arrow = shapes.Arrow
shape_view LineEnd = shapes.LineEnd

-- the shape of a lexeme, or its fault's number
abbrev pub validation_view : Result Shape ℕ → Result shapes.Shape ℕ
validation_view (Ok shape) = Ok (shape_view shape)
validation_view (Err number) = Err number

-- the token that a token of the lexer represents
abbrev pub token_view : Token → tokens.Token
token_view token = record { shape = shape_view token.shape; text = token.text.now; start = token.start; line = token.line }

-- an identifier of that length, with single underscores or not, is a name
abbrev pub is_name_so : ℕ → Bool → Bool
is_name_so length has_single = nat_le length shapes.longest_name && has_single

-- the length of the mark that is here
abbrev pub mark_reach_of : List ℕ → ℕ
mark_reach_of [] = 0
mark_reach_of (b ∷ rest) = mark_reach b rest

-- what an element says of its place
abbrev pub sight_of : LexicalElement → Sight
sight_of Space = Pass 1
sight_of (Comment count) = Pass count
sight_of (Lexeme count shape) = Take count (shape_view shape)
sight_of (Fault number) = Refuse number

-- the element has at most n bytes
abbrev pub IsWithin : ℕ → LexicalElement → Type 0
IsWithin most Space = 1 ≤ most
IsWithin most (Comment count) = count ≤ most
IsWithin most (Lexeme count shape) = count ≤ most
IsWithin most (Fault number) = Unit {0}
