use Rattle.std.proofs.Common.{◌≡◌, ◌∙◌, ℕ, List, map, refl, ap, sym}
use Rattle.wc_laws_grammar.specs.Moves as moves
use Rattle.wc_laws_grammar.specs.Words.{literal_of}
use Rattle.wc_lexer.specs.Views.{shape_view}
use Rattle.wc_lexer.specs.declared.shape.Shape.{Shape}
use Rattle.wc_lexer.specs.declared.shape.Shape.TheVariants.{LineEnd}
use Rattle.wc_model.specs.Definitions.{ProgramUnit, Word, word_view, symbol_of}
use Rattle.wc_model.specs.declared.source.Section.{Section}
use Rattle.wc_text_bodies.proofs.declarations.at_value.Goals as goal

-- a token that is not a line end
value-other : (units : List ProgramUnit) (unit : ProgramUnit) (section : Section) (names : List Word) (type_name : Word) (line : ℕ) (shape : Shape) (bytes : List ℕ) → (shape ≡ LineEnd → ⊥)
    → moves.at_value units unit section names type_name line (literal_of (symbol_of (shape_view shape) bytes))
    ≡ moves.declaration_move units unit section (moves.AfterAssign names type_name) (symbol_of (shape_view shape) bytes) line
value-other units unit section names type_name line LineEnd bytes h = absurd (h refl)
value-other units unit section names type_name line shape bytes h = refl

pub returns-in_ok-value-in_default : goal.returns-in_ok-value-in_default
returns-in_ok-value-in_default c = λ units unit section.
    ap (moves.at_value units unit section (map word_view c.args.names.items) (word_view c.args.type_name) c.args.token.line) (sym c.in_ok-value-in_default.was ∙ c.literal.ensures)
    ∙ value-other units unit section (map word_view c.args.names.items) (word_view c.args.type_name) c.args.token.line c.args.token.shape c.args.token.text.now c.in_default.not-LineEnd

pub returns-in_err-value-in_default : goal.returns-in_err-value-in_default
returns-in_err-value-in_default c = λ units unit section.
    rw c.from_residual.ensures (ap (moves.at_value units unit section (map word_view c.args.names.items) (word_view c.args.type_name) c.args.token.line) (sym c.in_err-value-in_default.was ∙ c.literal.ensures)
    ∙ value-other units unit section (map word_view c.args.names.items) (word_view c.args.type_name) c.args.token.line c.args.token.shape c.args.token.text.now c.in_default.not-LineEnd)
