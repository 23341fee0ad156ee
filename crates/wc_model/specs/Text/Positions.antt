-- Where tokens stop inside a text: at the start of a line, in a line that is cut short, or on an opening line (the
-- profile's own).
use Rattle.std.specs.Prelude.{ℕ, List, [], ◌∷◌, Option}
use Rattle.wc_model.specs.Language.Tree.{Word, Term, Step, Lines, ProgramUnit}
use Rattle.wc_model.specs.Text.Marks.{Mark, ClosingBracket, LineEnd}
use Rattle.wc_model.specs.Text.Languages.{Language, empty, ◌then◌, ◌or◌, ◌given◌, optional, unfinished, started}
use Rattle.wc_model.specs.Text.Grammar.{symbol, operand, bracket, opening, instruction, Setting, InBody, InParentheses, MayOccur, label_in, HasContent, lines, head, unit_of, units}
use Rattle.wc_model.specs.declared.operator.Operator.{Operator}

-- a parenthesis that is open: the lines before it in its list, and its opening line
pub record Opening : Type 0 where
  pub before : Lines
  pub label : Option Word
  pub line : ℕ
  pub operator : Operator
  pub operand : Option Term

-- what follows these openings is in parentheses, if there are any
abbrev pub setting_in : List Opening → Setting
setting_in [] = InBody
setting_in (innermost ∷ outer) = InParentheses

-- a body's tokens up to the end of the innermost opening line
abbrev pub openings_of : List Opening → Language Mark
openings_of [] = empty
openings_of (innermost ∷ outer) =
    openings_of outer then lines (setting_in outer) innermost.before then label_in (setting_in outer) innermost.label
    then opening innermost.line innermost.operator innermost.operand

-- The start of a line in a body: the units before, the unit (of which its body does not count), the parentheses that are
-- open, innermost first, and the lines that are done in the innermost of them, or else in the body.
pub record Position : Type 0 where
  pub before : List ProgramUnit
  pub unit : ProgramUnit
  pub openings : List Opening
  pub done : Lines

-- whether lines here are in parentheses
abbrev pub setting_of : Position → Setting
setting_of p = setting_in p.openings

-- a text's tokens up to there
abbrev pub at_line : Position → Language Mark
at_line p = units p.before then head p.unit then openings_of p.openings then lines (setting_of p) p.done

-- up to there, and then the line's label if it has one
abbrev pub at_instruction : Position → Option Word → Language Mark
at_instruction p label = at_line p then label_in (setting_of p) label

-- a whole parenthesis up to its `)`, without the end of that line
abbrev pub closed : Setting → Language Mark
closed setting tokens =
    (label : Option Word) × (line close : ℕ) × (operator : Operator) × (x : Option Term) × (inside : Lines)
    × (label_in setting label then opening line operator x then lines InParentheses inside then symbol ClosingBracket given HasContent x inside) tokens

-- a line without parentheses of its own, before its end
abbrev pub cut_short : Setting → Language Mark
cut_short setting tokens =
    (label : Option Word) × (line : ℕ) × (step : Step)
    × (unfinished (label_in setting label then instruction line step then symbol LineEnd) given MayOccur setting step) tokens

-- a line that no parenthesis of its own is left open in, before its end
abbrev pub part_of_line : Setting → Language Mark
part_of_line setting = cut_short setting or closed setting

-- The tokens stop after whole units and in a further one: some of its tokens have come, and some have not.
abbrev pub StopsInUnit : ProgramUnit → List Mark → Type 0
StopsInUnit unit tokens = (before : List ProgramUnit) × (units before then started (unit_of unit)) tokens

-- a body's tokens that stop on an opening line, after its bracket
abbrev pub opening_cut_short : List Opening → Opening → Language Mark
opening_cut_short outer o =
    openings_of outer then lines (setting_in outer) o.before then label_in (setting_in outer) o.label
    then bracket o.line o.operator then unfinished (optional operand o.operand then symbol LineEnd)

-- a body's tokens that stop inside these openings, with no further parenthesis open
abbrev pub cut_short_inside : List Opening → Lines → Language Mark
cut_short_inside openings done = openings_of openings then lines InParentheses done then part_of_line InParentheses

-- The tokens stop in an operator's parentheses: on their opening line, or after it.
abbrev pub StopsInParentheses : Opening → List Mark → Type 0
StopsInParentheses innermost tokens =
    (before : List ProgramUnit) × (unit : ProgramUnit) × (outer : List Opening) × (done : Lines)
    × (units before then head unit then (opening_cut_short outer innermost or cut_short_inside (innermost ∷ outer) done)) tokens
