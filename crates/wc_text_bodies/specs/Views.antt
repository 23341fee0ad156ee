-- What the section and the body that are read represent, what is wrong with them, and what walks over their tokens come to.
use Rattle.wc_laws_grammar.specs.Moves as moves
use Rattle.wc_model.specs.Text.Positions as positions
use Rattle.std.specs.Prelude.{◌≡◌, List, Option, map, option_map, ◌==◌, min, [], ◌∷◌, length, ℕ, false, Some, None, Result, Err}
use Rattle.wc_laws_grammar.specs.Moves.{State, Raised, are_no_lines, at_end, colon_next, fault_at, move}
use Rattle.wc_model.specs.Definitions.{ProgramUnit, Text, unit_view, word_view, lines_view, term_view, lines_before, most_lines, Position, number_of, UnexpectedToken, Mark}
use Rattle.wc_lexer.specs.declared.shape.Token.{Token}
use Rattle.wc_model.specs.declared.source.Section.{Section}
use Rattle.wc_model.specs.declared.source.Unit.{Unit}
use Rattle.wc_text_lines.specs.Words.{symbol_view}
use Rattle.wc_model.specs.declared.fault.Fault.{Fault}
use Rattle.wc_model.specs.declared.fault.Fault.TheVariants.{Refused}
use Rattle.wc_text_bodies.specs.declared.declarations.DeclarationState.{DeclarationState}
use Rattle.wc_text_bodies.specs.declared.declarations.DeclarationState.TheVariants.{Undeclared, AfterNames, AfterComma, AfterColon, AfterType, AfterAssign, AfterValue}
use Rattle.wc_text_bodies.specs.declared.declarations.SectionPlace.{SectionPlace}
use Rattle.wc_text_bodies.specs.declared.declarations.SectionPlace.TheVariants.{WithinSection, AfterSection}
use Rattle.wc_text_bodies.specs.declared.bodies.Body.{Body}
use Rattle.wc_text_bodies.specs.declared.bodies.Opening.{Opening}

-- how far a declaration has been read
abbrev pub declaring_view : DeclarationState → moves.InDeclaration
declaring_view Undeclared = moves.Undeclared
declaring_view (AfterNames names) = moves.AfterNames (map word_view names.items)
declaring_view (AfterComma names) = moves.AfterComma (map word_view names.items)
declaring_view (AfterColon names) = moves.AfterColon (map word_view names.items)
declaring_view (AfterType names type_name) = moves.AfterType (map word_view names.items) (word_view type_name)
declaring_view (AfterAssign names type_name) = moves.AfterAssign (map word_view names.items) (word_view type_name)
declaring_view (AfterValue names type_name initial) = moves.AfterValue (map word_view names.items) (word_view type_name) initial

-- where a token of a section of the unit leads: on in it, or to the start of the body after it
abbrev pub section_view : List ProgramUnit → ProgramUnit → Section → SectionPlace → State
section_view units unit section (WithinSection state) = moves.Declaring units unit section (declaring_view state)
section_view units unit section AfterSection = moves.AtLine (moves.body_start units unit)

-- where the token leads from that place of a section, and what it makes of the unit
abbrev pub LeadsOn : Unit → Section → DeclarationState → Token → Unit → Option SectionPlace → Type 0
LeadsOn old section state token new next = (units : List ProgramUnit)
    → option_map (section_view units (unit_view new) section) next ≡ moves.declaration_move units (unit_view old) section (declaring_view state) (symbol_view token) token.line

-- where the token leads from that place of a section, whatever the unit is
abbrev pub Leads : DeclarationState → Token → Option SectionPlace → Type 0
Leads state token next = (units : List ProgramUnit) (unit : ProgramUnit) (section : Section)
    → option_map (section_view units unit section) next ≡ moves.declaration_move units unit section (declaring_view state) (symbol_view token) token.line

-- a fault as the library reports it
abbrev pub fault_of : Raised → Fault
fault_of raised = Refused (number_of raised.fault) raised.line

-- a parenthesis that is open
abbrev pub opening_view : Opening → positions.Opening
opening_view o = record {
  before = lines_view o.before.items;
  label = option_map word_view o.started.label;
  line = o.started.line;
  operator = o.operator;
  operand = option_map term_view o.operand;
}

-- parentheses that are open, which the reader has the innermost last: each goes before those that
-- it is in
abbrev pub openings_view : List positions.Opening → List Opening → List positions.Opening
openings_view outer [] = outer
openings_view outer (o ∷ inner) = openings_view (opening_view o ∷ outer) inner

-- how far a body has been read
abbrev pub position_view : List ProgramUnit → Body → Position
position_view units body = record {
  before = units;
  unit = unit_view body.unit;
  openings = openings_view [] body.openings.items;
  done = lines_view body.done.items;
}

-- the lines of a body are counted, as far as they may go, and if there is one, the tree has one
pub record IsCounted (body : Body) : Type 0 where
  pub count : body.count ≡ min (lines_before (position_view [] body)) most_lines
  pub seen : are_no_lines (lines_view body.done.items) ≡ (length body.done.items == 0)

-- The state at which a walk stops, and what it says there: the text, or what is found.
pub record Stopping : Type 0 where
  pub state : State
  pub reported : Result Text Raised

-- where the walk over the tokens left stops: at the state that refuses a token, or after the last one
abbrev pub walk : State → List Mark → (last_line : ℕ) → Stopping
walk state [] last_line = record { state = state; reported = at_end state last_line }
walk state (mark ∷ marks) last_line =
    elim (fault_at state mark.symbol mark.line (colon_next marks false)) as (λ _. Stopping) [
      | Some raised ↦ record { state = state; reported = Err raised }
      | None ↦ elim (move state mark.symbol mark.line (colon_next marks false)) as (λ _. Stopping) [
        | Some next ↦ walk next marks last_line
        | None ↦ record { state = state; reported = Err (record { fault = UnexpectedToken; line = mark.line }) }
      ]
    ]
