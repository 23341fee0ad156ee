-- What the reader's states in a text represent.
use Rattle.std.specs.Prelude.{◌≡◌, List, map, Option, option_map, Result, IfOk}
use Rattle.wc_laws_grammar.specs.Moves as moves
use Rattle.wc_laws_grammar.specs.Moves.{State}
use Rattle.wc_model.specs.Definitions.{ProgramUnit, Position, unit_view}
use Rattle.wc_model.specs.declared.source.Section.{Section}
use Rattle.wc_text_bodies.specs.Views.{IsCounted, position_view, declaring_view}
use Rattle.wc_text_bodies.specs.declared.bodies.Body.{Body}
use Rattle.wc_text_bodies.specs.declared.declarations.DeclarationState.TheVariants.{Undeclared}
use Rattle.wc_text_lines.specs.LineViews.{line_state_view}
use Rattle.wc_reader.specs.declared.text_state.TextState.{TextState}
use Rattle.wc_reader.specs.declared.text_state.TextState.TheVariants.{Outside, Unnamed, Declaring, InBody}
use Rattle.wc_reader.specs.declared.text_state.BodyPlace.{BodyPlace}
use Rattle.wc_reader.specs.declared.text_state.BodyPlace.TheVariants.{Within, InSection, AfterUnit}
use Rattle.wc_reader.specs.declared.text_state.LinePlace.{LinePlace}
use Rattle.wc_reader.specs.declared.text_state.LinePlace.TheVariants.{AtLine, OnLine, Closed}
use Rattle.wc_reader.specs.declared.text_state.Progress.{Progress}

-- how far a line of a body has been read
abbrev pub line_place_view : Position → LinePlace → State
line_place_view p AtLine = moves.AtLine p
line_place_view p (OnLine line) = moves.OnLine p (line_state_view line)
line_place_view p Closed = moves.Closed p

-- where a token of a body leads, with the body after it
abbrev pub place_view : Position → BodyPlace → State
place_view p (Within place) = line_place_view p place
place_view p (InSection section) = moves.Declaring p.before p.unit section moves.Undeclared
place_view p AfterUnit = moves.after_unit p

-- a token of a body leads, with the body after it, where the move from the body before it does
abbrev pub LeadsOn : {E : Type 0} → Body → Body → Result (Option BodyPlace) E → (Position → Option State) → Type 0
LeadsOn old new result moved = IfOk result (λ next. (units : List ProgramUnit) → option_map (place_view (position_view units new)) next ≡ moved (position_view units old))

-- how far a text has been read after these units
abbrev pub state_view : List ProgramUnit → TextState → State
state_view units Outside = moves.Outside units
state_view units (Unnamed kind line) = moves.Unnamed units kind line
state_view units (Declaring unit section state) = moves.Declaring units (unit_view unit) section (declaring_view state)
state_view units (InBody body place) = line_place_view (position_view units body) place

-- how far a text has been read
abbrev pub reading_view : Progress → State
reading_view reading = state_view (map unit_view reading.units.items) reading.state

-- the lines of the body that is read are counted
abbrev pub IsStateCounted : TextState → Type 0
IsStateCounted (InBody body place) = IsCounted body
IsStateCounted _ = Unit {0}

-- the state is in that section, before a declaration
abbrev pub IsUndeclared : TextState → Section → Type 0
IsUndeclared (Declaring unit section Undeclared) expected = section ≡ expected
IsUndeclared state expected = ⊥
