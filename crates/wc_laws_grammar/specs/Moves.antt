-- A walk over the tokens of a whole text, token by token: where they stop, the fault found at the next, and what they spell.
use Rattle.std.specs.Prelude.{ℕ, nat_le, Bool, true, false, not, ◌&&◌, List, [], ◌∷◌, ◌++◌, length, Option, Some, None, option_map, is_some, Result, Ok, Err, if◌then◌else◌}
use Rattle.std.specs.List.{list_any}
use Rattle.wc_laws_grammar.specs.LineMoves.{LineShape, LabelAlone, Instructs, Opens, OfOpening, LineState, Start, Labelled, Operated, Bracketed, BracketedWith, Named, Pointed, Ended, line_move}
use Rattle.wc_laws_grammar.specs.Words.{Applies, Operation, found, is_transfer, literal_of, operation_of, section_words, unit_kinds}
use Rattle.wc_model.specs.Definitions.{same_name, InBody, InParentheses, end_var, end_word, most_depth, most_lines, most_units, lines_before, Symbol, Identifier, ClosingBracket, OpeningBracket, Comma, Colon, Semicolon, Assign, LineEnd, Mark, Name, name_of, Opening, Position, setting_in, ReadingFault, UnexpectedToken, UnitNotClosed, NotOneProgramLast, EmptyParentheses, NotAllowedInParentheses, ParenthesisNotPaired, TooDeep, TooMany, Word, Term, Lines, End, Alone, Plain, Nested, ProgramUnit, Text}
use Rattle.wc_model.specs.declared.source.Initial.{Initial}
use Rattle.wc_model.specs.declared.source.Section.{Section}
use Rattle.wc_model.specs.declared.source.UnitKind.{UnitKind}
use Rattle.wc_model.specs.declared.source.UnitKind.TheVariants.{FunctionBlock, Program}
use Rattle.wc_model.specs.declared.value.Value.{Value}

-- where a declaration is: before it, after a name, a comma, the colon, the type, `:=`, or the value
pub data InDeclaration : Type 0 where
  Undeclared : InDeclaration
  AfterNames AfterComma AfterColon : (names : List Word) → InDeclaration
  AfterType AfterAssign : (names : List Word) (type_name : Word) → InDeclaration
  AfterValue : (names : List Word) (type_name : Word) (initial : Initial) → InDeclaration

-- How far the walk has come in a text. A unit's body does not count if the unit is not closed, and is kept empty.
pub data State : Type 0 where
  -- after whole units
  Outside : (units : List ProgramUnit) → State
  -- after a unit's first word
  Unnamed : (units : List ProgramUnit) (kind : UnitKind) (line : ℕ) → State
  -- in a section of declarations; the unit has the declarations so far
  Declaring : (units : List ProgramUnit) (unit : ProgramUnit) (section : Section) (place : InDeclaration) → State
  -- at the start of a line of a body
  AtLine : (position : Position) → State
  -- on a line that has started
  OnLine : (position : Position) (line : LineState) → State
  -- after a `)`, which the position counts as done
  Closed : (position : Position) → State

-- lines, and then others
abbrev pub lines_and : Lines → Lines → Lines
lines_and End others = others
lines_and (Alone label rest) others = Alone label (lines_and rest others)
lines_and (Plain label line step rest) others = Plain label line step (lines_and rest others)
lines_and (Nested label line operator operand inside close rest) others = Nested label line operator operand inside close (lines_and rest others)

-- whether there is no line
abbrev pub are_no_lines : Lines → Bool
are_no_lines End = true
are_no_lines _ = false

-- whether parentheses hold something
abbrev pub has_content : Option Term → Lines → Bool
has_content None End = false
has_content _ _ = true

-- the position after a line
abbrev pub after_line : Position → LineShape → Position
after_line p (LabelAlone label) = record p { done = lines_and p.done (Alone label End) }
after_line p (Instructs label line step) = record p { done = lines_and p.done (Plain label line step End) }
after_line p (Opens label line operator operand) =
    record p { openings = record { before = p.done; label = label; line = line; operator = operator; operand = operand } ∷ p.openings; done = End }

-- the position after the `)` of the innermost parenthesis
abbrev pub after_closing : Position → Opening → List Opening → ℕ → Position
after_closing p o outer close =
    record p { openings = outer; done = lines_and o.before (Nested o.label o.line o.operator o.operand p.done close End) }

-- after a line's token: on the line, or after its end
abbrev pub on_line : Position → LineState → State
on_line p (Ended line_shape) = AtLine (after_line p line_shape)
on_line p line = OnLine p line

-- the unit with its body
abbrev pub unit_with : ProgramUnit → Lines → ProgramUnit
unit_with unit body = record unit { body = body }

-- after a unit's last word
abbrev pub after_unit : Position → State
after_unit p = Outside (p.before ++ unit_with p.unit p.done ∷ [])

-- the start of a unit's body
abbrev pub body_start : List ProgramUnit → ProgramUnit → Position
body_start units unit = record { before = units; unit = unit; openings = []; done = End }

-- after a unit's name
abbrev pub named_unit : UnitKind → ℕ → ℕ → List ℕ → ProgramUnit
named_unit kind line name_line bytes =
    record { kind = kind; line = line; name = record { line = name_line; name = name_of bytes }; spelled = bytes; declarations = []; body = End }

-- after a declaration
abbrev pub with_declaration : ProgramUnit → Section → List Word → Word → Option Initial → ProgramUnit
with_declaration unit section names type_name initial =
    record unit { declarations = unit.declarations ++ record { section = section; names = names; type_name = type_name; initial = initial } ∷ [] }

-- after the first identifier of a declaration, or after END_VAR
abbrev pub at_first_name : List ProgramUnit → ProgramUnit → Section → Word → State
at_first_name units unit section word =
    if same_name word.name end_var then AtLine (body_start units unit) else Declaring units unit section (AfterNames (word ∷ []))

-- after the literal of a declaration
abbrev pub at_value : List ProgramUnit → ProgramUnit → Section → List Word → Word → ℕ → Option Value → Option State
at_value units unit section names type_name line None = None
at_value units unit section names type_name line (Some value) =
    Some (Declaring units unit section (AfterValue names type_name (record { value = value; line = line })))

-- after one more token of a section
abbrev pub declaration_move : List ProgramUnit → ProgramUnit → Section → InDeclaration → Symbol → ℕ → Option State
declaration_move units unit section place LineEnd line = Some (Declaring units unit section place)
declaration_move units unit section Undeclared (Identifier bytes) line =
    Some (at_first_name units unit section (record { line = line; name = name_of bytes }))
declaration_move units unit section (AfterNames names) Comma line = Some (Declaring units unit section (AfterComma names))
declaration_move units unit section (AfterNames names) Colon line = Some (Declaring units unit section (AfterColon names))
declaration_move units unit section (AfterComma names) (Identifier bytes) line =
    Some (Declaring units unit section (AfterNames (names ++ record { line = line; name = name_of bytes } ∷ [])))
declaration_move units unit section (AfterColon names) (Identifier bytes) line =
    Some (Declaring units unit section (AfterType names (record { line = line; name = name_of bytes })))
declaration_move units unit section (AfterType names type_name) Assign line = Some (Declaring units unit section (AfterAssign names type_name))
declaration_move units unit section (AfterType names type_name) Semicolon line =
    Some (Declaring units (with_declaration unit section names type_name None) section Undeclared)
declaration_move units unit section (AfterAssign names type_name) symbol line = at_value units unit section names type_name line (literal_of symbol)
declaration_move units unit section (AfterValue names type_name initial) Semicolon line =
    Some (Declaring units (with_declaration unit section names type_name (Some initial)) section Undeclared)
declaration_move units unit section place symbol line = None

-- after the first token of a line
abbrev pub started_line : Position → Option LineState → Option State
started_line p None = None
started_line p (Some line) = Some (on_line p line)

-- the section that an identifier begins, if no line of the body has come
abbrev pub section_of_word : Lines → Name → Option Section
section_of_word End name = found section_words name
section_of_word done name = None

-- after a section's first word, if the identifier is one, or else after a line's first identifier
abbrev pub section_or_line : Position → List ℕ → ℕ → Option Section → Option State
section_or_line p bytes line None = started_line p (line_move InBody Start (Identifier bytes) line false)
section_or_line p bytes line (Some section) = Some (Declaring p.before p.unit section Undeclared)

-- after an identifier at the start of a line of a body, which no colon follows
abbrev pub word_move : Position → List ℕ → ℕ → Option State
word_move p bytes line =
    if same_name (name_of bytes) (end_word p.unit.kind) then Some (after_unit p)
    else section_or_line p bytes line (section_of_word p.done (name_of bytes))

-- after the first token of a line of a body that is not a line end
abbrev pub body_move : Position → Symbol → ℕ → (colon : Bool) → Option State
body_move p (Identifier bytes) line false = word_move p bytes line
body_move p symbol line colon = started_line p (line_move InBody Start symbol line colon)

-- after a `)`, if the parenthesis holds something
abbrev pub closing_move : Position → Opening → List Opening → ℕ → Option State
closing_move p o outer line = if has_content o.operand p.done then Some (Closed (after_closing p o outer line)) else None

-- after the first token of a line in parentheses that is not a line end
abbrev pub inside_move : Position → Opening → List Opening → Symbol → ℕ → Option State
inside_move p o outer ClosingBracket line = closing_move p o outer line
inside_move p o outer symbol line = started_line p (line_move InParentheses Start symbol line false)

-- after the first token of a line that is not a line end
abbrev pub start_move : Position → List Opening → Symbol → ℕ → (colon : Bool) → Option State
start_move p [] symbol line colon = body_move p symbol line colon
start_move p (o ∷ outer) symbol line colon = inside_move p o outer symbol line

-- after one more token; none if no text goes on so
abbrev pub move : State → Symbol → ℕ → (colon : Bool) → Option State
move (Outside units) LineEnd line colon = Some (Outside units)
move (Outside units) (Identifier bytes) line colon = option_map (λ kind. Unnamed units kind line) (found unit_kinds (name_of bytes))
move (Unnamed units kind first) (Identifier bytes) line colon = Some (AtLine (body_start units (named_unit kind first line bytes)))
move (Declaring units unit section place) symbol line colon = declaration_move units unit section place symbol line
move (AtLine p) LineEnd line colon = Some (AtLine p)
move (AtLine p) symbol line colon = start_move p p.openings symbol line colon
move (OnLine p state) symbol line colon = started_line p (line_move (setting_in p.openings) state symbol line colon)
move (Closed p) LineEnd line colon = Some (AtLine p)
move _ symbol line colon = None

-- whether the next token is a colon
abbrev pub is_colon : Symbol → Bool
is_colon Colon = true
is_colon _ = false

-- whether a colon follows, given whether it does after all of the tokens
abbrev pub colon_next : List Mark → Bool → Bool
colon_next [] colon = colon
colon_next (mark ∷ marks) colon = is_colon mark.symbol

-- where some tokens lead, after which a colon follows or does not; none if no text has them
abbrev pub walk : State → List Mark → (colon : Bool) → Option State
walk state [] colon = Some state
walk state (mark ∷ marks) colon =
    elim (move state mark.symbol mark.line (colon_next marks colon)) as (λ _. Option State) [
      | None ↦ None
      | Some next ↦ walk next marks colon
    ]

-- a fault that is found, and the line that it names
pub record Raised : Type 0 where
  pub fault : ReadingFault
  pub line : ℕ

-- a fault if the test holds
abbrev pub fault_if : Bool → ReadingFault → ℕ → Option Raised
fault_if test fault line = if test then Some (record { fault = fault; line = line }) else None

-- the first of two that is found
abbrev pub first_fault : Option Raised → Option Raised → Option Raised
first_fault None other = other
first_fault (Some raised) other = Some raised

-- whether a unit is a program
abbrev pub is_program : UnitKind → Bool
is_program FunctionBlock = false
is_program Program = true

-- whether there is a program among the units
abbrev pub has_program : List ProgramUnit → Bool
has_program units = list_any (λ unit. is_program unit.kind) units

-- whether the unit has as many lines as it may
abbrev pub is_full : Position → Bool
is_full p = nat_le most_lines (lines_before p)

-- at a unit's first word: a program precedes it, or it is one too many
abbrev pub fault_at_unit : List ProgramUnit → ℕ → Option UnitKind → Option Raised
fault_at_unit units line None = None
fault_at_unit units line (Some kind) =
    first_fault (fault_if (has_program units) NotOneProgramLast line) (fault_if (nat_le most_units (length units)) TooMany line)

-- at a `)`
abbrev pub fault_at_closing : Position → List Opening → ℕ → Option Raised
fault_at_closing p [] line = fault_if true ParenthesisNotPaired line
fault_at_closing p (o ∷ outer) line = first_fault (fault_if (not (has_content o.operand p.done)) EmptyParentheses line) (fault_if (is_full p) TooMany line)

-- whether it is a jump, a call or a return
abbrev pub begins_transfer : Option Operation → Bool
begins_transfer None = false
begins_transfer (Some operation) = is_transfer operation

-- whether an identifier has this name
abbrev pub has_name : Symbol → Name → Bool
has_name (Identifier bytes) name = same_name (name_of bytes) name
has_name _ name = false

-- whether it is an identifier
abbrev pub is_identifier : Symbol → Bool
is_identifier (Identifier bytes) = true
is_identifier _ = false

-- at an operator if a unit has as many lines as it may
abbrev pub fault_at_operator : Position → Symbol → ℕ → (colon : Bool) → Option Raised
fault_at_operator p symbol line colon = fault_if (is_some (operation_of symbol) && not colon && is_full p) TooMany line

-- at the first token of a line, other than a `)`
abbrev pub fault_at_line : Position → List Opening → Symbol → ℕ → (colon : Bool) → Option Raised
fault_at_line p [] symbol line colon = fault_at_operator p symbol line colon
fault_at_line p (o ∷ outer) symbol line colon =
    first_fault (fault_if (begins_transfer (operation_of symbol)) NotAllowedInParentheses line)
    (first_fault (fault_if (is_identifier symbol && colon) NotAllowedInParentheses line)
    (first_fault (fault_if (has_name symbol (end_word p.unit.kind)) ParenthesisNotPaired o.line)
    (fault_at_operator p symbol line colon)))

-- on a line: an operator after a label, or a bracket after an operator
abbrev pub fault_on_line : Position → LineState → Symbol → ℕ → Option Raised
fault_on_line p (Labelled label) symbol line = fault_if (is_some (operation_of symbol) && is_full p) TooMany line
fault_on_line p (Operated started (Applies operator)) OpeningBracket line = fault_if (nat_le most_depth (length p.openings)) TooDeep started.line
fault_on_line p state symbol line = None

-- the fault that is found at a token, other than that it is unexpected
abbrev pub fault_at : State → Symbol → ℕ → (colon : Bool) → Option Raised
fault_at (Outside units) (Identifier bytes) line colon = fault_at_unit units line (found unit_kinds (name_of bytes))
fault_at (AtLine p) ClosingBracket line colon = fault_at_closing p p.openings line
fault_at (AtLine p) symbol line colon = fault_at_line p p.openings symbol line colon
fault_at (OnLine p state) symbol line colon = fault_on_line p state symbol line
fault_at _ symbol line colon = None

-- the line of the innermost parenthesis that is open, or the fault of a unit that is not closed
abbrev pub open_in : ProgramUnit → List Opening → Raised
open_in unit [] = record { fault = UnitNotClosed; line = unit.line }
open_in unit (o ∷ outer) = record { fault = ParenthesisNotPaired; line = o.line }

-- whose opening line a line is, or where the line is
abbrev pub open_on : Position → LineState → Raised
open_on p (Bracketed started operator) = record { fault = ParenthesisNotPaired; line = started.line }
open_on p (BracketedWith started operator operand) = record { fault = ParenthesisNotPaired; line = started.line }
open_on p (Named started (OfOpening operator) name) = record { fault = ParenthesisNotPaired; line = started.line }
open_on p (Pointed started (OfOpening operator) name) = record { fault = ParenthesisNotPaired; line = started.line }
open_on p state = open_in p.unit p.openings

-- the text, or the fault at its end
abbrev pub at_end : State → (last_line : ℕ) → Result Text Raised
at_end (Outside units) last_line = if has_program units then Ok units else Err (record { fault = NotOneProgramLast; line = last_line })
at_end (Unnamed units kind line) last_line = Err (record { fault = UnitNotClosed; line = line })
at_end (Declaring units unit section place) last_line = Err (record { fault = UnitNotClosed; line = unit.line })
at_end (AtLine p) last_line = Err (open_in p.unit p.openings)
at_end (OnLine p state) last_line = Err (open_on p state)
at_end (Closed p) last_line = Err (open_in p.unit p.openings)

-- the text that the tokens left complete, or the first fault in them
abbrev pub reading : State → List Mark → (last_line : ℕ) → Result Text Raised
reading state [] last_line = at_end state last_line
reading state (mark ∷ marks) last_line =
    elim (fault_at state mark.symbol mark.line (colon_next marks false)) as (λ _. Result Text Raised) [
      | Some raised ↦ Err raised
      | None ↦ elim (move state mark.symbol mark.line (colon_next marks false)) as (λ _. Result Text Raised) [
        | Some next ↦ reading next marks last_line
        | None ↦ Err (record { fault = UnexpectedToken; line = mark.line })
      ]
    ]

-- a whole text's tokens are read from here
abbrev pub at_first : State
at_first = Outside []
