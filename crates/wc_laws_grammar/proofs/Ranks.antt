-- The walk never goes back: with each token the units so far, and the one that has started, grow or stay.
use Rattle.std.proofs.Common.{◌≡◌, ◌≤◌, ℕ, suc, ◌*◌, Bool, true, false, List, [], ◌∷◌, length, length-append, Option, Some, None, if◌then◌else◌, subst, arith}
use Rattle.std.specs.Prelude.{option_map}
use Rattle.wc_laws_grammar.proofs.WalkedLines.{walk_on}
use Rattle.wc_laws_grammar.specs.{LineShape, LabelAlone, Instructs, Opens, LineState, Start, Ended, line_move, InDeclaration, Undeclared, AfterNames, AfterComma, AfterColon, AfterType, AfterAssign, AfterValue, State, Outside, Unnamed, Declaring, AtLine, OnLine, Closed, at_value, started_line, after_closing, after_line, after_unit, body_move, body_start, colon_next, declaration_move, has_content, move, section_of_word, section_or_line, start_move, unit_with, walk, found, literal_of, unit_kinds}
use Rattle.wc_model.specs.Definitions.{same_name, name_of, ProgramUnit, Word, InBody, InParentheses, end_var, end_word, Mark, Symbol, Identifier, ClosingBracket, Comma, Colon, Semicolon, Assign, LineEnd, Opening, Position, setting_in}
use Rattle.wc_model.specs.declared.source.Section.{Section}
use Rattle.wc_model.specs.declared.source.UnitKind.{UnitKind}
use Rattle.wc_model.specs.declared.value.Value.{Value}

-- twice the whole units, and one for a unit that has started
abbrev pub rank : State → ℕ
rank (Outside us) = 2 * length us
rank (Unnamed us kind line) = suc (2 * length us)
rank (Declaring us unit section place) = suc (2 * length us)
rank (AtLine p) = suc (2 * length p.before)
rank (OnLine p line) = suc (2 * length p.before)
rank (Closed p) = suc (2 * length p.before)

-- if it goes on, it is no lower
abbrev pub Rises : ℕ → Option State → Type 0
Rises least None = Unit {0}
Rises least (Some next) = least ≤ rank next

unit_rises : (us : List ProgramUnit) (line : ℕ) (kind : Option UnitKind) → Rises (2 * length us) (option_map (λ kind. Unnamed us kind line) kind)
unit_rises us line None = tt
unit_rises us line (Some kind) = omega arith

value_rises : (us : List ProgramUnit) (unit : ProgramUnit) (section : Section) (names : List Word) (type_name : Word) (line : ℕ) (value : Option Value) → Rises (suc (2 * length us)) (at_value us unit section names type_name line value)
value_rises us unit section names type_name line None = tt
value_rises us unit section names type_name line (Some value) = omega arith

first_rises : (us : List ProgramUnit) (unit : ProgramUnit) (section : Section) (word : Word) (b : Bool) → suc (2 * length us) ≤ rank (if b then AtLine (body_start us unit) else Declaring us unit section (AfterNames (word ∷ [])))
first_rises us unit section word true = omega arith
first_rises us unit section word false = omega arith

section_rises : (us : List ProgramUnit) (unit : ProgramUnit) (section : Section) (place : InDeclaration) (symbol : Symbol) (line : ℕ) → Rises (suc (2 * length us)) (declaration_move us unit section place symbol line)
section_rises us unit section place LineEnd line = omega arith
section_rises us unit section Undeclared (Identifier bytes) line = first_rises us unit section (record { line = line; name = name_of bytes }) (same_name (name_of bytes) end_var)
section_rises us unit section (AfterNames names) Comma line = omega arith
section_rises us unit section (AfterNames names) Colon line = omega arith
section_rises us unit section (AfterComma names) (Identifier bytes) line = omega arith
section_rises us unit section (AfterColon names) (Identifier bytes) line = omega arith
section_rises us unit section (AfterType names type_name) Assign line = omega arith
section_rises us unit section (AfterType names type_name) Semicolon line = omega arith
section_rises us unit section (AfterAssign names type_name) symbol line = value_rises us unit section names type_name line (literal_of symbol)
section_rises us unit section (AfterValue names type_name initial) Semicolon line = omega arith
section_rises us unit section place symbol line = tt

shape_rises : (p : Position) (line_shape : LineShape) → suc (2 * length p.before) ≤ rank (AtLine (after_line p line_shape))
shape_rises p (LabelAlone label) = omega arith
shape_rises p (Instructs label line step) = omega arith
shape_rises p (Opens label line operator x) = omega arith

started_rises : (p : Position) (next : Option LineState) → Rises (suc (2 * length p.before)) (started_line p next)
started_rises p None = tt
started_rises p (Some (Ended line_shape)) = shape_rises p line_shape
started_rises p (Some line) = omega arith

section_or_line_rises : (p : Position) (bytes : List ℕ) (line : ℕ) (section : Option Section) → Rises (suc (2 * length p.before)) (section_or_line p bytes line section)
section_or_line_rises p bytes line None = started_rises p (line_move InBody Start (Identifier bytes) line false)
section_or_line_rises p bytes line (Some section) = omega arith

word_rises : (p : Position) (bytes : List ℕ) (line : ℕ) (b : Bool) → Rises (suc (2 * length p.before)) (if b then Some (after_unit p) else section_or_line p bytes line (section_of_word p.done (name_of bytes)))
word_rises p bytes line true = let one = length-append p.before (unit_with p.unit p.done ∷ []) in omega (arith, one)
word_rises p bytes line false = section_or_line_rises p bytes line (section_of_word p.done (name_of bytes))

body_rises : (p : Position) (symbol : Symbol) (line : ℕ) (colon : Bool) → Rises (suc (2 * length p.before)) (body_move p symbol line colon)
body_rises p (Identifier bytes) line false = word_rises p bytes line (same_name (name_of bytes) (end_word p.unit.kind))
body_rises p symbol line colon = started_rises p (line_move InBody Start symbol line colon)

closing_rises : (p : Position) (o : Opening) (outer : List Opening) (line : ℕ) (b : Bool) → Rises (suc (2 * length p.before)) (if b then Some (Closed (after_closing p o outer line)) else None)
closing_rises p o outer line true = omega arith
closing_rises p o outer line false = tt

start_rises : (p : Position) (openings : List Opening) (symbol : Symbol) (line : ℕ) (colon : Bool) → Rises (suc (2 * length p.before)) (start_move p openings symbol line colon)
start_rises p [] symbol line colon = body_rises p symbol line colon
start_rises p (o ∷ outer) ClosingBracket line colon = closing_rises p o outer line (has_content o.operand p.done)
start_rises p (o ∷ outer) symbol line colon = started_rises p (line_move InParentheses Start symbol line false)

-- one more token
rises : (state : State) (symbol : Symbol) (line : ℕ) (colon : Bool) → Rises (rank state) (move state symbol line colon)
rises (Outside us) LineEnd line colon = omega arith
rises (Outside us) (Identifier bytes) line colon = unit_rises us line (found unit_kinds (name_of bytes))
rises (Unnamed us kind first) (Identifier bytes) line colon = omega arith
rises (Declaring us unit section place) symbol line colon = section_rises us unit section place symbol line
rises (AtLine p) LineEnd line colon = omega arith
rises (AtLine p) symbol line colon = start_rises p p.openings symbol line colon
rises (OnLine p state) symbol line colon = started_rises p (line_move (setting_in p.openings) state symbol line colon)
rises (Closed p) LineEnd line colon = omega arith
rises _ symbol line colon = tt

-- some more tokens
pub walk_rises : (state end : State) (tokens : List Mark) (colon : Bool) → walk state tokens colon ≡ Some end → rank state ≤ rank end
walk_rises state end [] colon e = let same : state ≡ end = cc in subst (λ s. rank state ≤ rank s) same (omega arith)
walk_rises state end (mark ∷ marks) colon e =
    elim (move state mark.symbol mark.line (colon_next marks colon)) as (λ o. Rises (rank state) o → walk_on o marks colon ≡ Some end → rank state ≤ rank end) [
      | None ↦ λ r e. absurd (cc)
      | Some next ↦ λ r e. let further = walk_rises next end marks colon e in omega (arith, r, further)
    ] (rises state mark.symbol mark.line (colon_next marks colon)) e
