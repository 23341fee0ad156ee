-- A program comes last; so the tokens up to each state of the walk are a prefix of a text.
use Rattle.std.proofs.Common.{◌≡◌, ◌≢◌, ℕ, Bool, true, false, List, [], ◌∷◌, length, Option, Some, None, refl, subst, if◌then◌else◌, inl, inr}
use Rattle.std.specs.Prelude.{◌⊎◌, option_map, ◌||◌, nat_le}
use Rattle.wc_laws_grammar.proofs.Exits.{AreBlocks, Finishing, blocks_and, exits_closed, exits_line, exits_on, exits_unnamed, finishes_blocks, finishes_text, finishing_exit, program_last, section_exits}
use Rattle.wc_laws_grammar.specs.{LineShape, LabelAlone, Instructs, Opens, LineState, Start, Ended, line_move, State, Outside, Unnamed, Declaring, AtLine, OnLine, Closed, InDeclaration, Undeclared, AfterNames, AfterComma, AfterColon, AfterType, AfterAssign, AfterValue, Raised, at_value, started_line, after_closing, after_line, after_unit, body_move, body_start, declaration_move, has_content, has_program, is_program, fault_at, fault_at_unit, fault_if, first_fault, move, section_of_word, section_or_line, start_move, unit_with, found, literal_of, unit_kinds}
use Rattle.wc_laws_grammar.proofs.Reported.{Exact, Reported}
use Rattle.wc_laws_grammar.proofs.ReportedOn.{reported_after}
use Rattle.wc_model.specs.Definitions.{same_name, InBody, InParentheses, IsPrefix, IsProgramLast, end_var, end_word, ClosingBracket, Identifier, LineEnd, Mark, Symbol, Comma, Colon, Semicolon, Assign, name_of, Opening, Position, setting_in, NotOneProgramLast, TooMany, most_units, ProgramUnit, Word}
use Rattle.wc_model.specs.declared.source.Section.{Section}
use Rattle.wc_model.specs.declared.source.UnitKind.{UnitKind}
use Rattle.wc_model.specs.declared.source.UnitKind.TheVariants.{FunctionBlock, Program}
use Rattle.wc_model.specs.declared.value.Value.{Value}

-- a line that has started has not ended
abbrev pub IsOpen : LineState → Type 0
IsOpen (Ended line_shape) = ⊥
IsOpen _ = Unit {0}

-- blocks come before a unit, and whole units end with a program or have none
abbrev pub Ordered : State → Type 0
Ordered (Outside us) = AreBlocks us ⊎ IsProgramLast us
Ordered (Unnamed us kind line) = AreBlocks us
Ordered (Declaring us unit section place) = AreBlocks us
Ordered (AtLine p) = AreBlocks p.before
Ordered (OnLine p line) = AreBlocks p.before × IsOpen line
Ordered (Closed p) = AreBlocks p.before

-- the place after a token that is taken is in order
abbrev pub OrderedNext : Option State → Type 0
OrderedNext None = Unit {0}
OrderedNext (Some next) = Ordered next

block_is : (kind : UnitKind) → is_program kind ≡ false → kind ≡ FunctionBlock
block_is FunctionBlock e = refl
block_is Program e = absurd (cc)

neither : (a b : Bool) → (a || b) ≡ false → (a ≡ false) × (b ≡ false)
neither false b e = (refl, e)
neither true b e = absurd (cc)

-- with no program all are blocks
pub all_blocks : (us : List ProgramUnit) → has_program us ≡ false → AreBlocks us
all_blocks [] e = tt
all_blocks (unit ∷ us) e = let n = neither (is_program unit.kind) (has_program us) e in (block_is unit.kind n.0, all_blocks us n.1)

-- a unit's first word if no fault is detected
unit_ordered : (us : List ProgramUnit) (line : ℕ) (kind : Option UnitKind) → fault_at_unit us line kind ≡ None → OrderedNext (option_map (λ kind. Unnamed us kind line) kind)
unit_ordered us line None e = tt
unit_ordered us line (Some kind) e = all_blocks us (no_program (has_program us) (fault_if (nat_le most_units (length us)) TooMany line) e)
  where
    no_program : (b : Bool) (other : Option Raised) → first_fault (fault_if b NotOneProgramLast line) other ≡ None → b ≡ false
    no_program false other e = refl
    no_program true other e = absurd (cc)

value_ordered : (us : List ProgramUnit) (unit : ProgramUnit) (section : Section) (names : List Word) (type_name : Word) (line : ℕ) (value : Option Value) → AreBlocks us → OrderedNext (at_value us unit section names type_name line value)
value_ordered us unit section names type_name line None h = tt
value_ordered us unit section names type_name line (Some value) h = h

first_ordered : (us : List ProgramUnit) (unit : ProgramUnit) (section : Section) (word : Word) (b : Bool) → AreBlocks us → Ordered (if b then AtLine (body_start us unit) else Declaring us unit section (AfterNames (word ∷ [])))
first_ordered us unit section word true h = h
first_ordered us unit section word false h = h

section_ordered : (us : List ProgramUnit) (unit : ProgramUnit) (section : Section) (place : InDeclaration) (symbol : Symbol) (line : ℕ) → AreBlocks us → OrderedNext (declaration_move us unit section place symbol line)
section_ordered us unit section place LineEnd line h = h
section_ordered us unit section Undeclared (Identifier bytes) line h = first_ordered us unit section (record { line = line; name = name_of bytes }) (same_name (name_of bytes) end_var) h
section_ordered us unit section (AfterNames names) Comma line h = h
section_ordered us unit section (AfterNames names) Colon line h = h
section_ordered us unit section (AfterComma names) (Identifier bytes) line h = h
section_ordered us unit section (AfterColon names) (Identifier bytes) line h = h
section_ordered us unit section (AfterType names type_name) Assign line h = h
section_ordered us unit section (AfterType names type_name) Semicolon line h = h
section_ordered us unit section (AfterAssign names type_name) symbol line h = value_ordered us unit section names type_name line (literal_of symbol) h
section_ordered us unit section (AfterValue names type_name initial) Semicolon line h = h
section_ordered us unit section place symbol line h = tt

shape_ordered : (p : Position) (line_shape : LineShape) → AreBlocks p.before → AreBlocks (after_line p line_shape).before
shape_ordered p (LabelAlone label) h = h
shape_ordered p (Instructs label line step) h = h
shape_ordered p (Opens label line operator x) h = h

started_ordered : (p : Position) (next : Option LineState) → AreBlocks p.before → OrderedNext (started_line p next)
started_ordered p None h = tt
started_ordered p (Some (Ended line_shape)) h = shape_ordered p line_shape h
started_ordered p (Some line) h = (h, tt)

unit_end_ordered : (p : Position) (kind : UnitKind) → p.unit.kind ≡ kind → AreBlocks p.before → Ordered (after_unit p)
unit_end_ordered p FunctionBlock e h = inl (blocks_and p.before (unit_with p.unit p.done) h e)
unit_end_ordered p Program e h = inr (program_last p.before (unit_with p.unit p.done) h e)

section_or_line_ordered : (p : Position) (bytes : List ℕ) (line : ℕ) (section : Option Section) → AreBlocks p.before → OrderedNext (section_or_line p bytes line section)
section_or_line_ordered p bytes line None h = started_ordered p (line_move InBody Start (Identifier bytes) line false) h
section_or_line_ordered p bytes line (Some section) h = h

word_ordered : (p : Position) (bytes : List ℕ) (line : ℕ) (b : Bool) → AreBlocks p.before → OrderedNext (if b then Some (after_unit p) else section_or_line p bytes line (section_of_word p.done (name_of bytes)))
word_ordered p bytes line true h = unit_end_ordered p p.unit.kind refl h
word_ordered p bytes line false h = section_or_line_ordered p bytes line (section_of_word p.done (name_of bytes)) h

body_ordered : (p : Position) (symbol : Symbol) (line : ℕ) (colon : Bool) → AreBlocks p.before → OrderedNext (body_move p symbol line colon)
body_ordered p (Identifier bytes) line false h = word_ordered p bytes line (same_name (name_of bytes) (end_word p.unit.kind)) h
body_ordered p symbol line colon h = started_ordered p (line_move InBody Start symbol line colon) h

closing_ordered : (p : Position) (o : Opening) (outer : List Opening) (line : ℕ) (b : Bool) → AreBlocks p.before → OrderedNext (if b then Some (Closed (after_closing p o outer line)) else None)
closing_ordered p o outer line true h = h
closing_ordered p o outer line false h = tt

start_ordered : (p : Position) (openings : List Opening) (symbol : Symbol) (line : ℕ) (colon : Bool) → AreBlocks p.before → OrderedNext (start_move p openings symbol line colon)
start_ordered p [] symbol line colon h = body_ordered p symbol line colon h
start_ordered p (o ∷ outer) ClosingBracket line colon h = closing_ordered p o outer line (has_content o.operand p.done) h
start_ordered p (o ∷ outer) symbol line colon h = started_ordered p (line_move InParentheses Start symbol line false) h

-- a token that is taken without a fault keeps the order
pub ordered_on : (state : State) (symbol : Symbol) (line : ℕ) (colon : Bool) → Ordered state → fault_at state symbol line colon ≡ None → OrderedNext (move state symbol line colon)
ordered_on (Outside us) LineEnd line colon h e = h
ordered_on (Outside us) (Identifier bytes) line colon h e = unit_ordered us line (found unit_kinds (name_of bytes)) e
ordered_on (Unnamed us kind first) (Identifier bytes) line colon h e = h
ordered_on (Declaring us unit section place) symbol line colon h e = section_ordered us unit section place symbol line h
ordered_on (AtLine p) LineEnd line colon h e = h
ordered_on (AtLine p) symbol line colon h e = start_ordered p p.openings symbol line colon h
ordered_on (OnLine p state) symbol line colon h e = started_ordered p (line_move (setting_in p.openings) state symbol line colon) h.0
ordered_on (Closed p) LineEnd line colon h e = h
ordered_on _ symbol line colon h e = tt

-- what has not ended is not an end
pub open_is : (line : LineState) → IsOpen line → (line_shape : LineShape) → line ≢ Ended line_shape
open_is line h line_shape e = subst IsOpen e h

-- from each state of the walk a text is finished
pub finishing : (state : State) (tokens : List Mark) → Reported state tokens → Ordered state → Finishing state
finishing (Outside us) tokens h (inl o) = let f = finishes_blocks us o in record { more = f.more; text = f.text; leads = f.leads; order = f.order }
finishing (Outside us) tokens h (inr o) = let f = finishes_text us o in record { more = f.more; text = f.text; leads = f.leads; order = f.order }
finishing (Unnamed us kind line) tokens h o = finishing_exit (Unnamed us kind line) us _ o (exits_unnamed us kind line)
finishing (Declaring us unit section place) tokens h o = let x = section_exits us unit section place in finishing_exit (Declaring us unit section place) us x.unit' o x.exits
finishing (AtLine p) tokens h o = finishing_exit (AtLine p) p.before p.unit o (exits_line p)
finishing (OnLine p line) tokens h o = finishing_exit (OnLine p line) p.before p.unit o.0 (exits_on p line (λ e. subst (λ l. Exact (setting_in p.openings) l h.part) e h.exact) (open_is line o.1))
finishing (Closed p) tokens h o = finishing_exit (Closed p) p.before p.unit o (exits_closed p)

-- so the tokens up to there are a prefix
pub prefix : (state : State) (tokens : List Mark) → Reported state tokens → Ordered state → IsPrefix tokens
prefix state tokens h o = let f = finishing state tokens h o in (f.more, (f.text, record { spelled = reported_after state (Outside f.text) tokens f.more false h f.leads; order = f.order }))
