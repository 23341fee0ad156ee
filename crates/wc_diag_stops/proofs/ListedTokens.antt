-- What the sentence about an unexpected token lists, state by state.
use Rattle.std.proofs.Common.{◌≡◌, ◌⊎◌, inl, inr, ℕ, Bool, true, false, List, [], ◌∷◌, Option, Some, None, is_some, refl, length, option_map, subst}
use Rattle.std.specs.Prelude.{◌||◌, if◌then◌else◌, nat_le, not}
use Rattle.wc_laws_grammar.specs.{OfStep, OfOpening, OfArgument, AtFirst, AtNext, AtAssign, AtValue, AtEnd, LineState, Start, Worded, Labelled, Operated, Jumped, Called, Instanced, Listing, Bracketed, Named, Pointed, Stepped, BracketedWith, Ended, at_operator, at_start_in, after_operator, simple_operator, InDeclaration, Undeclared, AfterNames, AfterComma, AfterColon, AfterType, AfterAssign, AfterValue, State, Outside, Unnamed, Declaring, AtLine, OnLine, Closed, Raised, at_value, after_closing, after_unit, started_line, begins_transfer, closing_move, declaration_move, has_content, has_program, is_full, fault_at_closing, fault_at_line, fault_at_unit, fault_if, first_fault, section_of_word, section_or_line, start_move, word_move, move, Loads, Stores, Applies, Operation, found, is_transfer, literal_of, operation_of, unit_kinds}
use Rattle.wc_model.specs.Definitions.{same_name, name_of, ProgramUnit, Word, Setting, InBody, InParentheses, end_word, most_units, Symbol, Identifier, Ampersand, AmpersandN, ClosingBracket, LineEnd, Opening, Position, setting_in, EmptyParentheses, NotAllowedInParentheses, NotOneProgramLast, TooMany}
use Rattle.wc_model.specs.declared.source.Section.{Section}
use Rattle.wc_model.specs.declared.source.UnitKind.{UnitKind}
use Rattle.wc_model.specs.declared.value.Value.{Value}
use Rattle.wc_diag_stops.specs.Allowed.{allowed, allowed_at_line, allowed_in_declaration, allowed_on_line}
use Rattle.wc_diag_stops.specs.Listed.{IsStop, ListsAll, ListsNoOther, is_mark, is_unit_word, lists}
use Rattle.wc_diag_texts.specs.declared.expected.Expected.{Expected}
use Rattle.wc_diag_texts.specs.declared.expected.Expected.TheVariants as expected

-- a token is listed, or it is an end of a line
abbrev pub IsListed : Expected → Symbol → Type 0
IsListed there symbol = (symbol ≡ LineEnd) ⊎ (lists there symbol ≡ true)

-- a text goes on with each token that is listed, and with no other but an end of a line
abbrev agree : (end listed moves : Bool) → Bool
agree end true moves = moves
agree end false moves = not moves || end

abbrev Agrees : State → Symbol → ℕ → Bool → Type 0
Agrees state symbol line colon = agree (is_mark LineEnd symbol) (lists (allowed state) symbol) (is_some (move state symbol line colon)) ≡ true

-- so what it goes on with is listed, and the other way round
end_is : (symbol : Symbol) → is_mark LineEnd symbol ≡ true → symbol ≡ LineEnd
end_is LineEnd e = refl
end_is symbol e = absurd (cc (e))

listed_by : (symbol : Symbol) (there : Expected) (moved : Option State) (next : State) → agree (is_mark LineEnd symbol) (lists there symbol) (is_some moved) ≡ true → moved ≡ Some next → IsListed there symbol
listed_by symbol there None next a e = absurd (cc (e))
listed_by symbol there (Some state) next a e = by (lists there symbol) refl a
  where
    by : (listed : Bool) → lists there symbol ≡ listed → agree (is_mark LineEnd symbol) listed true ≡ true → IsListed there symbol
    by true is a = inr is
    by false is a = inl (end_is symbol a)

-- a literal of a declaration
valued : (units : List ProgramUnit) (unit : ProgramUnit) (section : Section) (names : List Word) (type_name : Word) (line : ℕ) (value : Option Value)
    → agree false (is_some value) (is_some (at_value units unit section names type_name line value)) ≡ true
valued units unit section names type_name line None = refl
valued units unit section names type_name line (Some value) = refl

in_declaration : (units : List ProgramUnit) (unit : ProgramUnit) (section : Section) (place : InDeclaration) (symbol : Symbol) (line : ℕ) (colon : Bool)
    → Agrees (Declaring units unit section place) symbol line colon
in_declaration units unit section Undeclared LineEnd line colon = refl
in_declaration units unit section Undeclared symbol line colon = refl
in_declaration units unit section (AfterNames names) LineEnd line colon = refl
in_declaration units unit section (AfterNames names) symbol line colon = refl
in_declaration units unit section (AfterComma names) LineEnd line colon = refl
in_declaration units unit section (AfterComma names) symbol line colon = refl
in_declaration units unit section (AfterColon names) LineEnd line colon = refl
in_declaration units unit section (AfterColon names) symbol line colon = refl
in_declaration units unit section (AfterType names type_name) LineEnd line colon = refl
in_declaration units unit section (AfterType names type_name) symbol line colon = refl
in_declaration units unit section (AfterAssign names type_name) (Identifier bytes) line colon = valued units unit section names type_name line (literal_of (Identifier bytes))
in_declaration units unit section (AfterAssign names type_name) symbol line colon = refl
in_declaration units unit section (AfterValue names type_name initial) LineEnd line colon = refl
in_declaration units unit section (AfterValue names type_name initial) symbol line colon = refl

-- an operator that has to be there
needed : (p : Position) (label : Option Word) (line : ℕ) (operation : Option Operation) → agree false (is_some operation || false) (is_some (started_line p (at_operator label line operation))) ≡ true
needed p label line None = refl
needed p label line (Some operation) = refl

on_line : (p : Position) (state : LineState) (symbol : Symbol) (line : ℕ) (colon : Bool) → IsStop (OnLine p state) → Agrees (OnLine p state) symbol line colon
on_line p Start symbol line colon stop = absurd stop
on_line p (Worded label) LineEnd line colon stop = refl
on_line p (Worded label) symbol line colon stop = refl
on_line p (Labelled label) (Identifier bytes) line colon stop = needed p (Some label) line (operation_of (Identifier bytes))
on_line p (Labelled label) symbol line colon stop = refl
on_line p (Operated started (Loads negated)) LineEnd line colon stop = refl
on_line p (Operated started (Loads negated)) symbol line colon stop = refl
on_line p (Operated started (Stores storing)) LineEnd line colon stop = refl
on_line p (Operated started (Stores storing)) symbol line colon stop = refl
on_line p (Operated started (Applies operator)) LineEnd line colon stop = refl
on_line p (Operated started (Applies operator)) symbol line colon stop = refl
on_line p (Jumped started condition) LineEnd line colon stop = refl
on_line p (Jumped started condition) symbol line colon stop = refl
on_line p (Called started condition) LineEnd line colon stop = refl
on_line p (Called started condition) symbol line colon stop = refl
on_line p (Instanced started condition instance) LineEnd line colon stop = refl
on_line p (Instanced started condition instance) symbol line colon stop = refl
on_line p (Listing started call AtFirst) LineEnd line colon stop = refl
on_line p (Listing started call AtFirst) symbol line colon stop = refl
on_line p (Listing started call AtNext) LineEnd line colon stop = refl
on_line p (Listing started call AtNext) symbol line colon stop = refl
on_line p (Listing started call (AtAssign name)) LineEnd line colon stop = refl
on_line p (Listing started call (AtAssign name)) symbol line colon stop = refl
on_line p (Listing started call (AtValue formal)) LineEnd line colon stop = refl
on_line p (Listing started call (AtValue formal)) symbol line colon stop = refl
on_line p (Listing started call AtEnd) LineEnd line colon stop = refl
on_line p (Listing started call AtEnd) symbol line colon stop = refl
on_line p (Bracketed started operator) LineEnd line colon stop = refl
on_line p (Bracketed started operator) symbol line colon stop = refl
on_line p (Named started (OfStep operating) name) LineEnd line colon stop = refl
on_line p (Named started (OfStep operating) name) symbol line colon stop = refl
on_line p (Named started (OfOpening operator) name) LineEnd line colon stop = refl
on_line p (Named started (OfOpening operator) name) symbol line colon stop = refl
on_line p (Named started (OfArgument call formal) name) LineEnd line colon stop = refl
on_line p (Named started (OfArgument call formal) name) symbol line colon stop = refl
on_line p (Pointed started (OfStep operating) name) LineEnd line colon stop = refl
on_line p (Pointed started (OfStep operating) name) symbol line colon stop = refl
on_line p (Pointed started (OfOpening operator) name) LineEnd line colon stop = refl
on_line p (Pointed started (OfOpening operator) name) symbol line colon stop = refl
on_line p (Pointed started (OfArgument call formal) name) LineEnd line colon stop = refl
on_line p (Pointed started (OfArgument call formal) name) symbol line colon stop = refl
on_line p (Stepped started step) LineEnd line colon stop = refl
on_line p (Stepped started step) symbol line colon stop = refl
on_line p (BracketedWith started operator operand) LineEnd line colon stop = refl
on_line p (BracketedWith started operator operand) symbol line colon stop = refl
on_line p (Ended line_shape) symbol line colon stop = absurd stop

start_is_listed : (p : Position) (setting : Setting) (symbol : Symbol) (line : ℕ) (colon : Bool) (next : State) → started_line p (at_start_in setting symbol line colon) ≡ Some next
    → IsListed expected.Instruction symbol
start_is_listed p setting (Identifier bytes) line colon next e = inr refl
start_is_listed p setting Ampersand line colon next e = inr refl
start_is_listed p setting AmpersandN line colon next e = inr refl
start_is_listed p InBody symbol line colon next e = absurd (cc (e))
start_is_listed p InParentheses symbol line colon next e = absurd (cc (e))

in_parentheses : (p : Position) (line : ℕ) (operation : Option Operation) (next : State) → started_line p (simple_operator line operation) ≡ Some next → (is_some operation || false) ≡ true
in_parentheses p line None next e = absurd (cc (e))
in_parentheses p line (Some operation) next e = refl

at_line : (p : Position) (openings : List Opening) (symbol : Symbol) (line : ℕ) (colon : Bool) (next : State) → start_move p openings symbol line colon ≡ Some next
    → IsListed (allowed_at_line openings) symbol
at_line p openings LineEnd line colon next e = inl refl
at_line p [] (Identifier bytes) line colon next e = inr refl
at_line p [] Ampersand line colon next e = inr refl
at_line p [] AmpersandN line colon next e = inr refl
at_line p [] symbol line colon next e = absurd (cc (e))
at_line p (o ∷ outer) ClosingBracket line colon next e = inr refl
at_line p (o ∷ outer) (Identifier bytes) line colon next e = inr (in_parentheses p line (operation_of (Identifier bytes)) next e)
at_line p (o ∷ outer) Ampersand line colon next e = inr refl
at_line p (o ∷ outer) AmpersandN line colon next e = inr refl
at_line p (o ∷ outer) symbol line colon next e = absurd (cc (e))

started_unit : (units : List ProgramUnit) (line : ℕ) (has : Bool) (kind : Option UnitKind) (next : State) → has_program units ≡ has → fault_at_unit units line kind ≡ None
    → option_map (λ k. Unnamed units k line) kind ≡ Some next → (has ≡ false) × (is_some kind ≡ true)
started_unit units line has None next h j e = absurd (cc (e))
started_unit units line true (Some kind) next h j e =
    absurd (cc (subst (λ b. first_fault (fault_if b NotOneProgramLast line) (fault_if (nat_le most_units (length units)) TooMany line) ≡ None) h j))
started_unit units line false (Some kind) next h j e = (refl, refl)

listed_unit : (has : Bool) (bytes : List ℕ) → (has ≡ false) × (is_some (found unit_kinds (name_of bytes)) ≡ true) → lists (if has then expected.Nothing else expected.UnitWord) (Identifier bytes) ≡ true
listed_unit true bytes k = absurd (cc (k.0))
listed_unit false bytes k = k.1

pub lists_all : ListsAll
lists_all (Outside units) next LineEnd line colon j e = inl refl
lists_all (Outside units) next (Identifier bytes) line colon j e =
    inr (listed_unit (has_program units) bytes (started_unit units line (has_program units) (found unit_kinds (name_of bytes)) next refl j e))
lists_all (Outside units) next symbol line colon j e = absurd (cc (e))
lists_all (Unnamed units kind first) next (Identifier bytes) line colon j e = inr refl
lists_all (Unnamed units kind first) next symbol line colon j e = absurd (cc (e))
lists_all (Declaring units unit section place) next symbol line colon j e =
    listed_by symbol (allowed_in_declaration place) (declaration_move units unit section place symbol line) next (in_declaration units unit section place symbol line colon) e
lists_all (AtLine p) next LineEnd line colon j e = inl refl
lists_all (AtLine p) next symbol line colon j e = at_line p p.openings symbol line colon next e
lists_all (OnLine p Start) next symbol line colon j e = start_is_listed p (setting_in p.openings) symbol line colon next e
lists_all (OnLine p (Ended line_shape)) next symbol line colon j e = absurd (cc (e))
lists_all (OnLine p state) next symbol line colon j e =
    listed_by symbol (allowed_on_line state) (move (OnLine p state) symbol line colon) next (on_line p state symbol line colon tt) e
lists_all (Closed p) next LineEnd line colon j e = inl refl
lists_all (Closed p) next symbol line colon j e = absurd (cc (e))

-- at the start of a line of a body each identifier is an operator, a label, or a word of the unit
section_on : (p : Position) (bytes : List ℕ) (line : ℕ) (section : Option Section) → is_some (section_or_line p bytes line section) ≡ true
section_on p bytes line None = refl
section_on p bytes line (Some section) = refl

word_on : (p : Position) (bytes : List ℕ) (line : ℕ) → is_some (word_move p bytes line) ≡ true
word_on p bytes line = by (same_name (name_of bytes) (end_word p.unit.kind))
  where
    by : (same : Bool) → is_some (if same then Some (after_unit p) else section_or_line p bytes line (section_of_word p.done (name_of bytes))) ≡ true
    by true = refl
    by false = section_on p bytes line (section_of_word p.done (name_of bytes))

abbrev pub IsExpected : Option Raised → Option State → Type 0
IsExpected detected moved = (is_some detected ≡ true) ⊎ (is_some moved ≡ true)

-- in parentheses a jump, a call or a return is refused by another rule
word_inside : (p : Position) (line : ℕ) (operation : Option Operation) (rest : Option Raised) → (is_some operation || false) ≡ true
    → IsExpected (first_fault (fault_if (begins_transfer operation) NotAllowedInParentheses line) rest) (started_line p (simple_operator line operation))
word_inside p line None rest e = absurd (cc (e))
word_inside p line (Some operation) rest e = by (is_transfer operation)
  where
    by : (transfer : Bool)
        → IsExpected (first_fault (fault_if transfer NotAllowedInParentheses line) rest) (started_line p (if transfer then None else Some (after_operator None line operation)))
    by true = inl refl
    by false = inr refl

closes : (p : Position) (o : Opening) (outer : List Opening) (line : ℕ) → IsExpected (fault_at_closing p (o ∷ outer) line) (closing_move p o outer line)
closes p o outer line = by (has_content o.operand p.done)
  where
    by : (content : Bool) → IsExpected (first_fault (fault_if (not content) EmptyParentheses line) (fault_if (is_full p) TooMany line)) (if content then Some (Closed (after_closing p o outer line)) else None)
    by true = inr refl
    by false = inl refl

closing : (p : Position) (openings : List Opening) (line : ℕ) (colon : Bool) → lists (allowed_at_line openings) ClosingBracket ≡ true
    → IsExpected (fault_at_closing p openings line) (start_move p openings ClosingBracket line colon)
closing p [] line colon e = absurd (cc (e))
closing p (o ∷ outer) line colon e = closes p o outer line

starts : (p : Position) (openings : List Opening) (symbol : Symbol) (line : ℕ) (colon : Bool) → is_mark ClosingBracket symbol ≡ false → lists (allowed_at_line openings) symbol ≡ true
    → IsExpected (fault_at_line p openings symbol line colon) (start_move p openings symbol line colon)
starts p [] (Identifier bytes) line true other e = inr refl
starts p [] (Identifier bytes) line false other e = inr (word_on p bytes line)
starts p [] Ampersand line colon other e = inr refl
starts p [] AmpersandN line colon other e = inr refl
starts p [] symbol line colon other e = absurd (cc (e))
starts p (o ∷ outer) (Identifier bytes) line colon other e = word_inside p line (operation_of (Identifier bytes)) _ e
starts p (o ∷ outer) Ampersand line colon other e = inr refl
starts p (o ∷ outer) AmpersandN line colon other e = inr refl
starts p (o ∷ outer) ClosingBracket line colon other e = absurd (cc (other))
starts p (o ∷ outer) symbol line colon other e = absurd (cc (e))

-- after whole units
unit_word : (has : Bool) (symbol : Symbol) → lists (if has then expected.Nothing else expected.UnitWord) symbol ≡ true → is_unit_word symbol ≡ true
unit_word true symbol e = absurd (cc (e))
unit_word false symbol e = e

unit_on : (units : List ProgramUnit) (line : ℕ) (kind : Option UnitKind) → is_some kind ≡ true → is_some (option_map (λ k. Unnamed units k line) kind) ≡ true
unit_on units line None e = absurd (cc (e))
unit_on units line (Some kind) e = refl

pub lists_no_other : ListsNoOther
lists_no_other (Outside units) LineEnd line colon stop e = inr refl
lists_no_other (Outside units) (Identifier bytes) line colon stop e =
    inr (unit_on units line (found unit_kinds (name_of bytes)) (unit_word (has_program units) (Identifier bytes) e))
lists_no_other (Outside units) symbol line colon stop e = absurd (cc (unit_word (has_program units) symbol e))
lists_no_other (Unnamed units kind first) (Identifier bytes) line colon stop e = inr refl
lists_no_other (Unnamed units kind first) symbol line colon stop e = absurd (cc (e))
lists_no_other (Declaring units unit section place) symbol line colon stop e = inr (rw e at (in_declaration units unit section place symbol line colon))
lists_no_other (AtLine p) LineEnd line colon stop e = inr refl
lists_no_other (AtLine p) ClosingBracket line colon stop e = closing p p.openings line colon e
lists_no_other (AtLine p) symbol line colon stop e = starts p p.openings symbol line colon refl e
lists_no_other (OnLine p state) symbol line colon stop e = inr (rw e at (on_line p state symbol line colon stop))
lists_no_other (Closed p) LineEnd line colon stop e = inr refl
lists_no_other (Closed p) symbol line colon stop e = absurd (cc (e))
