-- The limits hold along the walk if no fault is detected.
use Rattle.std.proofs.Common.{◌≡◌, ◌≢◌, ◌≤◌, ℕ, suc, Bool, true, false, List, [], ◌∷◌, ◌++◌, length, Option, Some, None, refl, ap, subst, if◌then◌else◌, ◌∙◌, sym, inl, inr, arith, ◌⊎◌, not}
use Rattle.wc_model.proofs.Common.{nat_tests, AllByRecursion}
use Rattle.std.proofs.lemmas.List.{length-append}
use Rattle.std.specs.Prelude.{◌&&◌, is_some, nat_le, option_map}
use Rattle.wc_laws_grammar.proofs.Bounds.{HasCapacity, IsDeepEnough, Within, closed_within, counted, opened}
use Rattle.wc_laws_grammar.proofs.LineBounds.{CountsOnce, Fits, IsSteady, WithinNext, fits_by, fits_on, labelled_once, operated_counts, simple_once, start_once, steady}
use Rattle.wc_laws_grammar.specs.{StartedLine, LineState, Start, Worded, Labelled, Operated, at_labelled, at_operated, at_operator, at_start, after_operator, line_move, simple_operator, InDeclaration, Undeclared, AfterNames, AfterComma, AfterColon, AfterType, AfterAssign, AfterValue, State, Outside, Unnamed, Declaring, AtLine, OnLine, Closed, Raised, at_value, begins_transfer, started_line, after_closing, after_unit, body_move, body_start, declaration_move, has_content, has_name, has_program, inside_move, is_full, is_identifier, fault_at, fault_at_closing, fault_at_line, fault_on_line, fault_at_operator, fault_at_unit, fault_if, first_fault, move, named_unit, section_of_word, section_or_line, start_move, unit_with, Applies, OperandOperator, Loads, Stores, Operation, Operates, Negates, Jumps, Calls, Returns, found, is_transfer, literal_of, operation_of, unit_kinds}
use Rattle.wc_model.specs.Definitions.{same_name, end_var, end_word, IsBodyWithinLimits, lines_before, lines_opened, most_depth, most_lines, most_units, Symbol, Identifier, ClosingBracket, OpeningBracket, Colon, Comma, Semicolon, Assign, LineEnd, name_of, Opening, Position, setting_in, NotAllowedInParentheses, NotOneProgramLast, ReadingFault, TooDeep, TooMany, EmptyParentheses, ParenthesisNotPaired, ProgramUnit, Word}
use Rattle.wc_model.specs.declared.source.Section.{Section}
use Rattle.wc_model.specs.declared.source.UnitKind.{UnitKind}
use Rattle.wc_model.specs.declared.value.Value.{Value}

-- no colon goes on from here
abbrev pub RejectsColon : Option State → Type 0
RejectsColon None = Unit {0}
RejectsColon (Some state) = (line : ℕ) (colon : Bool) → (move state Colon line colon ≡ None) × (fault_at state Colon line colon ≡ None)

-- the limits hold after the token, or a colon follows, with which no text goes on
abbrev pub GoesWithin : (colon : Bool) → Option State → Type 0
GoesWithin colon next = WithinNext next ⊎ ((colon ≡ true) × RejectsColon next)

-- neither of the two tests holds
pub none_of_both : (a b : Option Raised) → first_fault a b ≡ None → (a ≡ None) × (b ≡ None)
none_of_both None b e = (refl, e)
none_of_both (Some raised) b e = absurd (cc)

pub test_fails : (test : Bool) (fault : ReadingFault) (line : ℕ) → fault_if test fault line ≡ None → test ≡ false
test_fails false fault line e = refl
test_fails true fault line e = absurd (cc)

-- a number that does not reach the other is below it
pub below : (a b : ℕ) → nat_le a b ≡ false → suc b ≤ a
below a b e = grind (arith, nat_tests, e)

unit_within : (us : List ProgramUnit) (line : ℕ) (kind : Option UnitKind) → fault_at_unit us line kind ≡ None → Within (Outside us) → WithinNext (option_map (λ kind. Unnamed us kind line) kind)
unit_within us line None e h = tt
unit_within us line (Some kind) e h =
    let n = none_of_both (fault_if (has_program us) NotOneProgramLast line) (fault_if (nat_le most_units (length us)) TooMany line) e in
    (below most_units (length us) (test_fails (nat_le most_units (length us)) TooMany line n.1), h.1)

-- the start of a body
start_within : (us : List ProgramUnit) (unit : ProgramUnit) → HasCapacity us → Within (AtLine (body_start us unit))
start_within us unit h = (h, omega arith, omega arith, omega arith)

value_within : (us : List ProgramUnit) (unit : ProgramUnit) (section : Section) (names : List Word) (type_name : Word) (line : ℕ) (value : Option Value) → HasCapacity us → WithinNext (at_value us unit section names type_name line value)
value_within us unit section names type_name line None h = tt
value_within us unit section names type_name line (Some value) h = h

first_within : (us : List ProgramUnit) (unit : ProgramUnit) (section : Section) (word : Word) (b : Bool) → HasCapacity us → Within (if b then AtLine (body_start us unit) else Declaring us unit section (AfterNames (word ∷ [])))
first_within us unit section word true h = start_within us unit h
first_within us unit section word false h = h

section_within : (us : List ProgramUnit) (unit : ProgramUnit) (section : Section) (place : InDeclaration) (symbol : Symbol) (line : ℕ) → HasCapacity us → WithinNext (declaration_move us unit section place symbol line)
section_within us unit section place LineEnd line h = h
section_within us unit section Undeclared (Identifier bytes) line h = first_within us unit section (record { line = line; name = name_of bytes }) (same_name (name_of bytes) end_var) h
section_within us unit section (AfterNames names) Comma line h = h
section_within us unit section (AfterNames names) Colon line h = h
section_within us unit section (AfterComma names) (Identifier bytes) line h = h
section_within us unit section (AfterColon names) (Identifier bytes) line h = h
section_within us unit section (AfterType names type_name) Assign line h = h
section_within us unit section (AfterType names type_name) Semicolon line h = h
section_within us unit section (AfterAssign names type_name) symbol line h = value_within us unit section names type_name line (literal_of symbol) h
section_within us unit section (AfterValue names type_name initial) Semicolon line h = h
section_within us unit section place symbol line h = tt

-- one body more
bodies_and : (us : List ProgramUnit) (unit : ProgramUnit) → AllByRecursion IsBodyWithinLimits us → IsBodyWithinLimits unit → AllByRecursion IsBodyWithinLimits (us ++ unit ∷ [])
bodies_and [] unit h b = (b, tt)
bodies_and (first ∷ us) unit h b = (h.0, bodies_and us unit h.1 b)

unit_done_within : (p : Position) → p.openings ≡ [] → Within (AtLine p) → Within (after_unit p)
unit_done_within p e h =
    let l = ap lines_opened e in
    let n = length-append p.before (unit_with p.unit p.done ∷ []) in
    (omega (arith, n, h.0.0), bodies_and p.before (unit_with p.unit p.done) h.0.1 (record { lines = omega (arith, l, h.1); depth_of_body = subst (λ os. IsDeepEnough os p.done) e h.2 }))

-- a line that counts at its operator alone
once_within : (p : Position) (symbol : Symbol) (line : ℕ) (next : Option LineState) → CountsOnce symbol next → Within (AtLine p) → (is_some (operation_of symbol) ≡ true → is_full p ≡ false) → WithinNext (started_line p next)
once_within p symbol line next c h f = fits_on p next (fits next c)
  where
    fits : (next : Option LineState) → CountsOnce symbol next → Fits p next
    fits None c = tt
    fits (Some state) c = elim c.1 [
      | inl n ↦ (h.0, omega (arith, n, h.1), h.2, omega (arith, c.0, h.3))
      | inr n ↦ let b = below most_lines (lines_before p) (f n.1) in (h.0, omega (arith, n.0, b), h.2, omega (arith, c.0, h.3))
    ]

-- an operator is checked if no colon follows it
not_full : (p : Position) (symbol : Symbol) (line : ℕ) → fault_at_operator p symbol line false ≡ None → is_some (operation_of symbol) ≡ true → is_full p ≡ false
not_full p symbol line e s =
    let t = test_fails (is_some (operation_of symbol) && not false && is_full p) TooMany line e in
    sym (ap (λ b. b && not false && is_full p) s) ∙ t

-- no colon goes on after an operator
operator_rejects : (p : Position) (label : Option Word) (line : ℕ) (operation : Operation) → RejectsColon (started_line p (Some (after_operator label line operation)))
operator_rejects p label line (Operates (Loads negated)) = λ n c. (refl, refl)
operator_rejects p label line (Operates (Stores storing)) = λ n c. (refl, refl)
operator_rejects p label line (Operates (Applies operator)) = λ n c. (refl, refl)
operator_rejects p label line Negates = λ n c. (refl, refl)
operator_rejects p label line (Jumps condition) = λ n c. (refl, refl)
operator_rejects p label line (Calls condition) = λ n c. (refl, refl)
operator_rejects p label line (Returns condition) = λ n c. (refl, refl)

pub at_operator_rejects : (p : Position) (label : Option Word) (line : ℕ) (operation : Option Operation) → RejectsColon (started_line p (at_operator label line operation))
at_operator_rejects p label line None = tt
at_operator_rejects p label line (Some operation) = operator_rejects p label line operation

pub simple_rejects : (p : Position) (line : ℕ) (operation : Option Operation) → RejectsColon (started_line p (simple_operator line operation))
simple_rejects p line None = tt
simple_rejects p line (Some operation) = by_transfer (is_transfer operation)
  where
    by_transfer : (b : Bool) → RejectsColon (started_line p (if b then None else Some (after_operator None line operation)))
    by_transfer true = tt
    by_transfer false = operator_rejects p None line operation

-- a label's word
word_within : (p : Position) (word : Word) → Within (AtLine p) → Within (OnLine p (Worded word))
word_within p word h = (h.0, h.1, h.2, h.3)

section_or_line_within : (p : Position) (bytes : List ℕ) (line : ℕ) (section : Option Section) → fault_at_operator p (Identifier bytes) line false ≡ None → Within (AtLine p) → WithinNext (section_or_line p bytes line section)
section_or_line_within p bytes line None e h = once_within p (Identifier bytes) line (at_start (Identifier bytes) line false) (start_once (Identifier bytes) line) h (not_full p (Identifier bytes) line e)
section_or_line_within p bytes line (Some section) e h = h.0

end_or_line_within : (p : Position) (bytes : List ℕ) (line : ℕ) (b : Bool) → p.openings ≡ [] → fault_at_operator p (Identifier bytes) line false ≡ None → Within (AtLine p)
    → WithinNext (if b then Some (after_unit p) else section_or_line p bytes line (section_of_word p.done (name_of bytes)))
end_or_line_within p bytes line true o e h = unit_done_within p o h
end_or_line_within p bytes line false o e h = section_or_line_within p bytes line (section_of_word p.done (name_of bytes)) e h

body_within : (p : Position) (symbol : Symbol) (line : ℕ) (colon : Bool) → p.openings ≡ [] → fault_at_operator p symbol line colon ≡ None → Within (AtLine p) → GoesWithin colon (body_move p symbol line colon)
body_within p (Identifier bytes) line false o e h = inl (end_or_line_within p bytes line (same_name (name_of bytes) (end_word p.unit.kind)) o e h)
body_within p (Identifier bytes) line true o e h = inl (word_within p (record { line = line; name = name_of bytes }) h)
body_within p symbol line false o e h = inl (once_within p symbol line (at_start symbol line false) (start_once symbol line) h (not_full p symbol line e))
body_within p symbol line true o e h = inr (refl, at_operator_rejects p None line (operation_of symbol))

closing_goes : (p : Position) (o : Opening) (outer : List Opening) (line : ℕ) (b : Bool) → p.openings ≡ o ∷ outer → is_full p ≡ false → Within (AtLine p) → WithinNext (if b then Some (Closed (after_closing p o outer line)) else None)
closing_goes p o outer line false e f h = tt
closing_goes p o outer line true e f h = let b = below most_lines (lines_before p) f in closed_within p o outer line e (h.0, omega (arith, b), h.2, h.3)

inside_within : (p : Position) (o : Opening) (outer : List Opening) (symbol : Symbol) (line : ℕ) (colon : Bool) → p.openings ≡ o ∷ outer → fault_at (AtLine p) symbol line colon ≡ None → Within (AtLine p) → GoesWithin colon (inside_move p o outer symbol line)
inside_within p o outer ClosingBracket line colon e j h =
    let k : fault_at_closing p (o ∷ outer) line ≡ None = subst (λ os. fault_at_closing p os line ≡ None) e j in
    let n = none_of_both (fault_if (not (has_content o.operand p.done)) EmptyParentheses line) (fault_if (is_full p) TooMany line) k in
    inl (closing_goes p o outer line (has_content o.operand p.done) e (test_fails (is_full p) TooMany line n.1) h)
inside_within p o outer symbol line true e j h = inr (refl, simple_rejects p line (operation_of symbol))
inside_within p o outer symbol line false e j h =
    let k : fault_at_line p (o ∷ outer) symbol line false ≡ None = subst (λ os. fault_at_line p os symbol line false ≡ None) e j in
    let n = none_of_both (fault_if (begins_transfer (operation_of symbol)) NotAllowedInParentheses line) _ k in
    let m = none_of_both (fault_if (is_identifier symbol && false) NotAllowedInParentheses line) _ n.1 in
    let l = none_of_both (fault_if (has_name symbol (end_word p.unit.kind)) ParenthesisNotPaired o.line) _ m.1 in
    inl (once_within p symbol line (simple_operator line (operation_of symbol)) (simple_once symbol line (operation_of symbol) refl) h (not_full p symbol line l.1))

first_token_within : (p : Position) (openings : List Opening) (symbol : Symbol) (line : ℕ) (colon : Bool) → p.openings ≡ openings → fault_at (AtLine p) symbol line colon ≡ None → Within (AtLine p)
    → GoesWithin colon (start_move p openings symbol line colon)
first_token_within p [] ClosingBracket line colon e j h = inl tt
first_token_within p [] symbol line colon e j h = body_within p symbol line colon e (subst (λ os. fault_at_line p os symbol line colon ≡ None) e j) h
first_token_within p (o ∷ outer) symbol line colon e j h = inside_within p o outer symbol line colon e j h

-- after a label
labelled_within : (p : Position) (label : Word) (symbol : Symbol) (line : ℕ) → fault_if (is_some (operation_of symbol) && is_full p) TooMany line ≡ None → Within (OnLine p (Labelled label)) → WithinNext (started_line p (at_labelled label symbol line))
labelled_within p label symbol line j h =
    once_within p symbol line (at_labelled label symbol line) (labelled_once label symbol line) h
    (λ s. sym (ap (λ b. b && is_full p) s) ∙ test_fails (is_some (operation_of symbol) && is_full p) TooMany line j)

-- after an operator with an operand
operated_within : (p : Position) (started : StartedLine) (operating : OperandOperator) (symbol : Symbol) (line : ℕ) → fault_on_line p (Operated started operating) symbol line ≡ None → Within (OnLine p (Operated started operating)) → WithinNext (started_line p (at_operated started operating symbol line))
operated_within p started (Applies operator) OpeningBracket line j h =
    let b = below most_depth (length p.openings) (test_fails (nat_le most_depth (length p.openings)) TooDeep started.line j) in
    (h.0, h.1, h.2, omega (arith, b))
operated_within p started (Loads negated) OpeningBracket line j h = tt
operated_within p started (Stores storing) OpeningBracket line j h = tt
operated_within p started operating symbol line j h = fits_on p (at_operated started operating symbol line) (fits_by p 1 0 (at_operated started operating symbol line) (operated_counts started operating symbol line (λ e. cc)) h)

steady_within : (p : Position) (state : LineState) (symbol : Symbol) (line : ℕ) (colon : Bool) → IsSteady state → Within (OnLine p state) → WithinNext (started_line p (line_move (setting_in p.openings) state symbol line colon))
steady_within p state symbol line colon s h =
    fits_on p (line_move (setting_in p.openings) state symbol line colon) (fits_by p (counted state) (opened state) (line_move (setting_in p.openings) state symbol line colon) (steady (setting_in p.openings) state symbol line colon s) h)

on_line_within : (p : Position) (state : LineState) (symbol : Symbol) (line : ℕ) (colon : Bool) → state ≢ Start → fault_on_line p state symbol line ≡ None → Within (OnLine p state) → WithinNext (started_line p (line_move (setting_in p.openings) state symbol line colon))
on_line_within p Start symbol line colon n j h = absurd (n refl)
on_line_within p (Labelled label) symbol line colon n j h = labelled_within p label symbol line j h
on_line_within p (Operated started operating) symbol line colon n j h = operated_within p started operating symbol line j h
on_line_within p state symbol line colon n j h = steady_within p state symbol line colon tt h

-- a line that has started is not at its start
abbrev pub HasStarted : State → Type 0
HasStarted (OnLine p state) = state ≢ Start
HasStarted _ = Unit {0}

-- one more token at which no fault is detected
pub within_on : (state : State) (symbol : Symbol) (line : ℕ) (colon : Bool) → HasStarted state → Within state → fault_at state symbol line colon ≡ None → GoesWithin colon (move state symbol line colon)
within_on (Outside us) LineEnd line colon b h e = inl h
within_on (Outside us) (Identifier bytes) line colon b h e = inl (unit_within us line (found unit_kinds (name_of bytes)) e h)
within_on (Unnamed us kind first) (Identifier bytes) line colon b h e = inl (start_within us (named_unit kind first line bytes) h)
within_on (Declaring us unit section place) symbol line colon b h e = inl (section_within us unit section place symbol line h)
within_on (AtLine p) LineEnd line colon b h e = inl h
within_on (AtLine p) symbol line colon b h e = first_token_within p p.openings symbol line colon refl e h
within_on (OnLine p state) symbol line colon b h e = inl (on_line_within p state symbol line colon b e h)
within_on (Closed p) LineEnd line colon b h e = inl h
within_on _ symbol line colon b h e = inl tt
