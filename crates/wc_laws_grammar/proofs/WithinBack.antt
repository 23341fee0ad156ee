-- If the limits and the order hold after a token, they held before it, and no fault was detected at it.
use Rattle.std.proofs.Common.{◌≡◌, ◌≢◌, ◌≤◌, ℕ, suc, Bool, true, false, List, [], ◌∷◌, ◌++◌, length, Option, Some, None, refl, ap, subst, if◌then◌else◌, ◌∙◌, sym, inl, inr, arith, ◌⊎◌, not}
use Rattle.wc_model.proofs.Common.{nat_tests, AllByRecursion}
use Rattle.std.proofs.lemmas.List.{length-append}
use Rattle.std.specs.Prelude.{◌&&◌, ◌||◌, is_some, nat_le, option_map}
use Rattle.wc_laws_grammar.proofs.Bounds.{IsDeepEnough, PositionWithin, Within, closed_was_within, counted, opened}
use Rattle.wc_laws_grammar.proofs.Exits.{AreBlocks}
use Rattle.wc_laws_grammar.proofs.LineBounds.{Counts, IsSteady, count_operator, fitted, fitted_by, operated_counts, steady}
use Rattle.wc_laws_grammar.proofs.LineComplete.{labelled_operator}
use Rattle.wc_laws_grammar.specs.{LineShape, LabelAlone, Instructs, Opens, operator_or_label, StartedLine, LineState, Start, Labelled, Operated, Bracketed, Ended, at_labelled, at_operated, at_operator, at_start, after_operator, line_move, simple_operator, InDeclaration, Undeclared, AfterNames, AfterComma, AfterColon, AfterType, AfterAssign, AfterValue, State, Outside, Unnamed, Declaring, AtLine, OnLine, Closed, Raised, at_value, begins_transfer, started_line, after_closing, after_line, after_unit, body_move, body_start, declaration_move, has_content, has_name, has_program, inside_move, is_full, is_identifier, is_program, fault_at, fault_at_closing, fault_at_line, fault_on_line, fault_at_operator, fault_at_unit, fault_if, first_fault, move, on_line, section_of_word, section_or_line, start_move, unit_with, Applies, OperandOperator, Loads, Stores, Operation, found, is_transfer, literal_of, operation_of, operations, unit_kinds}
use Rattle.wc_laws_grammar.proofs.LineStart.{operator_taken}
use Rattle.wc_laws_grammar.proofs.WalkedLines.{ends_no_unit}
use Rattle.wc_laws_grammar.proofs.WithinOn.{HasStarted, RejectsColon, simple_rejects}
use Rattle.wc_laws_grammar.proofs.WordLaws.{found_operation, found_section, same_is}
use Rattle.wc_model.specs.Definitions.{same_name, IsProgramLast, end_var, end_word, section_word, IsBodyWithinLimits, depth, line_count, lines_before, lines_opened, most_depth, most_lines, most_units, Symbol, Ampersand, AmpersandN, Identifier, ClosingBracket, OpeningBracket, Colon, Comma, Semicolon, Assign, LineEnd, name_of, Opening, Position, setting_in, NotAllowedInParentheses, NotOneProgramLast, ReadingFault, TooDeep, TooMany, EmptyParentheses, ParenthesisNotPaired, Alone, End, Lines, Nested, Plain, ProgramUnit, Word}
use Rattle.wc_model.specs.declared.source.Section.{Section}
use Rattle.wc_model.specs.declared.source.Section.TheVariants.{Input, Output, Own}
use Rattle.wc_model.specs.declared.source.UnitKind.{UnitKind}
use Rattle.wc_model.specs.declared.source.UnitKind.TheVariants.{FunctionBlock, Program}
use Rattle.wc_model.specs.declared.value.Value.{Value}

-- blocks precede a unit, and whole units may end with a program
abbrev pub InOrder : State → Type 0
InOrder (Outside us) = AreBlocks us ⊎ IsProgramLast us
InOrder (Unnamed us kind line) = AreBlocks us
InOrder (Declaring us unit section place) = AreBlocks us
InOrder (AtLine p) = AreBlocks p.before
InOrder (OnLine p line) = AreBlocks p.before
InOrder (Closed p) = AreBlocks p.before

-- the limits hold so far, and the order
abbrev pub Good : State → Type 0
Good state = Within state × InOrder state

-- no fault is detected, or a colon follows, with which no text goes on
abbrev pub Passes : Option Raised → Bool → State → Type 0
Passes raised colon next = (raised ≡ None) ⊎ ((colon ≡ true) × RejectsColon (Some next))

-- what is good after a token was good before it
abbrev pub WasGood : State → Option Raised → Bool → Option State → Type 0
WasGood state raised colon None = Unit {0}
WasGood state raised colon (Some next) = Good next → Good state × Passes raised colon next

-- a test that fails
fails : (test : Bool) (fault : ReadingFault) (line : ℕ) → test ≡ false → fault_if test fault line ≡ None
fails test fault line e = ap (λ b. if b then Some (record { fault = fault; line = line }) else None) e

neither_raised : (a b : Option Raised) → a ≡ None → b ≡ None → first_fault a b ≡ None
neither_raised a b e f = ap (λ x. first_fault x b) e ∙ f

above : (a b : ℕ) → suc b ≤ a → nat_le a b ≡ false
above a b h = grind (arith, nat_tests, h)

-- blocks have no program among them
pub no_program : (us : List ProgramUnit) → AreBlocks us → has_program us ≡ false
no_program [] h = refl
no_program (unit ∷ us) h = ap (λ k. is_program k || has_program us) h.0 ∙ no_program us h.1

unit_was_good : (us : List ProgramUnit) (bytes : List ℕ) (line : ℕ) (colon : Bool) (kind : Option UnitKind) → WasGood (Outside us) (fault_at_unit us line kind) colon (option_map (λ kind. Unnamed us kind line) kind)
unit_was_good us bytes line colon None = tt
unit_was_good us bytes line colon (Some kind) = λ g.
    (((omega (arith, g.0.0), g.0.1), inl g.1), inl (neither_raised _ _ (fails (has_program us) NotOneProgramLast line (no_program us g.1)) (fails (nat_le most_units (length us)) TooMany line (above most_units (length us) g.0.0))))

value_was_good : (us : List ProgramUnit) (unit : ProgramUnit) (section : Section) (names : List Word) (type_name : Word) (line : ℕ) (colon : Bool) (value : Option Value)
    → WasGood (Declaring us unit section (AfterAssign names type_name)) None colon (at_value us unit section names type_name line value)
value_was_good us unit section names type_name line colon None = tt
value_was_good us unit section names type_name line colon (Some value) = λ g. (g, inl refl)

first_was_good : (us : List ProgramUnit) (unit : ProgramUnit) (section : Section) (word : Word) (colon : Bool) (b : Bool) → WasGood (Declaring us unit section Undeclared) None colon (Some (if b then AtLine (body_start us unit) else Declaring us unit section (AfterNames (word ∷ []))))
first_was_good us unit section word colon true = λ g. ((g.0.0, g.1), inl refl)
first_was_good us unit section word colon false = λ g. (g, inl refl)

section_was_good : (us : List ProgramUnit) (unit : ProgramUnit) (section : Section) (place : InDeclaration) (symbol : Symbol) (line : ℕ) (colon : Bool) → WasGood (Declaring us unit section place) None colon (declaration_move us unit section place symbol line)
section_was_good us unit section place LineEnd line colon = λ g. (g, inl refl)
section_was_good us unit section Undeclared (Identifier bytes) line colon = first_was_good us unit section (record { line = line; name = name_of bytes }) colon (same_name (name_of bytes) end_var)
section_was_good us unit section (AfterNames names) Comma line colon = λ g. (g, inl refl)
section_was_good us unit section (AfterNames names) Colon line colon = λ g. (g, inl refl)
section_was_good us unit section (AfterComma names) (Identifier bytes) line colon = λ g. (g, inl refl)
section_was_good us unit section (AfterColon names) (Identifier bytes) line colon = λ g. (g, inl refl)
section_was_good us unit section (AfterType names type_name) Assign line colon = λ g. (g, inl refl)
section_was_good us unit section (AfterType names type_name) Semicolon line colon = λ g. (g, inl refl)
section_was_good us unit section (AfterAssign names type_name) symbol line colon = value_was_good us unit section names type_name line colon (literal_of symbol)
section_was_good us unit section (AfterValue names type_name initial) Semicolon line colon = λ g. (g, inl refl)
section_was_good us unit section place symbol line colon = tt

-- the limits of a position if less is counted
less_within : (p : Position) (l d : ℕ) → PositionWithin p l d → Within (AtLine p)
less_within p l d h = (h.0, omega (arith, h.1), h.2, omega (arith, h.3))

shape_blocks : (p : Position) (line_shape : LineShape) → AreBlocks (after_line p line_shape).before → AreBlocks p.before
shape_blocks p (LabelAlone label) h = h
shape_blocks p (Instructs label line step) h = h
shape_blocks p (Opens label line operator x) h = h

on_line_blocks : (p : Position) (next : LineState) → InOrder (on_line p next) → AreBlocks p.before
on_line_blocks p (Ended line_shape) h = shape_blocks p line_shape h
on_line_blocks p state h = h

-- what fits on a line was good before it, if so much is counted
line_was_good : (p : Position) (from : State) (raised : Option Raised) (colon : Bool) (l d : ℕ) (next : Option LineState) → Counts l d next → (PositionWithin p l d → AreBlocks p.before → Good from)
    → ((state : LineState) → next ≡ Some state → PositionWithin p l d → Passes raised colon (on_line p state)) → WasGood from raised colon (started_line p next)
line_was_good p from raised colon l d None c f g = tt
line_was_good p from raised colon l d (Some state) c f g = λ good.
    let k = fitted_by p l d state c (fitted p (Some state) good.0) in
    (f k (on_line_blocks p state good.1), g state refl k)

-- a test with a part that fails
middle_fails : (a b : Bool) → (a && false && b) ≡ false
middle_fails true b = refl
middle_fails false b = refl

last_fails : (a b : Bool) → b ≡ false → (a && b) ≡ false
last_fails true b e = e
last_fails false b e = refl

-- if a line more fits, the unit is not full
has_line : (p : Position) (d : ℕ) → PositionWithin p 1 d → is_full p ≡ false
has_line p d h = above most_lines (lines_before p) (omega (arith, h.1))

operator_passes : (p : Position) (symbol : Symbol) (line : ℕ) (colon : Bool) → is_full p ≡ false → fault_at_operator p symbol line colon ≡ None
operator_passes p symbol line colon e = fails _ TooMany line (last_fails (is_some (operation_of symbol) && not colon) (is_full p) e)

colon_passes : (p : Position) (symbol : Symbol) (line : ℕ) → fault_at_operator p symbol line true ≡ None
colon_passes p symbol line = fails _ TooMany line (middle_fails (is_some (operation_of symbol)) (is_full p))

no_operator_passes : (p : Position) (symbol : Symbol) (line : ℕ) (colon : Bool) → operation_of symbol ≡ None → fault_at_operator p symbol line colon ≡ None
no_operator_passes p symbol line colon e = fails _ TooMany line (ap (λ o. is_some o && not colon && is_full p) e)

-- after an operator of a line in a body
start_was_good : (p : Position) (symbol : Symbol) (line : ℕ) (operation : Option Operation) → operation_of symbol ≡ operation → WasGood (AtLine p) (fault_at_operator p symbol line false) false (started_line p (at_start symbol line false))
start_was_good p symbol line None e = by_symbol symbol e
  where
    word_good : (word : Word) (bytes : List ℕ) → found operations (name_of bytes) ≡ None → WasGood (AtLine p) (fault_at_operator p (Identifier bytes) line false) false (started_line p (Some (operator_or_label word (found operations (name_of bytes)))))
    word_good word bytes e = subst (λ o. WasGood (AtLine p) (fault_at_operator p (Identifier bytes) line false) false (started_line p (Some (operator_or_label word o)))) (sym e)
        (λ good. ((less_within p 0 0 good.0, good.1), inl (no_operator_passes p (Identifier bytes) line false e)))

    by_symbol : (symbol : Symbol) → operation_of symbol ≡ None → WasGood (AtLine p) (fault_at_operator p symbol line false) false (started_line p (at_start symbol line false))
    by_symbol (Identifier bytes) e = word_good (record { line = line; name = name_of bytes }) bytes e
    by_symbol Ampersand e = absurd (cc)
    by_symbol AmpersandN e = absurd (cc)
    by_symbol _ e = tt
start_was_good p symbol line (Some operation) e =
    subst (λ n. WasGood (AtLine p) (fault_at_operator p symbol line false) false (started_line p n)) (sym (operator_taken symbol line operation false e refl))
    (line_was_good p (AtLine p) (fault_at_operator p symbol line false) false 1 0 (Some (after_operator None line operation)) (count_operator None line operation) (λ k b. (less_within p 1 0 k, b)) (λ state s k. inl (operator_passes p symbol line false (has_line p 0 k))))

-- no operator ends a unit
end_no_operator : (kind : UnitKind) → found operations (end_word kind) ≡ None
end_no_operator FunctionBlock = refl
end_no_operator Program = refl

section_no_operator : (section : Section) → found operations (section_word section) ≡ None
section_no_operator Input = refl
section_no_operator Output = refl
section_no_operator Own = refl

blocks_before : (us : List ProgramUnit) (unit : ProgramUnit) → AreBlocks (us ++ unit ∷ []) → AreBlocks us
blocks_before [] unit h = tt
blocks_before (first ∷ us) unit h = (h.0, blocks_before us unit h.1)

last_before : (us : List ProgramUnit) (unit : ProgramUnit) → IsProgramLast (us ++ unit ∷ []) → AreBlocks us
last_before [] unit h = tt
last_before (first ∷ []) unit h = (h.0, tt)
last_before (first ∷ second ∷ us) unit h = (h.0, last_before (second ∷ us) unit h.1)

bodies_before : (us : List ProgramUnit) (unit : ProgramUnit) → AllByRecursion IsBodyWithinLimits (us ++ unit ∷ []) → AllByRecursion IsBodyWithinLimits us × IsBodyWithinLimits unit
bodies_before [] unit h = (tt, h.0)
bodies_before (first ∷ us) unit h = let k = bodies_before us unit h.1 in ((h.0, k.0), k.1)

unit_end_was_good : (p : Position) → p.openings ≡ [] → Good (after_unit p) → Good (AtLine p)
unit_end_was_good p e g =
    let b = bodies_before p.before (unit_with p.unit p.done) g.0.1 in
    let n = length-append p.before (unit_with p.unit p.done ∷ []) in
    let l = ap lines_opened e in
    let o = ap length e in
    (((omega (arith, n, g.0.0), b.0), omega (arith, l, b.1.lines), subst (λ os. IsDeepEnough os p.done) (sym e) b.1.depth_of_body, omega (arith, o)), order g.1)
  where
    order : AreBlocks (p.before ++ unit_with p.unit p.done ∷ []) ⊎ IsProgramLast (p.before ++ unit_with p.unit p.done ∷ []) → AreBlocks p.before
    order (inl h) = blocks_before p.before (unit_with p.unit p.done) h
    order (inr h) = last_before p.before (unit_with p.unit p.done) h

section_start_was_good : (p : Position) (done : Lines) (bytes : List ℕ) (line : ℕ) (section : Option Section) → p.openings ≡ [] → p.done ≡ done → section_of_word done (name_of bytes) ≡ section
    → WasGood (AtLine p) (fault_at_operator p (Identifier bytes) line false) false (section_or_line p bytes line section)
section_start_was_good p done bytes line None e d s = start_was_good p (Identifier bytes) line (found operations (name_of bytes)) refl
section_start_was_good p End bytes line (Some section) e d s = λ g.
    let l = ap lines_opened e in
    let n = ap line_count d in
    let o = ap length e in (
      ((g.0, omega (arith, l, n), subst (λ os. IsDeepEnough os p.done) (sym e) (omega (arith, ap depth d)), omega (arith, o)), g.1),
      inl (no_operator_passes p (Identifier bytes) line false (ap (found operations) (found_section (name_of bytes) section s) ∙ section_no_operator section)),
    )
section_start_was_good p (Alone label rest) bytes line (Some section) e d s = absurd (cc)
section_start_was_good p (Plain label n step rest) bytes line (Some section) e d s = absurd (cc)
section_start_was_good p (Nested label n operator x inside close rest) bytes line (Some section) e d s = absurd (cc)

word_was_good : (p : Position) (bytes : List ℕ) (line : ℕ) (b : Bool) → same_name (name_of bytes) (end_word p.unit.kind) ≡ b → p.openings ≡ []
    → WasGood (AtLine p) (fault_at_operator p (Identifier bytes) line false) false (if b then Some (after_unit p) else section_or_line p bytes line (section_of_word p.done (name_of bytes)))
word_was_good p bytes line true s e = λ g. (unit_end_was_good p e g, inl (no_operator_passes p (Identifier bytes) line false (ap (found operations) (same_is (name_of bytes) (end_word p.unit.kind) s) ∙ end_no_operator p.unit.kind)))
word_was_good p bytes line false s e = section_start_was_good p p.done bytes line (section_of_word p.done (name_of bytes)) e refl refl

-- an operator after which a colon follows
operator_colon : (p : Position) (symbol : Symbol) (line : ℕ) (operation : Option Operation) → WasGood (AtLine p) (fault_at_operator p symbol line true) true (started_line p (at_operator None line operation))
operator_colon p symbol line None = tt
operator_colon p symbol line (Some operation) =
    line_was_good p (AtLine p) (fault_at_operator p symbol line true) true 1 0 (Some (after_operator None line operation)) (count_operator None line operation) (λ k b. (less_within p 1 0 k, b)) (λ state s k. inl (colon_passes p symbol line))

body_was_good : (p : Position) (symbol : Symbol) (line : ℕ) (colon : Bool) → p.openings ≡ [] → WasGood (AtLine p) (fault_at_operator p symbol line colon) colon (body_move p symbol line colon)
body_was_good p (Identifier bytes) line false e = word_was_good p bytes line (same_name (name_of bytes) (end_word p.unit.kind)) refl e
body_was_good p (Identifier bytes) line true e = λ g. ((less_within p 0 0 g.0, g.1), inl (colon_passes p (Identifier bytes) line))
body_was_good p symbol line false e = start_was_good p symbol line (operation_of symbol) refl
body_was_good p symbol line true e = operator_colon p symbol line (operation_of symbol)

content_true : (p : Position) (o : Opening) (outer : List Opening) (line : ℕ) (colon : Bool) (b : Bool) → has_content o.operand p.done ≡ b → p.openings ≡ o ∷ outer
    → WasGood (AtLine p) (fault_at_closing p (o ∷ outer) line) colon (if b then Some (Closed (after_closing p o outer line)) else None)
content_true p o outer line colon false c e = tt
content_true p o outer line colon true c e = λ g.
    let k = closed_was_within p o outer line e g.0 in
    ((less_within p 1 0 k, g.1), inl (neither_raised _ _ (fails (not (has_content o.operand p.done)) EmptyParentheses line (ap not c)) (fails (is_full p) TooMany line (has_line p 0 k))))

-- an operator's name is not an END word
operator_no_end : (symbol : Symbol) (kind : UnitKind) (operation : Operation) → operation_of symbol ≡ Some operation → has_name symbol (end_word kind) ≡ false
operator_no_end (Identifier bytes) kind operation e = ap (λ n. same_name n (end_word kind)) (found_operation (name_of bytes) operation e) ∙ (ends_no_unit kind operation).0
operator_no_end Ampersand kind operation e = refl
operator_no_end AmpersandN kind operation e = refl
operator_no_end _ kind operation e = refl

no_identifier_colon : (b : Bool) → (b && false) ≡ false
no_identifier_colon true = refl
no_identifier_colon false = refl

-- inside parentheses an operator that is not a jump, call or return
simple_passes : (p : Position) (o : Opening) (outer : List Opening) (symbol : Symbol) (line : ℕ) (operation : Operation) → operation_of symbol ≡ Some operation → is_transfer operation ≡ false → is_full p ≡ false → fault_at_line p (o ∷ outer) symbol line false ≡ None
simple_passes p o outer symbol line operation e t f =
    neither_raised _ _ (fails (begins_transfer (operation_of symbol)) NotAllowedInParentheses line (ap begins_transfer e ∙ t))
    (neither_raised _ _ (fails (is_identifier symbol && false) NotAllowedInParentheses line (no_identifier_colon (is_identifier symbol)))
    (neither_raised _ _ (fails (has_name symbol (end_word p.unit.kind)) ParenthesisNotPaired o.line (operator_no_end symbol p.unit.kind operation e)) (operator_passes p symbol line false f)))

simple_was_good : (p : Position) (o : Opening) (outer : List Opening) (symbol : Symbol) (line : ℕ) (colon : Bool) (operation : Option Operation) → operation_of symbol ≡ operation
    → WasGood (AtLine p) (fault_at_line p (o ∷ outer) symbol line colon) colon (started_line p (simple_operator line operation))
simple_was_good p o outer symbol line colon None e = tt
simple_was_good p o outer symbol line colon (Some operation) e = by_transfer (is_transfer operation) refl colon
  where
    by_transfer : (b : Bool) → is_transfer operation ≡ b → (colon : Bool) → WasGood (AtLine p) (fault_at_line p (o ∷ outer) symbol line colon) colon (started_line p (if b then None else Some (after_operator None line operation)))
    by_transfer true t colon = tt
    by_transfer false t false =
        line_was_good p (AtLine p) (fault_at_line p (o ∷ outer) symbol line false) false 1 0 (Some (after_operator None line operation)) (count_operator None line operation) (λ k b. (less_within p 1 0 k, b))
        (λ state s k. inl (simple_passes p o outer symbol line operation e t (has_line p 0 k)))
    by_transfer false t true =
        line_was_good p (AtLine p) (fault_at_line p (o ∷ outer) symbol line true) true 1 0 (Some (after_operator None line operation)) (count_operator None line operation) (λ k b. (less_within p 1 0 k, b))
        (λ state s k. inr (refl, rejects state s))
      where
        rejects : (state : LineState) → Some (after_operator None line operation) ≡ Some state → RejectsColon (Some (on_line p state))
        rejects state s = subst (λ l. RejectsColon (started_line p l)) s (subst (λ b. RejectsColon (started_line p (if b then None else Some (after_operator None line operation)))) t (simple_rejects p line (Some operation)))

inside_was_good : (p : Position) (o : Opening) (outer : List Opening) (symbol : Symbol) (line : ℕ) (colon : Bool) → p.openings ≡ o ∷ outer → WasGood (AtLine p) (fault_at (AtLine p) symbol line colon) colon (inside_move p o outer symbol line)
inside_was_good p o outer ClosingBracket line colon e =
    subst (λ os. WasGood (AtLine p) (fault_at_closing p os line) colon (inside_move p o outer ClosingBracket line)) (sym e) (content_true p o outer line colon (has_content o.operand p.done) refl e)
inside_was_good p o outer symbol line colon e =
    subst (λ os. WasGood (AtLine p) (fault_at_line p os symbol line colon) colon (inside_move p o outer symbol line)) (sym e) (simple_was_good p o outer symbol line colon (operation_of symbol) refl)

first_token_was_good : (p : Position) (openings : List Opening) (symbol : Symbol) (line : ℕ) (colon : Bool) → p.openings ≡ openings → WasGood (AtLine p) (fault_at (AtLine p) symbol line colon) colon (start_move p openings symbol line colon)
first_token_was_good p [] ClosingBracket line false e = tt
first_token_was_good p [] ClosingBracket line true e = tt
first_token_was_good p [] symbol line colon e = subst (λ os. WasGood (AtLine p) (fault_at_line p os symbol line colon) colon (body_move p symbol line colon)) (sym e) (body_was_good p symbol line colon e)
first_token_was_good p (o ∷ outer) symbol line colon e = inside_was_good p o outer symbol line colon e

line_end_passes : (p : Position) (openings : List Opening) (line : ℕ) (colon : Bool) → fault_at_line p openings LineEnd line colon ≡ None
line_end_passes p [] line colon = refl
line_end_passes p (o ∷ outer) line colon = refl

-- after a label
labelled_was_good : (p : Position) (label : Word) (symbol : Symbol) (line : ℕ) (colon : Bool) (operation : Option Operation) → operation_of symbol ≡ operation
    → WasGood (OnLine p (Labelled label)) (fault_if (is_some (operation_of symbol) && is_full p) TooMany line) colon (started_line p (at_labelled label symbol line))
labelled_was_good p label symbol line colon (Some operation) e =
    subst (λ n. WasGood (OnLine p (Labelled label)) (fault_if (is_some (operation_of symbol) && is_full p) TooMany line) colon (started_line p n)) (sym (labelled_operator label symbol line operation e))
    (line_was_good p (OnLine p (Labelled label)) _ colon 1 0 (Some (after_operator (Some label) line operation)) (count_operator (Some label) line operation) (λ k b. (less_within p 1 0 k, b))
    (λ state s k. inl (fails (is_some (operation_of symbol) && is_full p) TooMany line (last_fails (is_some (operation_of symbol)) (is_full p) (has_line p 0 k)))))
labelled_was_good p label LineEnd line colon None e =
    line_was_good p (OnLine p (Labelled label)) _ colon 0 0 (Some (Ended (LabelAlone label))) (refl, refl) (λ k b. (less_within p 0 0 k, b)) (λ state s k. inl refl)
labelled_was_good p label symbol line colon None e = subst (λ o. WasGood (OnLine p (Labelled label)) (fault_if (is_some (operation_of symbol) && is_full p) TooMany line) colon (started_line p (at_operator (Some label) line o))) (sym e) tt

-- after an operator with an operand
operated_was_good : (p : Position) (started : StartedLine) (operating : OperandOperator) (symbol : Symbol) (line : ℕ) (colon : Bool)
    → WasGood (OnLine p (Operated started operating)) (fault_on_line p (Operated started operating) symbol line) colon (started_line p (at_operated started operating symbol line))
operated_was_good p started (Applies operator) OpeningBracket line colon =
    line_was_good p (OnLine p (Operated started (Applies operator))) _ colon 1 1 (Some (Bracketed started operator)) (refl, refl) (λ k b. ((k.0, k.1, k.2, omega (arith, k.3)), b))
    (λ state s k. inl (fails (nat_le most_depth (length p.openings)) TooDeep started.line (above most_depth (length p.openings) (omega (arith, k.3)))))
operated_was_good p started (Loads negated) OpeningBracket line colon = tt
operated_was_good p started (Stores storing) OpeningBracket line colon = tt
operated_was_good p started operating symbol line colon =
    line_was_good p (OnLine p (Operated started operating)) _ colon 1 0 (at_operated started operating symbol line) (operated_counts started operating symbol line (λ e. cc)) (λ k b. (k, b)) (λ state s k. inl (no_bracket operating))
  where
    no_bracket : (operating : OperandOperator) → fault_on_line p (Operated started operating) symbol line ≡ None
    no_bracket (Loads negated) = refl
    no_bracket (Stores storing) = refl
    no_bracket (Applies operator) = refl

steady_was_good : (p : Position) (state : LineState) (symbol : Symbol) (line : ℕ) (colon : Bool) → IsSteady state → fault_on_line p state symbol line ≡ None
    → WasGood (OnLine p state) (fault_on_line p state symbol line) colon (started_line p (line_move (setting_in p.openings) state symbol line colon))
steady_was_good p state symbol line colon s e =
    line_was_good p (OnLine p state) _ colon (counted state) (opened state) (line_move (setting_in p.openings) state symbol line colon) (steady (setting_in p.openings) state symbol line colon s) (λ k b. (k, b)) (λ next n k. inl e)

on_line_was_good : (p : Position) (state : LineState) (symbol : Symbol) (line : ℕ) (colon : Bool) → state ≢ Start
    → WasGood (OnLine p state) (fault_on_line p state symbol line) colon (started_line p (line_move (setting_in p.openings) state symbol line colon))
on_line_was_good p Start symbol line colon n = absurd (n refl)
on_line_was_good p (Labelled label) symbol line colon n = labelled_was_good p label symbol line colon (operation_of symbol) refl
on_line_was_good p (Operated started operating) symbol line colon n = operated_was_good p started operating symbol line colon
on_line_was_good p state symbol line colon n = steady_was_good p state symbol line colon tt refl

-- What is good after a token was good before it, and no fault was detected, or no text goes on.
pub was_good : (state : State) (symbol : Symbol) (line : ℕ) (colon : Bool) → HasStarted state → WasGood state (fault_at state symbol line colon) colon (move state symbol line colon)
was_good (Outside us) LineEnd line colon b = λ g. (g, inl refl)
was_good (Outside us) (Identifier bytes) line colon b = unit_was_good us bytes line colon (found unit_kinds (name_of bytes))
was_good (Unnamed us kind first) (Identifier bytes) line colon b = λ g. ((g.0.0, g.1), inl refl)
was_good (Declaring us unit section place) symbol line colon b = section_was_good us unit section place symbol line colon
was_good (AtLine p) LineEnd line colon b = λ g. (g, inl (line_end_passes p p.openings line colon))
was_good (AtLine p) symbol line colon b = first_token_was_good p p.openings symbol line colon refl
was_good (OnLine p state) symbol line colon b = on_line_was_good p state symbol line colon b
was_good (Closed p) LineEnd line colon b = λ g. (g, inl refl)
was_good _ symbol line colon b = tt
