-- Each fault that is detected at a token is found there.
use Rattle.wc_model.proofs.Common.{◌≡◌, ◌≢◌, ◌≤◌, ℕ, Bool, true, false, List, [], ◌∷◌, ◌++◌, length, Option, Some, None, refl, ap, subst, append_assoc, ◌∙◌, sym, inl, inr, arith, not, nat_tests, Any-from_list_any}
use Rattle.std.specs.Prelude.{◌&&◌, Any, nat_le, is_some}
use Rattle.wc_laws_grammar.proofs.Appending.{with_nothing}
use Rattle.wc_laws_grammar.proofs.ExactLines.{one_operator}
use Rattle.wc_laws_grammar.specs.{StartedLine, LineState, Labelled, Operated, State, Outside, AtLine, OnLine, begins_transfer, colon_next, has_content, has_name, has_program, is_colon, is_full, is_identifier, is_program, fault_at, fault_at_closing, fault_at_line, fault_on_line, fault_at_operator, fault_at_unit, Raised, fault_if, first_fault, Loads, Stores, Applies, Operation, Operates, Negates, Jumps, Calls, Returns, found, is_transfer, operation_of, unit_kinds}
use Rattle.wc_laws_grammar.proofs.LineSound.{mark_on}
use Rattle.wc_laws_grammar.proofs.Reported.{InLine, Reported}
use Rattle.wc_laws_grammar.proofs.WalkedUnits.{colon_is}
use Rattle.wc_laws_grammar.proofs.WordLaws.{found_unit_kind, is_operator_of, operation_in, same_is}
use Rattle.wc_laws_grammar.proofs.Languages.{before, joined}
use Rattle.wc_model.specs.Definitions.{HasContent, IsOn, IsOperator, IsOperatorOf, IsTransfer, label_in, units, end_word, unit_word, ◌then◌, one, lines_before, most_depth, most_lines, most_units, ClosingBracket, Identifier, IsNamed, Mark, OpeningBracket, Symbol, name_in, Name, name_of, Opening, Position, at_instruction, at_line, ColonFollows, EmptyParentheses, RaisedAtToken, NotAllowedInParentheses, NotOneProgramLast, ParenthesisNotPaired, ReadingFault, TooDeep, TooMany}
use Rattle.wc_model.specs.Language.Tree.{Call, Constant, End, Jump, Lines, Alone, Load, Negate, ProgramUnit, Return, Step, Store, Apply, Term, Word}
use Rattle.wc_model.specs.declared.operator.Operator.{Operator}
use Rattle.wc_model.specs.declared.source.UnitKind.{UnitKind}
use Rattle.wc_model.specs.declared.source.UnitKind.TheVariants.{FunctionBlock, Program}
use Rattle.wc_model.specs.declared.value.Value.TheVariants.{Bool as BoolValue}

-- a detected fault is found at this token
abbrev pub IsThere : List Mark → Mark → List Mark → Option Raised → Type 0
IsThere before mark following None = Unit {0}
IsThere before mark following (Some raised) = RaisedAtToken raised.fault before mark following raised.line

-- a test that holds only if the fault is found
there_if : (before : List Mark) (mark : Mark) (following : List Mark) (test : Bool) (fault : ReadingFault) (line : ℕ) → (test ≡ true → RaisedAtToken fault before mark following line) → IsThere before mark following (fault_if test fault line)
there_if before mark following true fault line f = f refl
there_if before mark following false fault line f = tt

there_or : (before : List Mark) (mark : Mark) (following : List Mark) (first other : Option Raised) → IsThere before mark following first → IsThere before mark following other → IsThere before mark following (first_fault first other)
there_or before mark following None other a b = b
there_or before mark following (Some raised) other a b = a

-- a number that the test finds large enough
reaches : (a b : ℕ) → nat_le a b ≡ true → a ≤ b
reaches a b e = grind (arith, nat_tests, e)

program_is : (kind : UnitKind) → is_program kind ≡ true → kind ≡ Program
program_is FunctionBlock e = absurd (cc)
program_is Program e = refl

-- a unit is a program if one is found
some_program : (us : List ProgramUnit) → has_program us ≡ true → Any (λ unit. unit.kind ≡ Program) us
some_program us e = let h = Any-from_list_any (λ unit. is_program unit.kind) us e in (h.0, h.1, h.2, h.3, program_is (h.1).kind h.4)

-- both tests hold
both_hold : (a b : Bool) → (a && b) ≡ true → (a ≡ true) × (b ≡ true)
both_hold true b e = (refl, e)
both_hold false b e = absurd (cc)

not_holds : (b : Bool) → not b ≡ true → b ≡ false
not_holds false e = refl
not_holds true e = absurd (cc)

unit_there : (us : List ProgramUnit) (before following : List Mark) (bytes : List ℕ) (line : ℕ) (kind : Option UnitKind) → found unit_kinds (name_of bytes) ≡ kind → units us before
    → IsThere before (mark_on (Identifier bytes) line) following (fault_at_unit us line kind)
unit_there us before following bytes line None e h = tt
unit_there us before following bytes line (Some kind) e h =
    there_or before (mark_on (Identifier bytes) line) following _ _
    (there_if before (mark_on (Identifier bytes) line) following (has_program us) NotOneProgramLast line (λ t. (us, h, some_program us t, begins, refl)))
    (there_if before (mark_on (Identifier bytes) line) following (nat_le most_units (length us)) TooMany line (λ t. (inl (us, h, reaches most_units (length us) t, begins), refl)))
  where
    begins : (kind : UnitKind) × IsNamed (unit_word kind) (mark_on (Identifier bytes) line)
    begins = (kind, ap (λ n. Some n) (found_unit_kind (name_of bytes) kind e))

-- a step of each operator
abbrev step_for : Operation → Step
step_for (Operates (Loads negated)) = Load negated (Constant (BoolValue true))
step_for (Operates (Stores storing)) = Store storing (Constant (BoolValue true))
step_for (Operates (Applies operator)) = Apply operator (Constant (BoolValue true))
step_for Negates = Negate
step_for (Jumps condition) = Jump condition []
step_for (Calls condition) = Call condition [] []
step_for (Returns condition) = Return condition

step_for_is : (operation : Operation) → operation_in (step_for operation) ≡ operation
step_for_is (Operates (Loads negated)) = refl
step_for_is another = refl

-- an operator begins some step
begins_some : (mark : Mark) (operation : Operation) → operation_of mark.symbol ≡ Some operation → (step : Step) × IsOperatorOf step mark
begins_some mark operation e = (step_for operation, is_operator_of (step_for operation) mark.symbol mark.line (e ∙ ap (λ o. Some o) (sym (step_for_is operation))))

some_operation : (o : Option Operation) → is_some o ≡ true → (operation : Operation) × (o ≡ Some operation)
some_operation None e = absurd (cc)
some_operation (Some operation) e = (operation, refl)

begins_any : (mark : Mark) → is_some (operation_of mark.symbol) ≡ true → (step : Step) × IsOperatorOf step mark
begins_any mark e = let o = some_operation (operation_of mark.symbol) e in begins_some mark o.0 o.1

follows_no : (following : List Mark) → colon_next following false ≡ false → ¬ (ColonFollows following)
follows_no [] e h = h
follows_no (mark ∷ marks) e h = let k = ap is_colon h in cc

follows_so : (following : List Mark) → colon_next following false ≡ true → ColonFollows following
follows_so [] e = absurd (cc)
follows_so (mark ∷ marks) e = colon_is mark.symbol e

-- the start of a line is that of an instruction without a label
at_bare_line : (p : Position) (before : List Mark) → at_line p before → at_instruction p None before
at_bare_line p before h = with_nothing _ refl h

-- an operator at the start of a line
operator_there : (p : Position) (before : List Mark) (mark : Mark) (following : List Mark) → at_line p before → IsThere before mark following (fault_at_operator p mark.symbol mark.line (colon_next following false))
operator_there p before mark following h =
    there_if before mark following (is_some (operation_of mark.symbol) && not (colon_next following false) && is_full p) TooMany mark.line (λ t.
    let a = both_hold (is_some (operation_of mark.symbol) && not (colon_next following false)) (is_full p) t in
    let b = both_hold (is_some (operation_of mark.symbol)) (not (colon_next following false)) a.0 in
    (inr (inl (p, None, at_bare_line p before h, reaches most_lines (lines_before p) a.1, (begins_any mark b.0, λ e. follows_no following (not_holds (colon_next following false) b.1)))), refl))

transfer_for : (operation : Operation) → is_transfer operation ≡ true → IsTransfer (step_for operation)
transfer_for (Operates operating) e = absurd (cc)
transfer_for Negates e = absurd (cc)
transfer_for (Jumps condition) e = tt
transfer_for (Calls condition) e = tt
transfer_for (Returns condition) e = tt

transfer_begins : (mark : Mark) (o : Option Operation) → operation_of mark.symbol ≡ o → begins_transfer o ≡ true → (step : Step) × IsTransfer step × IsOperatorOf step mark
transfer_begins mark None e t = absurd (cc)
transfer_begins mark (Some operation) e t = (step_for operation, transfer_for operation t, is_operator_of (step_for operation) mark.symbol mark.line (e ∙ ap (λ o. Some o) (sym (step_for_is operation))))

identifier_named : (symbol : Symbol) → is_identifier symbol ≡ true → (name : Name) × (name_in symbol ≡ Some name)
identifier_named (Identifier bytes) e = (name_of bytes, refl)
identifier_named _ e = absurd (cc)

has_is_named : (symbol : Symbol) (name : Name) → has_name symbol name ≡ true → name_in symbol ≡ Some name
has_is_named (Identifier bytes) name e = ap (λ n. Some n) (same_is (name_of bytes) name e)
has_is_named _ name e = absurd (cc)

-- the first token of a line
line_there : (p : Position) (openings : List Opening) (before : List Mark) (mark : Mark) (following : List Mark) → p.openings ≡ openings → at_line p before → IsThere before mark following (fault_at_line p openings mark.symbol mark.line (colon_next following false))
line_there p [] before mark following e h = operator_there p before mark following h
line_there p (o ∷ outer) before mark following e h =
    there_or before mark following _ _
    (there_if before mark following (begins_transfer (operation_of mark.symbol)) NotAllowedInParentheses mark.line (λ t. (p, h, some, inl (transfer_begins mark (operation_of mark.symbol) refl t), refl)))
    (there_or before mark following _ _
    (there_if before mark following (is_identifier mark.symbol && colon_next following false) NotAllowedInParentheses mark.line (λ t.
    let b = both_hold (is_identifier mark.symbol) (colon_next following false) t in (p, h, some, inr (identifier_named mark.symbol b.0, follows_so following b.1), refl)))
    (there_or before mark following _ _
    (there_if before mark following (has_name mark.symbol (end_word p.unit.kind)) ParenthesisNotPaired o.line (λ t. (p, h, inr (o, (outer, e), has_is_named mark.symbol (end_word p.unit.kind) t, refl))))
    (operator_there p before mark following h)))
  where
    some : p.openings ≢ []
    some n = let k : o ∷ outer ≡ [] = sym e ∙ n in cc

holds_nothing : (x : Option Term) (done : Lines) → not (has_content x done) ≡ true → ¬ (HasContent x done)
holds_nothing None End e h = h
holds_nothing None (Alone label rest) e h = cc
holds_nothing another third e h = cc

-- a `)`
closing_there : (p : Position) (openings : List Opening) (before following : List Mark) (line : ℕ) → p.openings ≡ openings → at_line p before → IsThere before (mark_on ClosingBracket line) following (fault_at_closing p openings line)
closing_there p [] before following line e h = (p, h, inl (e, refl, refl))
closing_there p (o ∷ outer) before following line e h =
    there_or before (mark_on ClosingBracket line) following _ _
    (there_if before (mark_on ClosingBracket line) following (not (has_content o.operand p.done)) EmptyParentheses line (λ t. (p, h, o, (outer, e), holds_nothing o.operand p.done t, refl, refl)))
    (there_if before (mark_on ClosingBracket line) following (is_full p) TooMany line (λ t. (inr (inr (p, h, some, reaches most_lines (lines_before p) t, refl)), refl)))
  where
    some : p.openings ≢ []
    some n = let k : o ∷ outer ≡ [] = sym e ∙ n in cc

-- after a label
labelled_there : (p : Position) (label : Word) (before : List Mark) (mark : Mark) (following : List Mark) → InLine p (Labelled label) before → IsThere before mark following (fault_if (is_some (operation_of mark.symbol) && is_full p) TooMany mark.line)
labelled_there p label before mark following h =
    there_if before mark following (is_some (operation_of mark.symbol) && is_full p) TooMany mark.line (λ t.
    let b = both_hold (is_some (operation_of mark.symbol)) (is_full p) t in
    (inr (inl (p, Some label, here, reaches most_lines (lines_before p) b.1, (begins_any mark b.0, λ e. absurd (cc)))), refl))
  where
    here : at_instruction p (Some label) before
    here = subst (at_instruction p (Some label)) (sym h.whole) (joined h.prefix h.part h.begins (subst (λ s. label_in s (Some label) h.part) (sym h.exact.0) h.exact.1))

-- a bracket after an operator
bracket_there : (p : Position) (started : StartedLine) (operator : Operator) (before following : List Mark) (line : ℕ) → InLine p (Operated started (Applies operator)) before
    → IsThere before (mark_on OpeningBracket line) following (fault_if (nat_le most_depth (length p.openings)) TooDeep started.line)
bracket_there p started operator before following line h =
    there_if before (mark_on OpeningBracket line) following (nat_le most_depth (length p.openings)) TooDeep started.line (λ t. (p, started.label, operator, here, reaches most_depth (length p.openings) t, refl))
  where
    here : (at_instruction p started.label then one (IsOn started.line (IsOperator operator))) before
    here = subst (at_instruction p started.label then one (IsOn started.line (IsOperator operator))) (sym h.whole)
        (subst (at_instruction p started.label then one (IsOn started.line (IsOperator operator))) (ap (λ ts. h.prefix ++ ts) (sym h.exact.whole))
        (subst (at_instruction p started.label then one (IsOn started.line (IsOperator operator))) (append_assoc h.prefix h.exact.prefix h.exact.rest)
        (joined (h.prefix ++ h.exact.prefix) h.exact.rest (joined h.prefix h.exact.prefix h.begins h.exact.begins) (one_operator started.line operator h.exact.rest h.exact.goes_on))))

on_line_there : (p : Position) (state : LineState) (before : List Mark) (symbol : Symbol) (line : ℕ) (following : List Mark) → InLine p state before → IsThere before (mark_on symbol line) following (fault_on_line p state symbol line)
on_line_there p (Labelled label) before symbol line following h = labelled_there p label before (mark_on symbol line) following h
on_line_there p (Operated started (Applies operator)) before OpeningBracket line following h = bracket_there p started operator before following line h
on_line_there p state before symbol line following h = tt

-- Each fault that is detected is found.
pub there : (state : State) (before : List Mark) (symbol : Symbol) (line : ℕ) (following : List Mark) → Reported state before → IsThere before (mark_on symbol line) following (fault_at state symbol line (colon_next following false))
there (Outside us) before (Identifier bytes) line following h = unit_there us before following bytes line (found unit_kinds (name_of bytes)) refl h
there (AtLine p) before ClosingBracket line following h = closing_there p p.openings before following line refl h
there (AtLine p) before symbol line following h = line_there p p.openings before (mark_on symbol line) following refl h
there (OnLine p state) before symbol line following h = on_line_there p state before symbol line following h
there _ before symbol line following h = tt
