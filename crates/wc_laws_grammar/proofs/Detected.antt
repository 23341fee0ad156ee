-- Each fault that is found at a token is detected there, or one of lower rank.
use Rattle.wc_model.proofs.Common.{◌≡◌, ◌≢◌, ◌≤◌, ℕ, Bool, true, false, List, [], ◌∷◌, ◌++◌, length, Option, Some, None, refl, ap, subst, append-nil, ◌∙◌, sym, inl, inr, arith, not, nat_tests, list_any-from_Any}
use Rattle.std.specs.Prelude.{◌⊎◌, ◌&&◌, Any, nat_le, is_some}
use Rattle.wc_laws_grammar.proofs.LineComplete.{Leads, labelled_operator, named, word_is}
use Rattle.wc_laws_grammar.specs.{Opens, Labelled, Operated, Worded, State, Outside, AtLine, OnLine, at_first, begins_transfer, started_line, colon_next, has_content, has_name, has_program, is_colon, is_full, is_identifier, is_program, fault_at, fault_at_closing, fault_at_line, fault_at_operator, fault_at_unit, Raised, fault_if, first_fault, move, start_move, walk, Applies, Operation, Operates, found, is_transfer, operation_of, unit_kinds}
use Rattle.wc_laws_grammar.proofs.LineSound.{mark_on}
use Rattle.wc_laws_grammar.proofs.LineStart.{no_colon_name, taken}
use Rattle.wc_laws_grammar.proofs.WalkedLines.{begins, walk_on, walk_then}
use Rattle.wc_laws_grammar.proofs.WalkedUnits.{at_line_walked, plain, units_walked, unit_found}
use Rattle.wc_laws_grammar.proofs.WordLaws.{is_same, operator_is, step_begins, operation_in}
use Rattle.wc_laws_grammar.proofs.Languages.{both_empty, next, next_is, pass}
use Rattle.wc_model.specs.Definitions.{same_name, HasContent, InBody, IsOn, IsOperator, IsTransfer, label_in, units, end_word, unit_word, ◌then◌, one, lines_before, most_depth, most_lines, most_units, ClosingBracket, Colon, Identifier, LineEnd, IsNamed, IsSymbol, Mark, OpeningBracket, Symbol, name_in, Name, name_of, Opening, Position, at_instruction, at_line, setting_in, BeginsInstruction, BeginsTransferOrLabel, BeginsUnit, ColonFollows, EmptyParentheses, IsInnermost, RaisedAtToken, NotAllowedInParentheses, NotOneProgramLast, ParenthesisNotPaired, ReadingFault, TooDeep, TooMany, UnexpectedToken, UnitNotClosed, rank_of}
use Rattle.wc_model.specs.Language.Tree.{Call, Jump, Lines, End, Alone, Plain, Nested, ProgramUnit, Return, Step, Term, Word, Load, Store, Apply, Negate}
use Rattle.wc_model.specs.declared.operator.Operator.{Operator}
use Rattle.wc_model.specs.declared.source.UnitKind.{UnitKind}
use Rattle.wc_model.specs.declared.source.UnitKind.TheVariants.{Program}

-- a fault is detected, or one of lower rank
pub record Detected (raised : Option Raised) (fault : ReadingFault) : Type 0 where
  pub detected : Raised
  pub is : raised ≡ Some detected
  pub lower : rank_of detected.fault ≤ rank_of fault

-- if the walk has two ends, they are the same
pub same_end : (tokens : List Mark) (colon : Bool) (state other : State) → walk at_first tokens colon ≡ Some state → walk at_first tokens colon ≡ Some other → state ≡ other
same_end tokens colon state other a b = some_is (sym a ∙ b)
  where
    some_is : Some state ≡ Some other → state ≡ other
    some_is e = cc

-- a program among the units is found
program_found : (us : List ProgramUnit) → Any (λ unit. unit.kind ≡ Program) us → has_program us ≡ true
program_found us h = list_any-from_Any (λ unit. is_program unit.kind) us (h.0, h.1, h.2, h.3, ap is_program h.4)

-- the first of two that is found
first_raised : (test : Bool) (fault later : ReadingFault) (line : ℕ) (other : Option Raised) → rank_of fault ≤ rank_of later → Detected other later → Detected (first_fault (fault_if test fault line) other) later
first_raised true fault later line other low j = record { detected = record { fault = fault; line = line }; is = refl; lower = low }
first_raised false fault later line other low j = j

raised_here : (test : Bool) (fault : ReadingFault) (line : ℕ) (other : Option Raised) → test ≡ true → Detected (first_fault (fault_if test fault line) other) fault
raised_here true fault line other e = record { detected = record { fault = fault; line = line }; is = refl; lower = omega arith }
raised_here false fault line other e = absurd (cc)

raised_last : (test : Bool) (fault : ReadingFault) (line : ℕ) → test ≡ true → Detected (fault_if test fault line) fault
raised_last true fault line e = record { detected = record { fault = fault; line = line }; is = refl; lower = omega arith }
raised_last false fault line e = absurd (cc)

pub at_most : (a b : ℕ) → a ≤ b → nat_le a b ≡ true
at_most a b h = grind (arith, nat_tests, h)

-- an identifier is not a colon

-- a unit's first word after whole units
unit_detected : (fault : ReadingFault) (before : List Mark) (symbol : Symbol) (line : ℕ) (colon : Bool) (state : State) (whole : List ProgramUnit) (kind : UnitKind) → walk at_first before (is_colon symbol) ≡ Some state → units whole before → name_in symbol ≡ Some (unit_word kind)
    → Detected (fault_at_unit whole line (Some kind)) fault → Detected (fault_at state symbol line colon) fault
unit_detected fault before symbol line colon state whole kind w h e j =
    let n = no_colon_name symbol (unit_word kind) e in
    let s : state ≡ Outside whole = same_end before false state (Outside whole) (subst (λ c. walk at_first before c ≡ Some state) n w) (units_walked whole before false refl h) in
    named symbol (unit_word kind) e (λ bytes y m.
    subst (λ s. Detected (fault_at s symbol line colon) fault) (sym s)
    (subst (λ y. Detected (fault_at (Outside whole) y line colon) fault) (sym y)
    (subst (λ o. Detected (fault_at_unit whole line o) fault) (sym (ap (found unit_kinds) m ∙ unit_found kind)) j)))

-- at the start of a line
line_detected : (fault : ReadingFault) (p : Position) (before : List Mark) (symbol : Symbol) (line : ℕ) (colon : Bool) (state : State) → walk at_first before (is_colon symbol) ≡ Some state → at_line p before
    → Detected (fault_at (AtLine (plain p)) symbol line colon) fault → Detected (fault_at state symbol line colon) fault
line_detected fault p before symbol line colon state w h j =
    subst (λ s. Detected (fault_at s symbol line colon) fault) (sym (same_end before (is_colon symbol) state (AtLine (plain p)) w (at_line_walked p before (is_colon symbol) h))) j

-- at a `)`
closing_detected : (fault : ReadingFault) (p : Position) (before : List Mark) (symbol : Symbol) (line : ℕ) (colon : Bool) (state : State) → walk at_first before (is_colon symbol) ≡ Some state → at_line p before → symbol ≡ ClosingBracket
    → Detected (fault_at_closing (plain p) p.openings line) fault → Detected (fault_at state symbol line colon) fault
closing_detected fault p before symbol line colon state w h e j =
    line_detected fault p before symbol line colon state w h (subst (λ s. Detected (fault_at (AtLine (plain p)) s line colon) fault) (sym e) j)

-- no content, if it is not so that there is some
no_content : (x : Option Term) (done : Lines) → ¬ (HasContent x done) → not (has_content x done) ≡ true
no_content None End n = refl
no_content None (Alone label rest) n = absurd (n tt)
no_content None (Plain label line step rest) n = absurd (n tt)
no_content None (Nested label line operator x inside close rest) n = absurd (n tt)
no_content (Some x) done n = absurd (n tt)

-- a token that is not a `)` is checked as the first of a line
as_line : (fault : ReadingFault) (q : Position) (symbol : Symbol) (line : ℕ) (colon : Bool) → symbol ≢ ClosingBracket → Detected (fault_at_line q q.openings symbol line colon) fault → Detected (fault_at (AtLine q) symbol line colon) fault
as_line fault q ClosingBracket line colon n j = absurd (n refl)
as_line fault q _ line colon n j = j

-- an operator is not a `)`
operator_no_closing : (symbol : Symbol) (operation : Operation) → operation_of symbol ≡ Some operation → symbol ≢ ClosingBracket
operator_no_closing symbol operation e c = let k : operation_of ClosingBracket ≡ Some operation = subst (λ s. operation_of s ≡ Some operation) c e in cc

pub name_no_closing : (symbol : Symbol) (name : Name) → name_in symbol ≡ Some name → symbol ≢ ClosingBracket
name_no_closing symbol name e c = let k : name_in ClosingBracket ≡ Some name = subst (λ s. name_in s ≡ Some name) c e in cc

-- a jump, a call or a return
transfer_is : (step : Step) → IsTransfer step → is_transfer (operation_in step) ≡ true
transfer_is (Load negated x) h = absurd h
transfer_is (Store storing x) h = absurd h
transfer_is (Apply operator x) h = absurd h
transfer_is Negate h = absurd h
transfer_is (Jump condition label) h = refl
transfer_is (Call condition instance arguments) h = refl
transfer_is (Return condition) h = refl

-- an identifier, and a colon after it
identifier_is : (symbol : Symbol) (name : Name) → name_in symbol ≡ Some name → is_identifier symbol ≡ true
identifier_is (Identifier bytes) name e = refl
identifier_is _ name e = absurd (cc)

follows : (following : List Mark) → ColonFollows following → colon_next following false ≡ true
follows [] h = absurd h
follows (mark ∷ marks) h = ap is_colon h

follows_not : (following : List Mark) → ¬ (ColonFollows following) → colon_next following false ≡ false
follows_not [] n = refl
follows_not (mark ∷ marks) n = no_colon_here mark.symbol n
  where
    no_colon_here : (symbol : Symbol) → symbol ≢ Colon → is_colon symbol ≡ false
    no_colon_here Colon n = absurd (n refl)
    no_colon_here _ n = refl

-- inside parentheses what precedes the last test is of no higher rank than too many lines
inside_detected : (q : Position) (o : Opening) (outer : List Opening) (symbol : Symbol) (line : ℕ) (colon : Bool) → Detected (fault_at_operator q symbol line colon) TooMany → Detected (fault_at_line q (o ∷ outer) symbol line colon) TooMany
inside_detected q o outer symbol line colon j =
    first_raised (begins_transfer (operation_of symbol)) NotAllowedInParentheses TooMany line _ (omega arith)
    (first_raised (is_identifier symbol && colon) NotAllowedInParentheses TooMany line _ (omega arith)
    (first_raised (has_name symbol (end_word q.unit.kind)) ParenthesisNotPaired TooMany o.line _ (omega arith) j))

any_line_detected : (q : Position) (openings : List Opening) (symbol : Symbol) (line : ℕ) (colon : Bool) → Detected (fault_at_operator q symbol line colon) TooMany → Detected (fault_at_line q openings symbol line colon) TooMany
any_line_detected q [] symbol line colon j = j
any_line_detected q (o ∷ outer) symbol line colon j = inside_detected q o outer symbol line colon j

-- inside parentheses a jump, a call, a return or a label
transfer_detected : (q : Position) (openings : List Opening) (symbol : Symbol) (line : ℕ) (colon : Bool) → openings ≢ [] → (begins_transfer (operation_of symbol) ≡ true) ⊎ ((is_identifier symbol && colon) ≡ true) → Detected (fault_at_line q openings symbol line colon) NotAllowedInParentheses
transfer_detected q [] symbol line colon n h = absurd (n refl)
transfer_detected q (o ∷ outer) symbol line colon n (inl e) = raised_here (begins_transfer (operation_of symbol)) NotAllowedInParentheses line _ e
transfer_detected q (o ∷ outer) symbol line colon n (inr e) =
    first_raised (begins_transfer (operation_of symbol)) NotAllowedInParentheses NotAllowedInParentheses line _ (omega arith) (raised_here (is_identifier symbol && colon) NotAllowedInParentheses line _ e)

-- inside parentheses the word that ends the unit
end_detected : (q : Position) (openings : List Opening) (symbol : Symbol) (line : ℕ) (colon : Bool) (innermost : Opening) (outer : List Opening) → openings ≡ innermost ∷ outer → has_name symbol (end_word q.unit.kind) ≡ true
    → Detected (fault_at_line q openings symbol line colon) ParenthesisNotPaired
end_detected q [] symbol line colon innermost outer e h = absurd (cc)
end_detected q (o ∷ os) symbol line colon innermost outer e h =
    first_raised (begins_transfer (operation_of symbol)) NotAllowedInParentheses ParenthesisNotPaired line _ (omega arith)
    (first_raised (is_identifier symbol && colon) NotAllowedInParentheses ParenthesisNotPaired line _ (omega arith)
    (raised_here (has_name symbol (end_word q.unit.kind)) ParenthesisNotPaired o.line _ h))

named_has : (symbol : Symbol) (name : Name) → name_in symbol ≡ Some name → has_name symbol name ≡ true
named_has (Identifier bytes) name e = let n : name_of bytes ≡ name = cc in ap (λ m. same_name m name) n ∙ is_same name
named_has _ name e = absurd (cc)

-- too many at a `)`
full_detected : (q : Position) (openings : List Opening) (line : ℕ) → openings ≢ [] → is_full q ≡ true → Detected (fault_at_closing q openings line) TooMany
full_detected q [] line n e = absurd (n refl)
full_detected q (o ∷ outer) line n e = first_raised (not (has_content o.operand q.done)) EmptyParentheses TooMany line _ (omega arith) (raised_last (is_full q) TooMany line e)

-- a label and its colon lead after them
label_walked : (p : Position) (label : Word) (tokens : List Mark) (colon : Bool) → p.openings ≡ [] → label_in InBody (Some label) tokens → walk (AtLine p) tokens colon ≡ Some (OnLine p (Labelled label))
label_walked p label [] colon e h = absurd (both_empty h).0
label_walked p label (mark ∷ []) colon e h = absurd (next_is h).1
label_walked p label (mark ∷ second ∷ third ∷ more) colon e h = absurd (next_is h).1
label_walked p label (mark ∷ second ∷ []) colon e h =
    let k = next_is h in
    named mark.symbol label.name k.0.0 (λ bytes y n.
    ap (λ s. walk_on (move (AtLine p) mark.symbol mark.line (is_colon s)) (second ∷ []) colon) k.1
    ∙ ap (λ s. walk_on (move (AtLine p) s mark.line true) (second ∷ []) colon) y
    ∙ ap (λ os. walk_on (start_move p os (Identifier bytes) mark.line true) (second ∷ []) colon) e
    ∙ ap (λ w. walk_on (move (OnLine p (Worded w)) second.symbol second.line colon) [] colon) (word_is label mark.line (name_of bytes) k.0.1 n)
    ∙ ap (λ s. walk_on (move (OnLine p (Worded label)) s second.line colon) [] colon) k.1)

-- tokens that stop after a line's label lead there
labelled_walked : (p : Position) (label : Word) (tokens : List Mark) (colon : Bool) → at_instruction p (Some label) tokens → walk at_first tokens colon ≡ Some (OnLine (plain p) (Labelled label))
labelled_walked p label tokens colon h = by_openings p.openings refl h.goes_on
  where
    by_openings : (openings : List Opening) → p.openings ≡ openings → label_in (setting_in p.openings) (Some label) h.rest → walk at_first tokens colon ≡ Some (OnLine (plain p) (Labelled label))
    by_openings [] e k =
        subst (λ ts. walk at_first ts colon ≡ Some (OnLine (plain p) (Labelled label))) (sym h.whole)
        (walk_then at_first (AtLine (plain p)) h.prefix h.rest colon _ (at_line_walked p h.prefix (colon_next h.rest colon) h.begins)
        (label_walked (plain p) label h.rest colon e (subst (λ os. label_in (setting_in os) (Some label) h.rest) e k)))
    by_openings (o ∷ outer) e k = absurd (subst (λ os. label_in (setting_in os) (Some label) h.rest) e k)

-- an operator that may open a parenthesis, with no label before it
operator_moves : (p : Position) (operator : Operator) (mark : Mark) → IsOperator operator mark → move (AtLine p) mark.symbol mark.line false ≡ Some (OnLine p (Operated (record { label = None; line = mark.line }) (Applies operator)))
operator_moves p operator mark h =
    let e = operator_is operator mark h in
    let t = taken (setting_in p.openings) mark.symbol mark.line (Operates (Applies operator)) false e refl (λ s. refl) in
    begins p p.openings mark.symbol mark.line (Opens None mark.line operator None) (mark_on OpeningBracket 0 ∷ mark_on LineEnd 0 ∷ []) false refl
    (subst (λ o. Leads o (Opens None mark.line operator None) (mark_on OpeningBracket 0 ∷ mark_on LineEnd 0 ∷ [])) (sym t) (inr (operator, None, refl, refl, next refl (pass refl refl))))
    ∙ ap (started_line p) t

labelled_moves : (p : Position) (label : Word) (operator : Operator) (mark : Mark) (colon : Bool) → IsOperator operator mark
    → move (OnLine p (Labelled label)) mark.symbol mark.line colon ≡ Some (OnLine p (Operated (record { label = Some label; line = mark.line }) (Applies operator)))
labelled_moves p label operator mark colon h = ap (started_line p) (labelled_operator label mark.symbol mark.line (Operates (Applies operator)) (operator_is operator mark h))

one_walked : (state : State) (p : Position) (label : Option Word) (line : ℕ) (operator : Operator) (tokens : List Mark) → one (IsOn line (IsOperator operator)) tokens
    → ((mark : Mark) → IsOperator operator mark → move state mark.symbol mark.line false ≡ Some (OnLine p (Operated (record { label = label; line = mark.line }) (Applies operator))))
    → walk state tokens false ≡ Some (OnLine p (Operated (record { label = label; line = line }) (Applies operator)))
one_walked state p label line operator [] h f = absurd h
one_walked state p label line operator (x ∷ y ∷ more) h f = absurd h
one_walked state p label line operator (mark ∷ []) h f =
    ap (λ o. walk_on o [] false) (f mark h.0) ∙ ap (λ n. Some (OnLine p (Operated (record { label = label; line = n }) (Applies operator)))) h.1

-- tokens that stop after an operator that may open a parenthesis lead there
pub operator_walked : (p : Position) (label : Option Word) (line : ℕ) (operator : Operator) (tokens : List Mark) → (at_instruction p label then one (IsOn line (IsOperator operator))) tokens
    → walk at_first tokens false ≡ Some (OnLine (plain p) (Operated (record { label = label; line = line }) (Applies operator)))
operator_walked p None line operator tokens h =
    subst (λ ts. walk at_first ts false ≡ Some (OnLine (plain p) (Operated (record { label = None; line = line }) (Applies operator)))) (sym h.whole)
    (walk_then at_first (AtLine (plain p)) h.prefix h.rest false _
    (at_line_walked p h.prefix (colon_next h.rest false) (subst (at_line p) (sym (append-nil h.begins.prefix) ∙ ap (λ ts. h.begins.prefix ++ ts) (sym h.begins.goes_on) ∙ sym h.begins.whole) h.begins.begins))
    (one_walked (AtLine (plain p)) (plain p) None line operator h.rest h.goes_on (λ mark k. operator_moves (plain p) operator mark k)))
operator_walked p (Some label) line operator tokens h =
    subst (λ ts. walk at_first ts false ≡ Some (OnLine (plain p) (Operated (record { label = Some label; line = line }) (Applies operator)))) (sym h.whole)
    (walk_then at_first (OnLine (plain p) (Labelled label)) h.prefix h.rest false _ (labelled_walked p label h.prefix (colon_next h.rest false) h.begins)
    (one_walked (OnLine (plain p) (Labelled label)) (plain p) (Some label) line operator h.rest h.goes_on (λ mark k. labelled_moves (plain p) label operator mark false k)))

-- an operator if a unit has as many lines as it may
operator_detected : (q : Position) (symbol : Symbol) (line : ℕ) (colon : Bool) (operation : Operation) → operation_of symbol ≡ Some operation → colon ≡ false → is_full q ≡ true → Detected (fault_at_operator q symbol line colon) TooMany
operator_detected q symbol line colon operation e n f =
    raised_last (is_some (operation_of symbol) && not colon && is_full q) TooMany line (ap (λ o. is_some o && not colon && is_full q) e ∙ ap (λ c. not c && is_full q) n ∙ f)

instruction_detected : (p : Position) (label : Option Word) (before : List Mark) (mark : Mark) (following : List Mark) (state : State) → walk at_first before (is_colon mark.symbol) ≡ Some state → at_instruction p label before
    → most_lines ≤ lines_before p → BeginsInstruction label mark following → Detected (fault_at state mark.symbol mark.line (colon_next following false)) TooMany
instruction_detected p None before mark following state w h full b =
    let e = step_begins b.0.0 mark b.0.1 in
    let here : at_line p before = subst (at_line p) (sym (append-nil h.prefix) ∙ ap (λ ts. h.prefix ++ ts) (sym h.goes_on) ∙ sym h.whole) h.begins in
    line_detected TooMany p before mark.symbol mark.line (colon_next following false) state w here
    (as_line TooMany (plain p) mark.symbol mark.line (colon_next following false) (operator_no_closing mark.symbol (operation_in b.0.0) e)
    (any_line_detected (plain p) p.openings mark.symbol mark.line (colon_next following false) (operator_detected (plain p) mark.symbol mark.line (colon_next following false) (operation_in b.0.0) e (follows_not following (b.1 refl)) (at_most most_lines (lines_before p) full))))
instruction_detected p (Some label) before mark following state w h full b =
    let e = step_begins b.0.0 mark b.0.1 in
    subst (λ s. Detected (fault_at s mark.symbol mark.line (colon_next following false)) TooMany) (sym (same_end before (is_colon mark.symbol) state (OnLine (plain p) (Labelled label)) w (labelled_walked p label before (is_colon mark.symbol) h)))
    (raised_last (is_some (operation_of mark.symbol) && is_full (plain p)) TooMany mark.line (ap (λ o. is_some o && is_full (plain p)) e ∙ at_most most_lines (lines_before p) full))

-- Each fault that is found at a token, other than that it is unexpected, is detected there, or one of lower rank.
pub detected : (fault : ReadingFault) (before : List Mark) (mark : Mark) (following : List Mark) (line : ℕ) (state : State) → walk at_first before (is_colon mark.symbol) ≡ Some state → fault ≢ UnexpectedToken → RaisedAtToken fault before mark following line
    → Detected (fault_at state mark.symbol mark.line (colon_next following false)) fault
detected UnexpectedToken before mark following line state w n h = absurd (n refl)
detected UnitNotClosed before mark following line state w n h = absurd h
detected NotOneProgramLast before mark following line state w n h =
    unit_detected NotOneProgramLast before mark.symbol mark.line (colon_next following false) state h.0 h.3.0 w h.1 h.3.1 (raised_here (has_program h.0) NotOneProgramLast mark.line _ (program_found h.0 h.2))
detected EmptyParentheses before mark following line state w n h =
    closing_detected EmptyParentheses h.0 before mark.symbol mark.line (colon_next following false) state w h.1 h.5
    (subst (λ os. Detected (fault_at_closing (plain h.0) os mark.line) EmptyParentheses) (sym h.3.1) (raised_here (not (has_content h.2.operand h.0.done)) EmptyParentheses mark.line _ (no_content h.2.operand h.0.done h.4)))
detected NotAllowedInParentheses before mark following line state w n h =
    line_detected NotAllowedInParentheses h.0 before mark.symbol mark.line (colon_next following false) state w h.1
    (as_line NotAllowedInParentheses (plain h.0) mark.symbol mark.line (colon_next following false) (no_closing h.3) (transfer_detected (plain h.0) h.0.openings mark.symbol mark.line (colon_next following false) h.2 (begins_so h.3)))
  where
    no_closing : BeginsTransferOrLabel mark following → mark.symbol ≢ ClosingBracket
    no_closing (inl b) = operator_no_closing mark.symbol (operation_in b.0) (step_begins b.0 mark b.2)
    no_closing (inr b) = name_no_closing mark.symbol b.0.0 b.0.1

    begins_so : BeginsTransferOrLabel mark following → (begins_transfer (operation_of mark.symbol) ≡ true) ⊎ ((is_identifier mark.symbol && colon_next following false) ≡ true)
    begins_so (inl b) = inl (ap begins_transfer (step_begins b.0 mark b.2) ∙ transfer_is b.0 b.1)
    begins_so (inr b) = inr (ap (λ i. i && colon_next following false) (identifier_is mark.symbol b.0.0 b.0.1) ∙ follows following b.1)
detected ParenthesisNotPaired before mark following line state w n h = by_shape h.2
  where
    by_shape : (((h.0).openings ≡ []) × IsSymbol ClosingBracket mark × (line ≡ mark.line)) ⊎ ((innermost : Opening) × IsInnermost h.0 innermost × IsNamed (end_word (h.0).unit.kind) mark × (line ≡ innermost.line))
        → Detected (fault_at state mark.symbol mark.line (colon_next following false)) ParenthesisNotPaired
    by_shape (inl k) = closing_detected ParenthesisNotPaired h.0 before mark.symbol mark.line (colon_next following false) state w h.1 k.1 (subst (λ os. Detected (fault_at_closing (plain h.0) os mark.line) ParenthesisNotPaired) (sym k.0) (raised_last true ParenthesisNotPaired mark.line refl))
    by_shape (inr k) =
        line_detected ParenthesisNotPaired h.0 before mark.symbol mark.line (colon_next following false) state w h.1
        (as_line ParenthesisNotPaired (plain h.0) mark.symbol mark.line (colon_next following false) (name_no_closing mark.symbol _ k.2)
        (end_detected (plain h.0) (h.0).openings mark.symbol mark.line (colon_next following false) k.0 k.1.0 k.1.1 (named_has mark.symbol _ k.2)))
detected TooDeep before mark following line state w n h =
    let c : is_colon mark.symbol ≡ false = ap is_colon h.5 in
    let s = same_end before false state _ (subst (λ c. walk at_first before c ≡ Some state) c w) (operator_walked h.0 h.1 line h.2 before h.3) in
    subst (λ s. Detected (fault_at s mark.symbol mark.line (colon_next following false)) TooDeep) (sym s)
    (subst (λ y. Detected (fault_at (OnLine (plain h.0) (Operated (record { label = h.1; line = line }) (Applies h.2))) y mark.line (colon_next following false)) TooDeep) (sym h.5)
    (raised_last (nat_le most_depth (length (h.0).openings)) TooDeep line (at_most most_depth (length (h.0).openings) h.4)))
detected TooMany before mark following line state w n h = by_shape h.0
  where
    by_shape : (((whole : List ProgramUnit) × units whole before × (most_units ≤ length whole) × BeginsUnit mark)
        ⊎ ((p : Position) × (label : Option Word) × at_instruction p label before × (most_lines ≤ lines_before p) × BeginsInstruction label mark following)
        ⊎ ((p : Position) × at_line p before × (p.openings ≢ []) × (most_lines ≤ lines_before p) × IsSymbol ClosingBracket mark))
        → Detected (fault_at state mark.symbol mark.line (colon_next following false)) TooMany
    by_shape (inl k) =
        unit_detected TooMany before mark.symbol mark.line (colon_next following false) state k.0 k.3.0 w k.1 k.3.1
        (first_raised (has_program k.0) NotOneProgramLast TooMany mark.line _ (omega arith) (raised_last (nat_le most_units (length k.0)) TooMany mark.line (at_most most_units (length k.0) k.2)))
    by_shape (inr (inl k)) = instruction_detected k.0 k.1 before mark following state w k.2 k.3 k.4
    by_shape (inr (inr k)) = closing_detected TooMany k.0 before mark.symbol mark.line (colon_next following false) state w k.1 k.4 (full_detected (plain k.0) (k.0).openings mark.line k.2 (at_most most_lines (lines_before k.0) k.3))
