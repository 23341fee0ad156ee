-- Which fault is found at the text's end.
use Rattle.std.proofs.Common.{◌≡◌, ◌≤◌, ℕ, Bool, true, false, List, [], ◌∷◌, ◌++◌, Some, None, refl, ap, subst, append-nil, if◌then◌else◌, ◌∙◌, sym, inl, inr, arith, ◌⊎◌}
use Rattle.std.specs.Prelude.{Ok, Err, Result}
use Rattle.wc_laws_grammar.proofs.Appending.{append_last}
use Rattle.wc_laws_grammar.proofs.Exits.{Completed, IsOpening, NoOpens, completed}
use Rattle.wc_laws_grammar.proofs.InParentheses.{inside_is_reported}
use Rattle.wc_laws_grammar.proofs.InUnit.{Split, split_closed, split_line, split_on, split_section, split_unnamed, stops_in_unit}
use Rattle.wc_laws_grammar.proofs.Detected.{same_end}
use Rattle.wc_laws_grammar.specs.{LineShape, LabelAlone, Instructs, Opens, StartedLine, OfStep, OfOpening, OfArgument, LineState, Bracketed, Named, Pointed, BracketedWith, State, Outside, Unnamed, Declaring, AtLine, OnLine, Closed, Raised, at_end, at_first, has_program, open_in, open_on, walk}
use Rattle.wc_laws_grammar.proofs.LineRests.{line_of, rest_of}
use Rattle.wc_laws_grammar.proofs.LineSound.{mark_on}
use Rattle.wc_laws_grammar.proofs.Orders.{IsOpen, Ordered, all_blocks, open_is}
use Rattle.wc_laws_grammar.proofs.Stops.{opening_ends, opening_line}
use Rattle.wc_laws_grammar.proofs.Reported.{AfterClosing, Exact, InLine, PartOpened, Reported}
use Rattle.wc_laws_grammar.proofs.WalkedLines.{not_complete}
use Rattle.wc_laws_grammar.proofs.WalkedUnits.{units_walked}
use Rattle.wc_laws_grammar.proofs.Languages.{joined, next, pass, ungroup}
use Rattle.wc_model.specs.Definitions.{InParentheses, IsOn, bracket, head, label_in, lines, operand, symbol, units, not_word, ◌then◌, ◌or◌, started, one, optional, unfinished, ClosingBracket, Identifier, IsSymbol, LineEnd, Mark, Opening, Position, StopsInParentheses, StopsInUnit, at_line, cut_short, cut_short_inside, opening_cut_short, openings_of, part_of_line, setting_in, RaisedAtEnd, NotOneProgramLast, ParenthesisNotPaired, ReadingFault, UnitNotClosed, rank_of, Text, End, Negate, ProgramUnit}
use Rattle.wc_model.specs.declared.operator.Operator.{Operator}

-- tokens stop in parentheses whose opening is on this line
abbrev StopsOn : List Mark → ℕ → Type 0
StopsOn tokens line = (innermost : Opening) × StopsInParentheses innermost tokens × (line ≡ innermost.line)

-- a position inside, and a part of a line
inside_with : (p : Position) (o : Opening) (outer : List Opening) (prefix part : List Mark) → p.openings ≡ o ∷ outer → at_line p prefix → part_of_line InParentheses part → StopsOn (prefix ++ part) o.line
inside_with p o outer prefix part e h k =
    (o, (p.before, p.unit, outer, p.done, append_last part (λ ts l. append_last part (λ vs m. inr (following vs (subst (λ os. (openings_of os then lines (setting_in os) p.done) vs) e m))) l) h), refl)
  where
    following : (vs : List Mark) → (openings_of (o ∷ outer) then lines InParentheses p.done) vs → cut_short_inside (o ∷ outer) p.done (vs ++ part)
    following vs m = append_last part (λ ws n. joined ws part n k) m

-- the start of a line inside
at_line_inside : (p : Position) (o : Opening) (outer : List Opening) (tokens : List Mark) → p.openings ≡ o ∷ outer → at_line p tokens → StopsOn tokens o.line
at_line_inside p o outer tokens e h =
    subst (λ ts. StopsOn ts o.line) (append-nil tokens) (inside_with p o outer tokens [] e h (inl (None, 0, Negate, ((λ t. t), (mark_on (Identifier not_word) 0, mark_on LineEnd 0 ∷ [], pass refl (record { prefix = mark_on (Identifier not_word) 0 ∷ []; rest = mark_on LineEnd 0 ∷ []; whole = refl; begins = next (refl, refl) refl; goes_on = refl }))))))

-- a line inside that opens nothing
cut_of : (line_shape : LineShape) (part : List Mark) (first : Mark) (more : List Mark) → NoOpens line_shape → line_of InParentheses line_shape (part ++ first ∷ more) → cut_short InParentheses part
cut_of (LabelAlone label) part first more n k = absurd k.begins
cut_of (Instructs label line step) part first more n k = (label, line, step, (k.0, (first, more, k.1)))
cut_of (Opens label line operator x) part first more n k = absurd n

plain_inside : (p : Position) (o : Opening) (outer : List Opening) (state : LineState) (tokens : List Mark) (line_shape : LineShape) (more : List Mark) → p.openings ≡ o ∷ outer → InLine p state tokens → IsOpen state → NoOpens line_shape → rest_of state line_shape more → StopsOn tokens o.line
plain_inside p o outer state tokens line_shape [] e h i n r = absurd (not_complete state line_shape (open_is state i) r)
plain_inside p o outer state tokens line_shape (first ∷ more) e h i n r =
    subst (λ ts. StopsOn ts o.line) (sym h.whole)
    (inside_with p o outer h.prefix h.part e h.begins (inl (cut_of line_shape h.part first more n (subst (λ os. line_of (setting_in os) line_shape (h.part ++ first ∷ more)) e (h.goes line_shape (first ∷ more) r)))))

-- an opening line
opening_with : (p : Position) (start : StartedLine) (operator : Operator) (state : LineState) (tokens : List Mark) (line_shape : LineShape) (more : List Mark) (h : InLine p state tokens) → PartOpened (setting_in p.openings) start operator state h.part → IsOpen state → rest_of state line_shape more
    → StopsOn tokens start.line
opening_with p start operator state tokens line_shape [] h k i r = absurd (not_complete state line_shape (open_is state i) r)
opening_with p start operator state tokens line_shape (first ∷ more) h k i r =
    let g = k.goes line_shape (first ∷ more) r in
    let o : Opening = record { before = p.done; label = start.label; line = start.line; operator = operator; operand = g.0 } in
    let u : unfinished (optional operand g.0 then symbol LineEnd) k.following = (first, more, g.1) in
    let part = k.prefix ++ k.following in
    let b : (label_in (setting_in p.openings) start.label then bracket start.line operator then unfinished (optional operand g.0 then symbol LineEnd)) part = ungroup (joined k.prefix k.following k.begins u) in
    let whole : tokens ≡ h.prefix ++ part = h.whole ∙ ap (λ ts. h.prefix ++ ts) k.whole in (
      o,
      (
        p.before,
        p.unit,
        p.openings,
        End,
        subst (units p.before then head p.unit then (opening_cut_short p.openings o or cut_short_inside (o ∷ p.openings) End)) (sym whole)
            (append_last part (λ ts l. append_last part (λ vs m. inl (append_last part (λ ws n. joined ws part n b) m)) l) h.begins),
      ),
      refl,
    )

abbrev pub reported : Raised → Result Text Raised
reported raised = Err raised

abbrev pub raised_in : Raised → Result Text Raised → Raised
raised_in default (Ok text) = default
raised_in default (Err raised) = raised

-- two faults that are reported alike are the same
pub same_raised : (a b : Raised) → reported a ≡ reported b → a ≡ b
same_raised a b e = ap (raised_in a) e

opening_inside : (p : Position) (state : LineState) (tokens : List Mark) (line_shape : LineShape) (more : List Mark) (line last_line : ℕ) → InLine p state tokens → IsOpening state → rest_of state line_shape more → at_end (OnLine p state) last_line ≡ Err (record { fault = ParenthesisNotPaired; line = line }) → StopsOn tokens line
opening_inside p (Bracketed started operator) tokens line_shape more line last_line h o r e = let l : started.line ≡ line = ap (λ m. m.line) (same_raised _ _ e) in subst (StopsOn tokens) l (opening_with p started operator (Bracketed started operator) tokens line_shape more h h.exact tt r)
opening_inside p (BracketedWith started operator x) tokens line_shape more line last_line h o r e = let l : started.line ≡ line = ap (λ m. m.line) (same_raised _ _ e) in subst (StopsOn tokens) l (opening_with p started operator (BracketedWith started operator x) tokens line_shape more h h.exact tt r)
opening_inside p (Named started (OfOpening operator) name) tokens line_shape more line last_line h o r e = let l : started.line ≡ line = ap (λ m. m.line) (same_raised _ _ e) in subst (StopsOn tokens) l (opening_with p started operator (Named started (OfOpening operator) name) tokens line_shape more h h.exact tt r)
opening_inside p (Pointed started (OfOpening operator) name) tokens line_shape more line last_line h o r e = let l : started.line ≡ line = ap (λ m. m.line) (same_raised _ _ e) in subst (StopsOn tokens) l (opening_with p started operator (Pointed started (OfOpening operator) name) tokens line_shape more h h.exact tt r)
opening_inside p (Named started (OfStep operating) name) tokens line_shape more line last_line h o r e = absurd o
opening_inside p (Named started (OfArgument call input) name) tokens line_shape more line last_line h o r e = absurd o
opening_inside p (Pointed started (OfStep operating) name) tokens line_shape more line last_line h o r e = absurd o
opening_inside p (Pointed started (OfArgument call input) name) tokens line_shape more line last_line h o r e = absurd o
opening_inside p state tokens line_shape more line last_line h o r e = absurd o

-- a fault at the text's end, as it is found
is_inside : (unit : ProgramUnit) (openings : List Opening) (line : ℕ) → open_in unit openings ≡ record { fault = ParenthesisNotPaired; line = line } → (o : Opening) × (outer : List Opening) × (openings ≡ o ∷ outer) × (o.line ≡ line)
is_inside unit [] line e = let k = ap (λ m. rank_of m.fault) e in absurd (cc)
is_inside unit (o ∷ outer) line e = (o, outer, refl, ap (λ m. m.line) e)

on_line_inside : (p : Position) (state : LineState) (tokens : List Mark) (line last_line : ℕ) → InLine p state tokens → IsOpen state → at_end (OnLine p state) last_line ≡ Err (record { fault = ParenthesisNotPaired; line = line }) → StopsOn tokens line
on_line_inside p state tokens line last_line h i e = by_sort (completed state (λ s. subst (λ l. Exact (setting_in p.openings) l h.part) s h.exact) (open_is state i))
  where
    by_sort : Completed state → StopsOn tokens line
    by_sort c = elim c.sort [
      | inl o ↦ opening_inside p state tokens c.line_shape c.more line last_line h o c.rest e
      | inr n ↦
          let k = is_inside p.unit p.openings line (sym (n.1 p) ∙ same_raised (open_on p state) _ e) in
          subst (StopsOn tokens) k.3 (plain_inside p k.0 k.1 state tokens c.line_shape c.more k.2 h i n.0 c.rest)
    ]

-- after a `)` inside
closed_inside : (p : Position) (o : Opening) (outer : List Opening) (tokens : List Mark) → p.openings ≡ o ∷ outer → AfterClosing p tokens → StopsOn tokens o.line
closed_inside p o outer tokens e h =
    let outer_is : h.outer ≡ o ∷ outer = ap (λ q. q.openings) (sym h.position) ∙ e in (
      o,
      (
        h.inside.before,
        h.inside.unit,
        outer,
        h.o.before,
        subst (units h.inside.before then head h.inside.unit then (opening_cut_short outer o or cut_short_inside (o ∷ outer) h.o.before)) (sym h.whole)
            (append_last h.last (λ ts l. append_last h.last (λ vs m. inr (following vs (subst (λ os. (openings_of os then lines (setting_in os) h.inside.done) vs) (h.opened ∙ ap (λ os. h.o ∷ os) outer_is) m))) l) h.begins),
      ),
      refl,
    )
  where
    last_bracket : (tokens : List Mark) → one (IsOn h.close (IsSymbol ClosingBracket)) tokens → symbol ClosingBracket tokens
    last_bracket [] k = k
    last_bracket (mark ∷ []) k = k.0
    last_bracket (x ∷ y ∷ more) k = k

    following : (vs : List Mark) → (openings_of (h.o ∷ o ∷ outer) then lines InParentheses h.inside.done) vs → cut_short_inside (o ∷ outer) h.o.before (vs ++ h.last)
    following vs m =
        let k = ungroup m in
        append_last h.last (λ ws n.
        append_last h.last (λ xs w. inr (h.o.label, h.o.line, h.close, h.o.operator, h.o.operand, h.inside.done, (h.content, append_last h.last (λ ys u. append_last h.last (λ zs v. joined zs h.last v (last_bracket h.last h.closing)) u) (ungroup w)))) (ungroup n)) k

-- whole units, with a program or without
abbrev outcome : List ProgramUnit → ℕ → Bool → Result Text Raised
outcome us last_line b = if b then Ok us else Err (record { fault = NotOneProgramLast; line = last_line })

-- the fault of parentheses at the text's end
parentheses_raised : (state : State) (tokens : List Mark) (line last_line : ℕ) → Reported state tokens → Ordered state → at_end state last_line ≡ Err (record { fault = ParenthesisNotPaired; line = line }) → StopsOn tokens line
parentheses_raised (Outside us) tokens line last_line h o e = absurd (no_fault (has_program us) e)
  where
    no_fault : (b : Bool) → outcome us last_line b ≡ Err (record { fault = ParenthesisNotPaired; line = line }) → ⊥
    no_fault true e = cc
    no_fault false e = let k = ap (λ m. rank_of m.fault) (same_raised _ _ e) in omega (arith, k)
parentheses_raised (Unnamed us kind first) tokens line last_line h o e = let k = ap (λ m. rank_of m.fault) (same_raised _ _ e) in absurd (omega (arith, k))
parentheses_raised (Declaring us unit section place) tokens line last_line h o e = let k = ap (λ m. rank_of m.fault) (same_raised _ _ e) in absurd (omega (arith, k))
parentheses_raised (AtLine p) tokens line last_line h o e = let k = is_inside p.unit p.openings line (same_raised (open_in p.unit p.openings) _ e) in subst (StopsOn tokens) k.3 (at_line_inside p k.0 k.1 tokens k.2 h)
parentheses_raised (OnLine p state) tokens line last_line h o e = on_line_inside p state tokens line last_line h o.1 e
parentheses_raised (Closed p) tokens line last_line h o e = let k = is_inside p.unit p.openings line (same_raised (open_in p.unit p.openings) _ e) in subst (StopsOn tokens) k.3 (closed_inside p k.0 k.1 tokens k.2 h)

-- whether the walk is after whole units
abbrev InUnit : State → Type 0
InUnit (Outside us) = ⊥
InUnit _ = Unit {0}

-- in a unit there are no whole units
no_whole : (state : State) (tokens : List Mark) → InUnit state → walk at_first tokens false ≡ Some state → ¬ ((whole : List ProgramUnit) × units whole tokens)
no_whole state tokens i w h = subst InUnit (same_end tokens false state (Outside h.0) w (units_walked h.0 tokens false refl h.1)) i

-- in a unit the tokens stop in it, and if no parenthesis is reported, none is open
unit_raised : (state : State) (tokens : List Mark) (line last_line : ℕ) → InUnit state → walk at_first tokens false ≡ Some state → at_end state last_line ≡ reported (record { fault = UnitNotClosed; line = line })
    → ((unit : ProgramUnit) × StopsInUnit unit tokens × (line ≡ unit.line)) → RaisedAtEnd UnitNotClosed tokens last_line line
unit_raised state tokens line last_line i w e s = (s.0, s.1, (λ k. no_parenthesis k), no_whole state tokens i w, s.2)
  where
    no_parenthesis : (innermost : Opening) × StopsInParentheses innermost tokens → ⊥
    no_parenthesis k =
        let l = inside_is_reported k.0 tokens state k.1 w last_line in
        let m = ap (λ m. rank_of m.fault) (same_raised (record { fault = UnitNotClosed; line = line }) (record { fault = ParenthesisNotPaired; line = k.0.line }) (sym e ∙ l)) in
        omega (arith, m)

-- the line of a unit that is not closed
unit_line : (unit : ProgramUnit) (openings : List Opening) (line : ℕ) → open_in unit openings ≡ record { fault = UnitNotClosed; line = line } → unit.line ≡ line
unit_line unit [] line e = ap (λ m. m.line) e
unit_line unit (o ∷ outer) line e = let k = ap (λ m. rank_of m.fault) e in absurd (omega (arith, k))

open_line : (p : Position) (state : LineState) (line last_line : ℕ) → IsOpen state → (exact : List Mark) → Exact (setting_in p.openings) state exact → at_end (OnLine p state) last_line ≡ reported (record { fault = UnitNotClosed; line = line }) → p.unit.line ≡ line
open_line p state line last_line i part x e = by_sort (completed state (λ s. subst (λ l. Exact (setting_in p.openings) l part) s x) (open_is state i))
  where
    opening_fault : (p : Position) (state : LineState) → IsOpening state → at_end (OnLine p state) last_line ≡ reported (record { fault = UnitNotClosed; line = line }) → ⊥
    opening_fault p state o e =
        let l = opening_ends p state o last_line in
        let m = ap (λ m. rank_of m.fault) (same_raised (record { fault = UnitNotClosed; line = line }) (record { fault = ParenthesisNotPaired; line = opening_line state }) (sym e ∙ l)) in
        omega (arith, m)

    by_sort : Completed state → p.unit.line ≡ line
    by_sort c = elim c.sort [
      | inl o ↦ absurd (opening_fault p state o e)
      | inr n ↦ unit_line p.unit p.openings line (sym (n.1 p) ∙ same_raised (open_on p state) _ e)
    ]

-- a unit that is not closed
not_closed_raised : (state : State) (tokens : List Mark) (line last_line : ℕ) → Reported state tokens → Ordered state → walk at_first tokens false ≡ Some state → at_end state last_line ≡ reported (record { fault = UnitNotClosed; line = line }) → RaisedAtEnd UnitNotClosed tokens last_line line
not_closed_raised (Outside us) tokens line last_line h o w e = absurd (no_fault (has_program us) e)
  where
    no_fault : (b : Bool) → outcome us last_line b ≡ reported (record { fault = UnitNotClosed; line = line }) → ⊥
    no_fault true e = cc
    no_fault false e = let k = ap (λ m. rank_of m.fault) (same_raised _ _ e) in omega (arith, k)
not_closed_raised (Unnamed us kind first) tokens line last_line h o w e =
    unit_raised (Unnamed us kind first) tokens line last_line tt w e (stops_in_unit tokens line (subst (Split tokens) (ap (λ m. m.line) (same_raised _ _ e)) (split_unnamed us kind first tokens h)))
not_closed_raised (Declaring us unit section place) tokens line last_line h o w e =
    unit_raised (Declaring us unit section place) tokens line last_line tt w e (stops_in_unit tokens line (subst (Split tokens) (ap (λ m. m.line) (same_raised _ _ e)) (split_section us unit section place tokens h)))
not_closed_raised (AtLine p) tokens line last_line h o w e =
    unit_raised (AtLine p) tokens line last_line tt w e (stops_in_unit tokens line (subst (Split tokens) (unit_line p.unit p.openings line (same_raised (open_in p.unit p.openings) _ e)) (split_line p tokens h)))
not_closed_raised (OnLine p state) tokens line last_line h o w e =
    unit_raised (OnLine p state) tokens line last_line tt w e (stops_in_unit tokens line (subst (Split tokens) (open_line p state line last_line o.1 h.part h.exact e) (split_on p state tokens o.1 h)))
not_closed_raised (Closed p) tokens line last_line h o w e =
    unit_raised (Closed p) tokens line last_line tt w e (stops_in_unit tokens line (subst (Split tokens) (unit_line p.unit p.openings line (same_raised (open_in p.unit p.openings) _ e)) (split_closed p tokens h)))

-- units without a program
no_program_raised : (us : List ProgramUnit) (tokens : List Mark) (last_line : ℕ) → has_program us ≡ false → units us tokens → RaisedAtEnd NotOneProgramLast tokens last_line last_line
no_program_raised us tokens last_line e h = (us, h, all_blocks us e, refl)

-- What is reported at the text's end is found there, and of the faults that are found there it is the one that is reported.
pub record RaisedLast (tokens : List Mark) (last_line : ℕ) (raised : Raised) : Type 0 where
  pub raised_here : RaisedAtEnd raised.fault tokens last_line raised.line
  pub lowest : (other : ReadingFault) (place : ℕ) → RaisedAtEnd other tokens last_line place → rank_of raised.fault ≤ rank_of other

-- in a unit the text's end is found in the unit, or in parentheses
abbrev OneOfTwo : ReadingFault → Type 0
OneOfTwo fault = (fault ≡ UnitNotClosed) ⊎ (fault ≡ ParenthesisNotPaired)

open_in_one : (unit : ProgramUnit) (openings : List Opening) → OneOfTwo (open_in unit openings).fault
open_in_one unit [] = inl refl
open_in_one unit (o ∷ outer) = inr refl

open_on_one : (p : Position) (state : LineState) → OneOfTwo (open_on p state).fault
open_on_one p (Bracketed started operator) = inr refl
open_on_one p (BracketedWith started operator x) = inr refl
open_on_one p (Named started (OfOpening operator) name) = inr refl
open_on_one p (Pointed started (OfOpening operator) name) = inr refl
open_on_one p (Named started (OfStep operating) name) = open_in_one p.unit p.openings
open_on_one p (Named started (OfArgument call input) name) = open_in_one p.unit p.openings
open_on_one p (Pointed started (OfStep operating) name) = open_in_one p.unit p.openings
open_on_one p (Pointed started (OfArgument call input) name) = open_in_one p.unit p.openings
open_on_one p state = open_in_one p.unit p.openings

in_unit_one : (state : State) (last_line : ℕ) (raised : Raised) → InUnit state → at_end state last_line ≡ reported raised → OneOfTwo raised.fault
in_unit_one (Outside us) last_line raised i e = absurd i
in_unit_one (Unnamed us kind line) last_line raised i e = inl (ap (λ m. m.fault) (sym (same_raised _ raised e)))
in_unit_one (Declaring us unit section place) last_line raised i e = inl (ap (λ m. m.fault) (sym (same_raised _ raised e)))
in_unit_one (AtLine p) last_line raised i e = subst (λ m. OneOfTwo m.fault) (same_raised (open_in p.unit p.openings) raised e) (open_in_one p.unit p.openings)
in_unit_one (OnLine p state) last_line raised i e = subst (λ m. OneOfTwo m.fault) (same_raised (open_on p state) raised e) (open_on_one p state)
in_unit_one (Closed p) last_line raised i e = subst (λ m. OneOfTwo m.fault) (same_raised (open_in p.unit p.openings) raised e) (open_in_one p.unit p.openings)

-- no fault at the text's end is of lower rank than a unit that is not closed
least_rank : (other : ReadingFault) (tokens : List Mark) (last_line place : ℕ) → RaisedAtEnd other tokens last_line place → 202 ≤ rank_of other
least_rank UnitNotClosed tokens last_line place h = omega arith
least_rank NotOneProgramLast tokens last_line place h = omega arith
least_rank ParenthesisNotPaired tokens last_line place h = omega arith
least_rank _ tokens last_line place h = absurd h

-- after whole units only their order is at fault
whole_rank : (us : List ProgramUnit) (other : ReadingFault) (tokens : List Mark) (last_line place : ℕ) → units us tokens → RaisedAtEnd other tokens last_line place → 203 ≤ rank_of other
whole_rank us UnitNotClosed tokens last_line place w h = absurd (h.3 (us, w))
whole_rank us NotOneProgramLast tokens last_line place w h = omega arith
whole_rank us ParenthesisNotPaired tokens last_line place w h = omega arith
whole_rank us _ tokens last_line place w h = absurd h

-- in parentheses neither is at fault
inside_rank : (state : State) (other : ReadingFault) (tokens : List Mark) (line last_line place : ℕ) → InUnit state → walk at_first tokens false ≡ Some state → StopsOn tokens line → RaisedAtEnd other tokens last_line place → 206 ≤ rank_of other
inside_rank state UnitNotClosed tokens line last_line place i w s h = absurd (h.2 (s.0, s.1))
inside_rank state NotOneProgramLast tokens line last_line place i w s h = absurd (no_whole state tokens i w (h.0, h.1))
inside_rank state ParenthesisNotPaired tokens line last_line place i w s h = omega arith
inside_rank state _ tokens line last_line place i w s h = absurd h

raised_is : (raised : Raised) (fault : ReadingFault) → raised.fault ≡ fault → raised ≡ record { fault = fault; line = raised.line }
raised_is raised fault f = λ i. record { fault = f i; line = raised.line }

in_unit_raised : (state : State) (tokens : List Mark) (last_line : ℕ) (raised : Raised) → InUnit state → Reported state tokens → Ordered state → walk at_first tokens false ≡ Some state → at_end state last_line ≡ reported raised → OneOfTwo raised.fault → RaisedLast tokens last_line raised
in_unit_raised state tokens last_line raised i h o w e (inl f) =
    let m = raised_is raised UnitNotClosed f in
    subst (RaisedLast tokens last_line) (sym m) (record { raised_here = not_closed_raised state tokens raised.line last_line h o w (e ∙ ap reported m); lowest = λ other place k. least_rank other tokens last_line place k })
in_unit_raised state tokens last_line raised i h o w e (inr f) =
    let m = raised_is raised ParenthesisNotPaired f in
    let s = parentheses_raised state tokens raised.line last_line h o (e ∙ ap reported m) in
    subst (RaisedLast tokens last_line) (sym m) (record { raised_here = s; lowest = λ other place k. inside_rank state other tokens raised.line last_line place i w s k })

outside_raised : (us : List ProgramUnit) (tokens : List Mark) (last_line : ℕ) (raised : Raised) (b : Bool) → has_program us ≡ b → units us tokens → outcome us last_line b ≡ reported raised → RaisedLast tokens last_line raised
outside_raised us tokens last_line raised true p h e = absurd (cc)
outside_raised us tokens last_line raised false p h e =
    subst (RaisedLast tokens last_line) (same_raised _ raised e) (record { raised_here = no_program_raised us tokens last_line p h; lowest = λ other place k. whole_rank us other tokens last_line place h k })

-- the fault that the walk reports at the text's end
pub at_end_raised : (state : State) (tokens : List Mark) (last_line : ℕ) (raised : Raised) → Reported state tokens → Ordered state → walk at_first tokens false ≡ Some state → at_end state last_line ≡ Err raised → RaisedLast tokens last_line raised
at_end_raised (Outside us) tokens last_line raised h o w e = outside_raised us tokens last_line raised (has_program us) refl h e
at_end_raised (Unnamed us kind line) tokens last_line raised h o w e = in_unit_raised (Unnamed us kind line) tokens last_line raised tt h o w e (in_unit_one (Unnamed us kind line) last_line raised tt e)
at_end_raised (Declaring us unit section place) tokens last_line raised h o w e = in_unit_raised (Declaring us unit section place) tokens last_line raised tt h o w e (in_unit_one (Declaring us unit section place) last_line raised tt e)
at_end_raised (AtLine p) tokens last_line raised h o w e = in_unit_raised (AtLine p) tokens last_line raised tt h o w e (in_unit_one (AtLine p) last_line raised tt e)
at_end_raised (OnLine p state) tokens last_line raised h o w e = in_unit_raised (OnLine p state) tokens last_line raised tt h o w e (in_unit_one (OnLine p state) last_line raised tt e)
at_end_raised (Closed p) tokens last_line raised h o w e = in_unit_raised (Closed p) tokens last_line raised tt h o w e (in_unit_one (Closed p) last_line raised tt e)
