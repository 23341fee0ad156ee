-- The laws of the grammar.
use Rattle.std.proofs.Common.{◌≡◌, ℕ, true, false, List, [], ◌∷◌, ◌++◌, Some, refl, ap, subst, append_assoc, ◌∙◌, sym, inl, inr, arith, ◌⊎◌}
use Rattle.std.specs.Prelude.{Ok, Err, Result}
use Rattle.wc_laws_grammar.proofs.AtEnds.{at_end_raised, reported}
use Rattle.wc_laws_grammar.proofs.Orders.{Ordered}
use Rattle.wc_laws_grammar.proofs.InParentheses.{inside_is_reported}
use Rattle.wc_laws_grammar.proofs.Detected.{Detected, detected, same_end}
use Rattle.wc_laws_grammar.specs.{State, Outside, Raised, at_end, at_first, colon_next, has_program, is_colon, fault_at, move, reading, walk, FaultSpellsNothing, OneText, TextOrFault}
use Rattle.wc_laws_grammar.proofs.Readings.{ended_at, outcome, program_in, read_all, read_is_spelled, refused_is_first, walk_parts}
use Rattle.wc_laws_grammar.proofs.Reported.{Reported}
use Rattle.wc_laws_grammar.proofs.ReportedOn.{reported_after, reported_first}
use Rattle.wc_laws_grammar.proofs.WalkedUnits.{units_walked}
use Rattle.wc_laws_grammar.proofs.WithinBack.{no_program}
use Rattle.wc_model.specs.Definitions.{Spells, IsWithinLimits, Mark, EmptyParentheses, IsFirstReadingFault, IsRaised, RaisedAtEnd, RaisedAtToken, NotAllowedInParentheses, NotOneProgramLast, ParenthesisNotPaired, ReadingFault, TooDeep, TooMany, UnexpectedToken, UnitNotClosed, rank_of, Text}

pub one_text : OneText
one_text tokens text other s o = outside_is (same_end tokens false (Outside text) (Outside other) (units_walked text tokens false refl s.spelled) (units_walked other tokens false refl o.spelled))
  where
    outside_is : Outside text ≡ Outside other → text ≡ other
    outside_is e = cc

pub text_or_fault : TextOrFault
text_or_fault tokens last_line = by_reading (reading at_first tokens last_line) refl
  where
    by_reading : (r : Result Text Raised) → reading at_first tokens last_line ≡ r → ((text : Text) × Spells tokens text × IsWithinLimits text) ⊎ ((fault : ReadingFault) × (line : ℕ) × IsFirstReadingFault tokens last_line fault line)
    by_reading (Ok text) e = let k = read_is_spelled tokens last_line text e in inl (text, k.0, k.1)
    by_reading (Err raised) e = inr (raised.fault, raised.line, refused_is_first tokens last_line raised e)

-- if a token's text is read on, no fault is detected there
none_detected : (state : State) (mark : Mark) (marks : List Mark) (last_line : ℕ) (text : Text) (fault : ReadingFault) → reading state (mark ∷ marks) last_line ≡ Ok text → Detected (fault_at state mark.symbol mark.line (colon_next marks false)) fault → ⊥
none_detected state mark marks last_line text fault e j =
    let k : outcome state mark marks last_line (Some j.detected) (move state mark.symbol mark.line (colon_next marks false)) ≡ Ok text =
    subst (λ q. outcome state mark marks last_line q (move state mark.symbol mark.line (colon_next marks false)) ≡ Ok text) j.is e in
    cc

-- no fault is found at a token of a text that is read
no_fault_raised : (state : State) (before : List Mark) (mark : Mark) (marks : List Mark) (last_line line : ℕ) (text : Text) (fault : ReadingFault) → walk at_first before (is_colon mark.symbol) ≡ Some state → reading state (mark ∷ marks) last_line ≡ Ok text
    → Spells (before ++ mark ∷ marks) text → ¬ (RaisedAtToken fault before mark marks line)
no_fault_raised state before mark marks last_line line text UnexpectedToken w e s h = h.0 (marks, (text, subst (λ ts. Spells ts text) (sym (append_assoc before (mark ∷ []) marks)) s))
no_fault_raised state before mark marks last_line line text UnitNotClosed w e s h = h
no_fault_raised state before mark marks last_line line text NotOneProgramLast w e s h = none_detected state mark marks last_line text NotOneProgramLast e (detected NotOneProgramLast before mark marks line state w (λ f. let k = ap rank_of f in omega (arith, k)) h)
no_fault_raised state before mark marks last_line line text EmptyParentheses w e s h = none_detected state mark marks last_line text EmptyParentheses e (detected EmptyParentheses before mark marks line state w (λ f. let k = ap rank_of f in omega (arith, k)) h)
no_fault_raised state before mark marks last_line line text NotAllowedInParentheses w e s h = none_detected state mark marks last_line text NotAllowedInParentheses e (detected NotAllowedInParentheses before mark marks line state w (λ f. let k = ap rank_of f in omega (arith, k)) h)
no_fault_raised state before mark marks last_line line text ParenthesisNotPaired w e s h = none_detected state mark marks last_line text ParenthesisNotPaired e (detected ParenthesisNotPaired before mark marks line state w (λ f. let k = ap rank_of f in omega (arith, k)) h)
no_fault_raised state before mark marks last_line line text TooDeep w e s h = none_detected state mark marks last_line text TooDeep e (detected TooDeep before mark marks line state w (λ f. let k = ap rank_of f in omega (arith, k)) h)
no_fault_raised state before mark marks last_line line text TooMany w e s h = none_detected state mark marks last_line text TooMany e (detected TooMany before mark marks line state w (λ f. let k = ap rank_of f in omega (arith, k)) h)

-- nor at its end
no_end_fault : (state : State) (before : List Mark) (last_line line : ℕ) (text : Text) (fault : ReadingFault) → walk at_first before false ≡ Some state → at_end state last_line ≡ Ok text → Reported state before → ¬ (RaisedAtEnd fault before last_line line)
no_end_fault state before last_line line text UnitNotClosed w e t h = let k = ended_at state last_line text e in h.3 (text, subst (λ s. Reported s before) k.is t)
no_end_fault state before last_line line text NotOneProgramLast w e t h =
    let k = ended_at state last_line text e in
    let s = same_end before false state (Outside h.0) w (units_walked h.0 before false refl h.1) in
    let o : Outside text ≡ Outside h.0 = sym k.is ∙ s in
    let u : text ≡ h.0 = cc in
    let n = no_program h.0 h.2 in
    let m : true ≡ false = sym (subst (λ x. has_program x ≡ true) u k.program) ∙ n in
    cc
no_end_fault state before last_line line text ParenthesisNotPaired w e t h =
    let l = inside_is_reported h.0 before state h.1 w last_line in
    let k : Ok text ≡ reported (record { fault = ParenthesisNotPaired; line = h.0.line }) = sym e ∙ l in
    cc
no_end_fault state before last_line line text _ w e t h = h

pub fault_spells_nothing : FaultSpellsNothing
fault_spells_nothing tokens last_line line fault text first spells within = by_left first.left refl
  where
    whole : walk at_first (first.before ++ first.left) false ≡ Some (Outside text)
    whole = subst (λ ts. walk at_first ts false ≡ Some (Outside text)) first.whole (units_walked text tokens false refl spells.spelled)

    by_left : (left : List Mark) → first.left ≡ left → ⊥
    by_left left e =
        let w : walk at_first (first.before ++ left) false ≡ Some (Outside text) = subst (λ l. walk at_first (first.before ++ l) false ≡ Some (Outside text)) e whole in
        let m : IsRaised fault first.before left last_line line = subst (λ l. IsRaised fault first.before l last_line line) e first.raised in
        let s : Spells (first.before ++ left) text = subst (λ l. Spells (first.before ++ l) text) e (subst (λ ts. Spells ts text) first.whole spells) in
        at_left left w m s
      where
        at_left : (left : List Mark) → walk at_first (first.before ++ left) false ≡ Some (Outside text) → IsRaised fault first.before left last_line line → Spells (first.before ++ left) text → ⊥
        at_left left w m s =
            let p = walk_parts at_first (Outside text) first.before left false w in
            let t : Reported p.0 first.before = reported_after at_first p.0 [] first.before (colon_next left false) reported_first p.1 in
            let c = read_all p.0 first.before left last_line text t ((within.units, within.bodies), inr spells.order) (program_in text spells.order) p.2 in
            at_state p.0 left p.1 c.read t m s
          where
            at_state : (state : State) (left : List Mark) → walk at_first first.before (colon_next left false) ≡ Some state → reading state left last_line ≡ Ok text → Reported state first.before → IsRaised fault first.before left last_line line → Spells (first.before ++ left) text → ⊥
            at_state state [] w e t m s = no_end_fault state first.before last_line line text fault w e t m
            at_state state (mark ∷ marks) w e t m s = no_fault_raised state first.before mark marks last_line line text fault w e s m

-- the fault at the text's end, by the state of the walk there
pub raised_at_end : (tokens : List Mark) (last_line : ℕ) (raised : Raised) (state : State) → walk at_first tokens false ≡ Some state → Ordered state → at_end state last_line ≡ Err raised → RaisedAtEnd raised.fault tokens last_line raised.line
raised_at_end tokens last_line raised state w o e = (at_end_raised state tokens last_line raised (reported_after at_first state [] tokens false reported_first w) o w e).raised_here
