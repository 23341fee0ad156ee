-- A fault that is found names one line.
use Rattle.std.proofs.Common.{◌≡◌, ◌≢◌, ◌≤◌, ℕ, suc, ◌*◌, Bool, false, List, [], ◌∷◌, ◌++◌, length, length-append, Some, refl, ap, subst, append_assoc, ◌∙◌, sym, inl, inr, arith}
use Rattle.std.specs.Prelude.{◌⊎◌, option_map}
use Rattle.wc_laws_grammar.proofs.AtEnds.{same_raised}
use Rattle.wc_laws_grammar.proofs.InParentheses.{inside_is_reported, leads_inside}
use Rattle.wc_laws_grammar.proofs.Detected.{name_no_closing, operator_walked, same_end}
use Rattle.wc_laws_grammar.proofs.Languages.{next_is, ungroup}
use Rattle.wc_laws_grammar.proofs.LineComplete.{named}
use Rattle.wc_laws_grammar.proofs.LineStart.{no_colon_name}
use Rattle.wc_laws_grammar.proofs.Ranks.{walk_rises}
use Rattle.wc_laws_grammar.proofs.Readings.{walk_parts}
use Rattle.wc_laws_grammar.proofs.Unique.{cuts}
use Rattle.wc_laws_grammar.proofs.WalkedLines.{walk_on}
use Rattle.wc_laws_grammar.proofs.WalkedUnits.{at_line_walked, plain, unit_found, unit_walked, units_walked}
use Rattle.wc_laws_grammar.specs.{Operated, Raised, State, Outside, Unnamed, AtLine, OnLine, at_first, colon_next, is_colon, move, walk, found, unit_kinds}
use Rattle.wc_model.specs.Definitions.{unit_of, units, end_word, unit_word, ClosingBracket, IsNamed, IsSymbol, Mark, Opening, Position, StopsInUnit, EmptyParentheses, IsInnermost, IsRaised, RaisedAtEnd, RaisedAtToken, NotAllowedInParentheses, NotOneProgramLast, ParenthesisNotPaired, ReadingFault, TooDeep, TooMany, UnexpectedToken, UnitNotClosed, ProgramUnit}
use Rattle.wc_model.specs.declared.source.UnitKind.{UnitKind}

-- the parentheses that are open at a line
abbrev openings_at : State → List Opening
openings_at (AtLine p) = p.openings
openings_at state = []

-- the line of the operator after which a walk is
abbrev operator_line : State → ℕ
operator_line (OnLine p (Operated started operating)) = started.line
operator_line state = 0

-- two shapes of a parenthesis that is not paired
abbrev PairsNot : Position → Mark → ℕ → Type 0
PairsNot p mark line = ((p.openings ≡ []) × IsSymbol ClosingBracket mark × (line ≡ mark.line)) ⊎ ((innermost : Opening) × IsInnermost p innermost × IsNamed (end_word p.unit.kind) mark × (line ≡ innermost.line))

pairs_not : (p q : Position) (mark : Mark) (line place : ℕ) → p.openings ≡ q.openings → PairsNot p mark line → PairsNot q mark place → line ≡ place
pairs_not p q mark line place same (inl a) (inl b) = a.2 ∙ sym b.2
pairs_not p q mark line place same (inl a) (inr b) = absurd (name_no_closing mark.symbol _ b.2 a.1)
pairs_not p q mark line place same (inr a) (inl b) = absurd (name_no_closing mark.symbol _ a.2 b.1)
pairs_not p q mark line place same (inr a) (inr b) =
    let first : a.0 ∷ a.1.0 ≡ b.0 ∷ b.1.0 = sym a.1.1 ∙ same ∙ b.1.1 in
    let one : a.0 ≡ b.0 = cc in
    a.3 ∙ ap (λ (o : Opening). o.line) one ∙ sym b.3

-- a fault that is found at a token
at_token : (fault : ReadingFault) (before : List Mark) (mark : Mark) (following : List Mark) (line place : ℕ) → RaisedAtToken fault before mark following line → RaisedAtToken fault before mark following place → line ≡ place
at_token UnexpectedToken before mark following line place h k = h.1 ∙ sym k.1
at_token UnitNotClosed before mark following line place h k = absurd h
at_token NotOneProgramLast before mark following line place h k = h.4 ∙ sym k.4
at_token EmptyParentheses before mark following line place h k = h.6 ∙ sym k.6
at_token NotAllowedInParentheses before mark following line place h k = h.4 ∙ sym k.4
at_token ParenthesisNotPaired before mark following line place h k =
    let alike = same_end before false (AtLine (plain h.0)) (AtLine (plain k.0)) (at_line_walked h.0 before false h.1) (at_line_walked k.0 before false k.1) in
    pairs_not h.0 k.0 mark line place (ap openings_at alike) h.2 k.2
at_token TooDeep before mark following line place h k =
    ap operator_line (same_end before false _ _ (operator_walked h.0 h.1 line h.2 before h.3) (operator_walked k.0 k.1 place k.2 before k.3))
at_token TooMany before mark following line place h k = h.1 ∙ sym k.1

-- a unit begins with its first word, on its line
first_of_unit : (unit : ProgramUnit) (mark : Mark) (rest : List Mark) → unit_of unit (mark ∷ rest) → IsNamed (unit_word unit.kind) mark × (mark.line ≡ unit.line)
first_of_unit unit mark rest h = (next_is (ungroup h)).0

-- after that word the unit has started
begins : (us : List ProgramUnit) (mark : Mark) (kind : UnitKind) (colon : Bool) → IsNamed (unit_word kind) mark → move (Outside us) mark.symbol mark.line colon ≡ Some (Unnamed us kind mark.line)
begins us mark kind colon h =
    named mark.symbol (unit_word kind) h (λ bytes y n.
    ap (λ s. move (Outside us) s mark.line colon) y ∙ ap (option_map (λ k. Unnamed us k mark.line)) (ap (found unit_kinds) n ∙ unit_found kind))

-- from such a word on, the walk ends after the unit, or further
ends_after : (us : List ProgramUnit) (mark : Mark) (more : List Mark) (kind : UnitKind) (colon : Bool) (whole : List ProgramUnit) → IsNamed (unit_word kind) mark → walk (Outside us) (mark ∷ more) colon ≡ Some (Outside whole)
    → suc (2 * length us) ≤ 2 * length whole
ends_after us mark more kind colon whole h w =
    walk_rises (Unnamed us kind mark.line) (Outside whole) more colon (sym (ap (λ o. walk_on o more colon) (begins us mark kind (colon_next more colon) h)) ∙ w)

-- no unit that has started is followed by whole units in its middle
not_later : (us whole : List ProgramUnit) (unit other : ProgramUnit) (prefix more rest after next : List Mark) (t : Mark) → units us prefix → unit_of unit (((t ∷ more) ++ rest) ++ after) → units whole (prefix ++ t ∷ more)
    → rest ≢ [] → unit_of other (rest ++ next) → ⊥
not_later us whole unit other prefix more [] after next t u h v n k = n refl
not_later us whole unit other prefix more (m ∷ own) after next t u h v n k =
    let first = first_of_unit unit t ((more ++ m ∷ own) ++ after) h in
    let second = first_of_unit other m (own ++ next) k in
    let here : walk (Outside us) ((t ∷ more) ++ ((m ∷ own) ++ after)) false ≡ Some (Outside (us ++ unit ∷ [])) =
    subst (λ ts. walk (Outside us) ts false ≡ Some (Outside (us ++ unit ∷ []))) (append_assoc (t ∷ more) (m ∷ own) after) (unit_walked us unit (((t ∷ more) ++ (m ∷ own)) ++ after) false refl h) in
    let parts = walk_parts (Outside us) (Outside (us ++ unit ∷ [])) (t ∷ more) ((m ∷ own) ++ after) false here in
    let colon : is_colon m.symbol ≡ false = no_colon_name m.symbol (unit_word other.kind) second.0 in
    let starts : is_colon t.symbol ≡ false = no_colon_name t.symbol (unit_word unit.kind) first.0 in
    let both = walk_parts at_first (Outside whole) prefix (t ∷ more) (is_colon m.symbol) (units_walked whole (prefix ++ t ∷ more) (is_colon m.symbol) colon v) in
    let middle : both.0 ≡ Outside us = same_end prefix (is_colon t.symbol) both.0 (Outside us) both.1 (units_walked us prefix (is_colon t.symbol) starts u) in
    let there : walk (Outside us) (t ∷ more) (is_colon m.symbol) ≡ Some (Outside whole) = subst (λ s. walk s (t ∷ more) (is_colon m.symbol) ≡ Some (Outside whole)) middle both.2 in
    let some : Some parts.0 ≡ Some (Outside whole) = sym parts.1 ∙ there in
    let same : parts.0 ≡ Outside whole = cc in
    let on : walk (Outside whole) (m ∷ (own ++ after)) false ≡ Some (Outside (us ++ unit ∷ [])) = subst (λ s. walk s ((m ∷ own) ++ after) false ≡ Some (Outside (us ++ unit ∷ []))) same parts.2 in
    let low = ends_after us t more unit.kind (is_colon m.symbol) whole first.0 there in
    let high = ends_after whole m (own ++ after) other.kind false (us ++ unit ∷ []) second.0 on in
    let count = length-append us (unit ∷ []) in
    omega (arith, low, high, count)

-- if tokens stop in two units, both begin on one line
stops_on_one : (unit other : ProgramUnit) (tokens : List Mark) → StopsInUnit unit tokens → StopsInUnit other tokens → unit.line ≡ other.line
stops_on_one unit other tokens h k =
    let a = h.1 in
    let b = k.1 in
    elim (cuts a.prefix a.rest b.prefix b.rest (sym a.whole ∙ b.whole)) [
      | inl same ↦ same_first a.rest b.rest (a.goes_on.1.0 ∷ a.goes_on.1.1) (b.goes_on.1.0 ∷ b.goes_on.1.1) a.goes_on.0 a.goes_on.1.2 b.goes_on.1.2 same.1
      | inr r ↦ elim r [
        | inl later ↦ absurd (not_later h.0 k.0 unit other a.prefix later.1 b.rest (a.goes_on.1.0 ∷ a.goes_on.1.1) (b.goes_on.1.0 ∷ b.goes_on.1.1) later.0 a.begins
            (subst (λ ts. unit_of unit (ts ++ a.goes_on.1.0 ∷ a.goes_on.1.1)) later.3 a.goes_on.1.2) (subst (units k.0) later.2 b.begins) b.goes_on.0 b.goes_on.1.2)
        | inr earlier ↦ absurd (not_later k.0 h.0 other unit b.prefix earlier.1 a.rest (b.goes_on.1.0 ∷ b.goes_on.1.1) (a.goes_on.1.0 ∷ a.goes_on.1.1) earlier.0 b.begins
            (subst (λ ts. unit_of other (ts ++ b.goes_on.1.0 ∷ b.goes_on.1.1)) earlier.3 b.goes_on.1.2) (subst (units h.0) earlier.2 a.begins) a.goes_on.0 a.goes_on.1.2)
      ]
    ]
  where
    same_first : (rest left more last : List Mark) → rest ≢ [] → unit_of unit (rest ++ more) → unit_of other (left ++ last) → rest ≡ left → unit.line ≡ other.line
    same_first [] left more last n u v e = absurd (n refl)
    same_first (mark ∷ rest) [] more last n u v e = absurd (cc)
    same_first (mark ∷ rest) (other_mark ∷ left) more last n u v e =
        let one : mark ≡ other_mark = cc in
        sym (first_of_unit unit mark (rest ++ more) u).1 ∙ ap (λ (m : Mark). m.line) one ∙ (first_of_unit other other_mark (left ++ last) v).1

-- a fault that is found at the text's end
at_text_end : (fault : ReadingFault) (before : List Mark) (last_line line place : ℕ) → RaisedAtEnd fault before last_line line → RaisedAtEnd fault before last_line place → line ≡ place
at_text_end UnitNotClosed before last_line line place h k = h.4 ∙ stops_on_one h.0 k.0 before h.1 k.1 ∙ sym k.4
at_text_end NotOneProgramLast before last_line line place h k = h.3 ∙ sym k.3
at_text_end ParenthesisNotPaired before last_line line place h k =
    let leads = leads_inside h.0 before h.1 in
    let other = inside_is_reported k.0 before leads.0 k.1 leads.1 in
    let raised = same_raised (record { fault = ParenthesisNotPaired; line = h.0.line }) (record { fault = ParenthesisNotPaired; line = k.0.line }) (sym (leads.2 last_line) ∙ other last_line) in
    h.2 ∙ ap (λ (m : Raised). m.line) raised ∙ sym k.2
at_text_end fault before last_line line place h k = absurd h

-- a fault that is found, there or at a token
pub raised_on_one_line : (fault : ReadingFault) (before left : List Mark) (last_line line place : ℕ) → IsRaised fault before left last_line line → IsRaised fault before left last_line place → line ≡ place
raised_on_one_line fault before [] last_line line place h k = at_text_end fault before last_line line place h k
raised_on_one_line fault before (mark ∷ following) last_line line place h k = at_token fault before mark following line place h k
