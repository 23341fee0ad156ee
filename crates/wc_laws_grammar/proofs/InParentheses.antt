-- If tokens stop in parentheses, the walk says so.
use Rattle.std.proofs.Common.{◌≡◌, ℕ, false, List, [], ◌∷◌, ◌++◌, Option, Some, refl, ap, subst, ◌∙◌, sym, inl, inr}
use Rattle.std.specs.Prelude.{◌⊎◌, Err}
use Rattle.wc_laws_grammar.proofs.Detected.{operator_walked, same_end}
use Rattle.wc_laws_grammar.specs.{LineShape, Instructs, Opens, StartedLine, Bracketed, Operated, State, AtLine, OnLine, Closed, at_first, after_closing, after_line, colon_next, move, open_in, walk, Applies}
use Rattle.wc_laws_grammar.proofs.LineRests.{line_of}
use Rattle.wc_laws_grammar.proofs.LineStart.{bracket_no_colon}
use Rattle.wc_laws_grammar.proofs.Stops.{EndsOn, inside_begins, line_stays, on_line_ends, opening_ends, opening_line_is, opening_stays}
use Rattle.wc_laws_grammar.proofs.WalkedLines.{closing_walked, line_walked, lines_walked, walk_on, walk_then, with_lines}
use Rattle.wc_laws_grammar.proofs.WalkedUnits.{at_line_walked, plain}
use Rattle.wc_laws_grammar.proofs.Languages.{after, next_is, both_empty, regroup, ungroup}
use Rattle.wc_model.specs.Definitions.{InParentheses, IsOn, IsOperator, bracket, head, label_in, lines, operand, symbol, units, ◌then◌, one, optional, unfinished, ClosingBracket, IsSymbol, LineEnd, Mark, OpeningBracket, Lines, ProgramUnit, Term}
use Rattle.wc_model.specs.Text.Positions.{Opening, Position, StopsInParentheses, at_instruction, at_line, cut_short, closed, cut_short_inside, opening_cut_short, openings_of, part_of_line, setting_in}
use Rattle.wc_model.specs.declared.operator.Operator.{Operator}

-- if the walk leads, the text's end is found in parentheses, whose opening is on this line
abbrev LeadsInside : State → List Mark → ℕ → Type 0
LeadsInside from tokens line = (state : State) × (walk from tokens false ≡ Some state) × EndsOn state line

-- a position, and what is after it
to_line : (us : List ProgramUnit) (unit : ProgramUnit) (openings : List Opening) (done : Lines) (second : List Mark → Type 0) (tokens : List Mark)
    → (units us then head unit then openings_of openings then lines (setting_in openings) done then second) tokens
    → (at_line (record { before = us; unit = unit; openings = openings; done = done }) then second) tokens
to_line us unit openings done second tokens h = regroup (after (λ ts k. regroup (after (λ vs l. regroup l) k)) h)

-- after a bracket
after_bracket : (p : Position) (started : StartedLine) (operator : Operator) (x : Option Term) (tokens : List Mark) → (symbol OpeningBracket then unfinished (optional operand x then symbol LineEnd)) tokens → LeadsInside (OnLine p (Operated started (Applies operator))) tokens started.line
after_bracket p started operator x [] h = absurd (both_empty h).0
after_bracket p started operator x (mark ∷ marks) h =
    let k = next_is h in
    let s = opening_stays p (Bracketed started operator) (Opens started.label started.line operator x) marks k.1.0 k.1.1 false tt (x, refl, k.1.2) in (
      OnLine p s.0,
      ap (λ y. walk_on (move (OnLine p (Operated started (Applies operator))) y mark.line (colon_next marks false)) marks false) k.0 ∙ s.1,
      subst (EndsOn (OnLine p s.0)) (opening_line_is s.0 started.label started.line operator x (k.1.0 ∷ k.1.1) s.2 s.3) (opening_ends p s.0 s.2),
    )

-- on an opening line
stops_on_opening : (us : List ProgramUnit) (unit : ProgramUnit) (outer : List Opening) (o : Opening) (tokens : List Mark) → (units us then head unit then opening_cut_short outer o) tokens → LeadsInside at_first tokens o.line
stops_on_opening us unit outer o tokens h =
    let p : Position = record { before = us; unit = unit; openings = outer; done = o.before } in
    let k = to_line us unit outer o.before (label_in (setting_in outer) o.label then bracket o.line o.operator then unfinished (optional operand o.operand then symbol LineEnd)) tokens h in
    let l : ((at_instruction p o.label then one (IsOn o.line (IsOperator o.operator))) then (symbol OpeningBracket then unfinished (optional operand o.operand then symbol LineEnd))) tokens = regroup (regroup (after (λ ts m. after (λ vs n. ungroup n) m) k)) in
    let b = after_bracket (plain p) (record { label = o.label; line = o.line }) o.operator o.operand l.rest l.goes_on in (
      b.0,
      subst (λ ts. walk at_first ts false ≡ Some b.0) (sym l.whole)
          (walk_then at_first (OnLine (plain p) (Operated (record { label = o.label; line = o.line }) (Applies o.operator))) l.prefix l.rest false (Some b.0)
          (ap (walk at_first l.prefix) (bracket_no_colon _ l.rest false l.goes_on) ∙ operator_walked p o.label o.line o.operator l.prefix l.begins) b.1),
      b.2,
    )

-- on a line inside
part_inside : (p : Position) (o : Opening) (outer : List Opening) (tokens : List Mark) → p.openings ≡ o ∷ outer → cut_short InParentheses tokens → LeadsInside (AtLine p) tokens o.line
part_inside p o outer [] e h = (AtLine p, refl, λ last_line. ap (λ os. Err (open_in p.unit os)) e)
part_inside p o outer (mark ∷ marks) e h =
    let line_shape : LineShape = Instructs h.0 h.1 h.2 in
    let u = h.3.1 in
    let k : line_of (setting_in p.openings) line_shape (mark ∷ marks ++ u.0 ∷ u.1) = subst (λ os. line_of (setting_in os) line_shape (mark ∷ marks ++ u.0 ∷ u.1)) (sym e) (h.3.0, u.2) in
    let s = line_stays p line_shape mark marks u.0 u.1 false (inside_begins p o outer line_shape mark (marks ++ u.0 ∷ u.1) (colon_next marks false) e k) k in
    (OnLine p s.0, s.1, on_line_ends p o outer s.0 line_shape (u.0 ∷ u.1) e tt s.3)

closing_token : (tokens : List Mark) → symbol ClosingBracket tokens → (close : ℕ) × one (IsOn close (IsSymbol ClosingBracket)) tokens
closing_token [] h = absurd h
closing_token (mark ∷ []) h = (mark.line, (h, refl))
closing_token (x ∷ y ∷ more) h = absurd h

-- after a whole parenthesis inside
closed_inside : (p : Position) (o : Opening) (outer : List Opening) (tokens : List Mark) → p.openings ≡ o ∷ outer → closed InParentheses tokens → LeadsInside (AtLine p) tokens o.line
closed_inside p o outer tokens e h =
    let label = h.0 in
    let line = h.1 in
    let operator = h.3 in
    let x = h.4 in
    let inside = h.5 in
    let content = h.6.0 in
    let k = regroup h.6.1 in
    let c = closing_token k.goes_on.rest k.goes_on.goes_on in
    let q = with_lines (after_line p (Opens label line operator x)) inside in
    let r = after_closing q (record { before = p.done; label = label; line = line; operator = operator; operand = x }) p.openings c.0 in (
      Closed r,
      subst (λ ts. walk (AtLine p) ts false ≡ Some (Closed r)) (sym k.whole)
          (walk_then (AtLine p) (AtLine (after_line p (Opens label line operator x))) k.prefix k.rest false (Some (Closed r))
          (line_walked p (Opens label line operator x) k.prefix (colon_next k.rest false) (subst (λ os. line_of (setting_in os) (Opens label line operator x) k.prefix) (sym e) k.begins))
          (subst (λ ts. walk (AtLine (after_line p (Opens label line operator x))) ts false ≡ Some (Closed r)) (sym k.goes_on.whole)
          (walk_then (AtLine (after_line p (Opens label line operator x))) (AtLine q) k.goes_on.prefix k.goes_on.rest false (Some (Closed r))
          (lines_walked inside (after_line p (Opens label line operator x)) k.goes_on.prefix (colon_next k.goes_on.rest false) k.goes_on.begins)
          (closing_walked q (record { before = p.done; label = label; line = line; operator = operator; operand = x }) p.openings c.0 k.goes_on.rest false refl content c.1)))),
      λ last_line. ap (λ os. Err (open_in p.unit os)) e,
    )

inside_by : (p : Position) (o : Opening) (outer : List Opening) (tokens : List Mark) → p.openings ≡ o ∷ outer → part_of_line InParentheses tokens → LeadsInside (AtLine p) tokens o.line
inside_by p o outer tokens e (inl h) = part_inside p o outer tokens e h
inside_by p o outer tokens e (inr h) = closed_inside p o outer tokens e h

stops_inside : (us : List ProgramUnit) (unit : ProgramUnit) (o : Opening) (outer : List Opening) (done : Lines) (tokens : List Mark) → (units us then head unit then cut_short_inside (o ∷ outer) done) tokens → LeadsInside at_first tokens o.line
stops_inside us unit o outer done tokens h =
    let p : Position = record { before = us; unit = unit; openings = o ∷ outer; done = done } in
    let k = to_line us unit (o ∷ outer) done (part_of_line InParentheses) tokens h in
    let b = inside_by (plain p) o outer k.rest refl k.goes_on in
    (b.0, subst (λ ts. walk at_first ts false ≡ Some b.0) (sym k.whole) (walk_then at_first (AtLine (plain p)) k.prefix k.rest false (Some b.0) (at_line_walked p k.prefix (colon_next k.rest false) k.begins) b.1), b.2)

-- if tokens stop in parentheses, the walk leads into them
pub leads_inside : (innermost : Opening) (tokens : List Mark) → StopsInParentheses innermost tokens → LeadsInside at_first tokens innermost.line
leads_inside innermost tokens h = by_shape h.4.goes_on.goes_on
  where
    by_shape : (opening_cut_short h.2 innermost h.4.goes_on.rest) ⊎ (cut_short_inside (innermost ∷ h.2) h.3 h.4.goes_on.rest) → LeadsInside at_first tokens innermost.line
    by_shape (inl k) = stops_on_opening h.0 h.1 h.2 innermost tokens (record { prefix = h.4.prefix; rest = h.4.rest; whole = h.4.whole; begins = h.4.begins; goes_on = record { prefix = h.4.goes_on.prefix; rest = h.4.goes_on.rest; whole = h.4.goes_on.whole; begins = h.4.goes_on.begins; goes_on = k } })
    by_shape (inr k) = stops_inside h.0 h.1 innermost h.2 h.3 tokens (record { prefix = h.4.prefix; rest = h.4.rest; whole = h.4.whole; begins = h.4.begins; goes_on = record { prefix = h.4.goes_on.prefix; rest = h.4.goes_on.rest; whole = h.4.goes_on.whole; begins = h.4.goes_on.begins; goes_on = k } })

-- if tokens stop in parentheses, the text's end is found there
pub inside_is_reported : (innermost : Opening) (tokens : List Mark) (state : State) → StopsInParentheses innermost tokens → walk at_first tokens false ≡ Some state → EndsOn state innermost.line
inside_is_reported innermost tokens state h w =
    let l = leads_inside innermost tokens h in
    subst (λ s. EndsOn s innermost.line) (same_end tokens false l.0 state l.1 w) l.2
