-- Where the text's end is found in a unit, or in parentheses.
use Rattle.std.proofs.Common.{◌≡◌, ◌≢◌, ℕ, Bool, false, List, [], ◌∷◌, ◌++◌, Option, Some, None, refl, ap, subst, ◌∙◌, sym}
use Rattle.std.specs.Prelude.{Err}
use Rattle.wc_laws_grammar.proofs.Exits.{IsOpening, NoOpens}
use Rattle.wc_laws_grammar.proofs.LineComplete.{Leads, move_led}
use Rattle.wc_laws_grammar.specs.{at_bracketed, at_field, at_operand, name_or_literal, LineShape, Opens, StartedLine, OfStep, OfOpening, LineState, Bracketed, Named, Pointed, BracketedWith, Ended, at_start_in, line_move, State, AtLine, OnLine, started_line, at_end, colon_next, move, on_line, open_in, start_move, found, truths}
use Rattle.wc_laws_grammar.proofs.LineRests.{line_of, rest_of}
use Rattle.wc_laws_grammar.proofs.LineStart.{start_led}
use Rattle.wc_laws_grammar.proofs.Orders.{IsOpen}
use Rattle.wc_laws_grammar.proofs.WalkedLines.{begins, walk_on}
use Rattle.wc_model.specs.Definitions.{Setting, Name, name_of, Opening, Position, setting_in, ParenthesisNotPaired, Term, Word}
use Rattle.wc_model.specs.Text.Marks.{Direct, Identifier, LineEnd, Mark, Point, Symbol}
use Rattle.wc_model.specs.declared.operator.Operator.{Operator}

-- where a prefix of a line that has started stays on it
abbrev StaysOn : Position → LineShape → List Mark → List Mark → Bool → Option State → Type 0
StaysOn p line_shape left prefix colon from = (state : LineState) × (walk_on from prefix colon ≡ Some (OnLine p state)) × IsOpen state × rest_of state line_shape left

not_empty : (prefix : List Mark) (next : Mark) (more : List Mark) → prefix ++ next ∷ more ≢ []
not_empty [] next more e = cc
not_empty (mark ∷ prefix) next more e = cc

still_on : (p : Position) (line_shape : LineShape) (prefix : List Mark) (next : Mark) (more : List Mark) (colon : Bool)
    → ((state : LineState) → IsOpen state → rest_of state line_shape (prefix ++ next ∷ more) → StaysOn p line_shape (next ∷ more) prefix colon (Some (OnLine p state)))
    → (state : LineState) → rest_of state line_shape (prefix ++ next ∷ more) → StaysOn p line_shape (next ∷ more) prefix colon (Some (on_line p state))
still_on p line_shape prefix next more colon f (Ended ended) h = absurd (not_empty prefix next more h.1)
still_on p line_shape prefix next more colon f state h = f state tt h

-- a prefix of what completes a line that has started stays on the line
pub stays_on : (p : Position) (state : LineState) (line_shape : LineShape) (prefix : List Mark) (next : Mark) (more : List Mark) (colon : Bool) → IsOpen state → rest_of state line_shape (prefix ++ next ∷ more)
    → StaysOn p line_shape (next ∷ more) prefix colon (Some (OnLine p state))
stays_on p state line_shape [] next more colon o r = (state, refl, o, r)
stays_on p state line_shape (mark ∷ prefix) next more colon o r =
    elim (line_move (setting_in p.openings) state mark.symbol mark.line (colon_next prefix colon)) as (λ l. Leads l line_shape (prefix ++ next ∷ more) → StaysOn p line_shape (next ∷ more) prefix colon (started_line p l)) [
      | None ↦ λ h. absurd h
      | Some state' ↦ λ h. still_on p line_shape prefix next more colon (λ s o r. stays_on p s line_shape prefix next more colon o r) state' h
    ] (move_led (setting_in p.openings) state line_shape mark.symbol mark.line (colon_next prefix colon) (prefix ++ next ∷ more) r)

-- a prefix of a line that has a token is on it
pub line_stays : (p : Position) (line_shape : LineShape) (mark : Mark) (prefix : List Mark) (next : Mark) (more : List Mark) (colon : Bool)
    → move (AtLine p) mark.symbol mark.line (colon_next prefix colon) ≡ started_line p (at_start_in (setting_in p.openings) mark.symbol mark.line (colon_next (prefix ++ next ∷ more) false))
    → line_of (setting_in p.openings) line_shape (mark ∷ prefix ++ next ∷ more) → StaysOn p line_shape (next ∷ more) (mark ∷ prefix) colon (Some (AtLine p))
line_stays p line_shape mark prefix next more colon e h =
    let go : StaysOn p line_shape (next ∷ more) prefix colon (started_line p (at_start_in (setting_in p.openings) mark.symbol mark.line (colon_next (prefix ++ next ∷ more) false))) =
    elim (at_start_in (setting_in p.openings) mark.symbol mark.line (colon_next (prefix ++ next ∷ more) false)) as (λ l. Leads l line_shape (prefix ++ next ∷ more) → StaysOn p line_shape (next ∷ more) prefix colon (started_line p l)) [
      | None ↦ λ h. absurd h
      | Some state' ↦ λ h. still_on p line_shape prefix next more colon (λ s o r. stays_on p s line_shape prefix next more colon o r) state' h
    ] (start_led (setting_in p.openings) line_shape mark.symbol mark.line (prefix ++ next ∷ more) false h) in
    (go.0, ap (λ o. walk_on o prefix colon) e ∙ go.1, go.2, go.3)

-- inside parentheses it makes no difference whether a colon follows
pub inside_begins : (p : Position) (o : Opening) (outer : List Opening) (line_shape : LineShape) (mark : Mark) (marks : List Mark) (colon : Bool) → p.openings ≡ o ∷ outer → line_of (setting_in p.openings) line_shape (mark ∷ marks)
    → move (AtLine p) mark.symbol mark.line colon ≡ started_line p (at_start_in (setting_in p.openings) mark.symbol mark.line (colon_next marks false))
inside_begins p o outer line_shape mark marks colon e h =
    same_move mark.symbol
    ∙ begins p p.openings mark.symbol mark.line line_shape marks false refl (start_led (setting_in p.openings) line_shape mark.symbol mark.line marks false h)
  where
    same_start : (symbol : Symbol) → start_move p (o ∷ outer) symbol mark.line colon ≡ start_move p (o ∷ outer) symbol mark.line (colon_next marks false)
    same_start symbol = refl

    same_move : (symbol : Symbol) → move (AtLine p) symbol mark.line colon ≡ move (AtLine p) symbol mark.line (colon_next marks false)
    same_move LineEnd = refl
    same_move symbol = subst (λ os. start_move p os symbol mark.line colon ≡ start_move p os symbol mark.line (colon_next marks false)) (sym e) refl

-- where the text's end is found in parentheses, whose opening is on this line
abbrev pub EndsOn : State → ℕ → Type 0
EndsOn state line = (last_line : ℕ) → at_end state last_line ≡ Err (record { fault = ParenthesisNotPaired; line = line })

-- a line that opens nothing ends in the parentheses in which it is
pub on_line_ends : (p : Position) (o : Opening) (outer : List Opening) (state : LineState) (line_shape : LineShape) (left : List Mark) → p.openings ≡ o ∷ outer → NoOpens line_shape → rest_of state line_shape left → EndsOn (OnLine p state) o.line
on_line_ends p o outer (Bracketed started operator) line_shape left e n r last_line = absurd (subst NoOpens r.1 n)
on_line_ends p o outer (BracketedWith started operator x) line_shape left e n r last_line = absurd (subst NoOpens r.0 n)
on_line_ends p o outer (Named started (OfOpening operator) name) line_shape left e n r last_line = absurd (subst NoOpens r.1 n)
on_line_ends p o outer (Pointed started (OfOpening operator) name) line_shape left e n r last_line = absurd (subst NoOpens r.1 n)
on_line_ends p o outer state line_shape left e n r last_line = ap (λ os. Err (open_in p.unit os)) e

-- the line of an instruction that opens a parenthesis
abbrev pub opening_line : LineState → ℕ
opening_line (Bracketed started operator) = started.line
opening_line (BracketedWith started operator x) = started.line
opening_line (Named started place name) = started.line
opening_line (Pointed started place name) = started.line
opening_line state = 0

-- an opening line ends in its own parentheses
pub opening_ends : (p : Position) (state : LineState) → IsOpening state → EndsOn (OnLine p state) (opening_line state)
opening_ends p (Bracketed started operator) h last_line = refl
opening_ends p (BracketedWith started operator x) h last_line = refl
opening_ends p (Named started (OfOpening operator) name) h last_line = refl
opening_ends p (Pointed started (OfOpening operator) name) h last_line = refl
opening_ends p (Named started (OfStep operating) name) h last_line = absurd h
opening_ends p (Pointed started (OfStep operating) name) h last_line = absurd h
opening_ends p other h last_line = absurd h

-- the line of a shape that opens a parenthesis
abbrev line_in : LineShape → ℕ
line_in (Opens label line operator x) = line
line_in line_shape = 0

-- it is that of the shape
pub opening_line_is : (state : LineState) (label : Option Word) (line : ℕ) (operator : Operator) (x : Option Term) (left : List Mark) → IsOpening state → rest_of state (Opens label line operator x) left → opening_line state ≡ line
opening_line_is (Bracketed started own) label line operator x left h r = sym (ap line_in r.1)
opening_line_is (BracketedWith started own y) label line operator x left h r = sym (ap line_in r.0)
opening_line_is (Named started (OfOpening own) name) label line operator x left h r = sym (ap line_in r.1)
opening_line_is (Pointed started (OfOpening own) name) label line operator x left h r = sym (ap line_in r.1)
opening_line_is (Named started (OfStep operating) name) label line operator x left h r = absurd h
opening_line_is (Pointed started (OfStep operating) name) label line operator x left h r = absurd h
opening_line_is other label line operator x left h r = absurd h

-- an opening line goes on as one, or ends
abbrev OpeningNext : Option LineState → Type 0
OpeningNext None = Unit {0}
OpeningNext (Some (Ended line_shape)) = Unit {0}
OpeningNext (Some state) = IsOpening state

name_opening : (started : StartedLine) (operator : Operator) (name : Name) (truth : Option Bool) → OpeningNext (Some (name_or_literal started (OfOpening operator) name truth))
name_opening started operator name None = tt
name_opening started operator name (Some value) = tt

operand_opening : (started : StartedLine) (operator : Operator) (symbol : Symbol) (line : ℕ) → OpeningNext (at_operand started (OfOpening operator) symbol line)
operand_opening started operator (Identifier bytes) line = name_opening started operator (name_of bytes) (found truths (name_of bytes))
operand_opening started operator (Direct bytes) line = tt
operand_opening started operator other line = tt

bracket_opening : (started : StartedLine) (operator : Operator) (symbol : Symbol) (line : ℕ) → OpeningNext (at_bracketed started operator symbol line)
bracket_opening started operator LineEnd line = tt
bracket_opening started operator symbol line = operand_opening started operator symbol line

named_opening : (started : StartedLine) (operator : Operator) (name : Name) (symbol : Symbol) (line : ℕ) (setting : Setting) (colon : Bool) → OpeningNext (line_move setting (Named started (OfOpening operator) name) symbol line colon)
named_opening started operator name Point line setting colon = tt
named_opening started operator name LineEnd line setting colon = tt
named_opening started operator name _ line setting colon = tt

pointed_opening : (started : StartedLine) (operator : Operator) (name : Name) (symbol : Symbol) → OpeningNext (at_field started (OfOpening operator) name symbol)
pointed_opening started operator name (Identifier bytes) = tt
pointed_opening started operator name _ = tt

with_opening : (started : StartedLine) (operator : Operator) (x : Term) (symbol : Symbol) (line : ℕ) (setting : Setting) (colon : Bool) → OpeningNext (line_move setting (BracketedWith started operator x) symbol line colon)
with_opening started operator x LineEnd line setting colon = tt
with_opening started operator x _ line setting colon = tt

opening_next : (setting : Setting) (state : LineState) (symbol : Symbol) (line : ℕ) (colon : Bool) → IsOpening state → OpeningNext (line_move setting state symbol line colon)
opening_next setting (Bracketed started operator) symbol line colon h = bracket_opening started operator symbol line
opening_next setting (BracketedWith started operator x) symbol line colon h = with_opening started operator x symbol line setting colon
opening_next setting (Named started (OfOpening operator) name) symbol line colon h = named_opening started operator name symbol line setting colon
opening_next setting (Pointed started (OfOpening operator) name) symbol line colon h = pointed_opening started operator name symbol
opening_next setting (Named started (OfStep operating) name) symbol line colon h = absurd h
opening_next setting (Pointed started (OfStep operating) name) symbol line colon h = absurd h
opening_next setting other symbol line colon h = absurd h

-- where an opening line stays on
abbrev OpeningOn : Position → LineShape → List Mark → List Mark → Bool → Option State → Type 0
OpeningOn p line_shape left prefix colon from = (state : LineState) × (walk_on from prefix colon ≡ Some (OnLine p state)) × IsOpening state × rest_of state line_shape left

opening_on : (p : Position) (line_shape : LineShape) (prefix : List Mark) (next : Mark) (more : List Mark) (colon : Bool)
    → ((state : LineState) → IsOpening state → rest_of state line_shape (prefix ++ next ∷ more) → OpeningOn p line_shape (next ∷ more) prefix colon (Some (OnLine p state)))
    → (state : LineState) → OpeningNext (Some state) → rest_of state line_shape (prefix ++ next ∷ more) → OpeningOn p line_shape (next ∷ more) prefix colon (Some (on_line p state))
opening_on p line_shape prefix next more colon f (Ended ended) o h = absurd (not_empty prefix next more h.1)
opening_on p line_shape prefix next more colon f (Bracketed started operator) o h = f (Bracketed started operator) o h
opening_on p line_shape prefix next more colon f (BracketedWith started operator x) o h = f (BracketedWith started operator x) o h
opening_on p line_shape prefix next more colon f (Named started place name) o h = f (Named started place name) o h
opening_on p line_shape prefix next more colon f (Pointed started place name) o h = f (Pointed started place name) o h
opening_on p line_shape prefix next more colon f state o h = absurd o

pub opening_stays : (p : Position) (state : LineState) (line_shape : LineShape) (prefix : List Mark) (next : Mark) (more : List Mark) (colon : Bool) → IsOpening state → rest_of state line_shape (prefix ++ next ∷ more) → OpeningOn p line_shape (next ∷ more) prefix colon (Some (OnLine p state))
opening_stays p state line_shape [] next more colon o r = (state, refl, o, r)
opening_stays p state line_shape (mark ∷ prefix) next more colon o r =
    elim (line_move (setting_in p.openings) state mark.symbol mark.line (colon_next prefix colon)) as (λ l. OpeningNext l → Leads l line_shape (prefix ++ next ∷ more) → OpeningOn p line_shape (next ∷ more) prefix colon (started_line p l)) [
      | None ↦ λ q h. absurd h
      | Some state' ↦ λ q h. opening_on p line_shape prefix next more colon (λ s o r. opening_stays p s line_shape prefix next more colon o r) state' q h
    ] (opening_next (setting_in p.openings) state mark.symbol mark.line (colon_next prefix colon) o) (move_led (setting_in p.openings) state line_shape mark.symbol mark.line (colon_next prefix colon) (prefix ++ next ∷ more) r)
