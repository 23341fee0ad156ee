-- Each token that the walk takes keeps what its state says; so the state after any tokens describes them.
use Rattle.std.proofs.Common.{◌≡◌, ℕ, Bool, true, false, List, [], ◌∷◌, ◌++◌, Option, Some, None, refl, ap, subst, append_assoc, append-nil, if◌then◌else◌, ◌∙◌, sym}
use Rattle.wc_laws_grammar.proofs.Appending.{append_last, position_after_closing, position_after_line, with_nothing}
use Rattle.wc_laws_grammar.proofs.DeclarationRests.{declarations_of, declared_rest}
use Rattle.wc_laws_grammar.proofs.DeclarationSound.{DeclarationAllows, SectionAllows, section_allowed}
use Rattle.wc_laws_grammar.proofs.ExactLines.{ExactNext, exact_at_start, exact_move}
use Rattle.wc_laws_grammar.specs.{LineState, Start, Ended, line_move, InDeclaration, State, Outside, Unnamed, Declaring, AtLine, OnLine, Closed, at_first, started_line, after_closing, after_line, after_unit, body_move, colon_next, declaration_move, has_content, inside_move, move, section_of_word, section_or_line, start_move, unit_with, walk, found, unit_kinds}
use Rattle.wc_laws_grammar.proofs.LineRests.{line_of}
use Rattle.wc_laws_grammar.proofs.LineSound.{Allows, AllowsFrom, FromStart, mark_on, move_allowed, start_move_allowed}
use Rattle.wc_laws_grammar.proofs.Skipping.{kept}
use Rattle.wc_laws_grammar.proofs.Reported.{AfterClosing, Exact, InLine, InSection, Keeps, Reported, name_kept, outside_end, section_done, unit_kept}
use Rattle.wc_laws_grammar.proofs.WalkedLines.{walk_on}
use Rattle.wc_laws_grammar.proofs.WordLaws.{found_section, same_is}
use Rattle.wc_laws_grammar.proofs.Languages.{joined, pass, passed, ungroup}
use Rattle.wc_model.specs.Definitions.{same_name, HasContent, InBody, InParentheses, Setting, identifier, line_ends, lines, unit_of, units, end_word, ◌then◌, each, skipping, ClosingBracket, Identifier, LineEnd, Mark, Symbol, is_line_end, is_line_end_symbol, name_of, Opening, Position, at_line, openings_of, setting_in, Alone, End, Lines, Nested, Plain, ProgramUnit, Term}
use Rattle.wc_model.specs.declared.source.Section.{Section}

-- the tokens of a prefix and a part, and one more
one_more : (tokens prefix part : List Mark) (mark : Mark) → tokens ≡ prefix ++ part → tokens ++ mark ∷ [] ≡ prefix ++ (part ++ mark ∷ [])
one_more tokens prefix part mark e = ap (λ ts. ts ++ mark ∷ []) e ∙ append_assoc prefix part (mark ∷ [])

-- a line end in a section
section_end_kept : (us : List ProgramUnit) (unit : ProgramUnit) (section : Section) (place : InDeclaration) (tokens : List Mark) (line : ℕ) → InSection us unit section place tokens
    → InSection us unit section place (tokens ++ mark_on LineEnd line ∷ [])
section_end_kept us unit section place tokens line h = record {
  earlier = h.earlier;
  done = h.done;
  parts = h.parts;
  prefix = h.prefix;
  inside = h.inside ++ mark_on LineEnd line ∷ [];
  whole = one_more tokens h.prefix h.inside _ h.whole;
  begins = h.begins;
  goes = λ ds more k. subst (λ ts. skipping is_line_end (declarations_of section (h.done ++ ds)) ts) (sym (append_assoc h.inside (mark_on LineEnd line ∷ []) more)) (h.goes ds (mark_on LineEnd line ∷ more) k);
}

-- a token that goes on in a section
section_on : (us : List ProgramUnit) (unit : ProgramUnit) (section : Section) (place place' : InDeclaration) (tokens : List Mark) (mark : Mark) (unit' : ProgramUnit) → is_line_end_symbol mark.symbol ≡ false
    → InSection us unit section place tokens → DeclarationAllows unit section place mark unit' place' → InSection us unit' section place' (tokens ++ mark ∷ [])
section_on us unit section place place' tokens mark unit' n h a =
    subst (λ u. InSection us u section place' (tokens ++ mark ∷ [])) (sym a.unit_is) (record {
      earlier = h.earlier;
      done = h.done ++ a.closed;
      parts = ap (λ ds. ds ++ a.closed) h.parts ∙ append_assoc h.earlier h.done a.closed;
      prefix = h.prefix;
      inside = h.inside ++ mark ∷ [];
      whole = one_more tokens h.prefix h.inside _ h.whole;
      begins = h.begins;
      goes = λ ds more k.
          let l : skipping is_line_end (declared_rest section place (a.closed ++ ds)) (mark ∷ more) = subst (declared_rest section place (a.closed ++ ds)) (sym (kept is_line_end mark more n)) (a.goes ds _ k) in
          let m = h.goes (a.closed ++ ds) (mark ∷ more) l in
          subst (λ ts. skipping is_line_end (declarations_of section ((h.done ++ a.closed) ++ ds)) ts) (sym (append_assoc h.inside (mark ∷ []) more))
          (subst (λ ds. skipping is_line_end (declarations_of section ds) (h.inside ++ mark ∷ more)) (sym (append_assoc h.done a.closed ds)) m);
    })

section_moved : (us : List ProgramUnit) (unit : ProgramUnit) (section : Section) (place : InDeclaration) (tokens : List Mark) (mark : Mark) (next : Option State) → is_line_end_symbol mark.symbol ≡ false
    → InSection us unit section place tokens → SectionAllows us unit section place mark next → Keeps tokens mark next
section_moved us unit section place tokens mark None n h a = tt
section_moved us unit section place tokens mark (Some (Declaring us' unit' section' place')) n h a =
    subst (λ v. InSection v unit' section' place' (tokens ++ mark ∷ [])) (sym a.0) (subst (λ s. InSection us unit' s place' (tokens ++ mark ∷ [])) (sym a.1) (section_on us unit section place place' tokens mark unit' n h a.2))
section_moved us unit section place tokens mark (Some (AtLine p)) n h a =
    subst (λ q. at_line q (tokens ++ mark ∷ [])) (sym a.0) (section_done us unit section tokens mark (subst (λ l. InSection us unit section l tokens) a.1 h) a.2)
section_moved us unit section place tokens mark (Some (Outside us')) n h a = absurd a
section_moved us unit section place tokens mark (Some (Unnamed us' kind line)) n h a = absurd a
section_moved us unit section place tokens mark (Some (OnLine p line)) n h a = absurd a
section_moved us unit section place tokens mark (Some (Closed p)) n h a = absurd a

-- a token of a section
section_kept : (us : List ProgramUnit) (unit : ProgramUnit) (section : Section) (place : InDeclaration) (tokens : List Mark) (symbol : Symbol) (line : ℕ) → InSection us unit section place tokens
    → Keeps tokens (mark_on symbol line) (declaration_move us unit section place symbol line)
section_kept us unit section place tokens LineEnd line h = section_end_kept us unit section place tokens line h
section_kept us unit section place tokens symbol line h = section_moved us unit section place tokens (mark_on symbol line) _ refl h (section_allowed us unit section place symbol line (λ e. cc))

-- the first token of a line
line_started : (p : Position) (tokens : List Mark) (mark : Mark) (next : Option LineState) → at_line p tokens → Allows (FromStart (setting_in p.openings)) mark next → ExactNext (setting_in p.openings) (mark ∷ []) next
    → Keeps tokens mark (started_line p next)
line_started p tokens mark None h a e = tt
line_started p tokens mark (Some (Ended line_shape)) h a e = position_after_line p line_shape tokens (mark ∷ []) h (a line_shape [] (refl, refl))
line_started p tokens mark (Some line) h a e = record { prefix = tokens; part = mark ∷ []; whole = refl; begins = h; goes = λ line_shape more r. a line_shape more r; exact = e }

-- one more token of a line
line_kept : (p : Position) (state : LineState) (tokens : List Mark) (mark : Mark) (next : Option LineState) → InLine p state tokens → AllowsFrom state mark next
    → ((part : List Mark) → Exact (setting_in p.openings) state part → ExactNext (setting_in p.openings) (part ++ mark ∷ []) next) → Keeps tokens mark (started_line p next)
line_kept p state tokens mark None h a e = tt
line_kept p state tokens mark (Some (Ended line_shape)) h a e =
    subst (at_line (after_line p line_shape)) (sym (one_more tokens h.prefix h.part mark h.whole))
    (position_after_line p line_shape h.prefix (h.part ++ mark ∷ []) h.begins (h.goes line_shape (mark ∷ []) (a line_shape [] (refl, refl))))
line_kept p state tokens mark (Some line) h a e = record {
  prefix = h.prefix;
  part = h.part ++ mark ∷ [];
  whole = one_more tokens h.prefix h.part mark h.whole;
  begins = h.begins;
  goes = λ line_shape more r. subst (line_of (setting_in p.openings) line_shape) (sym (append_assoc h.part (mark ∷ []) more)) (h.goes line_shape (mark ∷ more) (a line_shape more r));
  exact = e h.part h.exact;
}

-- a line end where a line would start
end_kept : (p : Position) (tokens : List Mark) (line : ℕ) → at_line p tokens → at_line p (tokens ++ mark_on LineEnd line ∷ [])
end_kept p tokens line h = append_last last (λ ts k. append_last last (λ us l. append_last last (λ vs m. lines_end (setting_in p.openings) p.done vs m) l) k) h
  where
    last : List Mark
    last = mark_on LineEnd line ∷ []

    ends : (a : List Mark) → line_ends a → line_ends (a ++ mark_on LineEnd line ∷ [])
    ends [] h = (refl, tt)
    ends (mark ∷ marks) h = (h.0, ends marks h.1)

    lines_end : (setting : Setting) (ls : Lines) (a : List Mark) → lines setting ls a → lines setting ls (a ++ mark_on LineEnd line ∷ [])
    lines_end setting End a h = ends a h
    lines_end setting (Alone label rest) a h = append_last (mark_on LineEnd line ∷ []) (λ ts k. append_last (mark_on LineEnd line ∷ []) (λ us l. append_last (mark_on LineEnd line ∷ []) (λ vs m. lines_end setting rest vs m) l) k) h
    lines_end setting (Plain label n step rest) a h =
        (h.0, append_last (mark_on LineEnd line ∷ []) (λ ts k. append_last (mark_on LineEnd line ∷ []) (λ us l. append_last (mark_on LineEnd line ∷ []) (λ vs m. append_last (mark_on LineEnd line ∷ []) (λ ws o. lines_end setting rest ws o) m) l) k) h.1)
    lines_end setting (Nested label n operator x inside close rest) a h =
        (h.0, append_last (mark_on LineEnd line ∷ []) (λ ts k. append_last (mark_on LineEnd line ∷ []) (λ us l. append_last (mark_on LineEnd line ∷ []) (λ vs m. append_last (mark_on LineEnd line ∷ []) (λ ws o. append_last (mark_on LineEnd line ∷ []) (λ xs q. append_last (mark_on LineEnd line ∷ []) (λ ys r. lines_end setting rest ys r) q) o) m) l) k) h.1)

-- one unit more
one_more_unit : (us : List ProgramUnit) (unit : ProgramUnit) (a b : List Mark) → each (λ unit. line_ends then unit_of unit) us a → (line_ends then unit_of unit) b → each (λ unit. line_ends then unit_of unit) (us ++ unit ∷ []) (a ++ b)
one_more_unit [] unit a b ha hb = subst (λ ts. ((line_ends then unit_of unit) then (λ tokens. tokens ≡ [])) (ts ++ b)) (sym ha) (with_nothing _ refl hb)
one_more_unit (first ∷ us) unit a b ha hb = append_last b (λ rest k. one_more_unit us unit rest b k hb) ha

-- the end of a unit
unit_done : (p : Position) (tokens : List Mark) (mark : Mark) → p.openings ≡ [] → identifier (end_word p.unit.kind) (mark ∷ []) → at_line p tokens → units (p.before ++ unit_with p.unit p.done ∷ []) (tokens ++ mark ∷ [])
unit_done p tokens mark e word h =
    let k : (units p.before then unit_of (unit_with p.unit p.done)) (tokens ++ mark ∷ []) = append_last (mark ∷ []) (λ ts k. append_last (mark ∷ []) (λ us l. body us l) k) h in
    let u = ungroup k in
    subst (λ ts. units (p.before ++ unit_with p.unit p.done ∷ []) ts) (sym u.whole) (with_nothing line_ends tt (one_more_unit p.before (unit_with p.unit p.done) u.prefix u.rest u.begins u.goes_on))
  where
    body : (us : List Mark) → (openings_of p.openings then lines (setting_in p.openings) p.done) us → (lines InBody p.done then identifier (end_word p.unit.kind)) (us ++ mark ∷ [])
    body us l = joined us (mark ∷ []) (passed (subst (λ os. (openings_of os then lines (setting_in os) p.done) us) e l)) word

-- the first token of a line, where it is
start_kept : (setting : Setting) (p : Position) (tokens : List Mark) (symbol : Symbol) (line : ℕ) (colon : Bool) → setting_in p.openings ≡ setting → at_line p tokens
    → Keeps tokens (mark_on symbol line) (started_line p (line_move setting Start symbol line colon))
start_kept setting p tokens symbol line colon e h =
    line_started p tokens (mark_on symbol line) (line_move setting Start symbol line colon) h
    (subst (λ t. Allows (FromStart t) (mark_on symbol line) (line_move setting Start symbol line colon)) (sym e) (start_move_allowed setting symbol line colon))
    (subst (λ t. ExactNext t (mark_on symbol line ∷ []) (line_move setting Start symbol line colon)) (sym e) (exact_at_start setting symbol line colon))

-- the first word of a section
section_starts : (p : Position) (done : Lines) (tokens : List Mark) (bytes : List ℕ) (line : ℕ) (section : Option Section) → p.openings ≡ [] → p.done ≡ done → section_of_word done (name_of bytes) ≡ section → at_line p tokens
    → Keeps tokens (mark_on (Identifier bytes) line) (section_or_line p bytes line section)
section_starts p done tokens bytes line None e d s h = start_kept InBody p tokens (Identifier bytes) line false (ap setting_in e) h
section_starts p End tokens bytes line (Some section) e d s h = record {
  earlier = p.unit.declarations;
  done = [];
  parts = sym (append-nil p.unit.declarations);
  prefix = tokens ++ last;
  inside = [];
  whole = sym (append-nil (tokens ++ last));
  begins = append_last last (λ ts k. append_last last (λ us l. joined us last (passed (subst (λ ls. (openings_of [] then lines InBody ls) us) d (subst (λ os. (openings_of os then lines (setting_in os) p.done) us) e l))) (ap (λ n. Some n) (found_section (name_of bytes) section s))) k) h;
  goes = λ ds more k. k;
}
  where
    last : List Mark
    last = mark_on (Identifier bytes) line ∷ []
section_starts p (Alone label rest) tokens bytes line (Some section) e d s h = absurd (cc)
section_starts p (Plain label n step rest) tokens bytes line (Some section) e d s h = absurd (cc)
section_starts p (Nested label n operator x inside close rest) tokens bytes line (Some section) e d s h = absurd (cc)

word_kept : (p : Position) (tokens : List Mark) (bytes : List ℕ) (line : ℕ) (b : Bool) → same_name (name_of bytes) (end_word p.unit.kind) ≡ b → p.openings ≡ [] → at_line p tokens
    → Keeps tokens (mark_on (Identifier bytes) line) (if b then Some (after_unit p) else section_or_line p bytes line (section_of_word p.done (name_of bytes)))
word_kept p tokens bytes line true s e h = unit_done p tokens (mark_on (Identifier bytes) line) e (ap (λ n. Some n) (same_is (name_of bytes) (end_word p.unit.kind) s)) h
word_kept p tokens bytes line false s e h = section_starts p p.done tokens bytes line (section_of_word p.done (name_of bytes)) e refl refl h

body_kept : (p : Position) (tokens : List Mark) (symbol : Symbol) (line : ℕ) (colon : Bool) → p.openings ≡ [] → at_line p tokens → Keeps tokens (mark_on symbol line) (body_move p symbol line colon)
body_kept p tokens (Identifier bytes) line false e h = word_kept p tokens bytes line (same_name (name_of bytes) (end_word p.unit.kind)) refl e h
body_kept p tokens symbol line colon e h = start_kept InBody p tokens symbol line colon (ap setting_in e) h

-- parentheses hold something if the test says so
has_content_is : (x : Option Term) (inside : Lines) → has_content x inside ≡ true → HasContent x inside
has_content_is None End e = absurd (cc)
has_content_is None (Alone label rest) e = tt
has_content_is other another e = tt

closing_kept : (p : Position) (o : Opening) (outer : List Opening) (tokens : List Mark) (line : ℕ) (b : Bool) → has_content o.operand p.done ≡ b → p.openings ≡ o ∷ outer → at_line p tokens
    → Keeps tokens (mark_on ClosingBracket line) (if b then Some (Closed (after_closing p o outer line)) else None)
closing_kept p o outer tokens line false c e h = tt
closing_kept p o outer tokens line true c e h = record {
  inside = p;
  o = o;
  outer = outer;
  close = line;
  prefix = tokens;
  last = mark_on ClosingBracket line ∷ [];
  whole = refl;
  begins = h;
  opened = e;
  content = has_content_is o.operand p.done c;
  closing = (refl, refl);
  position = refl;
}

inside_kept : (p : Position) (o : Opening) (outer : List Opening) (tokens : List Mark) (symbol : Symbol) (line : ℕ) → p.openings ≡ o ∷ outer → at_line p tokens → Keeps tokens (mark_on symbol line) (inside_move p o outer symbol line)
inside_kept p o outer tokens ClosingBracket line e h = closing_kept p o outer tokens line (has_content o.operand p.done) refl e h
inside_kept p o outer tokens symbol line e h = start_kept InParentheses p tokens symbol line false (ap setting_in e) h

first_kept : (p : Position) (openings : List Opening) (tokens : List Mark) (symbol : Symbol) (line : ℕ) (colon : Bool) → p.openings ≡ openings → at_line p tokens → Keeps tokens (mark_on symbol line) (start_move p openings symbol line colon)
first_kept p [] tokens symbol line colon e h = body_kept p tokens symbol line colon e h
first_kept p (o ∷ outer) tokens symbol line colon e h = inside_kept p o outer tokens symbol line e h

closed_kept : (p : Position) (tokens : List Mark) (line : ℕ) → AfterClosing p tokens → at_line p (tokens ++ mark_on LineEnd line ∷ [])
closed_kept p tokens line h =
    subst (λ q. at_line q (tokens ++ mark_on LineEnd line ∷ [])) (sym h.position)
    (subst (at_line (after_closing h.inside h.o h.outer h.close)) (sym (one_more tokens h.prefix h.last _ h.whole))
    (position_after_closing h.inside h.o h.outer h.close h.prefix h.last (mark_on LineEnd line ∷ []) h.opened h.content h.begins h.closing refl))

-- one more token
pub reported_on : (state : State) (tokens : List Mark) (symbol : Symbol) (line : ℕ) (colon : Bool) → Reported state tokens → Keeps tokens (mark_on symbol line) (move state symbol line colon)
reported_on (Outside us) tokens LineEnd line colon h = outside_end us tokens line h
reported_on (Outside us) tokens (Identifier bytes) line colon h = unit_kept us tokens bytes line (found unit_kinds (name_of bytes)) refl h
reported_on (Unnamed us kind first) tokens (Identifier bytes) line colon h = name_kept us kind first line bytes tokens h
reported_on (Declaring us unit section place) tokens symbol line colon h = section_kept us unit section place tokens symbol line h
reported_on (AtLine p) tokens LineEnd line colon h = end_kept p tokens line h
reported_on (AtLine p) tokens symbol line colon h = first_kept p p.openings tokens symbol line colon refl h
reported_on (OnLine p state) tokens symbol line colon h =
    let a = move_allowed (setting_in p.openings) state symbol line colon (λ e. subst (λ s. Exact (setting_in p.openings) s h.part) e h.exact) in
    line_kept p state tokens (mark_on symbol line) (line_move (setting_in p.openings) state symbol line colon) h a (λ part e. exact_move (setting_in p.openings) state symbol line colon part a e)
reported_on (Closed p) tokens LineEnd line colon h = closed_kept p tokens line h
reported_on _ tokens symbol line colon h = tt

-- the state after any tokens describes all of them
pub reported_after : (state next : State) (before tokens : List Mark) (colon : Bool) → Reported state before → walk state tokens colon ≡ Some next → Reported next (before ++ tokens)
reported_after state next before [] colon h e = let k : state ≡ next = cc in subst (λ ts. Reported next ts) (sym (append-nil before)) (subst (λ s. Reported s before) k h)
reported_after state next before (mark ∷ marks) colon h e =
    elim (move state mark.symbol mark.line (colon_next marks colon)) as (λ o. Keeps before mark o → walk_on o marks colon ≡ Some next → Reported next (before ++ mark ∷ marks)) [
      | None ↦ λ k w. absurd (cc)
      | Some state' ↦ λ k w. subst (λ ts. Reported next ts) (append_assoc before (mark ∷ []) marks) (reported_after state' next (before ++ mark ∷ []) marks colon k w)
    ] (reported_on state before mark.symbol mark.line (colon_next marks colon) h) e

-- nothing but line ends precedes the first unit
pub reported_first : Reported at_first []
reported_first = pass refl tt
