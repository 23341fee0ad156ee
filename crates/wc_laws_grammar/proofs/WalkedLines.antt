-- The lines of a body are walked.
use Rattle.std.proofs.Common.{◌≡◌, ◌≢◌, ℕ, Bool, true, false, List, [], ◌∷◌, ◌++◌, Option, Some, None, refl, ap, subst, if◌then◌else◌, ◌∙◌, sym, inl, inr}
use Rattle.wc_laws_grammar.proofs.LineComplete.{Leads, move_led}
use Rattle.wc_laws_grammar.specs.{LineShape, LabelAlone, Instructs, Opens, OfStep, OfOpening, OfArgument, LineState, Start, Worded, Labelled, Operated, Jumped, Called, Instanced, Listing, Bracketed, Named, Pointed, Stepped, BracketedWith, Ended, at_start, at_start_in, line_move, operator_or_label, State, AtLine, Closed, after_line, after_closing, started_line, body_move, colon_next, is_colon, lines_and, has_content, move, on_line, after_unit, section_of_word, start_move, section_or_line, walk, word_move, Loads, Stores, Applies, Operation, Operates, Jumps, Calls, Returns, found, operations, operation_word, section_words}
use Rattle.wc_laws_grammar.proofs.LineRests.{line_of, rest_of}
use Rattle.wc_laws_grammar.proofs.LineStart.{start_led}
use Rattle.wc_laws_grammar.proofs.WordLaws.{found_operation}
use Rattle.wc_laws_grammar.proofs.Languages.{next_is, both_empty, regroup, after, given_first}
use Rattle.wc_model.specs.Definitions.{same_name, IsOn, Setting, InBody, InParentheses, HasContent, lines, line_ends, end_word, ◌then◌, one, Symbol, Identifier, LineEnd, ClosingBracket, Mark, IsSymbol, Name, name_of, Opening, Position, setting_in, Term, Lines, End, Alone, Plain, Nested}
use Rattle.wc_model.specs.Text.Grammar as grammar
use Rattle.wc_model.specs.declared.operator.Condition.TheVariants.{Always}
use Rattle.wc_model.specs.declared.operator.Operator.TheVariants.{And}
use Rattle.wc_model.specs.declared.operator.StoreKind.TheVariants.{Result}
use Rattle.wc_model.specs.declared.source.UnitKind.{UnitKind}
use Rattle.wc_model.specs.declared.source.UnitKind.TheVariants.{FunctionBlock, Program}

-- after a first move
abbrev pub walk_on : Option State → List Mark → Bool → Option State
walk_on next tokens colon = elim next as (λ _. Option State) [ None ↦ None | Some state ↦ walk state tokens colon ]

-- whether a colon follows a prefix, if it follows the whole
pub next_of_both : (prefix rest : List Mark) (colon : Bool) → colon_next (prefix ++ rest) colon ≡ colon_next prefix (colon_next rest colon)
next_of_both [] rest colon = refl
next_of_both (mark ∷ prefix) rest colon = refl

-- some tokens, and then others
pub walk_then : (state next : State) (prefix rest : List Mark) (colon : Bool) (end : Option State) → walk state prefix (colon_next rest colon) ≡ Some next → walk next rest colon ≡ end → walk state (prefix ++ rest) colon ≡ end
walk_then state next [] rest colon end e h = let k : state ≡ next = cc in subst (λ s. walk s rest colon ≡ end) (sym k) h
walk_then state next (mark ∷ prefix) rest colon end e h =
    ap (λ c. walk_on (move state mark.symbol mark.line c) (prefix ++ rest) colon) (next_of_both prefix rest colon)
    ∙ elim (move state mark.symbol mark.line (colon_next prefix (colon_next rest colon))) as (λ o. walk_on o prefix (colon_next rest colon) ≡ Some next → walk_on o (prefix ++ rest) colon ≡ end) [
      | None ↦ λ e. absurd (cc)
      | Some state' ↦ λ e. walk_then state' next prefix rest colon end e h
    ] e

-- what has started is not complete
pub not_complete : (state : LineState) (line_shape : LineShape) → ((ended : LineShape) → state ≢ Ended ended) → ¬ (rest_of state line_shape [])
not_complete Start line_shape n r = r
not_complete (Worded label) line_shape n r = (both_empty r).0
not_complete (Labelled label) (LabelAlone other) n r = r.1
not_complete (Labelled label) (Instructs other line step) n r = (both_empty r.1).1
not_complete (Labelled label) (Opens other line operator x) n r = (both_empty (both_empty r.1).1).1
not_complete (Operated started operating) line_shape n (inl r) = (both_empty r.2).1
not_complete (Operated started operating) line_shape n (inr r) = (both_empty r.4).0
not_complete (Jumped started condition) line_shape n r = (both_empty r.2).0
not_complete (Called started condition) line_shape n r = (both_empty r.3).0
not_complete (Instanced started condition instance) line_shape n r = (both_empty r.2).1
not_complete (Listing started call item) line_shape n r = (both_empty (both_empty r.2).1).0
not_complete (Bracketed started operator) line_shape n r = (both_empty r.2).1
not_complete (Named started (OfStep operating) name) line_shape n r = (both_empty r.2).1
not_complete (Named started (OfOpening operator) name) line_shape n r = (both_empty r.2).1
not_complete (Named started (OfArgument call input) name) line_shape n r = (both_empty (both_empty r.3).1).0
not_complete (Pointed started (OfStep operating) name) line_shape n r = (both_empty r.2).1
not_complete (Pointed started (OfOpening operator) name) line_shape n r = (both_empty r.2).1
not_complete (Pointed started (OfArgument call input) name) line_shape n r = (both_empty (both_empty r.3).1).0
not_complete (Stepped started step) line_shape n r = r.1
not_complete (BracketedWith started operator x) line_shape n r = r.1
not_complete (Ended ended) line_shape n r = n ended refl

-- what completes a line that has started is walked to its end
pub on_line_walked : (p : Position) (state : LineState) (line_shape : LineShape) (tokens : List Mark) (colon : Bool) → rest_of state line_shape tokens → walk (on_line p state) tokens colon ≡ Some (AtLine (after_line p line_shape))
on_line_walked p (Ended ended) line_shape tokens colon r = subst (λ ts. walk (AtLine (after_line p ended)) ts colon ≡ Some (AtLine (after_line p line_shape))) (sym r.1) (ap (λ f. Some (AtLine (after_line p f))) (sym r.0))
on_line_walked p state line_shape [] colon r = absurd (not_complete state line_shape (λ ended e. cc) r)
on_line_walked p state line_shape (mark ∷ marks) colon r =
    elim (line_move (setting_in p.openings) state mark.symbol mark.line (colon_next marks colon)) as (λ o. Leads o line_shape marks → walk_on (started_line p o) marks colon ≡ Some (AtLine (after_line p line_shape))) [
      | None ↦ λ h. absurd h
      | Some next ↦ λ h. on_line_walked p next line_shape marks colon h
    ] (move_led (setting_in p.openings) state line_shape mark.symbol mark.line (colon_next marks colon) marks r)

-- no operator's word ends a unit or begins a section
pub ends_no_unit : (kind : UnitKind) (operation : Operation) → (same_name (operation_word operation) (end_word kind) ≡ false) × (found section_words (operation_word operation) ≡ None)
ends_no_unit FunctionBlock (Operates (Loads false)) = (refl, refl)
ends_no_unit FunctionBlock (Operates (Stores Result)) = (refl, refl)
ends_no_unit FunctionBlock (Operates (Applies And)) = (refl, refl)
ends_no_unit FunctionBlock (Jumps Always) = (refl, refl)
ends_no_unit FunctionBlock (Calls Always) = (refl, refl)
ends_no_unit FunctionBlock (Returns Always) = (refl, refl)
ends_no_unit Program (Operates (Loads false)) = (refl, refl)
ends_no_unit Program (Operates (Stores Result)) = (refl, refl)
ends_no_unit Program (Operates (Applies And)) = (refl, refl)
ends_no_unit Program (Jumps Always) = (refl, refl)
ends_no_unit Program (Calls Always) = (refl, refl)
ends_no_unit Program (Returns Always) = (refl, refl)
ends_no_unit third fourth = (refl, refl)

-- an identifier of an operator's name begins no section
no_section : (done : Lines) (name : Name) → found section_words name ≡ None → section_of_word done name ≡ None
no_section End name e = e
no_section (Alone label rest) name e = refl
no_section (Plain label line step rest) name e = refl
no_section (Nested label line operator operand inside close rest) name e = refl

-- if an operator's word comes, no colon after it, the line begins
operator_begins : (p : Position) (bytes : List ℕ) (line : ℕ) (operation : Operation) → found operations (name_of bytes) ≡ Some operation
    → word_move p bytes line ≡ started_line p (line_move InBody Start (Identifier bytes) line false)
operator_begins p bytes line operation e =
    let n = found_operation (name_of bytes) operation e in
    let k = ends_no_unit p.unit.kind operation in
    ap (λ b. if b then Some (after_unit p) else section_or_line p bytes line (section_of_word p.done (name_of bytes))) (ap (λ m. same_name m (end_word p.unit.kind)) n ∙ k.0)
    ∙ ap (section_or_line p bytes line) (no_section p.done (name_of bytes) (ap (found section_words) n ∙ k.1))

-- a label's word is taken as the start of a line only if a colon follows
word_led : (p : Position) (bytes : List ℕ) (line : ℕ) (line_shape : LineShape) (marks : List Mark) (colon : Bool) → colon_next marks colon ≡ false
    → (operation : Option Operation) → found operations (name_of bytes) ≡ operation
    → Leads (Some (operator_or_label (record { line = line; name = name_of bytes }) operation)) line_shape marks
    → word_move p bytes line ≡ started_line p (line_move InBody Start (Identifier bytes) line false)
word_led p bytes line line_shape [] colon n None e r = absurd ((both_empty r).0)
word_led p bytes line line_shape (mark ∷ marks) colon n None e r = let k = ap is_colon (next_is r).0 in absurd (cc)
word_led p bytes line line_shape marks colon n (Some operation) e r = operator_begins p bytes line operation e

-- the first token of a line in a body begins the line
body_begins : (p : Position) (symbol : Symbol) (line : ℕ) (line_shape : LineShape) (marks : List Mark) (colon here : Bool) → colon_next marks colon ≡ here → Leads (at_start symbol line here) line_shape marks
    → body_move p symbol line here ≡ started_line p (at_start symbol line here)
body_begins p (Identifier bytes) line line_shape marks colon false e r = word_led p bytes line line_shape marks colon e (found operations (name_of bytes)) refl r
body_begins p symbol line line_shape marks colon here e r = refl

-- the first token of a line begins the line
pub begins : (p : Position) (openings : List Opening) (symbol : Symbol) (line : ℕ) (line_shape : LineShape) (marks : List Mark) (colon : Bool) → p.openings ≡ openings
    → Leads (at_start_in (setting_in openings) symbol line (colon_next marks colon)) line_shape marks
    → move (AtLine p) symbol line (colon_next marks colon) ≡ started_line p (at_start_in (setting_in openings) symbol line (colon_next marks colon))
begins p openings LineEnd line line_shape marks colon e r = absurd (nothing_begins openings r)
  where
    nothing_begins : (openings : List Opening) → ¬ (Leads (at_start_in (setting_in openings) LineEnd line (colon_next marks colon)) line_shape marks)
    nothing_begins [] r = r
    nothing_begins (o ∷ outer) r = r
begins p [] symbol line line_shape marks colon e r = ap (λ os. start_move p os symbol line (colon_next marks colon)) e ∙ body_begins p symbol line line_shape marks colon (colon_next marks colon) refl r
begins p (o ∷ outer) ClosingBracket line line_shape marks colon e r = absurd r
begins p (o ∷ outer) symbol line line_shape marks colon e r = ap (λ os. start_move p os symbol line (colon_next marks colon)) e

no_line : (setting : Setting) (line_shape : LineShape) → ¬ (line_of setting line_shape [])
no_line setting (LabelAlone label) r = (both_empty r).1
no_line setting (Instructs label line step) r = (both_empty (both_empty r.1).1).1
no_line setting (Opens label line operator x) r = (both_empty (both_empty (both_empty r).1).0).1

-- a whole line is walked
pub line_walked : (p : Position) (line_shape : LineShape) (tokens : List Mark) (colon : Bool) → line_of (setting_in p.openings) line_shape tokens → walk (AtLine p) tokens colon ≡ Some (AtLine (after_line p line_shape))
line_walked p line_shape [] colon h = absurd (no_line (setting_in p.openings) line_shape h)
line_walked p line_shape (mark ∷ marks) colon h =
    let l = start_led (setting_in p.openings) line_shape mark.symbol mark.line marks colon h in
    ap (λ o. walk_on o marks colon) (begins p p.openings mark.symbol mark.line line_shape marks colon refl l)
    ∙ elim (at_start_in (setting_in p.openings) mark.symbol mark.line (colon_next marks colon)) as (λ o. Leads o line_shape marks → walk_on (started_line p o) marks colon ≡ Some (AtLine (after_line p line_shape))) [
      | None ↦ λ h. absurd h
      | Some next ↦ λ h. on_line_walked p next line_shape marks colon h
    ] l

-- line ends are walked over
pub line_ends_walked : (p : Position) (tokens : List Mark) (colon : Bool) → line_ends tokens → walk (AtLine p) tokens colon ≡ Some (AtLine p)
line_ends_walked p [] colon h = refl
line_ends_walked p (mark ∷ marks) colon h = ap (λ s. walk_on (move (AtLine p) s mark.line (colon_next marks colon)) marks colon) h.0 ∙ line_ends_walked p marks colon h.1

-- one part, and then another
pub parts_walked : (first second : List Mark → Type 0) (state next : State) (tokens : List Mark) (colon : Bool) (end : Option State) → (first then second) tokens
    → ((prefix : List Mark) (c : Bool) → first prefix → walk state prefix c ≡ Some next) → ((rest : List Mark) → second rest → walk next rest colon ≡ end) → walk state tokens colon ≡ end
parts_walked first second state next tokens colon end h f g =
    subst (λ ts. walk state ts colon ≡ end) (sym h.whole) (walk_then state next h.prefix h.rest colon end (f h.prefix (colon_next h.rest colon) h.begins) (g h.rest h.goes_on))

pub lines_and_end : (ls : Lines) → lines_and ls End ≡ ls
lines_and_end End = refl
lines_and_end (Alone label rest) = ap (Alone label) (lines_and_end rest)
lines_and_end (Plain label line step rest) = ap (Plain label line step) (lines_and_end rest)
lines_and_end (Nested label line operator operand inside close rest) = ap (Nested label line operator operand inside close) (lines_and_end rest)

pub lines_and_assoc : (a b c : Lines) → lines_and (lines_and a b) c ≡ lines_and a (lines_and b c)
lines_and_assoc End b c = refl
lines_and_assoc (Alone label rest) b c = ap (Alone label) (lines_and_assoc rest b c)
lines_and_assoc (Plain label line step rest) b c = ap (Plain label line step) (lines_and_assoc rest b c)
lines_and_assoc (Nested label line operator operand inside close rest) b c = ap (Nested label line operator operand inside close) (lines_and_assoc rest b c)

-- a position with more lines done
abbrev pub with_lines : Position → Lines → Position
with_lines p ls = record p { done = lines_and p.done ls }

-- a line, and then others
with_more : (p : Position) (line rest : Lines) → with_lines (with_lines p line) rest ≡ with_lines p (lines_and line rest)
with_more p line rest = λ i. record p { done = lines_and_assoc p.done line rest i }

content_is : (x : Option Term) (inside : Lines) → HasContent x inside → has_content x inside ≡ true
content_is None End h = absurd h
content_is None (Alone label rest) h = refl
content_is third fourth h = refl

-- a parenthesis closes
pub closing_walked : (q : Position) (o : Opening) (outer : List Opening) (close : ℕ) (tokens : List Mark) (colon : Bool) → q.openings ≡ o ∷ outer → HasContent o.operand q.done
    → one (IsOn close (IsSymbol ClosingBracket)) tokens → walk (AtLine q) tokens colon ≡ Some (Closed (after_closing q o outer close))
closing_walked q o outer close [] colon e content h = absurd h
closing_walked q o outer close (x ∷ y ∷ more) colon e content h = absurd h
closing_walked q o outer close (mark ∷ []) colon e content h =
    ap (λ s. walk_on (move (AtLine q) s mark.line colon) [] colon) h.0
    ∙ ap (λ os. walk_on (start_move q os ClosingBracket mark.line colon) [] colon) e
    ∙ ap (λ b. walk_on (if b then Some (Closed (after_closing q o outer mark.line)) else None) [] colon) (content_is o.operand q.done content)
    ∙ ap (λ n. Some (Closed (after_closing q o outer n))) h.1

end_walked : (q : Position) (tokens : List Mark) (colon : Bool) → grammar.symbol LineEnd tokens → walk (Closed q) tokens colon ≡ Some (AtLine q)
end_walked q [] colon h = absurd h
end_walked q (x ∷ y ∷ more) colon h = absurd h
end_walked q (mark ∷ []) colon h = ap (λ s. walk_on (move (Closed q) s mark.line colon) [] colon) h

-- lines are walked
pub lines_walked : (ls : Lines) (p : Position) (tokens : List Mark) (colon : Bool) → lines (setting_in p.openings) ls tokens → walk (AtLine p) tokens colon ≡ Some (AtLine (with_lines p ls))
lines_walked End p tokens colon h = line_ends_walked p tokens colon h ∙ (λ i. Some (AtLine (record p { done = sym (lines_and_end p.done) i })))
lines_walked (Alone label rest) p tokens colon h =
    parts_walked line_ends (line_of (setting_in p.openings) (LabelAlone label) then lines (setting_in p.openings) rest) (AtLine p) (AtLine p) tokens colon _ (after (λ ts k. regroup k) h)
    (λ prefix c l. line_ends_walked p prefix c l)
    (λ more k. parts_walked (line_of (setting_in p.openings) (LabelAlone label)) (lines (setting_in p.openings) rest) (AtLine p) (AtLine (after_line p (LabelAlone label))) more colon _ k
    (λ prefix c l. line_walked p (LabelAlone label) prefix c l)
    (λ others l. lines_walked rest (after_line p (LabelAlone label)) others colon l ∙ ap (λ q. Some (AtLine q)) (with_more p (Alone label End) rest)))
lines_walked (Plain label line step rest) p tokens colon h =
    parts_walked line_ends (line_of (setting_in p.openings) (Instructs label line step) then lines (setting_in p.openings) rest) (AtLine p) (AtLine p) tokens colon _
    (after (λ ts k. given_first h.0 (regroup (after (λ us l. regroup l) k))) h.1)
    (λ prefix c l. line_ends_walked p prefix c l)
    (λ more k. parts_walked (line_of (setting_in p.openings) (Instructs label line step)) (lines (setting_in p.openings) rest) (AtLine p) (AtLine (after_line p (Instructs label line step))) more colon _ k
    (λ prefix c l. line_walked p (Instructs label line step) prefix c l)
    (λ others l. lines_walked rest (after_line p (Instructs label line step)) others colon l ∙ ap (λ q. Some (AtLine q)) (with_more p (Plain label line step End) rest)))
lines_walked (Nested label line operator x inside close rest) p tokens colon h =
    parts_walked line_ends (line_of (setting_in p.openings) (Opens label line operator x) then tail) (AtLine p) (AtLine p) tokens colon _ (after (λ ts k. regroup k) h.1)
    (λ prefix c l. line_ends_walked p prefix c l)
    (λ more k. parts_walked (line_of (setting_in p.openings) (Opens label line operator x)) tail (AtLine p) (AtLine (after_line p (Opens label line operator x))) more colon _ k
    (λ prefix c l. line_walked p (Opens label line operator x) prefix c l)
    (λ others l. parts_walked (lines InParentheses inside) (one (IsOn close (IsSymbol ClosingBracket)) then grammar.symbol LineEnd then lines (setting_in p.openings) rest) (AtLine (after_line p (Opens label line operator x))) (AtLine q) others colon _ l
    (λ prefix c m. lines_walked inside (after_line p (Opens label line operator x)) prefix c m)
    (λ others' m. parts_walked (one (IsOn close (IsSymbol ClosingBracket))) (grammar.symbol LineEnd then lines (setting_in p.openings) rest) (AtLine q) (Closed r) others' colon _ m
    (λ prefix c n. closing_walked q o p.openings close prefix c refl h.0 n)
    (λ others'' n. parts_walked (grammar.symbol LineEnd) (lines (setting_in p.openings) rest) (Closed r) (AtLine r) others'' colon _ n
    (λ prefix c w. end_walked r prefix c w)
    (λ last w. lines_walked rest r last colon w ∙ ap (λ q. Some (AtLine q)) (with_more p (Nested label line operator x inside close End) rest))))))
  where
    tail : List Mark → Type 0
    tail = lines InParentheses inside then one (IsOn close (IsSymbol ClosingBracket)) then grammar.symbol LineEnd then lines (setting_in p.openings) rest

    o : Opening
    o = record { before = p.done; label = label; line = line; operator = operator; operand = x }

    q : Position
    q = with_lines (after_line p (Opens label line operator x)) inside

    r : Position
    r = after_closing q o p.openings close
