-- The walk reads just the texts that are spelled within the limits, and reports the first fault of all other tokens.
use Rattle.std.proofs.Common.{◌≡◌, ◌≢◌, ◌≤◌, ℕ, Bool, true, false, List, [], ◌∷◌, ◌++◌, Option, Some, None, refl, ap, subst, append_assoc, append-nil, if◌then◌else◌, ◌∙◌, sym, inl, inr, arith, ◌⊎◌}
use Rattle.std.specs.Prelude.{Ok, Err, Result, ◌||◌}
use Rattle.wc_laws_grammar.proofs.AtEnds.{at_end_raised}
use Rattle.wc_laws_grammar.proofs.Bounds.{Within}
use Rattle.wc_laws_grammar.proofs.Exits.{AreBlocks}
use Rattle.wc_laws_grammar.proofs.Detected.{Detected, detected, same_end}
use Rattle.wc_laws_grammar.specs.{LineState, Start, Worded, Jumped, Called, Instanced, Named, Stepped, BracketedWith, line_move, State, Outside, Unnamed, Declaring, AtLine, OnLine, Closed, Raised, at_end, at_first, started_line, body_move, colon_next, has_program, is_colon, is_program, fault_at, move, reading, start_move, walk, section_or_line, section_of_word, after_unit}
use Rattle.wc_laws_grammar.proofs.RaisedThere.{IsThere, there}
use Rattle.wc_laws_grammar.proofs.Orders.{Ordered, OrderedNext, prefix, ordered_on}
use Rattle.wc_laws_grammar.proofs.Reported.{Exact, Keeps, Reported}
use Rattle.wc_laws_grammar.proofs.ReportedOn.{reported_first, reported_on}
use Rattle.wc_laws_grammar.proofs.WalkedLines.{next_of_both, walk_on, walk_then}
use Rattle.wc_laws_grammar.proofs.WalkedUnits.{colon_is, units_walked}
use Rattle.wc_laws_grammar.proofs.WithinBack.{Good, WasGood, no_program, was_good}
use Rattle.wc_laws_grammar.proofs.WithinOn.{GoesWithin, HasStarted, RejectsColon, within_on}
use Rattle.wc_model.specs.Definitions.{same_name, IsPrefix, IsProgramLast, Setting, Spells, units, end_word, IsWithinLimits, Colon, Identifier, LineEnd, Point, Mark, Symbol, name_of, Opening, Position, setting_in, EmptyParentheses, IsFaultFree, IsFirstReadingFault, IsRaised, RaisedAtToken, NotAllowedInParentheses, NotOneProgramLast, ParenthesisNotPaired, ReadingFault, TooDeep, TooMany, UnexpectedToken, UnitNotClosed, rank_of, ProgramUnit, Text}
use Rattle.wc_model.specs.declared.source.Section.{Section}

-- if a walk goes over two parts, it stops between them
pub walk_parts : (state end : State) (prefix rest : List Mark) (colon : Bool) → walk state (prefix ++ rest) colon ≡ Some end → (middle : State) × (walk state prefix (colon_next rest colon) ≡ Some middle) × (walk middle rest colon ≡ Some end)
walk_parts state end [] rest colon e = (state, refl, e)
walk_parts state end (mark ∷ prefix) rest colon e =
    elim (move state mark.symbol mark.line (colon_next prefix (colon_next rest colon))) as (λ o. walk_on o (prefix ++ rest) colon ≡ Some end
    → (middle : State) × (walk_on o prefix (colon_next rest colon) ≡ Some middle) × (walk middle rest colon ≡ Some end)) [
      | None ↦ λ e. absurd (cc)
      | Some next ↦ λ e. walk_parts next end prefix rest colon e
    ] (sym (ap (λ c. walk_on (move state mark.symbol mark.line c) (prefix ++ rest) colon) (next_of_both prefix rest colon)) ∙ e)

-- what the state says, it has started
has_started : (state : State) (tokens : List Mark) → Reported state tokens → HasStarted state
has_started (Outside us) tokens h = tt
has_started (Unnamed us kind line) tokens h = tt
has_started (Declaring us unit section place) tokens h = tt
has_started (AtLine p) tokens h = tt
has_started (OnLine p line) tokens h = λ e. subst (λ l. Exact (setting_in p.openings) l h.part) e h.exact
has_started (Closed p) tokens h = tt

-- a token is taken
abbrev Taken : Option State → Type 0
Taken None = ⊥
Taken (Some next) = Unit {0}

section_taken : (p : Position) (bytes : List ℕ) (line : ℕ) (section : Option Section) → Taken (section_or_line p bytes line section)
section_taken p bytes line None = tt
section_taken p bytes line (Some section) = tt

word_taken : (p : Position) (bytes : List ℕ) (line : ℕ) (b : Bool) → Taken (if b then Some (after_unit p) else section_or_line p bytes line (section_of_word p.done (name_of bytes)))
word_taken p bytes line true = tt
word_taken p bytes line false = section_taken p bytes line (section_of_word p.done (name_of bytes))

not_none : (next : Option State) → Taken next → ¬ (next ≡ None)
not_none next h e = subst Taken e h

body_either_way : (p : Position) (symbol : Symbol) (line : ℕ) (colon other : Bool) → body_move p symbol line colon ≡ None → body_move p symbol line other ≡ None
body_either_way p (Identifier bytes) line true other e = absurd (cc)
body_either_way p (Identifier bytes) line false other e = absurd (not_none _ (word_taken p bytes line (same_name (name_of bytes) (end_word p.unit.kind))) e)
body_either_way p symbol line colon other e = e

start_either_way : (p : Position) (openings : List Opening) (symbol : Symbol) (line : ℕ) (colon other : Bool) → start_move p openings symbol line colon ≡ None → start_move p openings symbol line other ≡ None
start_either_way p [] symbol line colon other e = body_either_way p symbol line colon other e
start_either_way p (o ∷ outer) symbol line colon other e = e

-- whether a colon follows makes no difference on a line that has started
line_same : (setting : Setting) (state : LineState) (symbol : Symbol) (line : ℕ) (colon other : Bool) → state ≢ Start → line_move setting state symbol line colon ≡ line_move setting state symbol line other
line_same setting Start symbol line colon other n = absurd (n refl)
line_same setting (Worded label) Colon line colon other n = refl
line_same setting (Jumped started condition) (Identifier bytes) line colon other n = refl
line_same setting (Called started condition) (Identifier bytes) line colon other n = refl
line_same setting (Instanced started condition instance) LineEnd line colon other n = refl
line_same setting (Named started place name) Point line colon other n = refl
line_same setting (Stepped started step) LineEnd line colon other n = refl
line_same setting (BracketedWith started operator operand) LineEnd line colon other n = refl
line_same setting another third line colon other n = refl

-- nor to whether a token is taken at all
none_either_way : (state : State) (symbol : Symbol) (line : ℕ) (colon other : Bool) → HasStarted state → move state symbol line colon ≡ None → move state symbol line other ≡ None
none_either_way (Outside us) LineEnd line colon other b e = e
none_either_way (Outside us) (Identifier bytes) line colon other b e = e
none_either_way (Unnamed us kind first) (Identifier bytes) line colon other b e = e
none_either_way (Declaring us unit section place) symbol line colon other b e = e
none_either_way (AtLine p) LineEnd line colon other b e = e
none_either_way (AtLine p) symbol line colon other b e = start_either_way p p.openings symbol line colon other e
none_either_way (OnLine p state) symbol line colon other b e = ap (started_line p) (line_same (setting_in p.openings) state symbol line other colon b) ∙ e
none_either_way (Closed p) LineEnd line colon other b e = e
none_either_way _ symbol line colon other b e = e

-- a token that is not taken is not a prefix of a text with those before it
no_prefix : (state : State) (before : List Mark) (mark : Mark) (colon : Bool) → walk at_first before (is_colon mark.symbol) ≡ Some state → HasStarted state → move state mark.symbol mark.line colon ≡ None → ¬ (IsPrefix (before ++ mark ∷ []))
no_prefix state before mark colon w b e h =
    let whole = units_walked h.1.0 ((before ++ mark ∷ []) ++ h.0) false refl h.1.1.spelled in
    let k = walk_parts at_first (Outside h.1.0) before (mark ∷ h.0) false (subst (λ ts. walk at_first ts false ≡ Some (Outside h.1.0)) (append_assoc before (mark ∷ []) h.0) whole) in
    let s = same_end before (is_colon mark.symbol) k.0 state k.1 w in
    let n : move state mark.symbol mark.line (colon_next h.0 false) ≡ None = none_either_way state mark.symbol mark.line colon (colon_next h.0 false) b e in
    let l : walk_on (move state mark.symbol mark.line (colon_next h.0 false)) h.0 false ≡ Some (Outside h.1.0) = subst (λ s. walk s (mark ∷ h.0) false ≡ Some (Outside h.1.0)) s k.2 in
    let m : None ≡ Some (Outside h.1.0) = sym (ap (λ o. walk_on o h.0 false) n) ∙ l in
    cc

-- one more token after some, cut before one of them
unsnoc : (before : List Mark) (mark : Mark) (seen : List Mark) (here : Mark) (more : List Mark) → before ++ mark ∷ [] ≡ seen ++ here ∷ more
    → ((more ≡ []) × (seen ≡ before) × (here ≡ mark)) ⊎ ((left : List Mark) × (more ≡ left ++ mark ∷ []) × (before ≡ seen ++ here ∷ left))
unsnoc [] mark [] here more e = inl (cc, refl, cc)
unsnoc [] mark (x ∷ []) here more e = absurd (cc)
unsnoc [] mark (x ∷ y ∷ seen) here more e = absurd (cc)
unsnoc (x ∷ before) mark [] here more e = let a : before ++ mark ∷ [] ≡ more = cc in let b : x ≡ here = cc in inr (before, sym a, cc)
unsnoc (x ∷ before) mark (y ∷ seen) here more e =
    let a : before ++ mark ∷ [] ≡ seen ++ here ∷ more = cc in
    let b : x ≡ y = cc in
    elim (unsnoc before mark seen here more a) [
      | inl k ↦ let c = k.1 in inl (k.0, (cc), k.2)
      | inr k ↦ let c = k.2 in inr (k.0, k.1, (cc))
    ]

-- a token at which no fault is found
free_on : (before : List Mark) (mark : Mark) (marks : List Mark) → IsFaultFree before (mark ∷ marks) → ((fault : ReadingFault) (line : ℕ) → ¬ (RaisedAtToken fault before mark marks line)) → IsFaultFree (before ++ mark ∷ []) marks
free_on before mark marks free none seen here more line e fault raised =
    elim (unsnoc before mark seen here more e) [
      | inl k ↦ none fault line (subst (λ h. RaisedAtToken fault before h marks line) k.2 (subst (λ s. RaisedAtToken fault s here marks line) k.1 (subst (λ m. RaisedAtToken fault seen here (m ++ marks) line) k.0 raised)))
      | inr k ↦ free seen here k.0 line k.2 fault (subst (λ ts. RaisedAtToken fault seen here ts line) (ap (λ m. m ++ marks) k.1 ∙ append_assoc k.0 (mark ∷ []) marks) raised)
    ]

-- where the walk has come so far: its state, what it says, and no fault
pub record Come (state : State) (before left : List Mark) : Type 0 where
  pub reached : walk at_first before (colon_next left false) ≡ Some state
  pub reported : Reported state before
  pub ordered : Ordered state
  pub free : IsFaultFree before left

-- the fault that is detected at a token is the first
detected_first : (state : State) (before : List Mark) (mark : Mark) (marks : List Mark) (last_line : ℕ) (raised : Raised) → Come state before (mark ∷ marks) → fault_at state mark.symbol mark.line (colon_next marks false) ≡ Some raised
    → IsFirstReadingFault (before ++ mark ∷ marks) last_line raised.fault raised.line
detected_first state before mark marks last_line raised c e = record {
  before = before;
  left = mark ∷ marks;
  whole = refl;
  is_prefix = prefix state before c.reported c.ordered;
  fault_free = c.free;
  raised = subst (IsThere before mark marks) e (there state before mark.symbol mark.line marks c.reported);
  lowest = λ other place h. lower other place h;
}
  where
    by_detected : (other : ReadingFault) → Detected (fault_at state mark.symbol mark.line (colon_next marks false)) other → rank_of raised.fault ≤ rank_of other
    by_detected other j = let same : Some raised ≡ Some j.detected = sym e ∙ j.is in let k : raised ≡ j.detected = cc in subst (λ m. rank_of m.fault ≤ rank_of other) (sym k) j.lower

    ranks : (fault : ReadingFault) → rank_of fault ≤ 209
    ranks UnexpectedToken = omega arith
    ranks UnitNotClosed = omega arith
    ranks NotOneProgramLast = omega arith
    ranks EmptyParentheses = omega arith
    ranks NotAllowedInParentheses = omega arith
    ranks ParenthesisNotPaired = omega arith
    ranks TooDeep = omega arith
    ranks TooMany = omega arith

    lower : (other : ReadingFault) (place : ℕ) → IsRaised other before (mark ∷ marks) last_line place → rank_of raised.fault ≤ rank_of other
    lower UnexpectedToken place h = ranks raised.fault
    lower UnitNotClosed place h = absurd h
    lower NotOneProgramLast place h = by_detected NotOneProgramLast (detected NotOneProgramLast before mark marks place state c.reached (λ f. let k = ap rank_of f in omega (arith, k)) h)
    lower EmptyParentheses place h = by_detected EmptyParentheses (detected EmptyParentheses before mark marks place state c.reached (λ f. let k = ap rank_of f in omega (arith, k)) h)
    lower NotAllowedInParentheses place h = by_detected NotAllowedInParentheses (detected NotAllowedInParentheses before mark marks place state c.reached (λ f. let k = ap rank_of f in omega (arith, k)) h)
    lower ParenthesisNotPaired place h = by_detected ParenthesisNotPaired (detected ParenthesisNotPaired before mark marks place state c.reached (λ f. let k = ap rank_of f in omega (arith, k)) h)
    lower TooDeep place h = by_detected TooDeep (detected TooDeep before mark marks place state c.reached (λ f. let k = ap rank_of f in omega (arith, k)) h)
    lower TooMany place h = by_detected TooMany (detected TooMany before mark marks place state c.reached (λ f. let k = ap rank_of f in omega (arith, k)) h)

-- if none is detected, no fault but an unexpected token is found
none_raised : (state : State) (before : List Mark) (mark : Mark) (marks : List Mark) → Come state before (mark ∷ marks) → fault_at state mark.symbol mark.line (colon_next marks false) ≡ None
    → (fault : ReadingFault) (line : ℕ) → fault ≢ UnexpectedToken → ¬ (RaisedAtToken fault before mark marks line)
none_raised state before mark marks c e fault line n h = let j = detected fault before mark marks line state c.reached n h in let k : None ≡ Some j.detected = sym e ∙ j.is in cc

-- a token that is not taken is the first fault
unexpected_first : (state : State) (before : List Mark) (mark : Mark) (marks : List Mark) (last_line : ℕ) → Come state before (mark ∷ marks) → fault_at state mark.symbol mark.line (colon_next marks false) ≡ None → move state mark.symbol mark.line (colon_next marks false) ≡ None
    → IsFirstReadingFault (before ++ mark ∷ marks) last_line UnexpectedToken mark.line
unexpected_first state before mark marks last_line c e m = record {
  before = before;
  left = mark ∷ marks;
  whole = refl;
  is_prefix = prefix state before c.reported c.ordered;
  fault_free = c.free;
  raised = (no_prefix state before mark (colon_next marks false) c.reached (has_started state before c.reported) m, refl);
  lowest = λ other place h. lower other place h;
}
  where
    lower : (other : ReadingFault) (place : ℕ) → IsRaised other before (mark ∷ marks) last_line place → rank_of UnexpectedToken ≤ rank_of other
    lower UnexpectedToken place h = omega arith
    lower UnitNotClosed place h = absurd h
    lower NotOneProgramLast place h = absurd (none_raised state before mark marks c e NotOneProgramLast place (λ f. let k = ap rank_of f in omega (arith, k)) h)
    lower EmptyParentheses place h = absurd (none_raised state before mark marks c e EmptyParentheses place (λ f. let k = ap rank_of f in omega (arith, k)) h)
    lower NotAllowedInParentheses place h = absurd (none_raised state before mark marks c e NotAllowedInParentheses place (λ f. let k = ap rank_of f in omega (arith, k)) h)
    lower ParenthesisNotPaired place h = absurd (none_raised state before mark marks c e ParenthesisNotPaired place (λ f. let k = ap rank_of f in omega (arith, k)) h)
    lower TooDeep place h = absurd (none_raised state before mark marks c e TooDeep place (λ f. let k = ap rank_of f in omega (arith, k)) h)
    lower TooMany place h = absurd (none_raised state before mark marks c e TooMany place (λ f. let k = ap rank_of f in omega (arith, k)) h)

-- one token more, at which no fault is detected
come_on : (state next : State) (before : List Mark) (mark : Mark) (marks : List Mark) → Come state before (mark ∷ marks) → fault_at state mark.symbol mark.line (colon_next marks false) ≡ None → move state mark.symbol mark.line (colon_next marks false) ≡ Some next
    → Come next (before ++ mark ∷ []) marks
come_on state next before mark marks c e m =
    let t : Reported next (before ++ mark ∷ []) = subst (Keeps before mark) m (reported_on state before mark.symbol mark.line (colon_next marks false) c.reported) in
    let o : Ordered next = subst OrderedNext m (ordered_on state mark.symbol mark.line (colon_next marks false) c.ordered e) in
    record {
      reached = walk_then at_first state before (mark ∷ []) (colon_next marks false) (Some next) c.reached (ap (λ o. walk_on o [] (colon_next marks false)) m);
      reported = t;
      ordered = o;
      free = free_on before mark marks c.free (λ fault line h. none fault line h);
    }
  where
    expected : (fault : ReadingFault) → (fault ≡ UnexpectedToken) ⊎ (fault ≢ UnexpectedToken)
    expected UnexpectedToken = inl refl
    expected UnitNotClosed = inr (λ f. let k = ap rank_of f in omega (arith, k))
    expected NotOneProgramLast = inr (λ f. let k = ap rank_of f in omega (arith, k))
    expected EmptyParentheses = inr (λ f. let k = ap rank_of f in omega (arith, k))
    expected NotAllowedInParentheses = inr (λ f. let k = ap rank_of f in omega (arith, k))
    expected ParenthesisNotPaired = inr (λ f. let k = ap rank_of f in omega (arith, k))
    expected TooDeep = inr (λ f. let k = ap rank_of f in omega (arith, k))
    expected TooMany = inr (λ f. let k = ap rank_of f in omega (arith, k))

    taken : (line : ℕ) → ¬ (RaisedAtToken UnexpectedToken before mark marks line)
    taken line h = h.0 (prefix next (before ++ mark ∷ []) (subst (Keeps before mark) m (reported_on state before mark.symbol mark.line (colon_next marks false) c.reported)) (subst OrderedNext m (ordered_on state mark.symbol mark.line (colon_next marks false) c.ordered e)))

    none : (fault : ReadingFault) (line : ℕ) → ¬ (RaisedAtToken fault before mark marks line)
    none fault line h = elim (expected fault) [
      | inl f ↦ taken line (subst (λ x. RaisedAtToken x before mark marks line) f h)
      | inr n ↦ none_raised state before mark marks c e fault line n h
    ]

-- what the walk comes to at a token
abbrev pub outcome : State → Mark → List Mark → ℕ → Option Raised → Option State → Result Text Raised
outcome state mark marks last_line raised next = elim raised as (λ _. Result Text Raised) [
  | Some raised ↦ Err raised
  | None ↦ elim next as (λ _. Result Text Raised) [
    | Some next ↦ reading next marks last_line
    | None ↦ Err (record { fault = UnexpectedToken; line = mark.line })
  ]
]

first_at : (tokens : List Mark) (last_line : ℕ) (a b : Raised) → (reading' : Result Text Raised) → reading' ≡ Err a → reading' ≡ Err b → IsFirstReadingFault tokens last_line a.fault a.line → IsFirstReadingFault tokens last_line b.fault b.line
first_at tokens last_line a b r e f h = let same = same_error a b (sym e ∙ f) in subst (λ m. IsFirstReadingFault tokens last_line m.fault m.line) same h
  where
    raised_in : Result Text Raised → Raised
    raised_in (Ok text) = a
    raised_in (Err raised) = raised

    reported : Raised → Result Text Raised
    reported raised = Err raised

    same_error : (a b : Raised) → reported a ≡ reported b → a ≡ b
    same_error a b e = ap raised_in e

-- what the walk reports is the first fault of the tokens
pub read_fault : (state : State) (before left : List Mark) (last_line : ℕ) (raised : Raised) → Come state before left → reading state left last_line ≡ Err raised → IsFirstReadingFault (before ++ left) last_line raised.fault raised.line
read_fault state before [] last_line raised c e =
    let k = at_end_raised state before last_line raised c.reported c.ordered c.reached e in
    record { before = before; left = []; whole = refl; is_prefix = prefix state before c.reported c.ordered; fault_free = c.free; raised = k.raised_here; lowest = k.lowest }
read_fault state before (mark ∷ marks) last_line raised c e =
    elim (fault_at state mark.symbol mark.line (colon_next marks false)) as (λ j. fault_at state mark.symbol mark.line (colon_next marks false) ≡ j
    → outcome state mark marks last_line j (move state mark.symbol mark.line (colon_next marks false)) ≡ Err raised → IsFirstReadingFault (before ++ mark ∷ marks) last_line raised.fault raised.line) [
      | Some found ↦ λ j e. first_at (before ++ mark ∷ marks) last_line found raised (Err found) refl e (detected_first state before mark marks last_line found c j)
      | None ↦ λ j e.
          elim (move state mark.symbol mark.line (colon_next marks false)) as (λ m. move state mark.symbol mark.line (colon_next marks false) ≡ m
          → outcome state mark marks last_line None m ≡ Err raised → IsFirstReadingFault (before ++ mark ∷ marks) last_line raised.fault raised.line) [
            | Some next ↦ λ m e. subst (λ ts. IsFirstReadingFault ts last_line raised.fault raised.line) (append_assoc before (mark ∷ []) marks) (read_fault next (before ++ mark ∷ []) marks last_line raised (come_on state next before mark marks c j m) e)
            | None ↦ λ m e. first_at (before ++ mark ∷ marks) last_line (record { fault = UnexpectedToken; line = mark.line }) raised _ refl e (unexpected_first state before mark marks last_line c j m)
          ] refl e
    ] refl e

-- the text that the walk reads is spelled
text_order : (text : List ProgramUnit) → has_program text ≡ true → AreBlocks text ⊎ IsProgramLast text → IsProgramLast text
text_order text p (inr h) = h
text_order text p (inl h) = let n = no_program text h in let k : true ≡ false = sym p ∙ n in absurd (cc)

-- whole units, with a program or without
abbrev whole : List ProgramUnit → ℕ → Bool → Result Text Raised
whole us last_line b = if b then Ok us else Err (record { fault = NotOneProgramLast; line = last_line })

-- what the walk is at where its text ends
pub record IsEnded (state : State) (text : Text) : Type 0 where
  pub is : state ≡ Outside text
  pub program : has_program text ≡ true

-- where the text of the walk ends
pub ended_at : (state : State) (last_line : ℕ) (text : Text) → at_end state last_line ≡ Ok text → IsEnded state text
ended_at (Outside us) last_line text e = by_program (has_program us) refl e
  where
    by_program : (b : Bool) → has_program us ≡ b → whole us last_line b ≡ Ok text → IsEnded (Outside us) text
    by_program true p e = let k : us ≡ text = cc in record { is = ap Outside k; program = subst (λ t. has_program t ≡ true) k p }
    by_program false p e = absurd (cc)
ended_at (Unnamed us kind line) last_line text e = absurd (cc)
ended_at another last_line text e = absurd (cc)

-- what the walk reads
pub record WasRead (before left : List Mark) (text : Text) : Type 0 where
  pub spelled : Spells (before ++ left) text
  pub within : IsWithinLimits text

-- a colon is refused if none goes on
colon_refused : (next : State) (marks : List Mark) (last_line : ℕ) (text : Text) → colon_next marks false ≡ true → RejectsColon (Some next) → reading next marks last_line ≡ Ok text → ⊥
colon_refused next [] last_line text e r k = absurd (cc)
colon_refused next (mark ∷ marks) last_line text e r k =
    let s = colon_is mark.symbol e in
    let j = (r mark.line (colon_next marks false)) in
    let m : outcome next mark marks last_line None None ≡ Ok text =
    subst (λ m. outcome next mark marks last_line None m ≡ Ok text) (ap (λ y. move next y mark.line (colon_next marks false)) s ∙ j.0)
    (subst (λ q. outcome next mark marks last_line q (move next mark.symbol mark.line (colon_next marks false)) ≡ Ok text) (ap (λ y. fault_at next y mark.line (colon_next marks false)) s ∙ j.1) k) in
    cc

within_text : (text : Text) → Within (Outside text) → IsWithinLimits text
within_text text h = record { units = h.0; bodies = h.1 }

pub read_text : (state : State) (before left : List Mark) (last_line : ℕ) (text : Text) → Reported state before → Ordered state → Within state → reading state left last_line ≡ Ok text → WasRead before left text
read_text state before [] last_line text t o w e =
    let k = ended_at state last_line text e in
    record {
      spelled = record {
        spelled = subst (λ ts. units text ts) (sym (append-nil before)) (subst (λ s. Reported s before) k.is t);
        order = text_order text k.program (subst Ordered k.is o);
      };
      within = within_text text (subst Within k.is w);
    }
read_text state before (mark ∷ marks) last_line text t o w e =
    elim (fault_at state mark.symbol mark.line (colon_next marks false)) as (λ j. fault_at state mark.symbol mark.line (colon_next marks false) ≡ j
    → outcome state mark marks last_line j (move state mark.symbol mark.line (colon_next marks false)) ≡ Ok text → WasRead before (mark ∷ marks) text) [
      | Some found ↦ λ j e. absurd (cc)
      | None ↦ λ j e.
          elim (move state mark.symbol mark.line (colon_next marks false)) as (λ m. move state mark.symbol mark.line (colon_next marks false) ≡ m
          → outcome state mark marks last_line None m ≡ Ok text → WasRead before (mark ∷ marks) text) [
            | Some next ↦ λ m e.
                let t' : Reported next (before ++ mark ∷ []) = subst (Keeps before mark) m (reported_on state before mark.symbol mark.line (colon_next marks false) t) in
                let o' : Ordered next = subst OrderedNext m (ordered_on state mark.symbol mark.line (colon_next marks false) o j) in
                let g : GoesWithin (colon_next marks false) (Some next) = subst (GoesWithin (colon_next marks false)) m (within_on state mark.symbol mark.line (colon_next marks false) (has_started state before t) w j) in
                elim g [
                  | inl w' ↦
                      let r = read_text next (before ++ mark ∷ []) marks last_line text t' o' w' e in
                      record { spelled = subst (λ ts. Spells ts text) (append_assoc before (mark ∷ []) marks) r.spelled; within = r.within }
                  | inr r ↦ absurd (colon_refused next marks last_line text r.0 r.1 e)
                ]
            | None ↦ λ m e. absurd (cc)
          ] refl e
    ] refl e

-- no walk goes on with a colon that is refused
colon_ends : (next : State) (marks : List Mark) (end : State) → colon_next marks false ≡ true → RejectsColon (Some next) → walk next marks false ≡ Some end → ⊥
colon_ends next [] end e r k = absurd (cc)
colon_ends next (mark ∷ marks) end e r k =
    let s = colon_is mark.symbol e in
    let m : walk_on None marks false ≡ Some end = subst (λ m. walk_on m marks false ≡ Some end) (ap (λ y. move next y mark.line (colon_next marks false)) s ∙ (r mark.line (colon_next marks false)).0) k in
    cc

-- what the walk reads from here, and that the limits and the order hold
pub record IsComplete (state : State) (left : List Mark) (last_line : ℕ) (text : Text) : Type 0 where
  pub good : Good state
  pub read : reading state left last_line ≡ Ok text

-- what is walked to a whole text within the limits is read
pub read_all : (state : State) (before left : List Mark) (last_line : ℕ) (text : Text) → Reported state before → Good (Outside text) → has_program text ≡ true → walk state left false ≡ Some (Outside text) → IsComplete state left last_line text
read_all state before [] last_line text t g p e =
    let k : Outside text ≡ state = cc in
    subst (λ s. IsComplete s [] last_line text) k (record { good = g; read = ap (whole text last_line) p })
read_all state before (mark ∷ marks) last_line text t g p e =
    elim (move state mark.symbol mark.line (colon_next marks false)) as (λ m. move state mark.symbol mark.line (colon_next marks false) ≡ m → walk_on m marks false ≡ Some (Outside text) → IsComplete state (mark ∷ marks) last_line text) [
      | None ↦ λ m e. absurd (cc)
      | Some next ↦ λ m e.
          let t' : Reported next (before ++ mark ∷ []) = subst (Keeps before mark) m (reported_on state before mark.symbol mark.line (colon_next marks false) t) in
          let c = read_all next (before ++ mark ∷ []) marks last_line text t' g p e in
          let w = (subst (WasGood state (fault_at state mark.symbol mark.line (colon_next marks false)) (colon_next marks false)) m (was_good state mark.symbol mark.line (colon_next marks false) (has_started state before t))) c.good in
          elim w.1 [
            | inl j ↦ record { good = w.0; read = ap (λ q. outcome state mark marks last_line q (move state mark.symbol mark.line (colon_next marks false))) j ∙ ap (outcome state mark marks last_line None) m ∙ c.read }
            | inr r ↦ absurd (colon_ends next marks (Outside text) r.0 r.1 e)
          ]
    ] refl e

-- a program that is last is found
pub program_in : (text : List ProgramUnit) → IsProgramLast text → has_program text ≡ true
program_in [] h = absurd h
program_in (last ∷ []) h = ap (λ k. is_program k || false) h
program_in (first ∷ second ∷ more) h = ap (λ k. is_program k || has_program (second ∷ more)) h.0 ∙ program_in (second ∷ more) h.1

-- The tokens of a text within the limits are read as that text.
pub spelled_is_read : (tokens : List Mark) (last_line : ℕ) (text : Text) → Spells tokens text → IsWithinLimits text → reading at_first tokens last_line ≡ Ok text
spelled_is_read tokens last_line text s w =
    (read_all at_first [] tokens last_line text reported_first ((w.units, w.bodies), inr s.order) (program_in text s.order) (units_walked text tokens false refl s.spelled)).read

first_come : (tokens : List Mark) → Come at_first [] tokens
first_come tokens = record { reached = refl; reported = reported_first; ordered = inl tt; free = λ seen mark more line e fault h. nothing_before seen mark more e }
  where
    nothing_before : (seen : List Mark) (mark : Mark) (more : List Mark) → [] ≡ seen ++ mark ∷ more → ⊥
    nothing_before [] mark more e = cc
    nothing_before (x ∷ seen) mark more e = cc

-- What is read is spelled by the tokens, within the limits.
pub read_is_spelled : (tokens : List Mark) (last_line : ℕ) (text : Text) → reading at_first tokens last_line ≡ Ok text → Spells tokens text × IsWithinLimits text
read_is_spelled tokens last_line text e = let r = read_text at_first [] tokens last_line text reported_first (inl tt) (omega arith, tt) e in (r.spelled, r.within)

-- What is refused is the first fault of the tokens.
pub refused_is_first : (tokens : List Mark) (last_line : ℕ) (raised : Raised) → reading at_first tokens last_line ≡ Err raised → IsFirstReadingFault tokens last_line raised.fault raised.line
refused_is_first tokens last_line raised e = read_fault at_first [] tokens last_line raised (first_come tokens) e

-- And no text within the limits is spelled by them.
pub refused_spells_nothing : (tokens : List Mark) (last_line : ℕ) (raised : Raised) (text : Text) → reading at_first tokens last_line ≡ Err raised → Spells tokens text → IsWithinLimits text → ⊥
refused_spells_nothing tokens last_line raised text e s w = let k : Ok text ≡ Err raised = sym (spelled_is_read tokens last_line text s w) ∙ e in cc
