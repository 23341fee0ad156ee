-- If the walk is in a unit, the tokens stop in it.
use Rattle.std.proofs.Common.{◌≡◌, ℕ, false, List, [], ◌∷◌, ◌++◌, Some, refl, ap, subst, append_assoc, append-nil, ◌∙◌, sym, inl, inr}
use Rattle.wc_laws_grammar.proofs.Appending.{append_last}
use Rattle.wc_laws_grammar.proofs.Exits.{Exits, exits_closed, exits_line, exits_on, exits_unnamed, section_exits}
use Rattle.wc_laws_grammar.specs.{LineState, InDeclaration, State, Unnamed, Declaring, AtLine, OnLine, Closed, body_start}
use Rattle.wc_laws_grammar.proofs.LineSound.{mark_on}
use Rattle.wc_laws_grammar.proofs.Orders.{IsOpen, open_is}
use Rattle.wc_laws_grammar.proofs.Reported.{AfterClosing, Exact, InLine, InSection, Reported}
use Rattle.wc_laws_grammar.proofs.ReportedOn.{reported_after}
use Rattle.wc_laws_grammar.proofs.Languages.{joined, many_are, next_is, pass, passed, both_empty, ungroup}
use Rattle.wc_model.specs.Definitions.{IsOn, head, identifier, lines, unit_of, units, end_word, unit_word, ◌then◌, one, Identifier, IsNamed, LineEnd, Mark, Symbol, name_in, Name, Position, StopsInUnit, at_line, openings_of, setting_in, ProgramUnit}
use Rattle.wc_model.specs.declared.source.Section.{Section}
use Rattle.wc_model.specs.declared.source.UnitKind.{UnitKind}
use Rattle.wc_model.specs.declared.source.UnitKind.TheVariants.{FunctionBlock, Program}

-- The tokens of whole units, and then those of one that has started, which alone lead to a state in the first unit of a text.
pub record Split (tokens : List Mark) (line : ℕ) : Type 0 where
  pub us : List ProgramUnit
  pub earlier : List Mark
  pub mark : Mark
  pub own : List Mark
  pub whole : tokens ≡ earlier ++ mark ∷ own
  pub begins : units us earlier
  pub word : Name
  pub first : name_in mark.symbol ≡ Some word
  pub state : State
  pub reported : Reported state (mark ∷ own)
  pub unit : ProgramUnit
  pub same_line : unit.line ≡ line
  pub exits : Exits state [] unit

-- a list with a first token of a unit
unit_word_first : (line : ℕ) (word : Name) (second : List Mark → Type 0) (tokens : List Mark) → (one (IsOn line (IsNamed word)) then second) tokens → (mark : Mark) × (own : List Mark) × (tokens ≡ mark ∷ own) × (name_in mark.symbol ≡ Some word)
unit_word_first line word second [] h = absurd (both_empty h).0
unit_word_first line word second (mark ∷ own) h = (mark, own, refl, (next_is h).0.0)

-- a split after whole units
split : (us : List ProgramUnit) (line : ℕ) (word : Name) (first second : List Mark → Type 0) (tokens more : List Mark) (state : State) (unit : ProgramUnit) → (units us then second) tokens
    → ((ts : List Mark) → second ts → (one (IsOn line (IsNamed word)) then first) ts) → ((ts : List Mark) → second ts → Reported state (ts ++ more)) → unit.line ≡ line → Exits state [] unit → Split (tokens ++ more) line
split us line word first second tokens more state unit h f g e x =
    let w = unit_word_first line word first h.rest (f h.rest h.goes_on) in
    record {
      us = us;
      earlier = h.prefix;
      mark = w.0;
      own = w.1 ++ more;
      whole = ap (λ ts. ts ++ more) (h.whole ∙ ap (λ ts. h.prefix ++ ts) w.2) ∙ append_assoc h.prefix (w.0 ∷ w.1) more;
      begins = h.begins;
      word = word;
      first = w.3;
      state = state;
      reported = subst (λ ts. Reported state (ts ++ more)) w.2 (g h.rest h.goes_on);
      unit = unit;
      same_line = e;
      exits = x;
    }

-- the position in the first unit of a text
abbrev alone : Position → Position
alone p = record p { before = [] }

no_units : units [] []
no_units = pass refl tt

alone_line : (p : Position) (ts : List Mark) → (head p.unit then openings_of p.openings then lines (setting_in p.openings) p.done) ts → at_line (alone p) ts
alone_line p ts h = pass no_units h

-- the split at each state in a unit
pub split_line : (p : Position) (tokens : List Mark) → at_line p tokens → Split tokens p.unit.line
split_line p tokens h =
    subst (λ ts. Split ts p.unit.line) (append-nil tokens)
    (split p.before p.unit.line (unit_word p.unit.kind) _ _ tokens [] (AtLine (alone p)) p.unit h (λ ts k. ungroup k) (λ ts k. subst (at_line (alone p)) (sym (append-nil ts)) (alone_line p ts k)) refl (exits_line (alone p)))

pub split_on : (p : Position) (line : LineState) (tokens : List Mark) → IsOpen line → InLine p line tokens → Split tokens p.unit.line
split_on p line tokens o h =
    subst (λ ts. Split ts p.unit.line) (sym h.whole)
    (split p.before p.unit.line (unit_word p.unit.kind) _ _ h.prefix h.part (OnLine (alone p) line) p.unit h.begins (λ ts k. ungroup k)
    (λ ts k. record { prefix = ts; part = h.part; whole = refl; begins = alone_line p ts k; goes = h.goes; exact = h.exact }) refl
    (exits_on (alone p) line (λ e. subst (λ l. Exact (setting_in p.openings) l h.part) e h.exact) (open_is line o)))

pub split_closed : (p : Position) (tokens : List Mark) → AfterClosing p tokens → Split tokens p.unit.line
split_closed p tokens h =
    subst (λ ts. Split ts p.unit.line) (sym h.whole)
    (subst (Split (h.prefix ++ h.last)) (ap (λ q. q.unit.line) (sym h.position))
    (split h.inside.before h.inside.unit.line (unit_word h.inside.unit.kind) _ _ h.prefix h.last (Closed (alone p)) (alone p).unit h.begins (λ ts k. ungroup k)
    (λ ts k. record { inside = alone h.inside; o = h.o; outer = h.outer; close = h.close; prefix = ts; last = h.last; whole = refl; begins = alone_line h.inside ts k; opened = h.opened; content = h.content; closing = h.closing; position = ap alone h.position })
    (ap (λ q. q.unit.line) h.position) (exits_closed (alone p))))

pub split_section : (us : List ProgramUnit) (unit : ProgramUnit) (section : Section) (place : InDeclaration) (tokens : List Mark) → InSection us unit section place tokens → Split tokens unit.line
split_section us unit section place tokens h =
    let x = section_exits [] unit section place in
    subst (λ ts. Split ts unit.line) (sym h.whole)
    (split us unit.line (unit_word unit.kind) _ _ h.prefix h.inside (Declaring [] unit section place) x.unit' h.begins (λ ts k. ungroup k)
    (λ ts k. record { earlier = h.earlier; done = h.done; parts = h.parts; prefix = ts; inside = h.inside; whole = refl; begins = pass no_units k; goes = h.goes }) x.line x.exits)

pub split_unnamed : (us : List ProgramUnit) (kind : UnitKind) (line : ℕ) (tokens : List Mark) → (units us then one (IsOn line (IsNamed (unit_word kind)))) tokens → Split tokens line
split_unnamed us kind line tokens h =
    subst (λ ts. Split ts line) (append-nil tokens)
    (split us line (unit_word kind) (λ ts. ts ≡ []) _ tokens [] (Unnamed [] kind line) _ h (λ ts k. record { prefix = ts; rest = []; whole = sym (append-nil ts); begins = k; goes_on = refl })
    (λ ts k. subst (λ vs. (units [] then one (IsOn line (IsNamed (unit_word kind)))) vs) (sym (append-nil ts)) (pass no_units k)) refl (exits_unnamed [] kind line))

-- no line end precedes a unit's first word
no_ends_before : (second : List Mark → Type 0) (mark : Mark) (own : List Mark) (word : Name) → name_in mark.symbol ≡ Some word → (units [] then second) (mark ∷ own) → second (mark ∷ own)
no_ends_before second mark own word e h = elim (many_are (passed (ungroup h))) [
  | inl k ↦ k
  | inr k ↦ absurd (is_end mark.symbol k.0 e)
]
  where
    is_end : (symbol : Symbol) → symbol ≡ LineEnd → name_in symbol ≡ Some word → ⊥
    is_end symbol a b = let k : name_in LineEnd ≡ Some word = subst (λ s. name_in s ≡ Some word) a b in cc

-- tokens that are split stop in a unit
pub stops_in_unit : (tokens : List Mark) (line : ℕ) → Split tokens line → (unit : ProgramUnit) × StopsInUnit unit tokens × (line ≡ unit.line)
stops_in_unit tokens line s =
    let q : Position = record (body_start [] s.unit) { done = s.exits.done } in
    let t : at_line q ((s.mark ∷ s.own) ++ s.exits.more) = reported_after s.state (AtLine q) (s.mark ∷ s.own) s.exits.more false s.reported s.exits.leads in
    let h = no_ends_before _ s.mark (s.own ++ s.exits.more) s.word s.first t in
    let last = mark_on (Identifier (end_word s.unit.kind)) 0 in
    let unit : ProgramUnit = record s.unit { body = s.exits.done } in
    let u : unit_of unit (((s.mark ∷ s.own) ++ s.exits.more) ++ last ∷ []) = append_last (last ∷ []) (λ ts k. joined ts (last ∷ []) (passed k) (ends_so s.unit.kind)) h in
    (unit, (s.us, record { prefix = s.earlier; rest = s.mark ∷ s.own; whole = s.whole; begins = s.begins; goes_on = (λ e. cc, goes unit s.exits.more last (subst (unit_of unit) (append_assoc (s.mark ∷ s.own) s.exits.more (last ∷ [])) u)) }), sym s.same_line)
  where
    ends_so : (kind : UnitKind) → identifier (end_word kind) (mark_on (Identifier (end_word kind)) 0 ∷ [])
    ends_so FunctionBlock = refl
    ends_so Program = refl

    goes : (unit : ProgramUnit) (more : List Mark) (last : Mark) → unit_of unit ((s.mark ∷ s.own) ++ (more ++ last ∷ [])) → (next : Mark) × (after : List Mark) × unit_of unit ((s.mark ∷ s.own) ++ next ∷ after)
    goes unit [] last k = (last, [], k)
    goes unit (next ∷ more) last k = (next, more ++ last ∷ [], k)
