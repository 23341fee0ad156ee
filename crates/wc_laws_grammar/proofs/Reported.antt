-- What the walk's state says about the tokens that led to it.
use Rattle.std.proofs.Common.{◌≡◌, ℕ, List, [], ◌∷◌, ◌++◌, Option, Some, None, refl, ap, subst, append_assoc, append-nil, ◌∙◌, sym}
use Rattle.std.specs.Prelude.{flat_map, option_map}
use Rattle.wc_laws_grammar.proofs.Appending.{append_last, with_nothing}
use Rattle.wc_laws_grammar.proofs.DeclarationRests.{declarations_of, declared_rest}
use Rattle.wc_laws_grammar.specs.{LineShape, StartedLine, OfOpening, LineState, Start, Worded, Labelled, Operated, Bracketed, Named, Pointed, BracketedWith, InDeclaration, Undeclared, State, Outside, Unnamed, Declaring, AtLine, OnLine, Closed, after_closing, body_start, named_unit, Operates, found, operation_of, unit_kinds}
use Rattle.wc_laws_grammar.proofs.LineRests.{line_of, rest_of}
use Rattle.wc_laws_grammar.proofs.LineSound.{mark_on}
use Rattle.wc_laws_grammar.proofs.WordLaws.{found_unit_kind}
use Rattle.wc_laws_grammar.proofs.Languages.{joined, pass, ungroup, after}
use Rattle.wc_model.specs.Definitions.{Group, HasContent, InBody, IsOn, Setting, bracket, head, identifier, label_in, line_ends, operand, section_of, sections, symbol, units, end_var, section_word, unit_word, ◌then◌, each, one, optional, skipping, ClosingBracket, Identifier, IsNamed, IsSymbol, IsWord, LineEnd, Mark, is_line_end, name_of, Opening, Position, at_line, setting_in, Declaration, ProgramUnit, Term}
use Rattle.wc_model.specs.declared.operator.Operator.{Operator}
use Rattle.wc_model.specs.declared.source.Section.{Section}
use Rattle.wc_model.specs.declared.source.UnitKind.{UnitKind}

-- Where the walk is in a section: the declarations before it, those in it, and its tokens so far, which go on to a whole section.
pub record InSection (us : List ProgramUnit) (unit : ProgramUnit) (section : Section) (place : InDeclaration) (tokens : List Mark) : Type 0 where
  pub earlier : List Declaration
  pub done : List Declaration
  pub parts : unit.declarations ≡ earlier ++ done
  pub prefix : List Mark
  pub inside : List Mark
  pub whole : tokens ≡ prefix ++ inside
  pub begins : (units us then head (record unit { declarations = earlier }) then line_ends then identifier (section_word section)) prefix
  pub goes : (ds : List Declaration) (more : List Mark) → skipping is_line_end (declared_rest section place ds) more → skipping is_line_end (declarations_of section (done ++ ds)) (inside ++ more)

-- an opening line after its bracket: what goes on from there is its operand and its end
pub record PartOpened (setting : Setting) (started : StartedLine) (operator : Operator) (line : LineState) (tokens : List Mark) : Type 0 where
  pub prefix : List Mark
  pub following : List Mark
  pub whole : tokens ≡ prefix ++ following
  pub begins : (label_in setting started.label then bracket started.line operator) prefix
  pub goes : (line_shape : LineShape) (more : List Mark) → rest_of line line_shape more → (x : Option Term) × (optional operand x then symbol LineEnd) (following ++ more)

-- a part of a line: what precedes and follows its operator, at which a fault may be found next
abbrev pub Exact : Setting → LineState → List Mark → Type 0
Exact setting Start tokens = ⊥
Exact setting (Worded label) tokens = (setting ≡ InBody) × one (IsWord label) tokens
Exact setting (Labelled label) tokens = (setting ≡ InBody) × label_in InBody (Some label) tokens
Exact setting (Operated started operating) tokens = (label_in setting started.label then one (IsOn started.line (λ mark. operation_of mark.symbol ≡ Some (Operates operating)))) tokens
Exact setting (Bracketed started operator) tokens = PartOpened setting started operator (Bracketed started operator) tokens
Exact setting (BracketedWith started operator x) tokens = PartOpened setting started operator (BracketedWith started operator x) tokens
Exact setting (Named started (OfOpening operator) name) tokens = PartOpened setting started operator (Named started (OfOpening operator) name) tokens
Exact setting (Pointed started (OfOpening operator) name) tokens = PartOpened setting started operator (Pointed started (OfOpening operator) name) tokens
Exact setting _ tokens = Unit {0}

-- on a line that has started: the tokens before it, and those of it
pub record InLine (p : Position) (line : LineState) (tokens : List Mark) : Type 0 where
  pub prefix : List Mark
  pub part : List Mark
  pub whole : tokens ≡ prefix ++ part
  pub begins : at_line p prefix
  pub goes : (line_shape : LineShape) (more : List Mark) → rest_of line line_shape more → line_of (setting_in p.openings) line_shape (part ++ more)
  pub exact : Exact (setting_in p.openings) line part

-- after a `)`: the position before it, and its parenthesis
pub record AfterClosing (p : Position) (tokens : List Mark) : Type 0 where
  pub inside : Position
  pub o : Opening
  pub outer : List Opening
  pub close : ℕ
  pub prefix : List Mark
  pub last : List Mark
  pub whole : tokens ≡ prefix ++ last
  pub begins : at_line inside prefix
  pub opened : inside.openings ≡ o ∷ outer
  pub content : HasContent o.operand inside.done
  pub closing : one (IsOn close (IsSymbol ClosingBracket)) last
  pub position : p ≡ after_closing inside o outer close

-- what a state says about the tokens before it
abbrev pub Reported : State → List Mark → Type 0
Reported (Outside us) tokens = units us tokens
Reported (Unnamed us kind line) tokens = (units us then one (IsOn line (IsNamed (unit_word kind)))) tokens
Reported (Declaring us unit section place) tokens = InSection us unit section place tokens
Reported (AtLine p) tokens = at_line p tokens
Reported (OnLine p line) tokens = InLine p line tokens
Reported (Closed p) tokens = AfterClosing p tokens

-- the same with one more token, if it is taken
abbrev pub Keeps : List Mark → Mark → Option State → Type 0
Keeps tokens mark None = Unit {0}
Keeps tokens mark (Some next) = Reported next (tokens ++ mark ∷ [])

-- a line end after whole units
pub outside_end : (us : List ProgramUnit) (tokens : List Mark) (line : ℕ) → units us tokens → units us (tokens ++ mark_on LineEnd line ∷ [])
outside_end us tokens line h = append_last (mark_on LineEnd line ∷ []) (λ rest k. one_more_end rest k) h
  where
    one_more_end : (rest : List Mark) → line_ends rest → line_ends (rest ++ mark_on LineEnd line ∷ [])
    one_more_end [] k = (refl, tt)
    one_more_end (mark ∷ marks) k = (k.0, one_more_end marks k.1)

pub unit_kept : (us : List ProgramUnit) (tokens : List Mark) (bytes : List ℕ) (line : ℕ) (kind : Option UnitKind) → found unit_kinds (name_of bytes) ≡ kind → units us tokens
    → Keeps tokens (mark_on (Identifier bytes) line) (option_map (λ kind. Unnamed us kind line) kind)
unit_kept us tokens bytes line None e h = tt
unit_kept us tokens bytes line (Some kind) e h = joined tokens (mark_on (Identifier bytes) line ∷ []) h (ap (λ n. Some n) (found_unit_kind (name_of bytes) kind e), refl)

-- the start of a body with no line and no parenthesis
start_of_body : (us : List ProgramUnit) (unit : ProgramUnit) (tokens : List Mark) → (units us then head unit) tokens → at_line (body_start us unit) tokens
start_of_body us unit tokens h = after (λ ts k. with_nothing _ (pass refl tt) k) h

pub name_kept : (us : List ProgramUnit) (kind : UnitKind) (first line : ℕ) (bytes : List ℕ) (tokens : List Mark) → (units us then one (IsOn first (IsNamed (unit_word kind)))) tokens
    → at_line (body_start us (named_unit kind first line bytes)) (tokens ++ mark_on (Identifier bytes) line ∷ [])
name_kept us kind first line bytes tokens h =
    start_of_body us (named_unit kind first line bytes) _ (append_last (mark_on (Identifier bytes) line ∷ []) (λ rest k. joined rest (mark_on (Identifier bytes) line ∷ []) k (with_nothing _ ([], refl, refl) (refl, refl, refl))) h)

-- one section more
more_groups : (groups : List Group) (group : Group) (a b : List Mark) → each (λ group. line_ends then section_of group) groups a → (line_ends then section_of group) b → each (λ group. line_ends then section_of group) (groups ++ group ∷ []) (a ++ b)
more_groups [] group a b ha hb = subst (λ ts. ((line_ends then section_of group) then (λ tokens. tokens ≡ [])) (ts ++ b)) (sym ha) (with_nothing _ refl hb)
more_groups (first ∷ groups) group a b ha hb = append_last b (λ rest k. more_groups groups group rest b k hb) ha

declared_by : (groups : List Group) (group : Group) → flat_map (λ group. group.declarations) (groups ++ group ∷ []) ≡ flat_map (λ group. group.declarations) groups ++ group.declarations
declared_by [] group = append-nil group.declarations
declared_by (first ∷ groups) group = ap (λ ds. first.declarations ++ ds) (declared_by groups group) ∙ sym (append_assoc first.declarations (flat_map (λ group. group.declarations) groups) group.declarations)

one_more_section : (earlier : List Declaration) (group : Group) (a b : List Mark) → sections earlier a → (line_ends then section_of group) b → sections (earlier ++ group.declarations) (a ++ b)
one_more_section earlier group a b ha hb = (ha.0 ++ group ∷ [], ap (λ ds. ds ++ group.declarations) ha.1 ∙ sym (declared_by ha.0 group), more_groups ha.0 group a b ha.2 hb)

-- after a section's END_VAR
pub section_done : (us : List ProgramUnit) (unit : ProgramUnit) (section : Section) (tokens : List Mark) (mark : Mark) → InSection us unit section Undeclared tokens → identifier end_var (mark ∷ []) → at_line (body_start us unit) (tokens ++ mark ∷ [])
section_done us unit section tokens mark h e =
    subst (at_line (body_start us unit)) (sym (ap (λ ts. ts ++ mark ∷ []) h.whole ∙ append_assoc h.prefix h.inside (mark ∷ [])))
    (start_of_body us unit _ (append_last (h.inside ++ mark ∷ []) (λ rest k. headed_by rest k) h.begins))
  where
    inside : (skipping is_line_end (declarations_of section h.done) then identifier end_var) (h.inside ++ mark ∷ [])
    inside = joined h.inside (mark ∷ []) (subst (λ ts. skipping is_line_end (declarations_of section h.done) ts) (append-nil h.inside) (subst (λ ds. skipping is_line_end (declarations_of section ds) (h.inside ++ [])) (append-nil h.done) (h.goes [] [] refl))) e

    headed_by : (rest : List Mark) → (head (record unit { declarations = h.earlier }) then line_ends then identifier (section_word section)) rest → head unit (rest ++ (h.inside ++ mark ∷ []))
    headed_by rest k =
        let u = after (λ ts l. ungroup l) (ungroup k) in
        append_last (h.inside ++ mark ∷ []) (λ ts l. append_last (h.inside ++ mark ∷ []) (λ vs m. grown vs m) l) u
      where
        grown : (vs : List Mark) → (sections h.earlier then line_ends then identifier (section_word section)) vs → sections unit.declarations (vs ++ (h.inside ++ mark ∷ []))
        grown vs m =
            let group : Group = record { section = section; declarations = h.done } in
            let b : (line_ends then section_of group) (m.rest ++ (h.inside ++ mark ∷ [])) = append_last (h.inside ++ mark ∷ []) (λ ws n. joined ws (h.inside ++ mark ∷ []) n inside) m.goes_on in
            subst (λ ts. sections unit.declarations (ts ++ (h.inside ++ mark ∷ []))) (sym m.whole)
            (subst (sections unit.declarations) (sym (append_assoc m.prefix m.rest (h.inside ++ mark ∷ [])))
            (subst (λ ds. sections ds (m.prefix ++ (m.rest ++ (h.inside ++ mark ∷ [])))) (sym h.parts) (one_more_section h.earlier group m.prefix _ m.begins b)))
