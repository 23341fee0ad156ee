-- Units are walked, and tokens that stop at a line of a body lead to its position.
use Rattle.std.proofs.Common.{◌≡◌, ◌≢◌, ℕ, Bool, true, false, List, [], ◌∷◌, ◌++◌, Option, Some, refl, ap, subst, append_assoc, append-nil, if◌then◌else◌, ◌∙◌, sym, inl, inr}
use Rattle.std.specs.Prelude.{flat_map, option_map}
use Rattle.wc_laws_grammar.proofs.DeclarationRests.{declarations_of}
use Rattle.wc_laws_grammar.proofs.LineComplete.{named}
use Rattle.wc_laws_grammar.specs.{Opens, State, Outside, Unnamed, Declaring, AtLine, Undeclared, at_first, at_first_name, after_unit, body_start, colon_next, declaration_move, is_colon, move, section_or_line, section_of_word, start_move, walk, found, section_words, unit_kinds}
use Rattle.wc_laws_grammar.proofs.LineStart.{no_colon, no_colon_name}
use Rattle.wc_laws_grammar.proofs.Skipping.{skip_next_is}
use Rattle.wc_laws_grammar.proofs.WalkedDeclarations.{declared_led, declarations_walked, unit_and}
use Rattle.wc_laws_grammar.proofs.WalkedLines.{line_walked, line_ends_walked, lines_walked, parts_walked, walk_on, walk_then, with_lines}
use Rattle.wc_laws_grammar.proofs.WordLaws.{is_same}
use Rattle.wc_laws_grammar.proofs.Languages.{next_is, many_are, passed, both_empty, ungroup}
use Rattle.wc_model.specs.Definitions.{same_name, Group, InBody, IsNameOf, IsOn, head, identifier, label_in, line_ends, lines, opening, section_of, sections, unit_of, units, end_var, end_word, section_word, unit_word, ◌then◌, each, one, skipping, Symbol, Identifier, Colon, LineEnd, Mark, IsNamed, is_line_end, Name, name_of, Opening, Position, at_line, openings_of, setting_in, Declaration, End, ProgramUnit}
use Rattle.wc_model.specs.declared.source.Section.{Section}
use Rattle.wc_model.specs.declared.source.Section.TheVariants.{Input}
use Rattle.wc_model.specs.declared.source.UnitKind.{UnitKind}
use Rattle.wc_model.specs.declared.source.UnitKind.TheVariants.{FunctionBlock, Program}

-- only a colon is one
pub colon_is : (symbol : Symbol) → is_colon symbol ≡ true → symbol ≡ Colon
colon_is Colon e = refl
colon_is _ e = absurd (cc)

-- a token that is not a colon
not_colon : (symbol : Symbol) → symbol ≢ Colon → is_colon symbol ≡ false
not_colon symbol n = elim (is_colon symbol) as (λ b. is_colon symbol ≡ b → b ≡ false) [ true ↦ λ e. absurd (n (colon_is symbol e)) | false ↦ λ e. refl ] refl

-- no colon begins a section after its first word
section_no_colon : (section : Section) (ds : List Declaration) (tokens : List Mark) (colon : Bool) → (skipping is_line_end (declarations_of section ds) then identifier end_var) tokens → colon_next tokens colon ≡ false
section_no_colon section ds [] colon h = absurd ((both_empty h).1)
section_no_colon section ds (mark ∷ marks) colon h = not_colon mark.symbol (λ e. is_none e (subst (λ s. (skipping is_line_end (declarations_of section ds) then identifier end_var) (record { symbol = s; line = mark.line } ∷ marks)) e h))
  where
    no_end : (marks : List Mark) → ¬ (identifier end_var (record { symbol = Colon; line = mark.line } ∷ marks))
    no_end [] e = absurd (cc)
    no_end (x ∷ xs) e = e

    is_none : mark.symbol ≡ Colon → ¬ ((skipping is_line_end (declarations_of section ds) then identifier end_var) (record { symbol = Colon; line = mark.line } ∷ marks))
    is_none e h = elim (skip_next_is is_line_end (declarations_of section ds) refl h) [
      | inl k ↦ no_end marks k.1
      | inr k ↦
          let r = declared_led [] (record { kind = Program; line = 0; name = record { line = 0; name = [] }; spelled = []; declarations = []; body = End }) section Undeclared ds Colon mark.line _ k.begins in
          let m = r.moved in absurd (cc)
    ]

-- a section's word ends no unit, and is found
section_found : (kind : UnitKind) (section : Section) → (same_name (section_word section) (end_word kind) ≡ false) × (found section_words (section_word section) ≡ Some section)
section_found FunctionBlock Input = (refl, refl)
section_found Program Input = (refl, refl)
section_found other another = (refl, refl)

-- a section's first word
section_begins : (units : List ProgramUnit) (unit : ProgramUnit) (section : Section) (tokens : List Mark) (colon : Bool) → identifier (section_word section) tokens → colon ≡ false
    → walk (AtLine (body_start units unit)) tokens colon ≡ Some (Declaring units unit section Undeclared)
section_begins units unit section [] colon h n = absurd h
section_begins units unit section (x ∷ y ∷ more) colon h n = absurd h
section_begins units unit section (mark ∷ []) colon h n =
    named mark.symbol (section_word section) h (λ bytes y e.
    ap (λ c. walk_on (move (AtLine (body_start units unit)) mark.symbol mark.line c) [] colon) n
    ∙ ap (λ y. walk_on (move (AtLine (body_start units unit)) y mark.line false) [] colon) y
    ∙ ap (λ b. walk_on (if b then Some (after_unit (body_start units unit)) else section_or_line (body_start units unit) bytes mark.line (found section_words (name_of bytes))) [] colon) (ap (λ m. same_name m (end_word unit.kind)) e ∙ (section_found unit.kind section).0)
    ∙ ap (λ o. walk_on (section_or_line (body_start units unit) bytes mark.line o) [] colon) (ap (found section_words) e ∙ (section_found unit.kind section).1))

-- END_VAR
section_ends : (units : List ProgramUnit) (unit : ProgramUnit) (section : Section) (tokens : List Mark) (colon : Bool) → identifier end_var tokens
    → walk (Declaring units unit section Undeclared) tokens colon ≡ Some (AtLine (body_start units unit))
section_ends units unit section [] colon h = absurd h
section_ends units unit section (x ∷ y ∷ more) colon h = absurd h
section_ends units unit section (mark ∷ []) colon h =
    named mark.symbol end_var h (λ bytes y e.
    ap (λ y. walk_on (declaration_move units unit section Undeclared y mark.line) [] colon) y
    ∙ ap (λ m. walk_on (Some (at_first_name units unit section (record { line = mark.line; name = m }))) [] colon) e)

-- a section
section_walked : (units : List ProgramUnit) (unit : ProgramUnit) (group : Group) (tokens : List Mark) (colon : Bool) → section_of group tokens
    → walk (AtLine (body_start units unit)) tokens colon ≡ Some (AtLine (body_start units (unit_and unit group.declarations)))
section_walked units unit group tokens colon h =
    subst (λ ts. walk (AtLine (body_start units unit)) ts colon ≡ Some (AtLine (body_start units (unit_and unit group.declarations)))) (sym h.whole)
    (walk_then (AtLine (body_start units unit)) (Declaring units unit group.section Undeclared) h.prefix h.rest colon _
    (section_begins units unit group.section h.prefix (colon_next h.rest colon) h.begins (section_no_colon group.section group.declarations h.rest colon h.goes_on))
    (parts_walked (skipping is_line_end (declarations_of group.section group.declarations)) (identifier end_var) (Declaring units unit group.section Undeclared) (Declaring units (unit_and unit group.declarations) group.section Undeclared) h.rest colon _ h.goes_on
    (λ prefix c k. declarations_walked units unit group.section Undeclared group.declarations prefix c k)
    (λ rest k. section_ends units (unit_and unit group.declarations) group.section rest colon k)))

unit_with_more : (unit : ProgramUnit) (a b : List Declaration) → unit_and (unit_and unit a) b ≡ unit_and unit (a ++ b)
unit_with_more unit a b = λ i. record unit { declarations = append_assoc unit.declarations a b i }

-- all sections of a unit
groups_walked : (units : List ProgramUnit) (unit : ProgramUnit) (groups : List Group) (tokens : List Mark) (colon : Bool) → each (λ group. line_ends then section_of group) groups tokens
    → walk (AtLine (body_start units unit)) tokens colon ≡ Some (AtLine (body_start units (unit_and unit (flat_map (λ group. group.declarations) groups))))
groups_walked units unit [] tokens colon h =
    subst (λ ts. walk (AtLine (body_start units unit)) ts colon ≡ Some (AtLine (body_start units (unit_and unit [])))) (sym h) (λ i. Some (AtLine (body_start units (record unit { declarations = sym (append-nil unit.declarations) i }))))
groups_walked units unit (group ∷ groups) tokens colon h =
    parts_walked (line_ends then section_of group) (each (λ group. line_ends then section_of group) groups) (AtLine (body_start units unit)) (AtLine (body_start units (unit_and unit group.declarations))) tokens colon _ h
    (λ prefix c k. parts_walked line_ends (section_of group) (AtLine (body_start units unit)) (AtLine (body_start units unit)) prefix c _ k
    (λ ends c l. line_ends_walked (body_start units unit) ends c l)
    (λ rest l. section_walked units unit group rest c l))
    (λ rest k. groups_walked units (unit_and unit group.declarations) groups rest colon k ∙ ap (λ u. Some (AtLine (body_start units u))) (unit_with_more unit group.declarations (flat_map (λ group. group.declarations) groups)))

-- a unit without its body
abbrev pub headed : ProgramUnit → ProgramUnit
headed unit = record unit { body = End }

-- each kind is found under its word
pub unit_found : (kind : UnitKind) → found unit_kinds (unit_word kind) ≡ Some kind
unit_found FunctionBlock = refl
unit_found Program = refl

-- a unit's first word
unit_begins : (us : List ProgramUnit) (kind : UnitKind) (line : ℕ) (tokens : List Mark) (colon : Bool) → one (IsOn line (IsNamed (unit_word kind))) tokens → walk (Outside us) tokens colon ≡ Some (Unnamed us kind line)
unit_begins us kind line [] colon h = absurd h
unit_begins us kind line (x ∷ y ∷ more) colon h = absurd h
unit_begins us kind line (mark ∷ []) colon h =
    named mark.symbol (unit_word kind) h.0 (λ bytes y e.
    ap (λ y. walk_on (move (Outside us) y mark.line colon) [] colon) y
    ∙ ap (λ o. walk_on (option_map (λ kind. Unnamed us kind mark.line) o) [] colon) (ap (found unit_kinds) e ∙ unit_found kind)
    ∙ ap (λ n. Some (Unnamed us kind n)) h.1)

-- a unit's name
unit_named : (us : List ProgramUnit) (unit : ProgramUnit) (tokens : List Mark) (colon : Bool) → one (IsNameOf unit) tokens
    → walk (Unnamed us unit.kind unit.line) tokens colon ≡ Some (AtLine (body_start us (record (headed unit) { declarations = [] })))
unit_named us unit [] colon h = absurd h
unit_named us unit (x ∷ y ∷ more) colon h = absurd h
unit_named us unit (mark ∷ []) colon h =
    ap (λ y. walk_on (move (Unnamed us unit.kind unit.line) y mark.line colon) [] colon) h.0
    ∙ (λ i. Some (AtLine (body_start us (record { kind = unit.kind; line = unit.line; name = record { line = h.2 i; name = sym h.1 i }; spelled = unit.spelled; declarations = []; body = End }))))

-- what precedes a body
pub head_walked : (us : List ProgramUnit) (unit : ProgramUnit) (tokens : List Mark) (colon : Bool) → head unit tokens → walk (Outside us) tokens colon ≡ Some (AtLine (body_start us (headed unit)))
head_walked us unit tokens colon h =
    parts_walked (one (IsOn unit.line (IsNamed (unit_word unit.kind)))) (one (IsNameOf unit) then sections unit.declarations) (Outside us) (Unnamed us unit.kind unit.line) tokens colon _ h
    (λ prefix c k. unit_begins us unit.kind unit.line prefix c k)
    (λ rest k. parts_walked (one (IsNameOf unit)) (sections unit.declarations) (Unnamed us unit.kind unit.line) (AtLine (body_start us bare)) rest colon _ k
    (λ prefix c l. unit_named us unit prefix c l)
    (λ last l. groups_walked us bare l.0 last colon l.2 ∙ (λ i. Some (AtLine (body_start us (record (headed unit) { declarations = sym l.1 i }))))))
  where
    bare : ProgramUnit
    bare = record (headed unit) { declarations = [] }

-- what precedes a unit begins with no colon
one_no_colon : (line : ℕ) (word : Name) (second : List Mark → Type 0) (tokens : List Mark) (colon : Bool) → (one (IsOn line (IsNamed word)) then second) tokens → colon_next tokens colon ≡ false
one_no_colon line word second [] colon h = absurd ((both_empty h).0)
one_no_colon line word second (mark ∷ marks) colon h = no_colon_name mark.symbol word (next_is h).0.0

ends_no_colon : (second : List Mark → Type 0) (tokens : List Mark) (colon : Bool) → ((rest : List Mark) → second rest → colon_next rest colon ≡ false) → (line_ends then second) tokens → colon_next tokens colon ≡ false
ends_no_colon second [] colon f h = f [] (both_empty h).1
ends_no_colon second (mark ∷ marks) colon f h = elim (many_are h) [
  | inl k ↦ f (mark ∷ marks) k
  | inr k ↦ no_colon mark.symbol LineEnd k.0 refl
]

-- no colon follows a whole unit
pub units_no_colon : (us : List ProgramUnit) (second : List Mark → Type 0) (tokens : List Mark) (colon : Bool) → ((rest : List Mark) → second rest → colon_next rest colon ≡ false)
    → (each (λ unit. line_ends then unit_of unit) us then second) tokens → colon_next tokens colon ≡ false
units_no_colon [] second tokens colon f h = f tokens (passed h)
units_no_colon (unit ∷ us) second tokens colon f h =
    ends_no_colon _ tokens colon (λ rest k. one_no_colon unit.line (unit_word unit.kind) _ rest colon (ungroup (ungroup k))) (ungroup (ungroup h))

-- the end of a unit
unit_ends : (p : Position) (tokens : List Mark) → p.openings ≡ [] → identifier (end_word p.unit.kind) tokens → walk (AtLine p) tokens false ≡ Some (after_unit p)
unit_ends p [] e h = absurd h
unit_ends p (x ∷ y ∷ more) e h = absurd h
unit_ends p (mark ∷ []) e h =
    named mark.symbol (end_word p.unit.kind) h (λ bytes y n.
    ap (λ y. walk_on (move (AtLine p) y mark.line false) [] false) y
    ∙ ap (λ os. walk_on (start_move p os (Identifier bytes) mark.line false) [] false) e
    ∙ ap (λ b. walk_on (if b then Some (after_unit p) else section_or_line p bytes mark.line (section_of_word p.done (name_of bytes))) [] false) (ap (λ m. same_name m (end_word p.unit.kind)) n ∙ is_same (end_word p.unit.kind)))

-- a whole unit
pub unit_walked : (us : List ProgramUnit) (unit : ProgramUnit) (tokens : List Mark) (colon : Bool) → colon ≡ false → unit_of unit tokens → walk (Outside us) tokens colon ≡ Some (Outside (us ++ unit ∷ []))
unit_walked us unit tokens colon n h =
    parts_walked (head unit) (lines InBody unit.body then identifier (end_word unit.kind)) (Outside us) (AtLine (body_start us (headed unit))) tokens colon _ h
    (λ prefix c k. head_walked us unit prefix c k)
    (λ rest k. parts_walked (lines InBody unit.body) (identifier (end_word unit.kind)) (AtLine (body_start us (headed unit))) (AtLine (with_lines (body_start us (headed unit)) unit.body)) rest colon _ k
    (λ prefix c l. lines_walked unit.body (body_start us (headed unit)) prefix c l)
    (λ last l. subst (λ c. walk (AtLine (with_lines (body_start us (headed unit)) unit.body)) last c ≡ Some (Outside (us ++ unit ∷ []))) (sym n) (unit_ends (with_lines (body_start us (headed unit)) unit.body) last refl l)))

outside_ends : (us : List ProgramUnit) (tokens : List Mark) (colon : Bool) → line_ends tokens → walk (Outside us) tokens colon ≡ Some (Outside us)
outside_ends us [] colon h = refl
outside_ends us (mark ∷ marks) colon h = ap (λ s. walk_on (move (Outside us) s mark.line (colon_next marks colon)) marks colon) h.0 ∙ outside_ends us marks colon h.1

-- line ends and a whole unit
spaced_unit_walked : (us : List ProgramUnit) (unit : ProgramUnit) (tokens : List Mark) (colon : Bool) → colon ≡ false → (line_ends then unit_of unit) tokens → walk (Outside us) tokens colon ≡ Some (Outside (us ++ unit ∷ []))
spaced_unit_walked us unit tokens colon n h =
    parts_walked line_ends (unit_of unit) (Outside us) (Outside us) tokens colon _ h (λ prefix c k. outside_ends us prefix c k) (λ rest k. unit_walked us unit rest colon n k)

-- whole units, and then something that no colon begins
each_unit_walked : (before us : List ProgramUnit) (second : List Mark → Type 0) (tokens : List Mark) (colon : Bool) (end : Option State)
    → ((rest : List Mark) → second rest → colon_next rest colon ≡ false) → ((rest : List Mark) → second rest → walk (Outside (before ++ us)) rest colon ≡ end)
    → (each (λ unit. line_ends then unit_of unit) us then second) tokens → walk (Outside before) tokens colon ≡ end
each_unit_walked before [] second tokens colon end f g h = subst (λ b. walk (Outside b) tokens colon ≡ end) (append-nil before) (g tokens (passed h))
each_unit_walked before (unit ∷ us) second tokens colon end f g h =
    let k = ungroup h in
    subst (λ ts. walk (Outside before) ts colon ≡ end) (sym k.whole)
    (walk_then (Outside before) (Outside (before ++ unit ∷ [])) k.prefix k.rest colon end
    (spaced_unit_walked before unit k.prefix (colon_next k.rest colon) (units_no_colon us second k.rest colon f k.goes_on) k.begins)
    (each_unit_walked (before ++ unit ∷ []) us second k.rest colon end f (λ rest l. subst (λ b. walk (Outside b) rest colon ≡ end) (sym (append_assoc before (unit ∷ []) us)) (g rest l)) k.goes_on))

-- whole units
pub units_walked : (us : List ProgramUnit) (tokens : List Mark) (colon : Bool) → colon ≡ false → units us tokens → walk at_first tokens colon ≡ Some (Outside us)
units_walked us tokens colon n h =
    each_unit_walked [] us line_ends tokens colon (Some (Outside us)) (λ rest k. ends_only rest k) (λ rest k. outside_ends us rest colon k) h
  where
    ends_only : (rest : List Mark) → line_ends rest → colon_next rest colon ≡ false
    ends_only [] k = n
    ends_only (mark ∷ marks) k = no_colon mark.symbol LineEnd k.0 refl

-- whole units, and then something that no colon begins
pub units_then : (us : List ProgramUnit) (second : List Mark → Type 0) (tokens : List Mark) (colon : Bool) (end : Option State)
    → ((rest : List Mark) → second rest → colon_next rest colon ≡ false) → ((rest : List Mark) → second rest → walk (Outside us) rest colon ≡ end) → (units us then second) tokens → walk at_first tokens colon ≡ end
units_then us second tokens colon end f g h =
    each_unit_walked [] us (line_ends then second) tokens colon end (λ rest k. ends_no_colon second rest colon f k)
    (λ rest k. parts_walked line_ends second (Outside us) (Outside us) rest colon end k (λ prefix c l. outside_ends us prefix c l) g) (ungroup h)

-- open parentheses
openings_walked : (us : List ProgramUnit) (unit : ProgramUnit) (openings : List Opening) (tokens : List Mark) (colon : Bool) → openings_of openings tokens
    → walk (AtLine (body_start us unit)) tokens colon ≡ Some (AtLine (record (body_start us unit) { openings = openings }))
openings_walked us unit [] tokens colon h = subst (λ ts. walk (AtLine (body_start us unit)) ts colon ≡ Some (AtLine (body_start us unit))) (sym h) refl
openings_walked us unit (o ∷ outer) tokens colon h =
    parts_walked (openings_of outer) (lines (setting_in outer) o.before then label_in (setting_in outer) o.label then opening o.line o.operator o.operand) (AtLine (body_start us unit)) (AtLine p) tokens colon _ h
    (λ prefix c k. openings_walked us unit outer prefix c k)
    (λ rest k. parts_walked (lines (setting_in outer) o.before) (label_in (setting_in outer) o.label then opening o.line o.operator o.operand) (AtLine p) (AtLine (with_lines p o.before)) rest colon _ k
    (λ prefix c l. lines_walked o.before p prefix c l)
    (λ last l. line_walked (with_lines p o.before) (Opens o.label o.line o.operator o.operand) last colon l))
  where
    p : Position
    p = record (body_start us unit) { openings = outer }

-- the position, whose unit's body does not count
abbrev pub plain : Position → Position
plain p = record p { unit = headed p.unit }

-- what begins with a unit's head begins with no colon
pub head_no_colon : (unit : ProgramUnit) (second : List Mark → Type 0) (tokens : List Mark) (colon : Bool) → (head unit then second) tokens → colon_next tokens colon ≡ false
head_no_colon unit second tokens colon h = one_no_colon unit.line (unit_word unit.kind) _ tokens colon (ungroup h)

-- a unit's head, its open parentheses and the lines done
pub line_position : (p : Position) (tokens : List Mark) (colon : Bool) → (head p.unit then openings_of p.openings then lines (setting_in p.openings) p.done) tokens → walk (Outside p.before) tokens colon ≡ Some (AtLine (plain p))
line_position p tokens colon h =
    parts_walked (head p.unit) (openings_of p.openings then lines (setting_in p.openings) p.done) (Outside p.before) (AtLine (body_start p.before (headed p.unit))) tokens colon _ h
    (λ prefix c k. head_walked p.before p.unit prefix c k)
    (λ rest k. parts_walked (openings_of p.openings) (lines (setting_in p.openings) p.done) (AtLine (body_start p.before (headed p.unit))) (AtLine q) rest colon _ k
    (λ prefix c l. openings_walked p.before (headed p.unit) p.openings prefix c l)
    (λ last l. lines_walked p.done q last colon l))
  where
    q : Position
    q = record (body_start p.before (headed p.unit)) { openings = p.openings }

-- tokens that stop at a line lead there
pub at_line_walked : (p : Position) (tokens : List Mark) (colon : Bool) → at_line p tokens → walk at_first tokens colon ≡ Some (AtLine (plain p))
at_line_walked p tokens colon h =
    units_then p.before _ tokens colon _ (λ rest k. head_no_colon p.unit _ rest colon k) (λ rest k. line_position p rest colon k) h
