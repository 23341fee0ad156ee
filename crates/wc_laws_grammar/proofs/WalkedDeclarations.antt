-- Declarations are walked.
use Rattle.std.proofs.Common.{◌≡◌, ◌≢◌, ℕ, Bool, true, false, List, [], ◌∷◌, ◌++◌, Option, Some, None, refl, ap, subst, append_assoc, append-nil, if◌then◌else◌, ◌∙◌, sym, inl, inr}
use Rattle.wc_laws_grammar.proofs.DeclarationRests.{declarations_of, from_end, from_type, from_names, declared_rest}
use Rattle.wc_laws_grammar.proofs.LineComplete.{named, word_is}
use Rattle.wc_laws_grammar.proofs.LineSound.{mark_on}
use Rattle.wc_laws_grammar.specs.{InDeclaration, Undeclared, AfterNames, AfterComma, AfterColon, AfterType, AfterAssign, AfterValue, State, AtLine, Declaring, body_start, at_value, declaration_move, with_declaration, walk, found, literal_of, truth_value, truths}
use Rattle.wc_laws_grammar.proofs.Skipping.{kept, passed_over}
use Rattle.wc_laws_grammar.proofs.WalkedLines.{walk_on}
use Rattle.wc_laws_grammar.proofs.WordLaws.{distinguished, truth_is_found}
use Rattle.wc_laws_grammar.proofs.Languages.{next_is, passed, both_empty, given_are, ungroup, after}
use Rattle.wc_model.specs.Definitions.{same_name, declared_names, initial_value, IsLiteral, end_var, truth_word, ◌then◌, optional, skipping, Symbol, Colon, LineEnd, Mark, is_line_end, is_line_end_symbol, name_of, Word, Declaration, ProgramUnit}
use Rattle.wc_model.specs.Text.Grammar as grammar
use Rattle.wc_model.specs.declared.source.Initial.{Initial}
use Rattle.wc_model.specs.declared.source.Section.{Section}
use Rattle.wc_model.specs.declared.value.Value.{Value}
use Rattle.wc_model.specs.declared.value.Value.TheVariants.{Bool as BoolValue, Dint, Time}

-- a unit with more declarations
abbrev pub unit_and : ProgramUnit → List Declaration → ProgramUnit
unit_and unit ds = record unit { declarations = unit.declarations ++ ds }

-- The walk takes a token of a section, after which these tokens complete it: the declarations so far and those to come are the same.
pub record DeclarationLeads (units : List ProgramUnit) (unit : ProgramUnit) (section : Section) (ds : List Declaration) (next : Option State) (tokens : List Mark) : Type 0 where
  pub unit' : ProgramUnit
  pub place : InDeclaration
  pub left : List Declaration
  pub moved : next ≡ Some (Declaring units unit' section place)
  pub same : unit_and unit' left ≡ unit_and unit ds
  pub rest : declared_rest section place left tokens

-- the first declaration's names, and what is after them
pub first_names : (section : Section) (d : Declaration) (more : List Declaration) (tokens : List Mark) → declarations_of section (d ∷ more) tokens
    → (d.section ≡ section) × (declared_names d.names then grammar.symbol Colon then from_type section d more) tokens
first_names section d more tokens h =
    let g = given_are h in
    (g.0, after (λ ts k. after (λ us l. after (λ vs m. ungroup m) (ungroup l)) (ungroup k)) (ungroup g.1))

first_led : (units : List ProgramUnit) (unit : ProgramUnit) (section : Section) (d : Declaration) (more : List Declaration) (names : List Word) (symbol : Symbol) (line : ℕ) (tokens : List Mark)
    → d.section ≡ section → d.names ≡ names → (declared_names names then grammar.symbol Colon then from_type section d more) (mark_on symbol line ∷ tokens)
    → DeclarationLeads units unit section (d ∷ more) (declaration_move units unit section Undeclared symbol line) tokens
first_led units unit section d more [] symbol line tokens s e h = absurd h.begins
first_led units unit section d more (first ∷ others) symbol line tokens s e h =
    let g = given_are h in
    let k = next_is (ungroup g.1) in
    named symbol first.name k.0.0 (λ bytes y n. record {
      unit' = unit;
      place = AfterNames (first ∷ []);
      left = d ∷ more;
      moved = ap (λ y. declaration_move units unit section Undeclared y line) y
          ∙ ap (λ b. Some (if b then AtLine (body_start units unit) else Declaring units unit section (AfterNames (record { line = line; name = name_of bytes } ∷ [])))) (ordinary bytes first n g.0)
          ∙ ap (λ w. Some (Declaring units unit section (AfterNames (w ∷ [])))) (word_is first line (name_of bytes) k.0.1 n);
      same = refl;
      rest = (others, s, e, k.1);
    })
  where
    ordinary : (bytes : List ℕ) (first : Word) → name_of bytes ≡ first.name → first.name ≢ end_var → same_name (name_of bytes) end_var ≡ false
    ordinary bytes first n o = distinguished (name_of bytes) end_var (λ e. o (sym n ∙ e))

-- a declaration, and then others
more_declarations : (unit : ProgramUnit) (d d' : Declaration) (more : List Declaration) → d' ≡ d → unit_and (record unit { declarations = unit.declarations ++ d' ∷ [] }) more ≡ unit_and unit (d ∷ more)
more_declarations unit d d' more e =
    ap (λ x. unit_and (record unit { declarations = unit.declarations ++ x ∷ [] }) more) e ∙ (λ i. record unit { declarations = append_assoc unit.declarations (d ∷ []) more i })

names_led : (units : List ProgramUnit) (unit : ProgramUnit) (section : Section) (d : Declaration) (more : List Declaration) (names others : List Word) (symbol : Symbol) (line : ℕ) (tokens : List Mark)
    → d.section ≡ section → d.names ≡ names ++ others → from_names section others d more (mark_on symbol line ∷ tokens)
    → DeclarationLeads units unit section (d ∷ more) (declaration_move units unit section (AfterNames names) symbol line) tokens
names_led units unit section d more names [] symbol line tokens s e h =
    let k = next_is (passed h) in
    record { unit' = unit; place = AfterColon names; left = d ∷ more; moved = ap (λ y. declaration_move units unit section (AfterNames names) y line) k.0; same = refl; rest = (s, e ∙ append-nil names, k.1) }
names_led units unit section d more names (word ∷ others) symbol line tokens s e h =
    let k = next_is (ungroup (ungroup h)) in
    record { unit' = unit; place = AfterComma names; left = d ∷ more; moved = ap (λ y. declaration_move units unit section (AfterNames names) y line) k.0; same = refl; rest = (word, others, s, e, k.1) }

-- a declaration by its parts
declaration_is : (d : Declaration) (section : Section) (names : List Word) (type_name : Word) (initial : Option Initial) → d.section ≡ section → d.names ≡ names → d.type_name ≡ type_name → d.initial ≡ initial
    → record { section = section; names = names; type_name = type_name; initial = initial } ≡ d
declaration_is d section names type_name initial a b c e = λ i. record { section = sym a i; names = sym b i; type_name = sym c i; initial = sym e i }

type_led : (units : List ProgramUnit) (unit : ProgramUnit) (section : Section) (d : Declaration) (more : List Declaration) (names : List Word) (type_name : Word) (initial : Option Initial) (symbol : Symbol) (line : ℕ) (tokens : List Mark)
    → d.section ≡ section → d.names ≡ names → d.type_name ≡ type_name → d.initial ≡ initial → (optional initial_value initial then from_end section more) (mark_on symbol line ∷ tokens)
    → DeclarationLeads units unit section (d ∷ more) (declaration_move units unit section (AfterType names type_name) symbol line) tokens
type_led units unit section d more names type_name None symbol line tokens s e t i h =
    let k = next_is (passed h) in
    record {
      unit' = with_declaration unit section names type_name None;
      place = Undeclared;
      left = more;
      moved = ap (λ y. declaration_move units unit section (AfterType names type_name) y line) k.0;
      same = more_declarations unit d _ more (declaration_is d section names type_name None s e t i);
      rest = k.1;
    }
type_led units unit section d more names type_name (Some initial) symbol line tokens s e t i h =
    let k = next_is (ungroup h) in
    record {
      unit' = unit;
      place = AfterAssign names type_name;
      left = d ∷ more;
      moved = ap (λ y. declaration_move units unit section (AfterType names type_name) y line) k.0;
      same = refl;
      rest = (initial, sym (declaration_is d section names type_name (Some initial) s e t i), k.1);
    }

-- a token that is a literal
literal_is : (value : Value) (mark : Mark) → IsLiteral value mark → literal_of mark.symbol ≡ Some value
literal_is (BoolValue value) mark (inl e) = ap literal_of e
literal_is (BoolValue value) mark (inr e) = named mark.symbol (truth_word value) e (λ bytes y n. ap literal_of y ∙ ap truth_value (ap (found truths) n ∙ truth_is_found value))
literal_is (Dint number) mark e = ap literal_of e
literal_is (Time number) mark e = ap literal_of e

literal_taken : (units : List ProgramUnit) (unit : ProgramUnit) (section : Section) (names : List Word) (type_name : Word) (symbol : Symbol) (line : ℕ) (value : Value) → literal_of symbol ≡ Some value
    → declaration_move units unit section (AfterAssign names type_name) symbol line ≡ Some (Declaring units unit section (AfterValue names type_name (record { value = value; line = line })))
literal_taken units unit section names type_name LineEnd line value e = absurd (cc)
literal_taken units unit section names type_name symbol line value e = ap (at_value units unit section names type_name line) e

-- each token of what completes a section is taken, other than a line end
pub declared_led : (units : List ProgramUnit) (unit : ProgramUnit) (section : Section) (place : InDeclaration) (ds : List Declaration) (symbol : Symbol) (line : ℕ) (tokens : List Mark)
    → declared_rest section place ds (mark_on symbol line ∷ tokens) → DeclarationLeads units unit section ds (declaration_move units unit section place symbol line) tokens
declared_led units unit section Undeclared [] symbol line tokens h = absurd (cc)
declared_led units unit section Undeclared (d ∷ more) symbol line tokens h = let k = first_names section d more _ h in first_led units unit section d more d.names symbol line tokens k.0 refl k.1
declared_led units unit section (AfterNames names) [] symbol line tokens h = absurd h
declared_led units unit section (AfterNames names) (d ∷ more) symbol line tokens h = names_led units unit section d more names h.0 symbol line tokens h.1 h.2 h.3
declared_led units unit section (AfterComma names) [] symbol line tokens h = absurd h
declared_led units unit section (AfterComma names) (d ∷ more) symbol line tokens h =
    let k = next_is h.4 in
    named symbol h.0.name k.0.0 (λ bytes y n. record {
      unit' = unit;
      place = AfterNames (names ++ h.0 ∷ []);
      left = d ∷ more;
      moved = ap (λ y. declaration_move units unit section (AfterComma names) y line) y ∙ ap (λ w. Some (Declaring units unit section (AfterNames (names ++ w ∷ [])))) (word_is h.0 line (name_of bytes) k.0.1 n);
      same = refl;
      rest = (h.1, h.2, h.3 ∙ sym (append_assoc names (h.0 ∷ []) h.1), k.1);
    })
declared_led units unit section (AfterColon names) [] symbol line tokens h = absurd h
declared_led units unit section (AfterColon names) (d ∷ more) symbol line tokens h =
    let k = next_is h.2 in
    named symbol d.type_name.name k.0.0 (λ bytes y n. record {
      unit' = unit;
      place = AfterType names d.type_name;
      left = d ∷ more;
      moved = ap (λ y. declaration_move units unit section (AfterColon names) y line) y ∙ ap (λ w. Some (Declaring units unit section (AfterType names w))) (word_is d.type_name line (name_of bytes) k.0.1 n);
      same = refl;
      rest = (h.0, h.1, refl, k.1);
    })
declared_led units unit section (AfterType names type_name) [] symbol line tokens h = absurd h
declared_led units unit section (AfterType names type_name) (d ∷ more) symbol line tokens h = type_led units unit section d more names type_name d.initial symbol line tokens h.0 h.1 h.2 refl h.3
declared_led units unit section (AfterAssign names type_name) [] symbol line tokens h = absurd h
declared_led units unit section (AfterAssign names type_name) (d ∷ more) symbol line tokens h =
    let k = next_is h.2 in
    record {
      unit' = unit;
      place = AfterValue names type_name h.0;
      left = d ∷ more;
      moved = literal_taken units unit section names type_name symbol line h.0.value (literal_is h.0.value (mark_on symbol line) k.0.0)
          ∙ (λ i. Some (Declaring units unit section (AfterValue names type_name (record { value = h.0.value; line = k.0.1 i }))));
      same = refl;
      rest = (h.1, k.1);
    }
declared_led units unit section (AfterValue names type_name initial) [] symbol line tokens h = absurd h
declared_led units unit section (AfterValue names type_name initial) (d ∷ more) symbol line tokens h =
    let k = next_is h.1 in
    record {
      unit' = with_declaration unit section names type_name (Some initial);
      place = Undeclared;
      left = more;
      moved = ap (λ y. declaration_move units unit section (AfterValue names type_name initial) y line) k.0;
      same = more_declarations unit d _ more (sym h.0);
      rest = k.1;
    }

-- nothing is left of a section only if no declaration has started
all_declared : (section : Section) (place : InDeclaration) (ds : List Declaration) → declared_rest section place ds [] → (place ≡ Undeclared) × (ds ≡ [])
all_declared section Undeclared [] h = (refl, refl)
all_declared section Undeclared (d ∷ more) h = absurd ((both_empty (both_empty (first_names section d more [] h).1).1).0)
all_declared section (AfterNames names) [] h = absurd h
all_declared section (AfterNames names) (d ∷ more) h = absurd ((both_empty (both_empty h.3).1).0)
all_declared section (AfterComma names) [] h = absurd h
all_declared section (AfterComma names) (d ∷ more) h = absurd ((both_empty h.4).0)
all_declared section (AfterColon names) [] h = absurd h
all_declared section (AfterColon names) (d ∷ more) h = absurd ((both_empty h.2).0)
all_declared section (AfterType names type_name) [] h = absurd h
all_declared section (AfterType names type_name) (d ∷ more) h = absurd ((both_empty (both_empty h.3).1).0)
all_declared section (AfterAssign names type_name) [] h = absurd h
all_declared section (AfterAssign names type_name) (d ∷ more) h = absurd ((both_empty h.2).0)
all_declared section (AfterValue names type_name initial) [] h = absurd h
all_declared section (AfterValue names type_name initial) (d ∷ more) h = absurd ((both_empty h.1).0)

-- only a line end is passed over
pub line_end_is : (symbol : Symbol) → is_line_end_symbol symbol ≡ true → symbol ≡ LineEnd
line_end_is LineEnd e = refl
line_end_is _ e = absurd (cc)

-- a section's declarations are walked
pub declarations_walked : (units : List ProgramUnit) (unit : ProgramUnit) (section : Section) (place : InDeclaration) (ds : List Declaration) (tokens : List Mark) (colon : Bool)
    → skipping is_line_end (declared_rest section place ds) tokens → walk (Declaring units unit section place) tokens colon ≡ Some (Declaring units (unit_and unit ds) section Undeclared)
declarations_walked units unit section place ds [] colon h =
    let k = all_declared section place ds h in
    (λ i. Some (Declaring units unit section (k.0 i))) ∙ (λ i. Some (Declaring units (record unit { declarations = (sym (append-nil unit.declarations) ∙ ap (λ x. unit.declarations ++ x) (sym k.1)) i }) section Undeclared))
declarations_walked units unit section place ds (mark ∷ marks) colon h =
    elim (is_line_end_symbol mark.symbol) as (λ b. is_line_end_symbol mark.symbol ≡ b → walk_on (declaration_move units unit section place mark.symbol mark.line) marks colon ≡ Some (Declaring units (unit_and unit ds) section Undeclared)) [
      | true ↦ λ e.
          ap (λ y. walk_on (declaration_move units unit section place y mark.line) marks colon) (line_end_is mark.symbol e)
          ∙ declarations_walked units unit section place ds marks colon (subst (declared_rest section place ds) (passed_over is_line_end mark marks e) h)
      | false ↦ λ e.
          let r = declared_led units unit section place ds mark.symbol mark.line _ (subst (declared_rest section place ds) (kept is_line_end mark marks e) h) in
          ap (λ o. walk_on o marks colon) r.moved ∙ declarations_walked units r.unit' section r.place r.left marks colon r.rest ∙ ap (λ u. Some (Declaring units u section Undeclared)) r.same
    ] refl
