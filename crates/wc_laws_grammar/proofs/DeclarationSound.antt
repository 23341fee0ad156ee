-- After each token that the walk takes in a section, what completes the section from there completes it from before the token too.
use Rattle.std.proofs.Common.{◌≡◌, ◌≢◌, ℕ, Bool, true, false, List, [], ◌∷◌, ◌++◌, Option, Some, None, refl, ap, subst, append_assoc, append-nil, if◌then◌else◌, ◌∙◌, sym, inl, inr}
use Rattle.wc_laws_grammar.proofs.DeclarationRests.{declarations_of, from_end, from_type, declared_rest}
use Rattle.wc_laws_grammar.proofs.LineSound.{mark_on}
use Rattle.wc_laws_grammar.specs.{InDeclaration, Undeclared, AfterNames, AfterComma, AfterColon, AfterType, AfterAssign, AfterValue, State, AtLine, Declaring, at_value, body_start, declaration_move, found, literal_of, truth_value, truths}
use Rattle.wc_laws_grammar.proofs.WalkedDeclarations.{unit_and}
use Rattle.wc_laws_grammar.proofs.WordLaws.{same_is, truth_found}
use Rattle.wc_laws_grammar.proofs.Languages.{next, pass, regroup, after}
use Rattle.wc_model.specs.Definitions.{same_name, declared_names, identifier, initial_value, symbol, IsLiteral, end_var, ◌then◌, optional, Symbol, Identifier, Whole, Duration, Truth, Comma, Colon, Semicolon, Assign, LineEnd, Mark, name_of, Word, Declaration, ProgramUnit}
use Rattle.wc_model.specs.declared.source.Section.{Section}
use Rattle.wc_model.specs.declared.value.Value.{Value}
use Rattle.wc_model.specs.declared.value.Value.TheVariants.{Bool as BoolValue, Dint, Time}

-- the declarations that a token closes, and what may follow it
pub record DeclarationAllows (unit : ProgramUnit) (section : Section) (place : InDeclaration) (mark : Mark) (unit' : ProgramUnit) (place' : InDeclaration) : Type 0 where
  pub closed : List Declaration
  pub unit_is : unit' ≡ unit_and unit closed
  pub goes : (ds : List Declaration) (tokens : List Mark) → declared_rest section place' ds tokens → declared_rest section place (closed ++ ds) (mark ∷ tokens)

-- a move in a section, at a token that is not a line end: on in the section, or after END_VAR
abbrev pub SectionAllows : List ProgramUnit → ProgramUnit → Section → InDeclaration → Mark → Option State → Type 0
SectionAllows units unit section place mark None = Unit {0}
SectionAllows units unit section place mark (Some (Declaring units' unit' section' place')) = (units' ≡ units) × (section' ≡ section) × DeclarationAllows unit section place mark unit' place'
SectionAllows units unit section place mark (Some (AtLine p)) = (p ≡ body_start units unit) × (place ≡ Undeclared) × identifier end_var (mark ∷ [])
SectionAllows units unit section place mark (Some _) = ⊥

-- a place on which no declaration is closed
same_unit : (unit : ProgramUnit) → unit ≡ unit_and unit []
same_unit unit = λ i. record unit { declarations = sym (append-nil unit.declarations) i }

-- a declaration from its first names on
from_first : (section : Section) (d : Declaration) (more : List Declaration) (tokens : List Mark) → d.section ≡ section → (declared_names d.names then symbol Colon then from_type section d more) tokens → declarations_of section (d ∷ more) tokens
from_first section d more tokens s h =
    let k = regroup (after (λ ts k. regroup (after (λ us l. regroup (after (λ vs m. regroup m) l)) k)) h) in
    record { prefix = k.prefix; rest = k.rest; whole = k.whole; begins = (s, k.begins); goes_on = k.goes_on }

-- the first name of a declaration
first_goes : (section : Section) (bytes : List ℕ) (line : ℕ) → name_of bytes ≢ end_var → (ds : List Declaration) (tokens : List Mark)
    → declared_rest section (AfterNames (record { line = line; name = name_of bytes } ∷ [])) ds tokens → declared_rest section Undeclared ds (mark_on (Identifier bytes) line ∷ tokens)
first_goes section bytes line n [] tokens h = absurd h
first_goes section bytes line n (d ∷ more) tokens h =
    from_first section d more _ h.1 (subst (λ names. (declared_names names then symbol Colon then from_type section d more) (mark_on (Identifier bytes) line ∷ tokens)) (sym h.2)
    (record {
      prefix = mark_on (Identifier bytes) line ∷ h.3.prefix;
      rest = h.3.rest;
      whole = ap (λ ts. mark_on (Identifier bytes) line ∷ ts) h.3.whole;
      begins = (n, next (refl, refl) h.3.begins);
      goes_on = h.3.goes_on;
    }))

first_allowed : (units : List ProgramUnit) (unit : ProgramUnit) (section : Section) (bytes : List ℕ) (line : ℕ) (b : Bool) → same_name (name_of bytes) end_var ≡ b
    → SectionAllows units unit section Undeclared (mark_on (Identifier bytes) line) (Some (if b then AtLine (body_start units unit) else Declaring units unit section (AfterNames (record { line = line; name = name_of bytes } ∷ []))))
first_allowed units unit section bytes line true e = (refl, refl, ap (λ n. Some n) (same_is (name_of bytes) end_var e))
first_allowed units unit section bytes line false e = (refl, refl, record { closed = []; unit_is = same_unit unit; goes = first_goes section bytes line (λ k. is_no_end k) })
  where
    is_no_end : name_of bytes ≡ end_var → ⊥
    is_no_end k = let f : same_name end_var end_var ≡ false = subst (λ n. same_name n end_var ≡ false) k e in cc

-- a token after which the same declaration goes on
goes_on_allowed : (units : List ProgramUnit) (unit : ProgramUnit) (section : Section) (place place' : InDeclaration) (mark : Mark)
    → ((ds : List Declaration) (tokens : List Mark) → declared_rest section place' ds tokens → declared_rest section place ds (mark ∷ tokens))
    → SectionAllows units unit section place mark (Some (Declaring units unit section place'))
goes_on_allowed units unit section place place' mark f = (refl, refl, record { closed = []; unit_is = same_unit unit; goes = f })

comma_goes : (section : Section) (names : List Word) (line : ℕ) (ds : List Declaration) (tokens : List Mark) → declared_rest section (AfterComma names) ds tokens → declared_rest section (AfterNames names) ds (mark_on Comma line ∷ tokens)
comma_goes section names line [] tokens h = absurd h
comma_goes section names line (d ∷ more) tokens h = (h.0 ∷ h.1, h.2, h.3, regroup (regroup (next refl h.4)))

colon_goes : (section : Section) (names : List Word) (line : ℕ) (ds : List Declaration) (tokens : List Mark) → declared_rest section (AfterColon names) ds tokens → declared_rest section (AfterNames names) ds (mark_on Colon line ∷ tokens)
colon_goes section names line [] tokens h = absurd h
colon_goes section names line (d ∷ more) tokens h = ([], h.0, h.1 ∙ sym (append-nil names), pass refl (next refl h.2))

name_goes : (section : Section) (names : List Word) (bytes : List ℕ) (line : ℕ) (ds : List Declaration) (tokens : List Mark)
    → declared_rest section (AfterNames (names ++ record { line = line; name = name_of bytes } ∷ [])) ds tokens → declared_rest section (AfterComma names) ds (mark_on (Identifier bytes) line ∷ tokens)
name_goes section names bytes line [] tokens h = absurd h
name_goes section names bytes line (d ∷ more) tokens h =
    (record { line = line; name = name_of bytes }, h.0, h.1, h.2 ∙ append_assoc names (record { line = line; name = name_of bytes } ∷ []) h.0, next (refl, refl) h.3)

type_goes : (section : Section) (names : List Word) (bytes : List ℕ) (line : ℕ) (ds : List Declaration) (tokens : List Mark)
    → declared_rest section (AfterType names (record { line = line; name = name_of bytes })) ds tokens → declared_rest section (AfterColon names) ds (mark_on (Identifier bytes) line ∷ tokens)
type_goes section names bytes line [] tokens h = absurd h
type_goes section names bytes line (d ∷ more) tokens h = (h.0, h.1, next (ap (λ n. Some n) (sym (ap (λ w. w.name) h.2)), sym (ap (λ w. w.line) h.2)) h.3)

assign_goes : (section : Section) (names : List Word) (type_name : Word) (line : ℕ) (ds : List Declaration) (tokens : List Mark)
    → declared_rest section (AfterAssign names type_name) ds tokens → declared_rest section (AfterType names type_name) ds (mark_on Assign line ∷ tokens)
assign_goes section names type_name line [] tokens h = absurd h
assign_goes section names type_name line (d ∷ more) tokens h = (
  ap (λ x. x.section) h.1,
  ap (λ x. x.names) h.1,
  ap (λ x. x.type_name) h.1,
  subst (λ i. (optional initial_value i then from_end section more) (mark_on Assign line ∷ tokens)) (sym (ap (λ x. x.initial) h.1)) (regroup (next refl h.2)),
)

-- a token that is a literal
is_literal : (symbol : Symbol) (line : ℕ) (value : Value) → literal_of symbol ≡ Some value → IsLiteral value (mark_on symbol line)
is_literal (Whole number) line value e = let k : Dint number ≡ value = cc in subst (λ v. IsLiteral v (mark_on (Whole number) line)) k refl
is_literal (Duration number) line value e = let k : Time number ≡ value = cc in subst (λ v. IsLiteral v (mark_on (Duration number) line)) k refl
is_literal (Truth b) line value e = let k : BoolValue b ≡ value = cc in subst (λ v. IsLiteral v (mark_on (Truth b) line)) k (inl refl)
is_literal (Identifier bytes) line value e = by_word (found truths (name_of bytes)) refl e
  where
    by_word : (o : Option Bool) → found truths (name_of bytes) ≡ o → truth_value o ≡ Some value → IsLiteral value (mark_on (Identifier bytes) line)
    by_word None f e = absurd (cc)
    by_word (Some b) f e = let k : BoolValue b ≡ value = cc in subst (λ v. IsLiteral v (mark_on (Identifier bytes) line)) k (inr (ap (λ n. Some n) (truth_found (name_of bytes) b f)))
is_literal _ line value e = absurd (cc)

value_goes : (section : Section) (names : List Word) (type_name : Word) (symbol : Symbol) (line : ℕ) (value : Value) → literal_of symbol ≡ Some value → (ds : List Declaration) (tokens : List Mark)
    → declared_rest section (AfterValue names type_name (record { value = value; line = line })) ds tokens → declared_rest section (AfterAssign names type_name) ds (mark_on symbol line ∷ tokens)
value_goes section names type_name symbol line value e [] tokens h = absurd h
value_goes section names type_name symbol line value e (d ∷ more) tokens h = (record { value = value; line = line }, h.0, next (is_literal symbol line value e, refl) h.1)

value_allowed : (units : List ProgramUnit) (unit : ProgramUnit) (section : Section) (names : List Word) (type_name : Word) (symbol : Symbol) (line : ℕ) (value : Option Value) → literal_of symbol ≡ value
    → SectionAllows units unit section (AfterAssign names type_name) (mark_on symbol line) (at_value units unit section names type_name line value)
value_allowed units unit section names type_name symbol line None e = tt
value_allowed units unit section names type_name symbol line (Some value) e =
    goes_on_allowed units unit section (AfterAssign names type_name) _ (mark_on symbol line) (λ ds tokens h. value_goes section names type_name symbol line value e ds tokens h)

-- each token of a section that is taken may be there, other than a line end
pub section_allowed : (units : List ProgramUnit) (unit : ProgramUnit) (section : Section) (place : InDeclaration) (symbol : Symbol) (line : ℕ) → symbol ≢ LineEnd
    → SectionAllows units unit section place (mark_on symbol line) (declaration_move units unit section place symbol line)
section_allowed units unit section place LineEnd line n = absurd (n refl)
section_allowed units unit section Undeclared (Identifier bytes) line n = first_allowed units unit section bytes line (same_name (name_of bytes) end_var) refl
section_allowed units unit section (AfterNames names) Comma line n = goes_on_allowed units unit section (AfterNames names) (AfterComma names) _ (comma_goes section names line)
section_allowed units unit section (AfterNames names) Colon line n = goes_on_allowed units unit section (AfterNames names) (AfterColon names) _ (colon_goes section names line)
section_allowed units unit section (AfterComma names) (Identifier bytes) line n = goes_on_allowed units unit section (AfterComma names) _ _ (name_goes section names bytes line)
section_allowed units unit section (AfterColon names) (Identifier bytes) line n = goes_on_allowed units unit section (AfterColon names) _ _ (type_goes section names bytes line)
section_allowed units unit section (AfterType names type_name) Assign line n = goes_on_allowed units unit section (AfterType names type_name) (AfterAssign names type_name) _ (assign_goes section names type_name line)
section_allowed units unit section (AfterType names type_name) Semicolon line n =
    (refl, refl, record { closed = record { section = section; names = names; type_name = type_name; initial = None } ∷ []; unit_is = refl; goes = λ ds tokens h. (refl, refl, refl, pass refl (next refl h)) })
section_allowed units unit section (AfterAssign names type_name) symbol line n = value_allowed units unit section names type_name symbol line (literal_of symbol) refl
section_allowed units unit section (AfterValue names type_name initial) Semicolon line n =
    (refl, refl, record { closed = record { section = section; names = names; type_name = type_name; initial = Some initial } ∷ []; unit_is = refl; goes = λ ds tokens h. (refl, next refl h) })
section_allowed units unit section place symbol line n = tt
