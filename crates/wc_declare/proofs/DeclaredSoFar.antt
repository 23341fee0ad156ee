-- What a unit's table holds of the declarations so far.
use Rattle.wc_model.proofs.Common.{◌≡◌, ℕ, ◌+◌, ◌*◌, ◌≤◌, Bool, true, false, List, [], ◌∷◌, ◌++◌, map, length, append_assoc, refl, sym, ap, subst, ◌∙◌, arith, lit≤, list_any-append, flat_map}
use Rattle.std.proofs.lemmas.List.{append-nil, map-append}
use Rattle.std.specs.Prelude.{◌||◌}
use Rattle.wc_model.specs.Language.Checks.{Check, Position, first_broken, positions_after}
use Rattle.wc_model.specs.Language.DeclarationRules.{Taken, and_more, declaration_checks, is_among, name_of_word, names_declared, places_of_type, taken_at_first, taken_by}
use Rattle.wc_model.specs.Definitions.{Variable, declared_by, is_block, same_name, variables_of, Name, Declaration, ProgramUnit, Text, Word}
use Rattle.wc_declare.specs.SoFar.{HasTaken, HoldsRows, IsEmptyOf, SameNames}
use Rattle.wc_names.specs.{AreDifferent, AreRows, IsTableOf, first_place, plain_of_field}
use Rattle.wc_names.specs.declared.unit_table.UnitTable.{UnitTable}
use Rattle.wc_declare.proofs.RowsSoFar.{as_variable}

-- what is taken does not depend on the order
taken_turned : (t : Taken) (a s b u : ℕ) → and_more (and_more t a s) b u ≡ and_more (and_more t b u) a s
taken_turned t a s b u =
    let v : (t.variables + a) + b ≡ (t.variables + b) + a = omega arith in
    let p : (t.places + a * s) + b * u ≡ (t.places + b * u) + a * s = omega arith in
    λ i. record { variables = v i; places = p i }

taken_last : (before : List ProgramUnit) (t : Taken) (a s : ℕ) (ds : List Declaration) → taken_by before (and_more t a s) ds ≡ and_more (taken_by before t ds) a s
taken_last before t a s [] = refl
taken_last before t a s (d ∷ ds) =
    ap (λ x. taken_by before x ds) (taken_turned t a s (length d.names) (places_of_type before d.type_name.name)) ∙ taken_last before (and_more t (length d.names) (places_of_type before d.type_name.name)) a s ds

or_turned : (a b : Bool) → (a || b) ≡ (b || a)
or_turned true true = refl
or_turned true false = refl
or_turned false true = refl
or_turned false false = refl

-- the names of more words, after a list or before others
more_names : (own known new : List Name) → SameNames own known → SameNames (own ++ new) (new ++ known)
more_names own known new same = λ name.
    list_any-append (same_name name) own new ∙ or_turned (is_among own name) (is_among new name) ∙ ap (λ b. is_among new name || b) (same name)
    ∙ sym (list_any-append (same_name name) new known)

names_of_declared : (d : Declaration) (words : List Word) → map (λ v. v.name) (map (as_variable d) words) ≡ map name_of_word words
names_of_declared d [] = refl
names_of_declared d (w ∷ words) = ap (λ xs. w.name ∷ xs) (names_of_declared d words)

-- the rules of each declaration after others
abbrev pub asked_of : Text → List ProgramUnit → Taken → Position Declaration → List Check
asked_of text before t position = declaration_checks text before (names_declared position.before) (taken_by before t position.before) position.item

-- what follows the declarations so far
pub record Declares (text : Text) (before : List ProgramUnit) (unit : ProgramUnit) (own : UnitTable) (all left : List Declaration) : Type 0 where
  pub passed : List Declaration
  pub vs : List Variable
  pub found : (rest : List Check) → first_broken (flat_map (asked_of text before (taken_at_first unit)) (positions_after [] all) ++ rest) ≡ first_broken (flat_map (asked_of text before (taken_at_first unit)) (positions_after passed left) ++ rest)
  pub names : SameNames own.names (names_declared passed)
  pub taken : HasTaken (taken_by before (taken_at_first unit) passed) own
  pub held : HoldsRows before (first_place unit) vs own
  pub named : own.names ≡ map (λ v. v.name) vs
  pub joined : vs ++ flat_map declared_by left ≡ flat_map declared_by all
  pub different : AreDifferent own.names
  pub small : own.size ≤ 4096
  pub is_block : own.is_block ≡ is_block unit

first_small : (unit : ProgramUnit) (b : Bool) → is_block unit ≡ b → first_place unit ≤ 4096
first_small unit true e = rw e (lit≤ tt)
first_small unit false e = rw e (lit≤ tt)

pub none_declared : (text : Text) (before : List ProgramUnit) (unit : ProgramUnit) (own : UnitTable) (all : List Declaration) → IsEmptyOf unit own → Declares text before unit own all all
none_declared text before unit own all h = record {
  passed = [];
  vs = [];
  found = λ rest. refl;
  names = λ name. ap (λ names. is_among names name) h.names;
  taken = record { variables = sym (ap length h.rows); places = sym h.size };
  held = record { rows = subst (λ rows. AreRows before (first_place unit) [] rows) (sym h.rows) tt; size = h.size; fields = ap (map plain_of_field) h.fields };
  named = h.names;
  joined = refl;
  different = subst AreDifferent (sym h.names) tt;
  small = subst (λ n. n ≤ 4096) (sym h.size) (first_small unit (is_block unit) refl);
  is_block = h.is_block;
}

pub one_declared : (text : Text) (before : List ProgramUnit) (unit : ProgramUnit) (own new : UnitTable) (all : List Declaration) (d : Declaration) (left : List Declaration) (h : Declares text before unit own all (d ∷ left)) →
    ((rest : List Check) → first_broken (declaration_checks text before (names_declared h.passed) (taken_by before (taken_at_first unit) h.passed) d ++ rest) ≡ first_broken rest) →
    HasTaken (and_more (taken_by before (taken_at_first unit) h.passed) (length d.names) (places_of_type before d.type_name.name)) new →
    HoldsRows before (first_place unit) (h.vs ++ declared_by d) new → new.names ≡ own.names ++ map name_of_word d.names → AreDifferent new.names → new.size ≤ 4096 → new.is_block ≡ own.is_block → Declares text before unit new all left
one_declared text before unit own new all d left h passes taken held names different small is_block = record {
  passed = d ∷ h.passed;
  vs = h.vs ++ declared_by d;
  found = λ rest.
      h.found rest
      ∙ ap first_broken (append_assoc (declaration_checks text before (names_declared h.passed) (taken_by before (taken_at_first unit) h.passed) d) (flat_map (asked_of text before (taken_at_first unit)) (positions_after (d ∷ h.passed) left)) rest)
      ∙ passes (flat_map (asked_of text before (taken_at_first unit)) (positions_after (d ∷ h.passed) left) ++ rest);
  names = λ name. ap (λ ns. is_among ns name) names ∙ more_names own.names (names_declared h.passed) (map name_of_word d.names) h.names name;
  taken = subst (λ t. HasTaken t new) (sym (taken_last before (taken_at_first unit) (length d.names) (places_of_type before d.type_name.name) h.passed)) taken;
  held = held;
  named = names ∙ (λ i. h.named i ++ sym (names_of_declared d d.names) i) ∙ sym (map-append (λ (v : Variable). v.name) h.vs (declared_by d));
  joined = append_assoc h.vs (declared_by d) (flat_map declared_by left) ∙ h.joined;
  different = different;
  small = small;
  is_block = is_block ∙ h.is_block;
}

pub all_declared : (text : Text) (before : List ProgramUnit) (unit : ProgramUnit) (own : UnitTable) → Declares text before unit own unit.declarations [] → IsTableOf before unit own
all_declared text before unit own h =
    let all : h.vs ≡ variables_of unit = sym (append-nil h.vs) ∙ h.joined in
    let g = subst (λ vs. HoldsRows before (first_place unit) vs own) all h.held in
    let named = h.named ∙ ap (map (λ (v : Variable). v.name)) all in
    record {
      is_block = h.is_block;
      names = named;
      rows = g.rows;
      fields = g.fields;
      size = g.size;
      small = h.small;
      different = subst AreDifferent named h.different;
    }
