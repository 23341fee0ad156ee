-- No two places of a frame have one path: each is at its own number.
use Rattle.wc_model.proofs.Common.{◌≡◌, ℕ, zero, suc, ◌+◌, ◌-◌, ◌<◌, ◌≤◌, ◌⊎◌, inl, inr, Bool, true, false, cond, List, [], ◌∷◌, map, length, Option, Some, None, option_map, refl, sym, ap, subst, ◌∙◌, arith, slice_get, cases_lt, bytes_eq-Decides, position_from}
use Rattle.wc_model.specs.Definitions.{is_among, Variable, VariableType, Elementary, Standard, Block, same_name, type_named, variables_of, Name, Content, below, block_places, first_content, places_declared, same_path, standard_fields, unit_places, variable_places, ProgramUnit}
use Rattle.wc_model.specs.declared.source.Initial.{Initial}
use Rattle.wc_names.specs.RepresentsText.{AreDifferent, AreUnits, Represents}
use Rattle.wc_names.specs.declared.unit_table.UnitTable.{UnitTable}
use Rattle.wc_names.proofs.Frames.{nowhere, own_places, places_of, position_below}
use Rattle.wc_names.proofs.KeptPlaces.{field_of, fields_differ, own_number}
use Rattle.wc_names.proofs.Lookups.{field_of_one, no_name}
use Rattle.wc_names.proofs.Positions.{or_else, position_append, position_on}
use Rattle.wc_names.proofs.VariablePlaces.{prefix_item, item_below, later_item}
use Rattle.wc_laws_language.proofs.Tests.{same_name-refl}

-- each entry is the first with its path
abbrev pub HaveOwnNumbers : List (List Name × Content) → Type 0
HaveOwnNumbers places = (k : ℕ) (entry : List Name × Content) → slice_get places k ≡ Some entry → position_from (λ e. same_path e.0 entry.0) 0 places ≡ Some k

-- what is found by a path begins with the name of a variable
named_there : (before : List ProgramUnit) (vs : List Variable) (path : List Name) (j : ℕ) → position_from (λ e. same_path e.0 path) 0 (places_of before vs) ≡ Some j → (name : Name) × (ns : List Name) × (path ≡ name ∷ ns) × (is_among (map (λ v. v.name) vs) name ≡ true)
named_there before vs [] j e = absurd (let n : None ≡ Some j = sym (no_name before 0 vs) ∙ e in let f : ⊥ = cc in f)
named_there before vs (name ∷ ns) j e = (name, ns, refl, by (is_among (map (λ v. v.name) vs) name) refl)
  where
    by : (b : Bool) → is_among (map (λ v. v.name) vs) name ≡ b → b ≡ true
    by true is = refl
    by false is = let n : None ≡ Some j = sym (nowhere before 0 vs name ns is) ∙ e in cc

-- so it is not that of another
other_variable : (v : Name) (names : List Name) (name : Name) → is_among names v ≡ false → is_among names name ≡ true → same_name v name ≡ false
other_variable v names name none there = by (same_name v name) refl
  where
    by : (b : Bool) → same_name v name ≡ b → b ≡ false
    by false is = refl
    by true is = let same : v ≡ name = (bytes_eq-Decides v name).0 is in let f : is_among names name ≡ false = subst (λ n. is_among names n ≡ false) same none in sym there ∙ f

-- variables of different names, whose own places have their own numbers
variables_own : (before : List ProgramUnit) (vs : List Variable) → AreDifferent (map (λ v. v.name) vs) → ((v : Variable) → HaveOwnNumbers (own_places before v)) → HaveOwnNumbers (places_of before vs)
variables_own before [] different own zero entry e = cc
variables_own before [] different own (suc k) entry e = cc
variables_own before (v ∷ vs) different own k entry e = by (cases_lt k (length (below v.name (own_places before v)))) (variables_own before vs different.1 own)
  where
    here : (inner : List Name × Content) → slice_get (own_places before v) k ≡ Some inner → entry ≡ (v.name ∷ inner.0, inner.1) → position_from (λ p. same_path p.0 entry.0) 0 (places_of before (v ∷ vs)) ≡ Some k
    here inner there is =
        let test : List Name → List Name × Content → Bool = λ path p. same_path p.0 path in
        ap (λ (x : List Name × Content). position_from (test x.0) 0 (places_of before (v ∷ vs))) is
        ∙ position_append (test (v.name ∷ inner.0)) 0 (below v.name (own_places before v)) (places_of before vs)
        ∙ ap (λ o. or_else o (position_from (test (v.name ∷ inner.0)) (0 + length (below v.name (own_places before v))) (places_of before vs)))
        (position_below v.name v.name inner.0 0 (own_places before v) ∙ ap (λ b. cond b (position_from (test inner.0) 0 (own_places before v)) None) (same_name-refl v.name) ∙ own v k inner there)

    inside : (o : Option (List Name × Content)) → slice_get (own_places before v) k ≡ o → option_map (λ (p : List Name × Content). (v.name ∷ p.0, p.1)) o ≡ Some entry → position_from (λ p. same_path p.0 entry.0) 0 (places_of before (v ∷ vs)) ≡ Some k
    inside None there f = cc
    inside (Some inner) there f = here inner there (let same : (v.name ∷ inner.0, inner.1) ≡ entry = cc in sym same)

    following : (j : ℕ) → k ≡ length (below v.name (own_places before v)) + j → position_from (λ p. same_path p.0 entry.0) 0 (places_of before vs) ≡ Some j → (name : Name) × (ns : List Name) × (entry.0 ≡ name ∷ ns) × (is_among (map (λ w. w.name) vs) name ≡ true) → position_from (λ p. same_path p.0 entry.0) 0 (places_of before (v ∷ vs)) ≡ Some k
    following j split found head =
        let test : List Name × Content → Bool = λ p. same_path p.0 entry.0 in
        let size = length (below v.name (own_places before v)) in
        let none : position_from test 0 (below v.name (own_places before v)) ≡ None =
        ap (λ path. position_from (λ p. same_path p.0 path) 0 (below v.name (own_places before v))) head.2
        ∙ position_below v.name head.0 head.1 0 (own_places before v)
        ∙ ap (λ b. cond b (position_from (λ p. same_path p.0 head.1) 0 (own_places before v)) None) (other_variable v.name (map (λ w. w.name) vs) head.0 different.0 head.3)
        in
        position_append test 0 (below v.name (own_places before v)) (places_of before vs)
        ∙ ap (λ o. or_else o (position_from test (0 + size) (places_of before vs))) none
        ∙ ap (λ n. position_from test n (places_of before vs)) (let z : 0 + size ≡ size = omega arith in z)
        ∙ position_on test size (places_of before vs) ∙ ap (option_map (λ n. size + n)) found ∙ ap Some (sym split)

    by : (k < length (below v.name (own_places before v))) ⊎ (length (below v.name (own_places before v)) ≤ k) → HaveOwnNumbers (places_of before vs) → position_from (λ p. same_path p.0 entry.0) 0 (places_of before (v ∷ vs)) ≡ Some k
    by (inl within) rest = inside (slice_get (own_places before v) k) refl (sym (item_below v.name (own_places before v) k) ∙ sym (prefix_item (below v.name (own_places before v)) (places_of before vs) k within) ∙ e)
    by (inr past) rest =
        let size = length (below v.name (own_places before v)) in
        let split : k ≡ size + (k - size) = omega (arith, past) in
        let there : slice_get (places_of before vs) (k - size) ≡ Some entry = sym (later_item (below v.name (own_places before v)) (places_of before vs) (k - size)) ∙ ap (slice_get (places_of before (v ∷ vs))) (sym split) ∙ e in
        let found = rest (k - size) entry there in
        following (k - size) split found (named_there before vs entry.0 (k - size) found)

-- the places of a variable, if those of instances of blocks have their own numbers
type_own : (places : Name → List (List Name × Content)) (type : Option VariableType) (initial : Option Initial) → ((name : Name) → HaveOwnNumbers (places name)) → HaveOwnNumbers (variable_places places type initial)
type_own places None initial own zero entry e = cc
type_own places None initial own (suc k) entry e = cc
type_own places (Some (Elementary kind)) initial own zero entry e =
    let same : ([], first_content kind initial) ≡ entry = cc in
    ap (λ (x : List Name × Content). position_from (λ (p : List Name × Content). same_path p.0 x.0) 0 (([], first_content kind initial) ∷ [])) (sym same)
type_own places (Some (Elementary kind)) initial own (suc zero) entry e = cc
type_own places (Some (Elementary kind)) initial own (suc (suc k)) entry e = cc
type_own places (Some (Standard block)) initial own k entry e =
    let at = field_of block k entry e in
    ap (λ path. position_from (λ (p : List Name × Content). same_path p.0 path) 0 (map (λ f. (f.0 ∷ [], f.1)) (standard_fields block))) (sym at.names)
    ∙ sym (field_of_one (standard_fields block) at.field.0) ∙ own_number (standard_fields block) k at.field (fields_differ block) at.there
type_own places (Some (Block name)) initial own k entry e = own name k entry e

nothing_own : HaveOwnNumbers []
nothing_own zero entry e = cc
nothing_own (suc k) entry e = cc

-- the places of an instance of a block
blocks_own : (before : List ProgramUnit) (tables : List UnitTable) → AreUnits before tables → (name : Name) → HaveOwnNumbers (block_places before name)
blocks_own [] tables h name = nothing_own
blocks_own (unit ∷ before) tables h name =
    let own = blocks_own before h.0 h.4 in
    by (same_name unit.name.name name) (variables_own before (variables_of unit) h.3.different (λ v. type_own (block_places before) (type_named before v.type_name) v.initial own)) (own name)
  where
    by : (b : Bool) → HaveOwnNumbers (unit_places before unit) → HaveOwnNumbers (block_places before name) → HaveOwnNumbers (elim b [ true ↦ places_declared (block_places before) before unit | false ↦ block_places before name ])
    by true this others = this
    by false this others = others

-- and the places of a unit
pub unit_own : (units : List UnitTable) (before : List ProgramUnit) (u : ProgramUnit) → Represents units before u → HaveOwnNumbers (unit_places before u)
unit_own units before u h = variables_own before (variables_of u) h.is.different (λ v. type_own (block_places before) (type_named before v.type_name) v.initial (blocks_own before h.others h.earlier))
