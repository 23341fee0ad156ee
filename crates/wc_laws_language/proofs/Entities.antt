-- What a term names is of the kind that the rules say, and can be read or written if they allow it.
use Rattle.wc_model.proofs.Common.{◌≡◌, Bool, true, false, ◌||◌, List, [], ◌∷◌, ◌++◌, map, Option, Some, None, Result, Ok, Err, refl, sym, ap, subst, ◌∙◌, find, if◌then◌else◌, is_some, flat_map, list_any, list_all, bytes_eq}
use Rattle.wc_model.specs.Definitions.{is_readable, is_writable, Variable, VariableType, Elementary, Standard, Block, Member, same_name, type_named, variables_of, variable_named, as_member, block_named, standard_members, members_of, member_named, DirectVariable, direct_variables, spellings, variable_at, kind_of_direct, elementary_kind, term_kind, Context, value_of, stored_value, written_to, Name, Reason, NoSuchPlace, Scope, Entity, kind_of, own_entity, type_of, member_entity, entity_of, within, Location, Direct, Path, Content, Store, same_direct, value_at, written, below, variable_places, unit_places, block_places, first_content, standard_fields}
use Rattle.wc_model.specs.Language.Tree.{Word, Term, Constant, Address, Variable as NameOf, Field, ProgramUnit}
use Rattle.wc_model.specs.declared.block.StandardBlock.{StandardBlock}
use Rattle.wc_model.specs.declared.block.StandardBlock.TheVariants.{RTrig}
use Rattle.wc_model.specs.declared.kind.Kind.{Kind}
use Rattle.wc_model.specs.declared.kind.Kind.TheVariants.{Bool as KindBool, Dint as KindDint, Time as KindTime}
use Rattle.wc_model.specs.declared.kind.SlotKind.{SlotKind}
use Rattle.wc_model.specs.declared.kind.SlotKind.TheVariants.{Bool as SlotBool, Dint as SlotDint, Time as SlotTime}
use Rattle.wc_model.specs.declared.value.Value.{Value}
use Rattle.wc_laws_language.proofs.Places.{value_there, written-there, content_at-below, content_at-alongside, Some-same, places_of, own_content, first_content-slot, plain_slot, block_places-found}
use Rattle.wc_laws_language.proofs.Tests.{same_name-sound, same_direct-refl}
use Rattle.wc_laws_language.specs.Typing.{slot_of_kind, slot_of, slot_at, SameSlots, content_at, FitsScope}

-- a direct variable that an address names is one of those that there are
pub found_direct : (vs : List DirectVariable) (address : Name) (v : DirectVariable) → find (λ u. list_any (bytes_eq address) (spellings u)) vs ≡ Some v → list_any (same_direct v) vs ≡ true
found_direct [] address v f = cc
found_direct (u ∷ vs) address v f =
    let later : (b : Bool) → list_any (same_direct v) vs ≡ true → (b || list_any (same_direct v) vs) ≡ true = elim [ true ↦ λ h. refl | false ↦ λ h. h ] in
    let step : (b : Bool) → (if b then Some u else find (λ (w : DirectVariable). list_any (bytes_eq address) (spellings w)) vs) ≡ Some v → (same_direct v u || list_any (same_direct v) vs) ≡ true =
    elim [
      | true ↦ λ g. subst (λ (w : DirectVariable). (same_direct v w || list_any (same_direct v) vs) ≡ true) (Some-same u v g) (ap (λ b. b || list_any (same_direct v) vs) (same_direct-refl v))
      | false ↦ λ g. later (same_direct v u) (found_direct vs address v g)
    ]
    in
    step (list_any (bytes_eq address) (spellings u)) f

-- a member that is found has the name
pub found_member_name : (ms : List Member) (name : Name) (m : Member) → find (λ n. same_name n.name name) ms ≡ Some m → m.name ≡ name
found_member_name [] name m f = cc
found_member_name (n ∷ ms) name m f =
    let step : (b : Bool) → same_name n.name name ≡ b → (if b then Some n else find (λ (o : Member). same_name o.name name) ms) ≡ Some m → m.name ≡ name =
    elim [
      | true ↦ λ same g. ap (λ (o : Member). o.name) (Some-same n m g) ∙ same_name-sound n.name name same
      | false ↦ λ differs g. found_member_name ms name m g
    ]
    in
    step (same_name n.name name) refl f

-- the places of variables, one after another
abbrev pub all_places : List ProgramUnit → List Variable → List (List Name × Content)
all_places before vs = flat_map (λ (u : Variable). below u.name (places_of before u)) vs

-- a place for a member of a kind
abbrev pub HasPlace : List (List Name × Content) → Name → Kind → Type 0
HasPlace places name kind = (content : Content) × (content_at places (name ∷ []) ≡ Some content) × (slot_of content ≡ slot_of_kind kind)

-- by the type of the first variable
pub member_step : (before : List ProgramUnit) (u : Variable) (vs : List Variable) (name : Name) (m : Member) (kind : Kind) → (find (λ (n : Member). same_name n.name name) (flat_map (as_member before) vs) ≡ Some m → HasPlace (all_places before vs) m.name kind) → m.type ≡ Elementary kind → (t : Option VariableType) → type_named before u.type_name ≡ t → find (λ (n : Member). same_name n.name name) ((elim t [ Some type ↦ record { name = u.name; section = u.section; type = type } ∷ [] | None ↦ [] ]) ++ flat_map (as_member before) vs) ≡ Some m → HasPlace (below u.name (places_of before u) ++ all_places before vs) m.name kind
member_step before u vs name m kind later e None t g =
    let none : places_of before u ≡ [] = ap (λ (x : Option VariableType). variable_places (block_places before) x u.initial) t in
    subst (λ (ps : List (List Name × Content)). HasPlace (below u.name ps ++ all_places before vs) m.name kind) (sym none) (later g)
member_step before u vs name m kind later e (Some type) t g =
    let mine : Member = record { name = u.name; section = u.section; type = type } in
    let step : (b : Bool) → same_name u.name name ≡ b → (if b then Some mine else find (λ (n : Member). same_name n.name name) (flat_map (as_member before) vs)) ≡ Some m → HasPlace (below u.name (places_of before u) ++ all_places before vs) m.name kind =
    elim [
      | true ↦ λ same h.
          let is : m ≡ mine = Some-same mine m h in
          let plain : type ≡ Elementary kind = sym (ap (λ (o : Member). o.type) is) ∙ e in
          let one : places_of before u ≡ ([], first_content kind u.initial) ∷ [] = ap (λ (x : Option VariableType). variable_places (block_places before) x u.initial) (t ∙ ap Some plain) in
          let here : content_at (places_of before u) [] ≡ Some (first_content kind u.initial) = ap (λ (ps : List (List Name × Content)). content_at ps []) one in
          (first_content kind u.initial, ap (λ (o : Member). content_at (below u.name (places_of before u) ++ all_places before vs) (o.name ∷ [])) is ∙ content_at-below u.name (places_of before u) (all_places before vs) [] (first_content kind u.initial) here, first_content-slot kind u.initial)
      | false ↦ λ differs h.
          let rest = later h in
          let elsewhere : same_name u.name m.name ≡ false = ap (same_name u.name) (found_member_name (flat_map (as_member before) vs) name m h) ∙ differs in
          (rest.0, content_at-alongside u.name (places_of before u) (all_places before vs) m.name [] elsewhere ∙ rest.1, rest.2)
    ]
    in
    step (same_name u.name name) refl g

-- a member of an elementary type that is found has its place among the variables' places
pub found_member : (before : List ProgramUnit) (vs : List Variable) (name : Name) (m : Member) (kind : Kind) → find (λ (n : Member). same_name n.name name) (flat_map (as_member before) vs) ≡ Some m → m.type ≡ Elementary kind → HasPlace (all_places before vs) m.name kind
found_member before [] name m kind f e = cc
found_member before (u ∷ vs) name m kind f e = member_step before u vs name m kind (λ g. found_member before vs name m kind g e) e (type_named before u.type_name) refl f

-- one kind of place and another are the same
abbrev pub is_slot : Option SlotKind → Option Kind → Bool
is_slot (Some SlotBool) (Some KindBool) = true
is_slot (Some SlotDint) (Some KindDint) = true
is_slot (Some SlotTime) (Some KindTime) = true
is_slot slot kind = false

-- each member of a standard block has its place
abbrev pub member_is_placed : StandardBlock → Member → Bool
member_is_placed block m = is_slot (Rattle.std.specs.Option.option_map slot_of (content_at (map (λ f. (f.0 ∷ [], f.1)) (standard_fields block)) (m.name ∷ []))) (elementary_kind m.type)

pub members_are_placed : (block : StandardBlock) → list_all (member_is_placed block) (standard_members block) ≡ true
members_are_placed RTrig = refl
members_are_placed other = refl

-- what all pass, the found one passes
pub found_passes : {X : Type 0} (test pass : X → Bool) (xs : List X) (x : X) → list_all pass xs ≡ true → find test xs ≡ Some x → pass x ≡ true
found_passes test pass [] x all f = cc
found_passes test pass (y ∷ ys) x all f =
    let both = Rattle.wc_laws_language.proofs.Tests.both-true (pass y) (list_all pass ys) all in
    let step : (b : Bool) → (if b then Some y else find test ys) ≡ Some x → pass x ≡ true = elim [ true ↦ λ g. ap pass (Some-same y x g) ∙ both.0 | false ↦ λ g. found_passes test pass ys x both.1 g ] in
    step (test y) f

-- a test that passes at a kind finds a place of it
pub placed : (found : Option Content) (kind : Kind) → is_slot (Rattle.std.specs.Option.option_map slot_of found) (Some kind) ≡ true → (content : Content) × (found ≡ Some content) × (slot_of content ≡ slot_of_kind kind)
placed None KindBool e = cc
placed None KindDint e = cc
placed None KindTime e = cc
placed (Some content) kind e = (content, refl, same (slot_of content) kind e)
  where
    same : (slot : SlotKind) (k : Kind) → is_slot (Some slot) (Some k) ≡ true → slot ≡ slot_of_kind k
    same SlotBool KindBool h = refl
    same SlotDint KindDint h = refl
    same SlotTime KindTime h = refl
    same slot k h = cc

-- if a term names something of a kind, its place holds that kind
abbrev pub PlaceIsTyped : Store → List Name → Entity → Kind → Type 0
PlaceIsTyped store names e kind = (place : Location) → e.place ≡ Some place → slot_at store (within names place) ≡ Some (slot_of_kind kind)

-- the place of a field of an instance of this variable
pub field_typed : (store : Store) (names : List Name) (scope : Scope) → FitsScope store names scope → (instance : Name) (v : Variable) → variable_named scope.unit instance ≡ Some v → (type : VariableType) → type_named scope.before v.type_name ≡ Some type → (field : Name) (m : Member) → member_named (members_of scope.before type) field ≡ Some m → (kind : Kind) → m.type ≡ Elementary kind → slot_at store (Path (names ++ instance ∷ m.name ∷ [])) ≡ Some (slot_of_kind kind)
field_typed store names scope fits instance v found (Elementary k) typed field m named kind e = cc
field_typed store names scope fits instance v found (Standard block) typed field m named kind e =
    let passes = found_passes (λ (n : Member). same_name n.name field) (member_is_placed block) (standard_members block) m (members_are_placed block) named in
    let kinds : elementary_kind m.type ≡ Some kind = ap elementary_kind e in
    let here = placed (content_at (map (λ f. (f.0 ∷ [], f.1)) (standard_fields block)) (m.name ∷ [])) kind (subst (λ (k : Option Kind). is_slot (Rattle.std.specs.Option.option_map slot_of (content_at (map (λ f. (f.0 ∷ [], f.1)) (standard_fields block)) (m.name ∷ []))) k ≡ true) kinds passes) in
    let places : places_of scope.before v ≡ map (λ f. (f.0 ∷ [], f.1)) (standard_fields block) = ap (λ (t : Option VariableType). variable_places (block_places scope.before) t v.initial) typed in
    let there : content_at (places_of scope.before v) (m.name ∷ []) ≡ Some here.0 = ap (λ (ps : List (List Name × Content)). content_at ps (m.name ∷ [])) places ∙ here.1 in
    fits.own (instance ∷ m.name ∷ []) here.0 (own_content scope.before scope.unit instance v (m.name ∷ []) here.0 found there) ∙ ap Some here.2
field_typed store names scope fits instance v found (Block name) typed field m named kind e = go (block_named scope.before name) refl named
  where
    go : (b : Option (ProgramUnit × List ProgramUnit)) → block_named scope.before name ≡ b → find (λ (n : Member). same_name n.name field) (elim b [ Some f ↦ flat_map (as_member f.1) (variables_of f.0) | None ↦ [] ]) ≡ Some m → slot_at store (Path (names ++ instance ∷ m.name ∷ [])) ≡ Some (slot_of_kind kind)
    go None b g = cc
    go (Some f) b g =
        let here = found_member f.1 (variables_of f.0) field m kind g e in
        let unit_of_block : block_places scope.before name ≡ unit_places f.1 f.0 = block_places-found scope.before name f.0 f.1 b in
        let places : places_of scope.before v ≡ unit_places f.1 f.0 = ap (λ (t : Option VariableType). variable_places (block_places scope.before) t v.initial) typed ∙ unit_of_block in
        let there : content_at (places_of scope.before v) (m.name ∷ []) ≡ Some here.0 = ap (λ (ps : List (List Name × Content)). content_at ps (m.name ∷ [])) places ∙ here.1 in
        fits.own (instance ∷ m.name ∷ []) here.0 (own_content scope.before scope.unit instance v (m.name ∷ []) here.0 found there) ∙ ap Some here.2

-- a type with a kind is of that kind
pub elementary-is : (type : VariableType) (kind : Kind) → elementary_kind type ≡ Some kind → type ≡ Elementary kind
elementary-is (Elementary k) kind e = ap Elementary (sym (Some-same k kind e))
elementary-is (Standard block) kind e = cc
elementary-is (Block name) kind e = cc

-- whatever kind the named thing has, its place holds it
abbrev pub EntityTyped : Store → List Name → Option Entity → Type 0
EntityTyped store names None = Unit {0}
EntityTyped store names (Some e) = (kind : Kind) → elementary_kind e.type ≡ Some kind → PlaceIsTyped store names e kind

-- by what the term is
pub address_typed : (store : Store) (names : List Name) (scope : Scope) → FitsScope store names scope → (word : Word) → EntityTyped store names (entity_of scope (Address word))
address_typed store names scope fits word = go (variable_at word.name) refl
  where
    go : (v : Option DirectVariable) → variable_at word.name ≡ v → EntityTyped store names (elim v [ Some d ↦ Some (record { type = Elementary (kind_of_direct d); readable = true; writable = Rattle.wc_model.specs.Language.DirectVariables.is_output d; place = Some (Direct d) }) | None ↦ None ])
    go None e = tt
    go (Some d) e = λ kind k place p.
        let here = fits.direct d (found_direct direct_variables word.name d e) in
        ap (λ (l : Location). slot_at store (within names l)) (Some-same (Direct d) place p) ∙ (here ∙ ap (λ (x : Kind). Some (slot_of_kind x)) (sym (Some-same (kind_of_direct d) kind k)))

pub name_typed : (store : Store) (names : List Name) (scope : Scope) → FitsScope store names scope → (name : Name) → EntityTyped store names (entity_of scope (NameOf name))
name_typed store names scope fits name = go (variable_named scope.unit name) refl
  where
    typed : (v : Variable) → variable_named scope.unit name ≡ Some v → (t : Option VariableType) → type_named scope.before v.type_name ≡ t → EntityTyped store names (elim t [ Some type ↦ Some (record { type = type; readable = true; writable = Rattle.std.specs.Prelude.not (Rattle.wc_model.specs.Language.Scopes.is_input v.section); place = Some (Path (v.name ∷ [])) }) | None ↦ None ])
    typed v found None e = tt
    typed v found (Some type) e = λ kind k place p.
        let plain = plain_slot store names scope fits name v kind found (e ∙ ap Some (elementary-is type kind k)) in
        ap (λ (l : Location). slot_at store (within names l)) (Some-same (Path (v.name ∷ [])) place p) ∙ plain

    go : (v : Option Variable) → variable_named scope.unit name ≡ v → EntityTyped store names (elim v [ Some w ↦ own_entity scope w | None ↦ None ])
    go None e = tt
    go (Some v) e = typed v e (type_named scope.before v.type_name) refl

pub member_typed : (store : Store) (names : List Name) (scope : Scope) → FitsScope store names scope → (instance field : Name) → EntityTyped store names (entity_of scope (Field instance field))
member_typed store names scope fits instance field = go (variable_named scope.unit instance) refl
  where
    of_member : (v : Variable) → variable_named scope.unit instance ≡ Some v → (type : VariableType) → type_named scope.before v.type_name ≡ Some type → (m : Option Member) → member_named (members_of scope.before type) field ≡ m → EntityTyped store names (elim m [ Some n ↦ Some (member_entity instance n) | None ↦ None ])
    of_member v found type typed None e = tt
    of_member v found type typed (Some m) e = λ kind k place p.
        let there = field_typed store names scope fits instance v found type typed field m e kind (elementary-is m.type kind k) in
        ap (λ (l : Location). slot_at store (within names l)) (Some-same (Path (instance ∷ m.name ∷ [])) place p) ∙ there

    of_type : (v : Variable) → variable_named scope.unit instance ≡ Some v → (t : Option VariableType) → type_named scope.before v.type_name ≡ t → EntityTyped store names (elim t [ Some type ↦ elim (member_named (members_of scope.before type) field) [ Some m ↦ Some (member_entity instance m) | None ↦ None ] | None ↦ None ])
    of_type v found None e = tt
    of_type v found (Some type) e = of_member v found type e (member_named (members_of scope.before type) field) refl

    go : (v : Option Variable) → variable_named scope.unit instance ≡ v → EntityTyped store names (elim (elim v as (λ x. Option VariableType) [ Some w ↦ type_named scope.before w.type_name | None ↦ None ]) [ Some type ↦ elim (member_named (members_of scope.before type) field) [ Some m ↦ Some (member_entity instance m) | None ↦ None ] | None ↦ None ])
    go None e = tt
    go (Some v) e = of_type v e (type_named scope.before v.type_name) refl

pub entity_typed : (store : Store) (names : List Name) (scope : Scope) → FitsScope store names scope → (term : Term) → EntityTyped store names (entity_of scope term)
entity_typed store names scope fits (Constant value) = λ kind k place p. cc
entity_typed store names scope fits (Address word) = address_typed store names scope fits word
entity_typed store names scope fits (NameOf name) = name_typed store names scope fits name
entity_typed store names scope fits (Field instance field) = member_typed store names scope fits instance field

-- a term with a place
abbrev pub is_stored : Term → Bool
is_stored (Constant value) = false
is_stored (Address word) = true
is_stored (NameOf name) = true
is_stored (Field instance field) = true

-- what is stored has a place
abbrev pub PlacedEntity : Option Entity → Type 0
PlacedEntity None = Unit {0}
PlacedEntity (Some e) = (place : Location) × (e.place ≡ Some place)

pub entity_placed : (scope : Scope) (term : Term) → is_stored term ≡ true → PlacedEntity (entity_of scope term)
entity_placed scope (Constant value) s = cc
entity_placed scope (Address word) s = go (variable_at word.name)
  where
    go : (v : Option DirectVariable) → PlacedEntity (elim v [ Some d ↦ Some (record { type = Elementary (kind_of_direct d); readable = true; writable = Rattle.wc_model.specs.Language.DirectVariables.is_output d; place = Some (Direct d) }) | None ↦ None ])
    go None = tt
    go (Some d) = (Direct d, refl)
entity_placed scope (NameOf name) s = go (variable_named scope.unit name)
  where
    typed : (v : Variable) (t : Option VariableType) → PlacedEntity (elim t [ Some type ↦ Some (record { type = type; readable = true; writable = Rattle.std.specs.Prelude.not (Rattle.wc_model.specs.Language.Scopes.is_input v.section); place = Some (Path (v.name ∷ [])) }) | None ↦ None ])
    typed v None = tt
    typed v (Some type) = (Path (v.name ∷ []), refl)

    go : (v : Option Variable) → PlacedEntity (elim v [ Some w ↦ own_entity scope w | None ↦ None ])
    go None = tt
    go (Some v) = typed v (type_named scope.before v.type_name)
entity_placed scope (Field instance field) s = go (type_of scope instance)
  where
    of_member : (m : Option Member) → PlacedEntity (elim m [ Some n ↦ Some (member_entity instance n) | None ↦ None ])
    of_member None = tt
    of_member (Some m) = (Path (instance ∷ m.name ∷ []), refl)

    go : (t : Option VariableType) → PlacedEntity (elim t [ Some type ↦ elim (member_named (members_of scope.before type) field) [ Some m ↦ Some (member_entity instance m) | None ↦ None ] | None ↦ None ])
    go None = tt
    go (Some type) = of_member (member_named (members_of scope.before type) field)

-- a value of a kind
abbrev pub GivesKind : Kind → Result Value Reason → Type 0
GivesKind kind r = (value : Value) × (r ≡ Ok value) × (kind_of value ≡ kind)

-- what may be read gives a value of its kind
pub stored_read : (here : Context) (store : Store) → FitsScope store here.instance here.scope → (term : Term) (kind : Kind) → is_stored term ≡ true → term_kind here.scope term ≡ Some kind → is_readable (entity_of here.scope term) ≡ true → GivesKind kind (stored_value here store term)
stored_read here store fits term kind s k r = go (entity_of here.scope term) (entity_typed store here.instance here.scope fits term) (entity_placed here.scope term s) k r
  where
    at_place : (found : Option Location) (place : Location) → found ≡ Some place → slot_at store (within here.instance place) ≡ Some (slot_of_kind kind) → GivesKind kind (elim found [ Some p ↦ value_at store (within here.instance p) | None ↦ Err NoSuchPlace ])
    at_place found place e t = subst (λ (f : Option Location). GivesKind kind (elim f [ Some p ↦ value_at store (within here.instance p) | None ↦ Err NoSuchPlace ])) (sym e) (value_there store (within here.instance place) kind t)

    go : (e : Option Entity) → EntityTyped store here.instance e → PlacedEntity e → (elim e as (λ x. Option Kind) [ Some f ↦ elementary_kind f.type | None ↦ None ]) ≡ Some kind → is_readable e ≡ true → GivesKind kind (elim (elim e as (λ x. Option Location) [ Some f ↦ (if f.readable then f.place else None) | None ↦ None ]) [ Some p ↦ value_at store (within here.instance p) | None ↦ Err NoSuchPlace ])
    go None typed placed_at k r = cc
    go (Some e) typed placed_at k r = at_place (if e.readable then e.place else None) placed_at.0 (ap (λ b. if b then e.place else None) r ∙ placed_at.1) (typed kind k placed_at.0 placed_at.1)

pub term_read : (here : Context) (store : Store) → FitsScope store here.instance here.scope → (term : Term) (kind : Kind) → term_kind here.scope term ≡ Some kind → is_readable (entity_of here.scope term) ≡ true → GivesKind kind (value_of here store term)
term_read here store fits (Constant value) kind k r = (value, refl, Some-same kind (kind_of value) (sym k))
term_read here store fits (Address word) kind k r = stored_read here store fits (Address word) kind refl k r
term_read here store fits (NameOf name) kind k r = stored_read here store fits (NameOf name) kind refl k r
term_read here store fits (Field instance field) kind k r = stored_read here store fits (Field instance field) kind refl k r

-- what may be written takes a value of its kind
abbrev pub Writes : Store → Result Store Reason → Type 0
Writes store r = (new : Store) × (r ≡ Ok new) × SameSlots store new

pub term_written : (here : Context) (store : Store) → FitsScope store here.instance here.scope → (target : Term) (value : Value) → term_kind here.scope target ≡ Some (kind_of value) → is_writable (entity_of here.scope target) ≡ true → is_stored target ≡ true → Writes store (written_to here store target value)
term_written here store fits target value k w s = go (entity_of here.scope target) (entity_typed store here.instance here.scope fits target) (entity_placed here.scope target s) k w
  where
    at_place : (found : Option Location) (place : Location) → found ≡ Some place → slot_at store (within here.instance place) ≡ Some (slot_of_kind (kind_of value)) → Writes store (elim found [ Some p ↦ written store (within here.instance p) value | None ↦ Err NoSuchPlace ])
    at_place found place e t = subst (λ (f : Option Location). Writes store (elim f [ Some p ↦ written store (within here.instance p) value | None ↦ Err NoSuchPlace ])) (sym e) (written-there store (within here.instance place) value t)

    go : (e : Option Entity) → EntityTyped store here.instance e → PlacedEntity e → (elim e as (λ x. Option Kind) [ Some f ↦ elementary_kind f.type | None ↦ None ]) ≡ Some (kind_of value) → is_writable e ≡ true → Writes store (elim (elim e as (λ x. Option Location) [ Some f ↦ (if f.writable then f.place else None) | None ↦ None ]) [ Some p ↦ written store (within here.instance p) value | None ↦ Err NoSuchPlace ])
    go None typed placed_at k r = cc
    go (Some e) typed placed_at k r = at_place (if e.writable then e.place else None) placed_at.0 (ap (λ b. if b then e.place else None) r ∙ placed_at.1) (typed (kind_of value) k placed_at.0 placed_at.1)

-- what may be written is stored
pub writable_is_stored : (scope : Scope) (target : Term) → is_some (entity_of scope target) ≡ true → is_writable (entity_of scope target) ≡ true → is_stored target ≡ true
writable_is_stored scope (Constant value) f w = cc
writable_is_stored scope (Address word) f w = refl
writable_is_stored scope (NameOf name) f w = refl
writable_is_stored scope (Field instance field) f w = refl
