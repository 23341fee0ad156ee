-- What the rules on declarations and bodies let pass has a place in the unit's frame.
use Rattle.std.proofs.Common.{◌≡◌, ℕ, ◌+◌, Bool, true, false, List, [], ◌∷◌, map, Option, Some, None, is_some, option_map, refl, sym, ap, subst, ◌∙◌, ◌⊎◌, inl, inr}
use Rattle.wc_model.proofs.Common.{if◌then◌else◌, position_from}
use Rattle.wc_model.specs.Definitions.{is_readable, is_writable, is_bit_literal, term_checks, Member, Variable, VariableType, is_block, member_named, members_of, type_named, variable_named, direct_variables, variable_at, frame_of, place_number, elementary_kind, term_kind, Name, Scope, Entity, entity_of, member_entity, own_entity, type_of, is_input, Content, Location, Direct, Path, initial_store, program_frame, same_place, store_of, unit_places}
use Rattle.wc_model.specs.Language.Tree.{Term, Constant, Address, Variable as NameOf, Field, Word}
use Rattle.wc_model.specs.declared.kind.Kind.{Kind}
use Rattle.wc_model.specs.declared.kind.SlotKind.{SlotKind}
use Rattle.wc_laws_language.proofs.Entities.{EntityTyped, PlacedEntity, entity_placed, entity_typed, is_stored}
use Rattle.wc_laws_language.proofs.Programs.{after_direct, first_store_fits}
use Rattle.wc_laws_language.specs.{Clean, slot_of, slot_of_kind}
use Rattle.wc_cost.proofs.Placed.{reached}
use Rattle.wc_cost.specs.Lowerable.{HasPlace, IsReadable, IsWritable}

-- what a store of entries holds has a number among them
numbered : (start : ℕ) (entries : List (Location × Content)) (place : Location) (content : Content) → store_of entries place ≡ Some content → (n : ℕ) × (position_from (λ entry. same_place entry.0 place) start entries ≡ Some n)
numbered start [] place content e = cc
numbered start (entry ∷ entries) place content e = by (same_place entry.0 place) e (numbered (start + 1) entries place content)
  where
    by : (b : Bool) → (if b then Some entry.1 else store_of entries place) ≡ Some content → (store_of entries place ≡ Some content → (n : ℕ) × (position_from (λ x. same_place x.0 place) (start + 1) entries ≡ Some n)) →
        (n : ℕ) × ((if b then Some start else position_from (λ x. same_place x.0 place) (start + 1) entries) ≡ Some n)
    by true f go = (start, refl)
    by false f go = go f

-- a location that is not a direct variable
abbrev pub IsPath : Location → Type 0
IsPath (Path names) = Unit {0}
IsPath (Direct v) = ⊥

-- the place of the program's frame, which a block has too if it is a path
in_frame : (scope : Scope) (b : Bool) → is_block scope.unit ≡ b → (place : Location) (content : Content) → store_of (program_frame scope.before scope.unit) place ≡ Some content → (b ≡ true → IsPath place) → HasPlace scope (Some place)
in_frame scope false e place content f path =
    let n = numbered 0 (program_frame scope.before scope.unit) place content f in
    let is : frame_of scope ≡ program_frame scope.before scope.unit = ap (λ x. if x then map (λ p. (Path p.0, p.1)) (unit_places scope.before scope.unit) else program_frame scope.before scope.unit) e in
    (n.0, ap (λ frame. place_number frame place) is ∙ n.1)
in_frame scope true e (Direct v) content f path = absurd (path refl)
in_frame scope true e (Path names) content f path =
    let own = map (λ p. (Path p.0, p.1)) (unit_places scope.before scope.unit) in
    let n = numbered 0 own (Path names) content (sym (after_direct direct_variables own names) ∙ f) in
    let is : frame_of scope ≡ own = ap (λ x. if x then own else program_frame scope.before scope.unit) e in
    (n.0, ap (λ frame. place_number frame (Path names)) is ∙ n.1)

held : (o : Option Content) (kind : SlotKind) → option_map slot_of o ≡ Some kind → (content : Content) × (o ≡ Some content)
held None kind e = cc
held (Some content) kind e = (content, refl)

same_within : (place : Location) → Rattle.wc_model.specs.Language.Scopes.within [] place ≡ place
same_within (Direct v) = refl
same_within (Path names) = refl

-- an address in a function block is refused
addressed : (scope : Scope) (b : Bool) → is_block scope.unit ≡ b → (word : Word) → Clean (term_checks scope.unit (Address word)) → b ≡ true → ⊥
addressed scope true e word clean f = let g : false ≡ true = subst (λ x. (if x then Rattle.wc_model.specs.Language.Checks.asks 305 word.line false else Rattle.wc_model.specs.Language.Checks.asks 304 word.line (is_some (variable_at word.name))).holds ≡ true) e clean.0 in cc
addressed scope false e word clean f = cc

abbrev PathEntity : Option Entity → Type 0
PathEntity None = Unit {0}
PathEntity (Some e) = (place : Location) → e.place ≡ Some place → IsPath place

is_path : (names : List Name) (place : Location) → Some (Path names) ≡ Some place → IsPath place
is_path names (Path others) e = tt
is_path names (Direct v) e = cc

named_path : (scope : Scope) (name : Name) → PathEntity (entity_of scope (NameOf name))
named_path scope name = go (variable_named scope.unit name)
  where
    typed : (v : Variable) (t : Option VariableType) → PathEntity (elim t [ Some type ↦ Some (record { type = type; readable = true; writable = Rattle.std.specs.Prelude.not (is_input v.section); place = Some (Path (v.name ∷ [])) }) | None ↦ None ])
    typed v None = tt
    typed v (Some type) = λ place e. is_path (v.name ∷ []) place e

    go : (v : Option Variable) → PathEntity (elim v [ Some w ↦ own_entity scope w | None ↦ None ])
    go None = tt
    go (Some v) = typed v (type_named scope.before v.type_name)

field_path : (scope : Scope) (instance field : Name) → PathEntity (entity_of scope (Field instance field))
field_path scope instance field = go (type_of scope instance)
  where
    of_member : (m : Option Member) → PathEntity (elim m [ Some n ↦ Some (member_entity instance n) | None ↦ None ])
    of_member None = tt
    of_member (Some m) = λ place e. is_path (instance ∷ m.name ∷ []) place e

    go : (t : Option VariableType) → PathEntity (elim t [ Some type ↦ elim (member_named (members_of scope.before type) field) [ Some m ↦ Some (member_entity instance m) | None ↦ None ] | None ↦ None ])
    go None = tt
    go (Some type) = of_member (member_named (members_of scope.before type) field)

-- what a term names in a block is a path
abbrev OnPath : Scope → Option Entity → Type 0
OnPath scope o = is_block scope.unit ≡ true → PathEntity o

on_path : (scope : Scope) (term : Term) → is_stored term ≡ true → Clean (term_checks scope.unit term) → OnPath scope (entity_of scope term)
on_path scope (Constant value) s clean b = cc
on_path scope (Address word) s clean b = absurd (addressed scope (is_block scope.unit) refl word clean b)
on_path scope (NameOf name) s clean b = named_path scope name
on_path scope (Field instance field) s clean b = field_path scope instance field

-- a thing of a kind that may be reached has a place
reached_place : (scope : Scope) (may : Entity → Bool) (o : Option Entity) → EntityTyped (initial_store scope.before scope.unit) [] o → PlacedEntity o → OnPath scope o → (elim o as (λ x. Bool) [ Some e ↦ may e | None ↦ true ]) ≡ true → is_some (elim o as (λ x. Option Kind) [ Some e ↦ elementary_kind e.type | None ↦ None ]) ≡ true → HasPlace scope (reached may o)
reached_place scope may None typed there path h k = cc
reached_place scope may (Some e) typed there path h k = subst (λ b. HasPlace scope (if b then e.place else None)) (sym h) (of_kind (elementary_kind e.type) refl k)
  where
    of_kind : (kind : Option Kind) → elementary_kind e.type ≡ kind → is_some kind ≡ true → HasPlace scope e.place
    of_kind None f g = cc
    of_kind (Some kind) f g =
        let slot = typed kind f there.0 there.1 in
        let content = held (initial_store scope.before scope.unit (Rattle.wc_model.specs.Language.Scopes.within [] there.0)) (slot_of_kind kind) slot in
        let found : initial_store scope.before scope.unit there.0 ≡ Some content.0 = ap (initial_store scope.before scope.unit) (sym (same_within there.0)) ∙ content.1 in
        subst (HasPlace scope) (sym there.1) (in_frame scope (is_block scope.unit) refl there.0 content.0 found (λ b. path b there.0 there.1))

-- what may be read
may_read : (o : Option Entity) → is_readable o ≡ true → (elim o as (λ x. Bool) [ Some e ↦ e.readable | None ↦ true ]) ≡ true
may_read None h = refl
may_read (Some e) h = h

may_write : (o : Option Entity) → is_writable o ≡ true → (elim o as (λ x. Bool) [ Some e ↦ e.writable | None ↦ true ]) ≡ true
may_write None h = refl
may_write (Some e) h = h

read_place : (scope : Scope) (term : Term) → is_stored term ≡ true → Clean (term_checks scope.unit term) → is_readable (entity_of scope term) ≡ true → is_some (term_kind scope term) ≡ true → HasPlace scope (reached (λ e. e.readable) (entity_of scope term))
read_place scope term s clean r k =
    reached_place scope (λ e. e.readable) (entity_of scope term) (entity_typed (initial_store scope.before scope.unit) [] scope (first_store_fits scope.before scope.unit) term) (entity_placed scope term s) (on_path scope term s clean) (may_read (entity_of scope term) r) k

-- a term of a kind, or a literal 0 or 1
abbrev pub HasKind : Scope → Term → Type 0
HasKind scope term = (is_some (term_kind scope term) ≡ true) ⊎ (is_bit_literal term ≡ true)

pub readable : (scope : Scope) (term : Term) → Clean (term_checks scope.unit term) → is_readable (entity_of scope term) ≡ true → HasKind scope term → IsReadable scope term
readable scope (Constant value) clean r k = tt
readable scope (Address word) clean r (inl k) = read_place scope (Address word) refl clean r k
readable scope (Address word) clean r (inr k) = cc
readable scope (NameOf name) clean r (inl k) = read_place scope (NameOf name) refl clean r k
readable scope (NameOf name) clean r (inr k) = cc
readable scope (Field instance field) clean r (inl k) = read_place scope (Field instance field) refl clean r k
readable scope (Field instance field) clean r (inr k) = cc

pub writable : (scope : Scope) (term : Term) → is_stored term ≡ true → Clean (term_checks scope.unit term) → is_writable (entity_of scope term) ≡ true → is_some (term_kind scope term) ≡ true → IsWritable scope term
writable scope term s clean w k =
    reached_place scope (λ e. e.writable) (entity_of scope term) (entity_typed (initial_store scope.before scope.unit) [] scope (first_store_fits scope.before scope.unit) term) (entity_placed scope term s) (on_path scope term s clean) (may_write (entity_of scope term) w) k
