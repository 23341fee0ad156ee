-- What a write leaves of the kinds in a store, and where the places of a unit's variables are found.
use Rattle.wc_model.proofs.Common.{◌≡◌, Bool, true, false, List, [], ◌∷◌, ◌++◌, Option, Some, None, Result, Ok, Err, refl, sym, ap, subst, ◌∙◌, find, if◌then◌else◌, flat_map}
use Rattle.wc_model.specs.Definitions.{Variable, Elementary, same_name, type_named, variables_of, variable_named, is_block, block_named, Name, Reason, NoSuchPlace, WrongKind, Scope, kind_of, ProgramUnit}
use Rattle.wc_model.specs.Language.Store.{Location, Direct, Path, Content, Plain, Moment, Phase, Store, same_path, same_place, with_content, value_at, same_kind, written, below, variable_places, places_declared, unit_places, block_places, first_content}
use Rattle.wc_model.specs.declared.kind.Kind.{Kind}
use Rattle.wc_model.specs.declared.kind.Kind.TheVariants.{Bool as KindBool, Dint as KindDint, Time as KindTime}
use Rattle.wc_model.specs.declared.kind.SlotKind.TheVariants.{Bool as SlotBool, Dint as SlotDint, Time as SlotTime}
use Rattle.wc_model.specs.declared.source.Initial.{Initial}
use Rattle.wc_model.specs.declared.value.Value.{Value}
use Rattle.wc_model.specs.declared.value.Value.TheVariants.{Bool as Truth, Dint, Time}
use Rattle.wc_laws_language.proofs.Tests.{same_name-sound, same_name-refl, same_place-sound}
use Rattle.wc_laws_language.specs.Typing.{slot_of_kind, slot_of, slot_at, SameSlots, content_at, Holds, FitsScope}

-- the same kinds, once more
pub SameSlots-refl : (s : Store) → SameSlots s s
SameSlots-refl s = λ place. refl

pub SameSlots-trans : (a b c : Store) → SameSlots a b → SameSlots b c → SameSlots a c
SameSlots-trans a b c ab bc = λ place. bc place ∙ ab place

-- a content of the place's kind
pub with_content-keeps : (store : Store) (place : Location) (content : Content) → slot_at store place ≡ Some (slot_of content) → SameSlots store (with_content store place content)
with_content-keeps store place content e = λ other. go other (same_place place other) refl
  where
    go : (other : Location) (b : Bool) → same_place place other ≡ b → slot_at (λ o. if b then Some content else store o) other ≡ slot_at store other
    go other true same = sym e ∙ ap (slot_at store) (same_place-sound place other same)
    go other false differs = refl

-- what scopes ask of a store, of another with the same kinds
pub Holds-same : (old new : Store) (names : List Name) (places : List (List Name × Content)) → SameSlots old new → Holds old names places → Holds new names places
Holds-same old new names places same h = λ path content e. same (Path (names ++ path)) ∙ h path content e

pub FitsScope-same : (old new : Store) (names : List Name) (scope : Scope) → SameSlots old new → FitsScope old names scope → FitsScope new names scope
FitsScope-same old new names scope same h = record {
  own = Holds-same old new names (unit_places scope.before scope.unit) same h.own;
  direct = λ variable e. same (Direct variable) ∙ h.direct variable e;
}

-- what is at a place of a kind
pub value_there : (store : Store) (place : Location) (kind : Kind) → slot_at store place ≡ Some (slot_of_kind kind) → (value : Value) × (value_at store place ≡ Ok value) × (kind_of value ≡ kind)
value_there store place kind e = go (store place) kind e
  where
    go : (content : Option Content) (kind : Kind) → Rattle.std.specs.Option.option_map slot_of content ≡ Some (slot_of_kind kind) → (value : Value) × ((elim content as (λ c. Result Value Reason) [ Some c ↦ elim c [ Plain v ↦ Ok v | Moment m ↦ Err NoSuchPlace | Phase p ↦ Err NoSuchPlace ] | None ↦ Err NoSuchPlace ]) ≡ Ok value) × (kind_of value ≡ kind)
    go (Some (Plain (Truth b))) KindBool e = (Truth b, refl, refl)
    go (Some (Plain (Dint n))) KindDint e = (Dint n, refl, refl)
    go (Some (Plain (Time t))) KindTime e = (Time t, refl, refl)
    go (Some (Plain (Truth b))) KindDint e = cc
    go (Some (Plain (Dint n))) KindBool e = cc
    go (Some (Plain (Time t))) KindBool e = cc
    go (Some (Moment m)) KindBool e = cc
    go (Some (Phase p)) KindBool e = cc
    go None KindBool e = cc
    go third fourth e = cc

-- values of one kind pass the test
pub same_kind-of : (a b : Value) → kind_of a ≡ kind_of b → same_kind a b ≡ true
same_kind-of (Truth a) (Truth b) e = refl
same_kind-of (Dint a) (Dint b) e = refl
same_kind-of (Time a) (Time b) e = refl
same_kind-of (Truth a) (Dint b) e = cc
same_kind-of (Dint a) (Truth b) e = cc
same_kind-of (Time a) (Truth b) e = cc
same_kind-of third fourth e = cc

-- a value of the place's kind can be written there
pub written-there : (store : Store) (place : Location) (value : Value) → slot_at store place ≡ Some (slot_of_kind (kind_of value)) → (new : Store) × (written store place value ≡ Ok new) × SameSlots store new
written-there store place value e =
    let old = value_there store place (kind_of value) e in (
      with_content store place (Plain value),
      ap (λ (r : Result Value Reason). elim r as (λ x. Result Store Reason) [ Ok o ↦ (if same_kind o value then Ok (with_content store place (Plain value)) else Err WrongKind) | Err reason ↦ Err reason ]) old.1
          ∙ ap (λ b. if b then Ok (with_content store place (Plain value)) else Err WrongKind) (same_kind-of old.0 value old.2),
      with_content-keeps store place (Plain value) e,
    )

-- below a name, and elsewhere
pub content_at-below : (name : Name) (places : List (List Name × Content)) (rest : List (List Name × Content)) (path : List Name) (content : Content) → content_at places path ≡ Some content → content_at (below name places ++ rest) (name ∷ path) ≡ Some content
content_at-below name [] rest path content e = cc
content_at-below name (p ∷ places) rest path content e =
    let step : (b : Bool) → (if b then Some p.1 else content_at places path) ≡ Some content → (if b then Some p.1 else content_at (below name places ++ rest) (name ∷ path)) ≡ Some content =
    elim [ true ↦ λ f. f | false ↦ λ f. content_at-below name places rest path content f ]
    in
    rw (same_name-refl name) (step (same_path p.0 path) e)

pub content_at-alongside : (other : Name) (places : List (List Name × Content)) (rest : List (List Name × Content)) (name : Name) (path : List Name) → same_name other name ≡ false → content_at (below other places ++ rest) (name ∷ path) ≡ content_at rest (name ∷ path)
content_at-alongside other [] rest name path e = refl
content_at-alongside other (p ∷ places) rest name path e = rw e (content_at-alongside other places rest name path e)

pub Some-same : {X : Type 0} (a b : X) → Some a ≡ Some b → b ≡ a
Some-same a b e = cc

-- the places of a unit's variables, if the first variable of that name has this type
abbrev pub places_of : List ProgramUnit → Variable → List (List Name × Content)
places_of before v = variable_places (block_places before) (type_named before v.type_name) v.initial

pub found_variable : (before : List ProgramUnit) (vs : List Variable) (name : Name) (v : Variable) (path : List Name) (content : Content) → find (λ u. same_name u.name name) vs ≡ Some v → content_at (places_of before v) path ≡ Some content → content_at (flat_map (λ u. below u.name (places_of before u)) vs) (name ∷ path) ≡ Some content
found_variable before [] name v path content f e = cc
found_variable before (u ∷ vs) name v path content f e =
    let step : (b : Bool) → same_name u.name name ≡ b → (if b then Some u else find (λ (w : Variable). same_name w.name name) vs) ≡ Some v → content_at (below u.name (places_of before u) ++ flat_map (λ (w : Variable). below w.name (places_of before w)) vs) (name ∷ path) ≡ Some content =
    elim [
      | true ↦ λ same g. subst (λ (n : Name). content_at (below u.name (places_of before u) ++ flat_map (λ (w : Variable). below w.name (places_of before w)) vs) (n ∷ path) ≡ Some content) (same_name-sound u.name name same)
          (content_at-below u.name (places_of before u) (flat_map (λ (w : Variable). below w.name (places_of before w)) vs) path content (subst (λ (w : Variable). content_at (places_of before w) path ≡ Some content) (Some-same u v g) e))
      | false ↦ λ differs g. content_at-alongside u.name (places_of before u) (flat_map (λ (w : Variable). below w.name (places_of before w)) vs) name path differs ∙ found_variable before vs name v path content g e
    ]
    in
    step (same_name u.name name) refl f

-- what a unit's variable of that name has, its unit has below the name
pub own_content : (before : List ProgramUnit) (unit : ProgramUnit) (name : Name) (v : Variable) (path : List Name) (content : Content) → variable_named unit name ≡ Some v → content_at (places_of before v) path ≡ Some content → content_at (unit_places before unit) (name ∷ path) ≡ Some content
own_content before unit name v path content f e = found_variable before (variables_of unit) name v path content f e

-- a first value is of its kind
pub first_content-slot : (kind : Kind) (initial : Option Initial) → slot_of (first_content kind initial) ≡ slot_of_kind kind
first_content-slot KindBool None = refl
first_content-slot KindDint None = refl
first_content-slot KindTime None = refl
first_content-slot KindBool (Some initial) = literal initial.value
  where
    literal : (value : Value) → slot_of (Rattle.wc_model.specs.Language.Store.literal_as KindBool value) ≡ SlotBool
    literal (Truth b) = refl
    literal (Dint n) = refl
    literal (Time t) = refl
first_content-slot KindDint (Some initial) = literal initial.value
  where
    literal : (value : Value) → slot_of (Rattle.wc_model.specs.Language.Store.literal_as KindDint value) ≡ SlotDint
    literal (Truth b) = refl
    literal (Dint n) = refl
    literal (Time t) = refl
first_content-slot KindTime (Some initial) = literal initial.value
  where
    literal : (value : Value) → slot_of (Rattle.wc_model.specs.Language.Store.literal_as KindTime value) ≡ SlotTime
    literal (Truth b) = refl
    literal (Dint n) = refl
    literal (Time t) = refl

-- what is found by a name has the name
pub found_name : (vs : List Variable) (name : Name) (v : Variable) → find (λ u. same_name u.name name) vs ≡ Some v → v.name ≡ name
found_name [] name v f = cc
found_name (u ∷ vs) name v f =
    let step : (b : Bool) → same_name u.name name ≡ b → (if b then Some u else find (λ (w : Variable). same_name w.name name) vs) ≡ Some v → v.name ≡ name =
    elim [
      | true ↦ λ same g. ap (λ (w : Variable). w.name) (Some-same u v g) ∙ same_name-sound u.name name same
      | false ↦ λ differs g. found_name vs name v g
    ]
    in
    step (same_name u.name name) refl f

-- a plain variable's place is of its kind
pub plain_slot : (store : Store) (names : List Name) (scope : Scope) → FitsScope store names scope → (name : Name) (v : Variable) (kind : Kind) → variable_named scope.unit name ≡ Some v → type_named scope.before v.type_name ≡ Some (Elementary kind) → slot_at store (Path (names ++ v.name ∷ [])) ≡ Some (slot_of_kind kind)
plain_slot store names scope fits name v kind found typed =
    let here : content_at (places_of scope.before v) [] ≡ Some (first_content kind v.initial) = ap (λ t. content_at (variable_places (block_places scope.before) t v.initial) []) typed in
    let there = fits.own (name ∷ []) (first_content kind v.initial) (own_content scope.before scope.unit name v [] (first_content kind v.initial) found here) in
    ap (λ (n : Name). slot_at store (Path (names ++ n ∷ []))) (found_name (variables_of scope.unit) name v found) ∙ (there ∙ ap Some (first_content-slot kind v.initial))

-- the places of a block are those of its unit
pub block_places-found : (before : List ProgramUnit) (name : Name) (unit : ProgramUnit) (earlier : List ProgramUnit) → block_named before name ≡ Some (unit, earlier) → block_places before name ≡ unit_places earlier unit
block_places-found [] name unit earlier e = cc
block_places-found (u ∷ before) name unit earlier e =
    let this : ProgramUnit × List ProgramUnit = (u, before) in
    let that : ProgramUnit × List ProgramUnit = (unit, earlier) in
    let block : (b : Bool) → (if b then Some this else None) ≡ Some that → unit_places before u ≡ unit_places earlier unit =
    elim [ true ↦ λ f. ap (λ (p : ProgramUnit × List ProgramUnit). unit_places p.1 p.0) (sym (Some-same this that f)) | false ↦ λ f. cc ]
    in
    let step : (b : Bool) → (elim b [ true ↦ (if is_block u then Some this else None) | false ↦ block_named before name ]) ≡ Some that → (elim b [ true ↦ places_declared (block_places before) before u | false ↦ block_places before name ]) ≡ unit_places earlier unit =
    elim [ true ↦ λ f. block (is_block u) f | false ↦ λ f. block_places-found before name unit earlier f ]
    in
    step (same_name u.name.name name) e
