-- What the places of a store hold, by their kinds alone, also over a change of the text between two scans.
use Rattle.std.specs.Prelude.{◌≡◌, true, List, [], ◌∷◌, ◌++◌, Option, Some, None, if◌then◌else◌, ◌⊎◌, option_map}
use Rattle.std.specs.List.{list_any}
use Rattle.wc_model.specs.Definitions.{DirectVariable, direct_variables, kind_of_direct, Name, Scope, kind_of, field_at, Lead, ToField, carried, lead_of, same_name, initial_of, Text, IsProgramLast}
use Rattle.wc_model.specs.Language.Store.{Location, Direct, Path, Content, Plain, Moment, Phase, Store, same_path, same_direct, unit_places, standard_fields}
use Rattle.wc_model.specs.declared.kind.Kind.{Kind}
use Rattle.wc_model.specs.declared.kind.Kind.TheVariants.{Bool as KindBool, Dint as KindDint, Time as KindTime}
use Rattle.wc_model.specs.declared.kind.SlotKind.{SlotKind}
use Rattle.wc_model.specs.declared.kind.SlotKind.TheVariants.{Bool as SlotBool, Dint as SlotDint, Time as SlotTime, Moment as SlotMoment, Phase as SlotPhase}
use Rattle.wc_model.specs.declared.block.StandardBlock.{StandardBlock}

-- the kind of place that holds a kind of value
abbrev pub slot_of_kind : Kind → SlotKind
slot_of_kind KindBool = SlotBool
slot_of_kind KindDint = SlotDint
slot_of_kind KindTime = SlotTime

-- the kind of a content
abbrev pub slot_of : Content → SlotKind
slot_of (Plain value) = slot_of_kind (kind_of value)
slot_of (Moment moment) = SlotMoment
slot_of (Phase phase) = SlotPhase

-- the kind of what a store holds at a place
abbrev pub slot_at : Store → Location → Option SlotKind
slot_at store place = option_map slot_of (store place)

-- two stores hold the same kinds at the same places
abbrev pub SameSlots : Store → Store → Type 0
SameSlots old new = (place : Location) → slot_at new place ≡ slot_at old place

-- what the first of these places with that path holds
abbrev pub content_at : List (List Name × Content) → List Name → Option Content
content_at [] path = None
content_at (p ∷ places) path = if same_path p.0 path then Some p.1 else content_at places path

-- the store holds the kinds of these places, below these names
abbrev pub Holds : Store → List Name → List (List Name × Content) → Type 0
Holds store names places = (path : List Name) (content : Content) → content_at places path ≡ Some content → slot_at store (Path (names ++ path)) ≡ Some (slot_of content)

-- the store holds the kinds of the directly represented variables
abbrev pub HoldsDirect : Store → Type 0
HoldsDirect store = (variable : DirectVariable) → list_any (same_direct variable) direct_variables ≡ true → slot_at store (Direct variable) ≡ Some (slot_of_kind (kind_of_direct variable))

-- the store holds the kinds of a unit's frame, for the instance to which these names lead
pub record FitsScope (store : Store) (names : List Name) (scope : Scope) : Type 0 where
  pub own : Holds store names (unit_places scope.before scope.unit)
  pub direct : HoldsDirect store

-- a store that is carried over holds the kinds of what the new text declares, if both texts have a program
abbrev pub CarriedStoreHoldsItsKinds : Type 0
CarriedStoreHoldsItsKinds = (old new : Text) (store : Store) → IsProgramLast old → IsProgramLast new → SameSlots (initial_of old) store → SameSlots (initial_of new) (carried old store new)

-- two stores hold the same in each field of an instance of a standard block
abbrev pub HoldsTheSameFields : Store → Store → List Name → StandardBlock → Type 0
HoldsTheSameFields a b instance block = (field : Name) → list_any (λ f. same_name f.0 field) (standard_fields block) ≡ true → field_at a instance field ≡ field_at b instance field

-- An instance of a standard block goes on with all its fields, or starts over with all of them. So a history of calls
-- that its fields fit goes on to fit them, or none has come yet.
abbrev pub AStandardBlockIsKeptWhole : Type 0
AStandardBlockIsKeptWhole = (old new : Text) (store : Store) (instance : List Name) (block : StandardBlock) (field : Name) →
    lead_of new (Path (instance ++ field ∷ [])) ≡ Some (ToField block) →
    HoldsTheSameFields (carried old store new) store instance block ⊎ HoldsTheSameFields (carried old store new) (initial_of new) instance block

-- a text that takes its own place changes nothing, wherever names lead to
abbrev pub ATextForItselfIsNoChange : Type 0
ATextForItselfIsNoChange = (text : Text) (store : Store) (place : Location) (lead : Lead) → lead_of text place ≡ Some lead → carried text store text place ≡ store place
