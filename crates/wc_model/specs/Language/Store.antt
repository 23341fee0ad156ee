-- Places, what they hold, and the store as a map from places (IEC 61131-3:2003, 2.4.1 and 2.5.2.1).
use Rattle.std.specs.Prelude.{ℕ, ◌==◌, Bool, true, false, ◌&&◌, List, [], ◌∷◌, ◌++◌, map, Option, Some, None, Result, Ok, Err, pos, negsuc, if◌then◌else◌, codes, flat_map}
use Rattle.wc_model.specs.Language.Declarations.{VariableType, Elementary, Standard, Block, same_name, type_named, variables_of}
use Rattle.wc_model.specs.Language.DirectVariables.{DirectVariable, InputBit, StatusBit, Weight, OutputBit, OutputWord, direct_variables, kind_of_direct}
use Rattle.wc_model.specs.Language.Names.{Name}
use Rattle.wc_model.specs.Language.Reasons.{Reason, NoSuchPlace, WrongKind}
use Rattle.wc_model.specs.Language.Tree.{ProgramUnit}
use Rattle.wc_model.specs.declared.block.StandardBlock.{StandardBlock}
use Rattle.wc_model.specs.declared.block.StandardBlock.TheVariants.{RTrig, Sr, Rs, Ctu, Ton, Tof, Tp}
use Rattle.wc_model.specs.declared.kind.Kind.{Kind}
use Rattle.wc_model.specs.declared.kind.Kind.TheVariants.{Bool as KindBool, Dint as KindDint, Time as KindTime}
use Rattle.wc_model.specs.declared.source.Initial.{Initial}
use Rattle.wc_model.specs.declared.value.Value.{Value}
use Rattle.wc_model.specs.declared.value.Value.TheVariants.{Bool as Truth, Dint, Time}

-- a place: a directly represented variable, or the names that lead from the program through instances to a variable or a
-- field
pub data Location : Type 0 where
  Direct : (variable : DirectVariable) → Location
  Path : (names : List Name) → Location

-- what a place holds: a value, or what a timer keeps
pub data Content : Type 0 where
  Plain : (value : Value) → Content
  Moment : (moment : ℕ) → Content
  Phase : (phase : ℕ) → Content

-- the contents of the places that there are
abbrev pub Store : Type 0
Store = Location → Option Content

-- one direct variable and the other are the same
abbrev pub same_direct : DirectVariable → DirectVariable → Bool
same_direct (InputBit a) (InputBit b) = a == b
same_direct (StatusBit a) (StatusBit b) = a == b
same_direct (Weight a) (Weight b) = a == b
same_direct (OutputBit a) (OutputBit b) = a == b
same_direct (OutputWord a) (OutputWord b) = a == b
same_direct a b = false

-- one path and the other are the same
abbrev pub same_path : List Name → List Name → Bool
same_path [] [] = true
same_path (a ∷ as') (b ∷ bs) = same_name a b && same_path as' bs
same_path [] (b ∷ bs) = false
same_path (a ∷ as') [] = false

-- one place and the other are the same
abbrev pub same_place : Location → Location → Bool
same_place (Direct a) (Direct b) = same_direct a b
same_place (Path a) (Path b) = same_path a b
same_place (Direct a) (Path b) = false
same_place (Path a) (Direct b) = false

-- the store with this content at this place, and the same elsewhere
abbrev pub with_content : Store → Location → Content → Store
with_content store place content = λ other. if same_place place other then Some content else store other

-- the value at a place
abbrev pub value_at : Store → Location → Result Value Reason
value_at store place = elim (store place) [ Some content ↦ elim content [ Plain value ↦ Ok value | Moment moment ↦ Err NoSuchPlace | Phase phase ↦ Err NoSuchPlace ] | None ↦ Err NoSuchPlace ]

-- one value and the other are of one kind
abbrev pub same_kind : Value → Value → Bool
same_kind (Truth a) (Truth b) = true
same_kind (Dint a) (Dint b) = true
same_kind (Time a) (Time b) = true
same_kind a b = false

-- the store after a value of the place's kind is written there
abbrev pub written : Store → Location → Value → Result Store Reason
written store place value = elim (value_at store place) [ Ok old ↦ (if same_kind old value then Ok (with_content store place (Plain value)) else Err WrongKind) | Err reason ↦ Err reason ]

-- FALSE, 0 or T#0s
abbrev pub zero_of : Kind → Content
zero_of KindBool = Plain (Truth false)
zero_of KindDint = Plain (Dint (pos 0))
zero_of KindTime = Plain (Time (pos 0))

-- a literal as a value of a kind: a whole number 0 or 1 is a BOOL if one is wanted; another kind's literal counts for nothing
abbrev pub literal_as : Kind → Value → Content
literal_as KindBool (Dint n) = Plain (Truth (elim n [ pos k ↦ k == 1 | negsuc k ↦ false ]))
literal_as KindBool (Truth b) = Plain (Truth b)
literal_as KindBool (Time t) = zero_of KindBool
literal_as KindDint (Dint n) = Plain (Dint n)
literal_as KindDint (Truth b) = zero_of KindDint
literal_as KindDint (Time t) = zero_of KindDint
literal_as KindTime (Time t) = Plain (Time t)
literal_as KindTime (Truth b) = zero_of KindTime
literal_as KindTime (Dint n) = zero_of KindTime

-- what a variable of an elementary type has at first
abbrev pub first_content : Kind → Option Initial → Content
first_content kind None = zero_of kind
first_content kind (Some initial) = literal_as kind initial.value

-- the fields of a standard block in order, with what they hold at first
abbrev pub standard_fields : StandardBlock → List (Name × Content)
standard_fields RTrig = (codes "clk", zero_of KindBool) ∷ (codes "q", zero_of KindBool) ∷ (codes "m", zero_of KindBool) ∷ []
standard_fields Sr = (codes "s1", zero_of KindBool) ∷ (codes "r", zero_of KindBool) ∷ (codes "q1", zero_of KindBool) ∷ []
standard_fields Rs = (codes "s", zero_of KindBool) ∷ (codes "r1", zero_of KindBool) ∷ (codes "q1", zero_of KindBool) ∷ []
standard_fields Ctu = (codes "cu", zero_of KindBool) ∷ (codes "r", zero_of KindBool) ∷ (codes "pv", zero_of KindDint) ∷ (codes "q", zero_of KindBool) ∷ (codes "cv", zero_of KindDint) ∷ (codes "m", zero_of KindBool) ∷ []
standard_fields Ton = (codes "in", zero_of KindBool) ∷ (codes "pt", zero_of KindTime) ∷ (codes "q", zero_of KindBool) ∷ (codes "et", zero_of KindTime) ∷ (codes "run", zero_of KindBool) ∷ (codes "start", Moment 0) ∷ []
standard_fields Tof = (codes "in", zero_of KindBool) ∷ (codes "pt", zero_of KindTime) ∷ (codes "q", zero_of KindBool) ∷ (codes "et", zero_of KindTime) ∷ (codes "phase", Phase 0) ∷ (codes "start", Moment 0) ∷ []
standard_fields Tp = (codes "in", zero_of KindBool) ∷ (codes "pt", zero_of KindTime) ∷ (codes "q", zero_of KindBool) ∷ (codes "et", zero_of KindTime) ∷ (codes "phase", Phase 0) ∷ (codes "start", Moment 0) ∷ []

-- places below a name
abbrev pub below : Name → List (List Name × Content) → List (List Name × Content)
below name places = map (λ p. (name ∷ p.0, p.1)) places

-- the places of a variable, if `places_of_block` gives those of an instance of a block of the text
abbrev pub variable_places : (Name → List (List Name × Content)) → Option VariableType → Option Initial → List (List Name × Content)
variable_places places_of_block None initial = []
variable_places places_of_block (Some (Elementary kind)) initial = ([], first_content kind initial) ∷ []
variable_places places_of_block (Some (Standard block)) initial = map (λ f. (f.0 ∷ [], f.1)) (standard_fields block)
variable_places places_of_block (Some (Block name)) initial = places_of_block name

-- the places of the variables of a unit, in the order of declaration
abbrev pub places_declared : (Name → List (List Name × Content)) → List ProgramUnit → ProgramUnit → List (List Name × Content)
places_declared places_of_block before unit = flat_map (λ v. below v.name (variable_places places_of_block (type_named before v.type_name) v.initial)) (variables_of unit)

-- the places of an instance of the block of that name, among these units
abbrev pub block_places : List ProgramUnit → Name → List (List Name × Content)
block_places [] name = []
block_places (unit ∷ before) name = elim (same_name unit.name.name name) [ true ↦ places_declared (block_places before) before unit | false ↦ block_places before name ]

-- the places of a unit's variables, with what they hold at first
abbrev pub unit_places : List ProgramUnit → ProgramUnit → List (List Name × Content)
unit_places before unit = places_declared (block_places before) before unit

-- the frame of a program: the directly represented variables, and then its variables' places
abbrev pub program_frame : List ProgramUnit → ProgramUnit → List (Location × Content)
program_frame before program = map (λ v. (Direct v, zero_of (kind_of_direct v))) direct_variables ++ map (λ p. (Path p.0, p.1)) (unit_places before program)

-- the store with these contents at these places
abbrev pub store_of : List (Location × Content) → Store
store_of [] = λ place. None
store_of (entry ∷ entries) = λ place. if same_place entry.0 place then Some entry.1 else store_of entries place

-- the store of a program's declarations and defaults
abbrev pub initial_store : List ProgramUnit → ProgramUnit → Store
initial_store before program = store_of (program_frame before program)
