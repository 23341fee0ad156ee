-- The slots of a frame, part by part: which variable of a unit has a place, and where a variable of another unit has the place that
-- keeps its value. (No rule of the language.)
use Rattle.wc_names.specs.declared.declared_type.DeclaredType.TheVariants as numbered
use Rattle.std.specs.Prelude.{◌≡◌, ℕ, ◌-◌, ◌≤◌, List, ◌∷◌, Option, Some, None, if◌then◌else◌, slice_get, Bool, true, false, [], ◌++◌, length, map}
use Rattle.std.specs.List.{position_from}
use Rattle.wc_model.specs.Definitions.{lead_from, same_block, same_lead, Variable, type_named, variable_named, is_kind, Name, Content, block_places, same_path, unit_places, variable_places, zero_of, ProgramUnit, direct_variables, kind_of_direct, content_number, slot_kind_of}
use Rattle.wc_model.specs.declared.block.StandardBlock.{StandardBlock}
use Rattle.wc_model.specs.declared.kind.Kind.{Kind}
use Rattle.wc_laws_language.specs.FirstNumbers.{AreFirst}
use Rattle.wc_names.specs.RepresentsText.{first_place, type_at, Represents}
use Rattle.wc_names.specs.declared.declared_type.DeclaredType.{DeclaredType}
use Rattle.wc_names.specs.declared.variable.Variable.{Variable as Row}
use Rattle.wc_names.specs.declared.frame.Frame.{Frame}
use Rattle.wc_names.specs.declared.unit_table.UnitTable.{UnitTable}

-- the place with this number, at which this entry is, is one of those of the variable of that name, whose row this is
pub record HasPlace (before : List ProgramUnit) (u : ProgramUnit) (number : ℕ) (entry : List Name × Content) (name : Name) (row : Row) : Type 0 where
  pub variable : Variable
  pub named : variable_named u name ≡ Some variable
  pub declared : type_at before variable.type_name ≡ Some row.declared
  pub begins : row.first ≤ number
  pub inner : List Name × Content
  pub represents : slice_get (variable_places (block_places before) (type_named before variable.type_name) variable.initial) (number - row.first) ≡ Some inner
  pub entry_is : entry ≡ (name ∷ inner.0, inner.1)

-- the number of a plain variable's place among those of a variable of this type, if it keeps its value
abbrev pub plain_within : Kind → DeclaredType → Option ℕ
plain_within kind (numbered.Elementary k) = if is_kind k kind then Some 0 else None
plain_within kind (numbered.Standard block) = None
plain_within kind (numbered.Block number) = None

-- the number of a standard block's field with this number among those of a variable of this type, if it keeps its value
abbrev pub field_within : StandardBlock → ℕ → DeclaredType → Option ℕ
field_within block n (numbered.Elementary k) = None
field_within block n (numbered.Standard b) = if same_block b block then Some n else None
field_within block n (numbered.Block number) = None

-- the number of a place of an old unit to which these names lead, if the place of a new unit keeps its value
abbrev pub kept_from : List ProgramUnit → ProgramUnit → List ProgramUnit → ProgramUnit → List Name → Option ℕ
kept_from before u old_before old names =
    if same_lead (lead_from names old_before old) (lead_from names before u) then position_from (λ e. same_path e.0 names) (first_place old) (unit_places old_before old) else None

-- each slot of a frame holds what it may before the first scan
abbrev pub HoldsFirst : Frame → Type 0
HoldsFirst frame = AreFirst frame.kinds.items frame.initials.items

-- what places hold at first
abbrev pub contents_of : List (List Name × Content) → List Content
contents_of places = map (λ p. p.1) places

-- the slots of these contents are added
pub record IsGrown (old new : Frame) (contents : List Content) : Type 0 where
  pub kinds : new.kinds.items ≡ old.kinds.items ++ map slot_kind_of contents
  pub initials : new.initials.items ≡ old.initials.items ++ map content_number contents

-- a frame to which nothing but the directly represented variables is added, and to a block's not even these
abbrev pub direct_contents : Bool → List Content
direct_contents true = []
direct_contents false = map (λ v. zero_of (kind_of_direct v)) direct_variables

pub record IsStarted (is_block : Bool) (frame : Frame) : Type 0 where
  pub kinds : frame.kinds.items ≡ map slot_kind_of (direct_contents is_block)
  pub initials : frame.initials.items ≡ map content_number (direct_contents is_block)

-- the slots of an instance of each of the first n units, in text order
pub record AreFinished (units : List UnitTable) (count : ℕ) (frames : List Frame) : Type 0 where
  pub counted : length frames ≡ count
  pub kinds : (before : List ProgramUnit) (u : ProgramUnit) (frame : Frame) → Represents units before u → slice_get frames (length before) ≡ Some frame → frame.kinds.items ≡ map slot_kind_of (contents_of (unit_places before u))
  pub initials : (before : List ProgramUnit) (u : ProgramUnit) (frame : Frame) → Represents units before u → slice_get frames (length before) ≡ Some frame → frame.initials.items ≡ map content_number (contents_of (unit_places before u))

-- each slot of each frame holds what it may before the first scan
abbrev pub EachHoldsFirst : List Frame → Type 0
EachHoldsFirst frames = (k : ℕ) (frame : Frame) → slice_get frames k ≡ Some frame → HoldsFirst frame
