-- The fields of the standard blocks, as the code's table has them, and the directly represented variables by their number in a program's
-- frame. (No rule of the language.)
use Rattle.wc_model.specs.declared.kind.Kind.TheVariants as kinds
use Rattle.wc_model.specs.declared.kind.SlotKind.TheVariants as slots
use Rattle.wc_model.specs.declared.source.Section.TheVariants as sections
use Rattle.std.specs.Prelude.{Bool, true, false, List, filter, Option, Some, None, if◌then◌else◌, ℕ, ◌+◌, ◌-◌, ◌%◌, ◌||◌, nat_eq, nat_lt, length, slice_index}
use Rattle.wc_model.specs.Definitions.{Member, elementary_kind, Name, name_of, Content, Moment, Phase, zero_of, DirectVariable, InputBit, StatusBit, Weight, OutputBit, OutputWord}
use Rattle.wc_model.specs.declared.kind.Kind.{Kind}
use Rattle.wc_model.specs.declared.kind.SlotKind.{SlotKind}
use Rattle.wc_model.specs.declared.source.Section.{Section}
use Rattle.wc_built_in.specs.declared.fields.StandardField.{StandardField}

-- what a slot of this kind holds if it holds 0
abbrev pub zero_content : SlotKind → Content
zero_content slots.Bool = zero_of kinds.Bool
zero_content slots.Dint = zero_of kinds.Dint
zero_content slots.Time = zero_of kinds.Time
zero_content slots.Moment = Moment 0
zero_content slots.Phase = Phase 0

-- the kind of the values that a slot of this kind holds: what a timer keeps has none
abbrev pub value_kind : SlotKind → Option Kind
value_kind slots.Bool = Some kinds.Bool
value_kind slots.Dint = Some kinds.Dint
value_kind slots.Time = Some kinds.Time
value_kind slots.Moment = None
value_kind slots.Phase = None

-- a field with what it holds at first
abbrev pub field_content : StandardField → Name × Content
field_content f = (name_of f.name.now, zero_content f.slot)

-- a text can name what is in this section of a standard block
abbrev pub is_named : Section → Bool
is_named sections.Input = true
is_named sections.Output = true
is_named sections.Own = false

-- the inputs and outputs among fields
abbrev pub named_fields : List StandardField → List StandardField
named_fields fields = filter (λ f. is_named f.section) fields

-- what a text sees after an instance and a dot: a section and a kind
pub record Seen : Type 0 where
  pub section : Section
  pub kind : Option Kind

abbrev pub field_seen : StandardField → Seen
field_seen f = record { section = f.section; kind = value_kind f.slot }

abbrev pub member_seen : Member → Seen
member_seen m = record { section = m.section; kind = elementary_kind m.type }

-- the same with its name
abbrev pub named_field : StandardField → Name × Seen
named_field f = (name_of f.name.now, field_seen f)

abbrev pub named_member : Member → Name × Seen
named_member m = (m.name, member_seen m)

-- what a text sees of a field, if it can name it
abbrev pub named_seen : StandardField → Option Seen
named_seen f = if is_named f.section then Some (field_seen f) else None

-- the directly represented variables, by their number in order
abbrev pub direct_at : ℕ → DirectVariable
direct_at n = if nat_lt n 16 then InputBit n else (if nat_lt n 22 then StatusBit (n - 16) else (if nat_lt n 25 then Weight (n - 22) else (if nat_lt n 41 then OutputBit (n - 25) else OutputWord (n - 41))))

-- the number of the first variable whose address has these after its `%`: `d` makes it a word, `1` the byte 1
abbrev pub first_variable : ℕ → ℕ → ℕ → ℕ
first_variable letter kind byte = if nat_eq letter 105 then (if nat_eq kind 100 then 22 else (if nat_eq kind 49 || nat_eq byte 49 then 16 else 0)) else (if nat_eq kind 100 then 41 else 25)

-- the only number that a name can have as an address: one that is not an address may give any
abbrev pub only_number : Name → ℕ
only_number name =
    if nat_lt (length name) 4
    then 45
    else first_variable (slice_index name 1) (slice_index name 2) (slice_index name 3) + (if nat_eq (slice_index name (length name - 2)) 49 then 10 else 0) + slice_index name (length name - 1) % 16
