-- What the names of a unit represent (IEC 61131-3:2003, 2.4.3 and 2.5.2). Units that come before are given newest first.
use Rattle.std.specs.Prelude.{ℕ, Bool, true, false, List, [], ◌∷◌, map, Option, Some, None, find, codes, if◌then◌else◌, flat_map, bytes_eq}
use Rattle.wc_model.specs.Language.Names.{Name}
use Rattle.wc_model.specs.Language.Tree.{Declaration, ProgramUnit}
use Rattle.wc_model.specs.Text.Keywords.{block_word, kind_word}
use Rattle.wc_model.specs.declared.block.StandardBlock.{StandardBlock}
use Rattle.wc_model.specs.declared.block.StandardBlock.TheVariants.{RTrig, Sr, Rs, Ctu, Ton, Tof, Tp}
use Rattle.wc_model.specs.declared.kind.Kind.{Kind}
use Rattle.wc_model.specs.declared.kind.Kind.TheVariants.{Bool as KindBool, Dint as KindDint, Time as KindTime}
use Rattle.wc_model.specs.declared.source.Initial.{Initial}
use Rattle.wc_model.specs.declared.source.Section.{Section}
use Rattle.wc_model.specs.declared.source.Section.TheVariants.{Input, Output}
use Rattle.wc_model.specs.declared.source.UnitKind.TheVariants.{FunctionBlock, Program}

-- one name and the other are the same
abbrev pub same_name : Name → Name → Bool
same_name a b = bytes_eq a b

-- what a variable is: of an elementary type, or an instance of a standard block or of a block of the text
pub data VariableType : Type 0 where
  Elementary : (kind : Kind) → VariableType
  Standard : (block : StandardBlock) → VariableType
  Block : (name : Name) → VariableType

-- a declared variable
pub record Variable : Type 0 where
  pub name : Name
  pub line : ℕ
  pub section : Section
  pub type_name : Name
  pub initial : Option Initial

-- the variables of one declaration, in written order
abbrev pub declared_by : Declaration → List Variable
declared_by d = map (λ w. record { name = w.name; line = w.line; section = d.section; type_name = d.type_name.name; initial = d.initial }) d.names

-- the variables of a unit, in text order
abbrev pub variables_of : ProgramUnit → List Variable
variables_of unit = flat_map declared_by unit.declarations

-- the elementary types, by name
abbrev pub elementary_types : List (Name × Kind)
elementary_types = (kind_word KindBool, KindBool) ∷ (kind_word KindDint, KindDint) ∷ (kind_word KindTime, KindTime) ∷ []

-- the standard blocks, by name
abbrev pub standard_blocks : List (Name × StandardBlock)
standard_blocks =
    (block_word RTrig, RTrig) ∷ (block_word Sr, Sr) ∷ (block_word Rs, Rs) ∷ (block_word Ctu, Ctu) ∷ (block_word Ton, Ton) ∷ (block_word Tof, Tof)
    ∷ (block_word Tp, Tp) ∷ []

-- what is next to a name
abbrev pub named_in : {X : Type 0} → List (Name × X) → Name → Option X
named_in [] name = None
named_in (entry ∷ entries) name = if same_name entry.0 name then Some entry.1 else named_in entries name

-- a unit is a function block
abbrev pub is_block : ProgramUnit → Bool
is_block unit = elim unit.kind [ FunctionBlock ↦ true | Program ↦ false ]

-- the function block of that name among the units, with the units before it
abbrev pub block_named : List ProgramUnit → Name → Option (ProgramUnit × List ProgramUnit)
block_named [] name = None
block_named (unit ∷ before) name = elim (same_name unit.name.name name) [ true ↦ (if is_block unit then Some (unit, before) else None) | false ↦ block_named before name ]

-- the type that a name represents after these units
abbrev pub block_type : List ProgramUnit → Name → Option VariableType
block_type before name = elim (block_named before name) [ Some found ↦ Some (Block name) | None ↦ None ]

abbrev pub standard_type : List ProgramUnit → Name → Option VariableType
standard_type before name = elim (named_in standard_blocks name) [ Some block ↦ Some (Standard block) | None ↦ block_type before name ]

abbrev pub type_named : List ProgramUnit → Name → Option VariableType
type_named before name = elim (named_in elementary_types name) [ Some kind ↦ Some (Elementary kind) | None ↦ standard_type before name ]

-- the variable of that name in a unit
abbrev pub variable_named : ProgramUnit → Name → Option Variable
variable_named unit name = find (λ v. same_name v.name name) (variables_of unit)

-- a name that can follow an instance and a dot: the section in which its block declares it, and its type
pub record Member : Type 0 where
  pub name : Name
  pub section : Section
  pub type : VariableType

-- a member of an elementary type
abbrev pub member : Name → Section → Kind → Member
member name section kind = record { name = name; section = section; type = Elementary kind }

-- the inputs and outputs of the standard blocks; their further fields have no name in texts
abbrev pub standard_members : StandardBlock → List Member
standard_members RTrig = member (codes "clk") Input KindBool ∷ member (codes "q") Output KindBool ∷ []
standard_members Sr = member (codes "s1") Input KindBool ∷ member (codes "r") Input KindBool ∷ member (codes "q1") Output KindBool ∷ []
standard_members Rs = member (codes "s") Input KindBool ∷ member (codes "r1") Input KindBool ∷ member (codes "q1") Output KindBool ∷ []
standard_members Ctu = member (codes "cu") Input KindBool ∷ member (codes "r") Input KindBool ∷ member (codes "pv") Input KindDint ∷ member (codes "q") Output KindBool ∷ member (codes "cv") Output KindDint ∷ []
standard_members Ton = member (codes "in") Input KindBool ∷ member (codes "pt") Input KindTime ∷ member (codes "q") Output KindBool ∷ member (codes "et") Output KindTime ∷ []
standard_members Tof = member (codes "in") Input KindBool ∷ member (codes "pt") Input KindTime ∷ member (codes "q") Output KindBool ∷ member (codes "et") Output KindTime ∷ []
standard_members Tp = member (codes "in") Input KindBool ∷ member (codes "pt") Input KindTime ∷ member (codes "q") Output KindBool ∷ member (codes "et") Output KindTime ∷ []

-- a variable of a block as a member, if its type is known
abbrev pub as_member : List ProgramUnit → Variable → List Member
as_member before v = elim (type_named before v.type_name) [ Some type ↦ record { name = v.name; section = v.section; type = type } ∷ [] | None ↦ [] ]

-- the members of an instance of a block of the text
abbrev pub block_members : List ProgramUnit → Name → List Member
block_members before name = elim (block_named before name) [ Some found ↦ flat_map (as_member found.1) (variables_of found.0) | None ↦ [] ]

-- the members of what has this type
abbrev pub members_of : List ProgramUnit → VariableType → List Member
members_of before (Elementary kind) = []
members_of before (Standard block) = standard_members block
members_of before (Block name) = block_members before name

-- the member of that name
abbrev pub member_named : List Member → Name → Option Member
member_named members name = find (λ m. same_name m.name name) members
