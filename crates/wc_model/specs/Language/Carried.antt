-- The store of a new text after a change between two scans: what keeps its value, place by place. (The profile's own.)
use Rattle.std.specs.Prelude.{Bool, false, List, [], ◌∷◌, reverse, Option, Some, None, if◌then◌else◌}
use Rattle.std.specs.List.{list_any}
use Rattle.wc_model.specs.Language.Declarations.{VariableType, Elementary, Standard, Block, same_name, type_named, variable_named, block_named}
use Rattle.wc_model.specs.Language.DirectVariables.{DirectVariable, direct_variables, kind_of_direct}
use Rattle.wc_model.specs.Language.Kinds.{is_kind}
use Rattle.wc_model.specs.Language.Names.{Name}
use Rattle.wc_model.specs.Language.Scans.{initial_of}
use Rattle.wc_model.specs.Language.Store.{Location, Direct, Path, Store, same_direct, standard_fields}
use Rattle.wc_model.specs.Language.Tree.{ProgramUnit, Text}
use Rattle.wc_model.specs.Text.Keywords.{block_word}
use Rattle.wc_model.specs.declared.block.StandardBlock.{StandardBlock}
use Rattle.wc_model.specs.declared.kind.Kind.{Kind}

-- what names lead to: a place of a kind, or a field of an instance of a standard block
pub data Lead : Type 0 where
  ToPlace : (kind : Kind) → Lead
  ToField : (block : StandardBlock) → Lead

-- one standard block and the other are the same: they have the same name
abbrev pub same_block : StandardBlock → StandardBlock → Bool
same_block a b = same_name (block_word a) (block_word b)

-- the one name after an instance of a standard block is that of a field
abbrev pub field_lead : StandardBlock → List Name → Option Lead
field_lead block (field ∷ []) = if list_any (λ f. same_name f.0 field) (standard_fields block) then Some (ToField block) else None
field_lead block [] = None
field_lead block (field ∷ other ∷ names) = None

-- nothing follows a plain variable
abbrev pub plain_lead : Kind → List Name → Option Lead
plain_lead kind [] = Some (ToPlace kind)
plain_lead kind (name ∷ names) = None

-- what names lead to from a unit, with the units before it
abbrev pub lead_by : (List ProgramUnit → ProgramUnit → Option Lead) → List ProgramUnit → Option VariableType → List Name → Option Lead
lead_by onward before None names = None
lead_by onward before (Some (Elementary kind)) names = plain_lead kind names
lead_by onward before (Some (Standard block)) names = field_lead block names
lead_by onward before (Some (Block block)) names = elim (block_named before block) [ Some found ↦ onward found.1 found.0 | None ↦ None ]

abbrev pub lead_from : List Name → List ProgramUnit → ProgramUnit → Option Lead
lead_from [] before unit = None
lead_from (name ∷ names) before unit = elim (variable_named unit name) [ Some v ↦ lead_by (lead_from names) before (type_named before v.type_name) names | None ↦ None ]

-- what a place of a text is
abbrev pub direct_lead : DirectVariable → Option Lead
direct_lead v = if list_any (same_direct v) direct_variables then Some (ToPlace (kind_of_direct v)) else None

abbrev pub path_lead : List ProgramUnit → List Name → Option Lead
path_lead [] names = None
path_lead (program ∷ before) names = lead_from names before program

abbrev pub lead_of : Text → Location → Option Lead
lead_of text (Direct v) = direct_lead v
lead_of text (Path names) = path_lead (reverse text) names

-- the same names lead to a place of the same kind outside standard blocks, or into the same standard block
abbrev pub same_lead : Option Lead → Option Lead → Bool
same_lead (Some (ToPlace a)) (Some (ToPlace b)) = is_kind a b
same_lead (Some (ToField a)) (Some (ToField b)) = same_block a b
same_lead a b = false

-- a place keeps its value
abbrev pub keeps : Text → Text → Location → Bool
keeps old new place = same_lead (lead_of old place) (lead_of new place)

-- the store of the new text: what is kept, and the first values elsewhere
abbrev pub carried : Text → Store → Text → Store
carried old store new = λ place. if keeps old new place then store place else initial_of new place
