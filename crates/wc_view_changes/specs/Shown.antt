-- The variables of a program through all depths of its instances, in the order of declaration, and what the code's values represent of
-- them. (No rule of the language.)
use Rattle.wc_model.specs.Language.Store as store
use Rattle.wc_model.specs.declared.fault.Fault.TheVariants as fault
use Rattle.wc_view_changes.specs.declared.shape.FrameEntry.TheVariants as shape
use Rattle.wc_names.specs.declared.declared_type.DeclaredType.TheVariants as numbered
use Rattle.std.specs.Prelude.{ℕ, true, false, List, [], ◌∷◌, ◌++◌, map, reverse, Option, Some, None, ◌≡◌, Bool, Result, OnOk, IsOkUnless, flat_map}
use Rattle.std.proofs.Common.{Vec, Global}
use Rattle.wc_model.specs.Definitions.{VariableType, Elementary, Standard, Block, same_name, Name, name_of, Scope, type_of, Content, first_content, standard_fields, unit_view, same_block, is_kind}
use Rattle.wc_model.specs.declared.block.StandardBlock.{StandardBlock}
use Rattle.wc_model.specs.declared.kind.Kind.{Kind}
use Rattle.wc_model.specs.declared.source.Decl.{Decl}
use Rattle.wc_model.specs.declared.source.Initial.{Initial}
use Rattle.wc_model.specs.declared.source.Source.{Source}
use Rattle.wc_model.specs.declared.source.Unit.{Unit as CodeUnit}
use Rattle.wc_model.specs.declared.fault.Fault.{Fault}
use Rattle.wc_names.specs.declared.declared_type.DeclaredType.{DeclaredType}
use Rattle.wc_view_changes.specs.declared.shape.FrameEntry.{FrameEntry as CodeShape}

-- what is in a frame under one name: a plain variable of a kind with what it holds at first, or a standard block's instance
pub data FrameEntry : Type 0 where
  Plain : (kind : Kind) (content : Content) → FrameEntry
  Instance : (block : StandardBlock) → FrameEntry

-- such a variable, with the instances through which the program reaches it, the outermost first
pub record Shown : Type 0 where
  pub instances : List (List ℕ)
  pub name : List ℕ
  pub shape : FrameEntry

-- a name as it is declared, and the first value that is written after it
pub record Declared : Type 0 where
  pub name : List ℕ
  pub initial : Option Initial

-- the names of a declaration, and those of a unit, in the order of declaration
abbrev pub declared_in : Decl → List Declared
declared_in d = map (λ word. record { name = word.text.now; initial = d.initial }) d.names.items

abbrev pub declared_of : CodeUnit → List Declared
declared_of unit = flat_map declared_in unit.declarations.items

-- the unit as the definitions see it, with those before it
abbrev pub seen : List CodeUnit → CodeUnit → Scope
seen before unit = record { before = map unit_view before; unit = unit_view unit }

-- the same variable, seen from outside an instance
abbrev pub inside : List ℕ → Shown → Shown
inside instance s = record { instances = instance ∷ s.instances; name = s.name; shape = s.shape }

-- what a declared name adds, by the type that it has; `of_block` gives the variables of an instance of a block of the text
abbrev pub shown_by : (Name → List Shown) → Declared → Option VariableType → List Shown
shown_by of_block v None = []
shown_by of_block v (Some (Elementary kind)) = record { instances = []; name = v.name; shape = Plain kind (first_content kind v.initial) } ∷ []
shown_by of_block v (Some (Standard block)) = record { instances = []; name = v.name; shape = Instance block } ∷ []
shown_by of_block v (Some (Block name)) = map (inside v.name) (of_block name)

-- what declared names of a unit add, one after another
abbrev pub shown_all : (Name → List Shown) → Scope → List Declared → List Shown
shown_all of_block scope vs = flat_map (λ v. shown_by of_block v (type_of scope (name_of v.name))) vs

-- the variables of an instance of the block of that name, among these units, newest first
abbrev pub shown_in : List CodeUnit → Name → List Shown
shown_in [] name = []
shown_in (unit ∷ before) name = elim (same_name (name_of unit.name.text.now) name) [ true ↦ shown_all (shown_in before) (seen before unit) (declared_of unit) | false ↦ shown_in before name ]

-- the variables of a unit
abbrev pub shown_from : List CodeUnit → CodeUnit → List Shown
shown_from before unit = shown_all (shown_in before) (seen before unit) (declared_of unit)

-- the variables of a text's program, which is last
abbrev pub shown_of : Source → List Shown
shown_of source = elim (reverse source.units.items) [ program ∷ before ↦ shown_from before program | [] ↦ [] ]

-- the names that lead to a variable, and its places: its own, or each field of the instance
abbrev pub names_of : Shown → List Name
names_of s = map name_of s.instances ++ name_of s.name ∷ []

abbrev pub paths_at : FrameEntry → List Name → List (List Name)
paths_at (Plain kind content) names = names ∷ []
paths_at (Instance block) names = map (λ field. names ++ field.0 ∷ []) (standard_fields block)

abbrev pub paths_of : Shown → List (List Name)
paths_of s = paths_at s.shape (names_of s)

-- a form
abbrev pub shape_view : CodeShape → FrameEntry
shape_view (shape.Plain kind value) = Plain kind (store.Plain value)
shape_view (shape.Instance block) = Instance block

-- a variable of this type has this form
abbrev pub has_shape : Option DeclaredType → FrameEntry → Bool
has_shape (Some (numbered.Elementary k)) (Plain kind content) = is_kind k kind
has_shape (Some (numbered.Standard b)) (Instance block) = same_block b block
has_shape type shape = false

-- these bytes are put at the end of a text, or memory for them is refused
abbrev pub Puts : {A : Type 0} → Vec ℕ Global → Vec ℕ Global → Result A Fault → List ℕ → Type 0
Puts old new result bytes = OnOk result (new.items ≡ old.items ++ bytes) × IsOkUnless result fault.Memory
