-- The paths of a body: traces in which every conditional may go either way, whatever the data, through all depths of
-- calls. The bound of a unit is the length of a longest one. (The profile's own.)
use Rattle.std.specs.Prelude.{◌≡◌, ℕ, ◌≤◌, List, [], ◌∷◌, ◌++◌, map, length, reverse, ◌⊎◌, Option, Some, None, true, false}
use Rattle.wc_model.specs.Language.Declarations.{VariableType, Elementary, Standard, Block, same_name}
use Rattle.wc_model.specs.Language.Meaning.{call_trace, carries}
use Rattle.wc_model.specs.Language.Names.{Name}
use Rattle.wc_model.specs.Language.Scopes.{Scope, type_of}
use Rattle.wc_model.specs.Language.Traces.{Item, At, StandardBody, Called}
use Rattle.wc_model.specs.Language.Tree.{Word, Assignment, Step, Load, Store, Apply, Negate, Jump, Call, Return, Lines, End, Alone, Plain, Nested, ProgramUnit, Text}
use Rattle.wc_model.specs.declared.operator.Condition.{Condition}
use Rattle.wc_model.specs.declared.operator.Condition.TheVariants.{Always, IfTrue, IfFalse}

-- the state of a path before a line: it executes it, looks for a label, or has returned
pub data Way : Type 0 where
  Onward : Way
  Toward : (label : Name) → Way
  Back : Way

-- a path that looks for this label goes onward from here
abbrev pub arriving_way : Option Word → Way → Way
arriving_way word Onward = Onward
arriving_way word Back = Back
arriving_way word (Toward label) = elim (carries word label) [ true ↦ Onward | false ↦ Toward label ]

-- a path ends at the end of a body, but not if a label is looked for
abbrev pub EndsThere : Way → List Item → Type 0
EndsThere Onward path = path ≡ []
EndsThere Back path = path ≡ []
EndsThere (Toward label) path = ⊥

-- the items of a call that is made, after its own line: the inputs that it assigns, its block's body, and the outputs that
-- it gives out
abbrev pub IsBodyPath : (Name → List Item → Type 0) → Option VariableType → List Item → Type 0
IsBodyPath block_path None items = ⊥
IsBodyPath block_path (Some (Elementary kind)) items = ⊥
IsBodyPath block_path (Some (Standard block)) items = items ≡ StandardBody ∷ []
IsBodyPath block_path (Some (Block name)) items = (path : List Item) × block_path name path × (items ≡ map Called path)

abbrev pub IsCallPath : (Name → List Item → Type 0) → Scope → ℕ → Name → List Assignment → List Item → Type 0
IsCallPath block_path scope line instance arguments items =
    (body : List Item) × IsBodyPath block_path (type_of scope instance) body × (items ≡ call_trace line arguments body)

-- a conditional step acts, or it goes on to the next line; one that always acts has no choice
abbrev pub MayAct : Condition → Type 0 → Type 0 → Type 0
MayAct Always acts passes = acts
MayAct IfTrue acts passes = acts ⊎ passes
MayAct IfFalse acts passes = acts ⊎ passes

-- these items and this way on
abbrev pub GoesOn : List Item → Way → List Item → Way → Type 0
GoesOn wanted way items next = (items ≡ wanted) × (next ≡ way)

-- what a step that is executed may add to a path, and where the path then is
abbrev pub MayStep : (Name → List Item → Type 0) → Scope → ℕ → Step → List Item → Way → Type 0
MayStep block_path scope line (Load negated operand) items next = GoesOn (At line ∷ []) Onward items next
MayStep block_path scope line (Store storing target) items next = GoesOn (At line ∷ []) Onward items next
MayStep block_path scope line (Apply operator operand) items next = GoesOn (At line ∷ []) Onward items next
MayStep block_path scope line Negate items next = GoesOn (At line ∷ []) Onward items next
MayStep block_path scope line (Jump condition label) items next =
    MayAct condition (GoesOn (At line ∷ []) (Toward label) items next) (GoesOn (At line ∷ []) Onward items next)
MayStep block_path scope line (Call condition instance arguments) items next =
    MayAct condition (IsCallPath block_path scope line instance arguments items × (next ≡ Onward)) (GoesOn (At line ∷ []) Onward items next)
MayStep block_path scope line (Return condition) items next =
    MayAct condition (GoesOn (At line ∷ []) Back items next) (GoesOn (At line ∷ []) Onward items next)

-- a line that is passed over adds nothing
abbrev pub MayPass : (List Item → Way → Type 0) → Way → List Item → Way → Type 0
MayPass executed Onward items next = executed items next
MayPass executed (Toward label) items next = GoesOn [] (Toward label) items next
MayPass executed Back items next = GoesOn [] Back items next

-- this, and then that
abbrev pub Joined : (List Item → Way → Type 0) → (Way → List Item → Type 0) → List Item → Type 0
Joined first rest path = (items : List Item) × (next : Way) × (others : List Item) × first items next × rest next others × (path ≡ items ++ others)

-- an opening line, the lines inside, and the `)`
abbrev pub IsNestedPath : ℕ → ℕ → (List Item → Type 0) → List Item → Way → Type 0
IsNestedPath line close inside items next = (path : List Item) × inside path × (items ≡ At line ∷ path ++ At close ∷ []) × (next ≡ Onward)

-- the path is one through the lines left
abbrev pub IsPathFrom : (Name → List Item → Type 0) → Scope → Lines → Way → List Item → Type 0
IsPathFrom block_path scope End way path = EndsThere way path
IsPathFrom block_path scope (Alone word rest) way path = IsPathFrom block_path scope rest (arriving_way (Some word) way) path
IsPathFrom block_path scope (Plain word line step rest) way path =
    Joined (MayPass (MayStep block_path scope line step) (arriving_way word way)) (IsPathFrom block_path scope rest) path
IsPathFrom block_path scope (Nested word line operator operand inside close rest) way path =
    Joined (MayPass (IsNestedPath line close (IsPathFrom block_path scope inside Onward)) (arriving_way word way)) (IsPathFrom block_path scope rest) path

-- the path is one of the body of the block of that name among these units
abbrev pub IsBlockPath : List ProgramUnit → Name → List Item → Type 0
IsBlockPath [] name path = ⊥
IsBlockPath (unit ∷ before) name path = elim (same_name unit.name.name name) [ true ↦ IsPathFrom (IsBlockPath before) (record { before = before; unit = unit }) unit.body Onward path | false ↦ IsBlockPath before name path ]

-- the path is one of the unit's body
abbrev pub IsPath : Scope → List Item → Type 0
IsPath scope path = IsPathFrom (IsBlockPath scope.before) scope scope.unit.body Onward path

-- n is the greatest length of a path: some path has it, and no path is longer
pub record IsLongest (scope : Scope) (n : ℕ) : Type 0 where
  pub path : List Item
  pub is_path : IsPath scope path
  pub reached : length path ≡ n
  pub greatest : (other : List Item) → IsPath scope other → length other ≤ n

-- the bound of a text: the length of a longest path of its program, the last of its units
abbrev pub IsBoundOfLast : List ProgramUnit → ℕ → Type 0
IsBoundOfLast [] bound = ⊥
IsBoundOfLast (program ∷ before) bound = IsLongest (record { before = before; unit = program }) bound

abbrev pub IsProgramBound : Text → ℕ → Type 0
IsProgramBound text bound = IsBoundOfLast (reverse text) bound
