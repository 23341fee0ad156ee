-- What lines must name so that they can be lowered: the rules on declarations and bodies see to it. (No rule of the language.)
use Rattle.std.specs.Prelude.{◌≡◌, ℕ, ◌<◌, Bool, true, false, List, [], ◌∷◌, ◌⊎◌, Option, Some, None, length, ℤ, pos}
use Rattle.wc_text_flat.specs.Lowered.{Operand, Number, At, lines_ahead}
use Rattle.wc_model.specs.Definitions.{VariableType, Elementary, Standard, Block, block_named, content_number, frame_of, place_number, BodyLine, AloneLine, PlainLine, NestedLine, Name, Scope, readable_place, type_of, writable_place}
use Rattle.wc_model.specs.Language.Store.{Location, Plain as PlainContent}
use Rattle.wc_model.specs.Language.Tree.{Term, Constant, Address, Variable, Field, Assignment, ProgramUnit, Step, Load, Store, Apply, Negate, Jump, Call, Return, Lines, End, Alone, Plain, Nested}
use Rattle.wc_model.specs.declared.operator.Direction.{Direction}
use Rattle.wc_model.specs.declared.operator.Direction.TheVariants.{Into, OutOf}

-- a place that the unit's frame has
abbrev pub HasPlace : Scope → Option Location → Type 0
HasPlace scope None = ⊥
HasPlace scope (Some location) = (n : ℕ) × (place_number (frame_of scope) location ≡ Some n)

-- a literal, or what is at a place and may be read from here
abbrev pub IsReadable : Scope → Term → Type 0
IsReadable scope (Constant value) = Unit {0}
IsReadable scope (Address word) = HasPlace scope (readable_place scope (Address word))
IsReadable scope (Variable name) = HasPlace scope (readable_place scope (Variable name))
IsReadable scope (Field instance field) = HasPlace scope (readable_place scope (Field instance field))

-- what is at a place and may be written from here
abbrev pub IsWritable : Scope → Term → Type 0
IsWritable scope term = HasPlace scope (writable_place scope term)

-- a literal that LDN loads is 0 or 1
abbrev pub IsBitWhere : Bool → ℤ → Type 0
IsBitWhere false n = Unit {0}
IsBitWhere true n = (n ≡ pos 0) ⊎ (n ≡ pos 1)

abbrev pub IsNegatable : Bool → Operand → Type 0
IsNegatable negated (Number n) = IsBitWhere negated n
IsNegatable negated (At place) = Unit {0}

abbrev pub IsLoadable : Bool → Term → Type 0
IsLoadable negated (Constant value) = IsBitWhere negated (content_number (PlainContent value))
IsLoadable negated (Address word) = Unit {0}
IsLoadable negated (Variable name) = Unit {0}
IsLoadable negated (Field instance field) = Unit {0}

-- an input takes what may be read, and an output goes where it may be written
abbrev pub IsPassable : Scope → Name → Direction → Name → Term → Type 0
IsPassable scope instance Into formal actual = IsReadable scope actual × IsWritable scope (Field instance formal)
IsPassable scope instance OutOf formal actual = IsReadable scope (Field instance formal) × IsWritable scope actual

abbrev pub ArePassable : Scope → Name → List Assignment → Type 0
ArePassable scope instance [] = Unit {0}
ArePassable scope instance (argument ∷ arguments) =
    IsPassable scope instance argument.direction argument.formal argument.actual × ArePassable scope instance arguments

-- an instance of a block, whose unit has a number of 16 bits
abbrev pub IsKnownBlock : Option (ProgramUnit × List ProgramUnit) → Type 0
IsKnownBlock None = ⊥
IsKnownBlock (Some found) = length found.1 < 65536

abbrev pub IsCallable : Scope → Option VariableType → Type 0
IsCallable scope None = ⊥
IsCallable scope (Some (Elementary kind)) = ⊥
IsCallable scope (Some (Standard block)) = Unit {0}
IsCallable scope (Some (Block name)) = IsKnownBlock (block_named scope.before name)

-- a step, if it is known to which labels a jump can be lowered
abbrev pub IsStepLowerable : Scope → (Name → Type 0) → Step → Type 0
IsStepLowerable scope reached (Load negated term) = IsReadable scope term × IsLoadable negated term
IsStepLowerable scope reached (Store storing target) = IsWritable scope target
IsStepLowerable scope reached (Apply operator term) = IsReadable scope term
IsStepLowerable scope reached Negate = Unit {0}
IsStepLowerable scope reached (Jump condition label) = reached label
IsStepLowerable scope reached (Call condition instance arguments) =
    IsCallable scope (type_of scope instance) × ArePassable scope instance arguments × (length arguments < 65536)
IsStepLowerable scope reached (Return condition) = Unit {0}

-- an opening line
abbrev pub IsOpenable : Scope → Option Term → Type 0
IsOpenable scope None = Unit {0}
IsOpenable scope (Some term) = IsReadable scope term

-- no jump is inside a parenthesis
abbrev pub Nowhere : Name → Type 0
Nowhere label = ⊥

abbrev pub IsInsideLowerable : Scope → Lines → Type 0
IsInsideLowerable scope End = Unit {0}
IsInsideLowerable scope (Alone label rest) = IsInsideLowerable scope rest
IsInsideLowerable scope (Plain label line step rest) = IsStepLowerable scope Nowhere step × IsInsideLowerable scope rest
IsInsideLowerable scope (Nested label line operator operand inside close rest) =
    (IsOpenable scope operand × IsInsideLowerable scope inside) × IsInsideLowerable scope rest

-- a line of a body
abbrev pub IsLineLowerable : Scope → (Name → Type 0) → BodyLine → Type 0
IsLineLowerable scope reached (AloneLine label) = Unit {0}
IsLineLowerable scope reached (PlainLine label line step) = IsStepLowerable scope reached step
IsLineLowerable scope reached (NestedLine label line operator operand inside close) = IsOpenable scope operand × IsInsideLowerable scope inside

-- n flat lines precede the first line that carries the label
abbrev pub IsAhead : Lines → ℕ → Name → Type 0
IsAhead rest skip label = lines_ahead rest label ≡ Some skip

-- 32 bits are enough to count them
abbrev pub IsNear : Lines → Name → Type 0
IsNear rest label = (skip : ℕ) × IsAhead rest skip label × (skip < 4294967296)

-- the lines of a body
abbrev pub IsLowerable : Scope → Lines → Type 0
IsLowerable scope End = Unit {0}
IsLowerable scope (Alone label rest) = IsLowerable scope rest
IsLowerable scope (Plain label line step rest) = IsStepLowerable scope (IsNear rest) step × IsLowerable scope rest
IsLowerable scope (Nested label line operator operand inside close rest) =
    (IsOpenable scope operand × IsInsideLowerable scope inside) × IsLowerable scope rest
