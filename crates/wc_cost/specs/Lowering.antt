-- What is lowered so far, from the last line to the first: flat lines with the lines of the text at which they are. (No rule of the language.)
use Rattle.wc_cost.specs.declared.operands.FlatOperand.TheVariants as flat
use Rattle.std.specs.Prelude.{ℕ, List, [], ◌∷◌, reverse, ◌≡◌, ◌+◌, Bool, true, false, ◌++◌, length, map, Option, Some, None, if◌then◌else◌}
use Rattle.wc_model.specs.declared.code.Code.{Code}
use Rattle.wc_text_flat.specs.{Operand, Number, At, AreArguments, AreOutputs, IsArgument, IsLowered, IsOpening, IsOutput, IsStepLowered, lines_ahead, sources_of, step_sources}
use Rattle.wc_model.specs.Definitions.{named_in, same_name, BodyLine, AloneLine, PlainLine, NestedLine, Name, Scope, Assignment, Lines, Word, inputs_of, outputs_of}
use Rattle.wc_model.specs.declared.code.Code.TheVariants.{Close}
use Rattle.wc_model.specs.declared.operator.Direction.{Direction}
use Rattle.wc_model.specs.declared.operator.Direction.TheVariants.{Into, OutOf}
use Rattle.wc_model.specs.declared.operator.Operator.{Operator}
use Rattle.wc_cost.specs.declared.operands.FlatOperand.{FlatOperand}

-- the flat lines, and with each its line of the text
pub record FlatLines : Type 0 where
  pub code : List Code
  pub sources : List ℕ

-- none
abbrev pub no_lines : FlatLines
no_lines = record { code = []; sources = [] }

-- one more before them
abbrev pub put_line : Code → ℕ → FlatLines → FlatLines
put_line line source following = record { code = line ∷ following.code; sources = source ∷ following.sources }

-- lists that are kept from the last line to the first
abbrev pub turned_lines : List Code → List ℕ → FlatLines
turned_lines code sources = record { code = reverse code; sources = reverse sources }

-- an operand on a flat line
abbrev pub operand_view : FlatOperand → Operand
operand_view (flat.Number n) = Number n
operand_view (flat.At place) = At place

-- these flat lines, at these lines of the text, are put before what was there
pub record Adds (is_lowered : List Code → Type 0) (sources : List ℕ) (old new : FlatLines) : Type 0 where
  pub own : List Code
  pub lowered : is_lowered own
  pub code : new.code ≡ own ++ old.code
  pub places : new.sources ≡ sources ++ old.sources

-- the flat lines of a parenthesis
pub record IsParenthesis (opening_lowered : Code → Type 0) (inside_lowered : List Code → Type 0) (operator : Operator) (code : List Code) : Type 0 where
  pub opening : Code
  pub inner : List Code
  pub whole : code ≡ opening ∷ inner ++ Close operator ∷ []
  pub opens : opening_lowered opening
  pub inside : inside_lowered inner

-- the flat lines of a line, after which these lines are
abbrev pub IsLineLowered : Scope → Lines → BodyLine → List Code → Type 0
IsLineLowered scope rest (AloneLine label) code = code ≡ []
IsLineLowered scope rest (PlainLine label line step) code = IsStepLowered scope rest step code
IsLineLowered scope rest (NestedLine label line operator operand inside close) code =
    IsParenthesis (IsOpening scope operand) (IsLowered scope inside) operator code

-- and the lines of the text at which they are
abbrev pub line_sources : BodyLine → List ℕ
line_sources (AloneLine label) = []
line_sources (PlainLine label line step) = step_sources line step
line_sources (NestedLine label line operator operand inside close) = line ∷ sources_of inside ++ close ∷ []

abbrev pub AddsLine : Scope → Lines → BodyLine → FlatLines → FlatLines → Type 0
AddsLine scope rest line old new = Adds (IsLineLowered scope rest line) (line_sources line) old new

abbrev pub AddsLines : Scope → Lines → FlatLines → FlatLines → Type 0
AddsLines scope lines old new = Adds (IsLowered scope lines) (sources_of lines) old new

-- the inputs of a call's list at a line, and its outputs
abbrev pub AddsArguments : Scope → Name → ℕ → List Assignment → FlatLines → FlatLines → Type 0
AddsArguments scope instance line inputs old new =
    Adds (AreArguments scope instance inputs) (map (λ input. line) inputs) old new

abbrev pub AddsOutputs : Scope → Name → ℕ → List Assignment → FlatLines → FlatLines → Type 0
AddsOutputs scope instance line outputs old new =
    Adds (AreOutputs scope instance outputs) (map (λ output. line) outputs) old new

-- two directions are the same
abbrev pub same_direction : Direction → Direction → Bool
same_direction Into Into = true
same_direction Into OutOf = false
same_direction OutOf Into = false
same_direction OutOf OutOf = true

-- the flat line of an argument, by its direction, and the flat lines of those of a call's list that have one
abbrev pub IsPassed : Direction → Scope → Name → Assignment → Code → Type 0
IsPassed Into scope instance argument code = IsArgument scope instance argument code
IsPassed OutOf scope instance argument code = IsOutput scope instance argument code

abbrev pub AddsPassed : Direction → Scope → Name → ℕ → List Assignment → FlatLines → FlatLines → Type 0
AddsPassed Into scope instance line list old new = AddsArguments scope instance line (inputs_of list) old new
AddsPassed OutOf scope instance line list old new = AddsOutputs scope instance line (outputs_of list) old new

-- the flat lines of these lines, and of nothing else
abbrev pub IsFlat : Scope → Lines → FlatLines → Type 0
IsFlat scope lines flat = IsLowered scope lines flat.code × (flat.sources ≡ sources_of lines)

-- a label that is m flat lines ahead has n flat lines from its own to the last
abbrev pub Represents : Option ℕ → Option ℕ → ℕ → Type 0
Represents None None count = Unit {0}
Represents None (Some left) count = ⊥
Represents (Some ahead) None count = ⊥
Represents (Some ahead) (Some left) count = ahead + left ≡ count

-- the labels of these lines are kept with the count of flat lines from each to the last
abbrev pub HoldsLabels : List (Name × ℕ) → Lines → ℕ → Type 0
HoldsLabels labels lines count = (label : Name) → Represents (lines_ahead lines label) (named_in labels label) count

-- a label is kept with a count in place of what was kept of it
abbrev pub KeepsLabel : Option Word → ℕ → List (Name × ℕ) → List (Name × ℕ) → Type 0
KeepsLabel None count old new = new ≡ old
KeepsLabel (Some word) count old new = (label : Name) → named_in new label ≡ (if same_name word.name label then Some count else named_in old label)

-- these lines are lowered, and their labels kept
abbrev pub IsKeptFlat : Scope → Lines → List (Name × ℕ) → FlatLines → Type 0
IsKeptFlat scope lines labels flat = IsFlat scope lines flat × HoldsLabels labels lines (length flat.code)
