-- The longest path of flat code, from the last line to the first; if two paths are equally long, the path to the next line is
-- taken. (The profile's own.)
use Rattle.std.specs.Prelude.{ℕ, ◌+◌, nat_lt, if◌then◌else◌, List, [], ◌∷◌, ◌++◌, map, Some, None, slice_get, slice_index}
use Rattle.wc_model.specs.Language.Tree.{inputs_of, outputs_of, Step, Load, Store as StoreStep, Apply, Negate, Jump as JumpStep, Call as CallStep, Return as ReturnStep, Lines, End, Alone, Plain, Nested}
use Rattle.wc_model.specs.declared.code.Code.{Code}
use Rattle.wc_model.specs.declared.code.Code.TheVariants.{LoadNumber, LoadPlace, Store, ApplyNumber, ApplyPlace, Not, Open, OpenNumber, OpenPlace, Close, Jump, Return, Call, ArgumentNumber, ArgumentPlace, Standard, Body}
use Rattle.wc_model.specs.declared.operator.Condition.{Condition}
use Rattle.wc_model.specs.declared.operator.Condition.TheVariants.{Always, IfTrue, IfFalse}

-- the lines of the text at which the flat lines of a body are; inputs, the block's body and
-- outputs are at their call's
abbrev pub step_sources : ℕ → Step → List ℕ
step_sources line (Load negated operand) = line ∷ []
step_sources line (StoreStep storing target) = line ∷ []
step_sources line (Apply operator operand) = line ∷ []
step_sources line Negate = line ∷ []
step_sources line (JumpStep condition label) = line ∷ []
step_sources line (CallStep condition instance arguments) = line ∷ map (λ input. line) (inputs_of arguments) ++ line ∷ map (λ output. line) (outputs_of arguments)
step_sources line (ReturnStep condition) = line ∷ []

abbrev pub sources_of : Lines → List ℕ
sources_of End = []
sources_of (Alone label rest) = sources_of rest
sources_of (Plain label line step rest) = step_sources line step ++ sources_of rest
sources_of (Nested label line operator operand inside close rest) = line ∷ sources_of inside ++ close ∷ sources_of rest

-- a longest path from a line to the end of a body: its steps, and the lines of the unit's own body on it, in order of execution
pub record Worst : Type 0 where
  pub steps : ℕ
  pub lines : List ℕ

-- nothing more, one more line, and more steps that are not lines of the body
abbrev pub no_more : Worst
no_more = record { steps = 0; lines = [] }

abbrev pub one_more : ℕ → Worst → Worst
one_more line rest = record { steps = 1 + rest.steps; lines = line ∷ rest.lines }

abbrev pub some_more : ℕ → Worst → Worst
some_more steps rest = record { steps = steps + rest.steps; lines = rest.lines }

-- the first of two paths, unless the other is longer
abbrev pub worse : Worst → Worst → Worst
worse first other = if nat_lt first.steps other.steps then other else first

-- the path from the n-th of the lines after
abbrev pub from_line : List Worst → ℕ → Worst
from_line rest n = elim (slice_get rest n) [ Some way ↦ way | None ↦ no_more ]

-- if a conditional acts, and if it goes on to the next line of the text
abbrev pub turned : Condition → Worst → Worst → Worst
turned Always acting passing = acting
turned IfTrue acting passing = worse passing acting
turned IfFalse acting passing = worse passing acting

-- the path from a line, if the bounds are those of the units and the paths from the lines after are known
abbrev pub line_worst : List ℕ → ℕ → List Worst → Code → Worst
line_worst bounds source rest (LoadNumber n) = one_more source (from_line rest 0)
line_worst bounds source rest (LoadPlace negated place) = one_more source (from_line rest 0)
line_worst bounds source rest (Store storing place) = one_more source (from_line rest 0)
line_worst bounds source rest (ApplyNumber operator n) = one_more source (from_line rest 0)
line_worst bounds source rest (ApplyPlace operator place) = one_more source (from_line rest 0)
line_worst bounds source rest Not = one_more source (from_line rest 0)
line_worst bounds source rest Open = one_more source (from_line rest 0)
line_worst bounds source rest (OpenNumber n) = one_more source (from_line rest 0)
line_worst bounds source rest (OpenPlace place) = one_more source (from_line rest 0)
line_worst bounds source rest (Close operator) = one_more source (from_line rest 0)
line_worst bounds source rest (Jump condition skip) = one_more source (turned condition (from_line rest skip) (from_line rest 0))
line_worst bounds source rest (Return condition) = one_more source (turned condition no_more (from_line rest 0))
line_worst bounds source rest (Call condition skip) = one_more source (turned condition (from_line rest 0) (from_line rest skip))
line_worst bounds source rest (ArgumentNumber target n) = some_more 1 (from_line rest 0)
line_worst bounds source rest (ArgumentPlace place target) = some_more 1 (from_line rest 0)
line_worst bounds source rest (Standard block at) = some_more 1 (from_line rest 0)
line_worst bounds source rest (Body unit at) = some_more (slice_index bounds unit) (from_line rest 0)

-- the paths from each line, the first line's first
abbrev pub preceded : List ℕ → ℕ → Code → List Worst → List Worst
preceded bounds source line rest = line_worst bounds source rest line ∷ rest

abbrev pub worst_from : List ℕ → List Code → List ℕ → List Worst
worst_from bounds [] sources = []
worst_from bounds (line ∷ code) [] = preceded bounds 0 line (worst_from bounds code [])
worst_from bounds (line ∷ code) (source ∷ sources) = preceded bounds source line (worst_from bounds code sources)

-- the worst path of a body
abbrev pub worst_of : List ℕ → List Code → List ℕ → Worst
worst_of bounds code sources = from_line (worst_from bounds code sources) 0
