-- The worst paths through flat code, as they are computed. (No rule of the language.)
use Rattle.std.specs.Prelude.{◌≡◌, ℕ, ◌≤◌, Bool, true, false, if◌then◌else◌, List, [], ◌∷◌, drop, map, slice_index}
use Rattle.wc_text_flat.specs.FlatPaths.{Worst, one_more, some_more, worst_from}
use Rattle.wc_model.specs.declared.code.Code.{Code}
use Rattle.wc_model.specs.declared.code.Code.TheVariants.{ArgumentNumber, ArgumentPlace, Standard, Body}
use Rattle.wc_model.specs.Language.Faults.{MOST_STEPS}

-- the lengths of paths
abbrev pub steps_of : List Worst → List ℕ
steps_of path_lengths = map (λ way. way.steps) path_lengths

-- the paths after a place of a list are these
abbrev pub AreAfter : List ℕ → ℕ → List Worst → Type 0
AreAfter path_lengths next rest = drop next path_lengths ≡ steps_of rest

-- the lengths of the worst paths from each flat line
abbrev pub ArePathLengths : List ℕ → List Code → List ℕ → Type 0
ArePathLengths bounds code path_lengths = (sources : List ℕ) → path_lengths ≡ steps_of (worst_from bounds code sources)

-- no unit has a longer path than any may have
abbrev pub AreSmall : List ℕ → Type 0
AreSmall bounds = (unit : ℕ) → slice_index bounds unit ≤ MOST_STEPS

-- a line of the body itself, executed: arguments and what is called are not
abbrev pub is_own : Code → Bool
is_own (ArgumentNumber target n) = false
is_own (ArgumentPlace place target) = false
is_own (Standard block at) = false
is_own (Body unit at) = false
is_own line = true

-- the number of steps a line takes itself
abbrev pub own_steps : List ℕ → Code → ℕ
own_steps bounds (Body unit at) = slice_index bounds unit
own_steps bounds line = 1

-- a line at a line of the text, and then a path
abbrev pub and_then : List ℕ → ℕ → Code → Worst → Worst
and_then bounds source (ArgumentNumber target n) way = some_more 1 way
and_then bounds source (ArgumentPlace place target) way = some_more 1 way
and_then bounds source (Standard block at) way = some_more 1 way
and_then bounds source (Body unit at) way = some_more (slice_index bounds unit) way
and_then bounds source line way = one_more source way

-- the line of the text that a line of the body lists
abbrev pub own_source : Code → ℕ → List ℕ
own_source line source = if is_own line then source ∷ [] else []
