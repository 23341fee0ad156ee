-- The units whose paths are looked at.
use Rattle.std.specs.Prelude.{[], ◌∷◌}
use Rattle.wc_examples_language.specs.Refused.{counting_block, two_counters_program}
use Rattle.wc_examples_language.specs.Programs.{two_paths_program}
use Rattle.wc_examples_language.specs.Timers.{on_delay_program}
use Rattle.wc_model.specs.Language.Scopes.{Scope}

-- the timer program
abbrev pub timer_scope : Scope
timer_scope = record { before = []; unit = on_delay_program }

-- the program with two paths of equal length
abbrev pub paths_scope : Scope
paths_scope = record { before = []; unit = two_paths_program }

-- the counting block, and the program with two instances of it
abbrev pub block_scope : Scope
block_scope = record { before = []; unit = counting_block }

abbrev pub counters_scope : Scope
counters_scope = record { before = counting_block ∷ []; unit = two_counters_program }
