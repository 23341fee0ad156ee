use Rattle.std.proofs.Common.{ℕ, ◌≤◌, arith}
use Rattle.wc_laws_language.proofs.TracesArePaths.{TraceIs, program_trace_is_path}
use Rattle.wc_laws_language.proofs.no_run_is_longer_than_the_paths.Goals as goal
use Rattle.wc_model.specs.Definitions.{Outcome, Done, Stuck, program_means, IsPath, IsLongest, steps_of, Scope}

-- by how the run ends
by_outcome : (scope : Scope) (n : ℕ) → IsLongest scope n → (o : Outcome) → TraceIs (IsPath scope) o → steps_of o ≤ n
by_outcome scope n longest (Done result store trace) h = longest.greatest trace h
by_outcome scope n longest (Stuck reason) h = omega arith

pub returns : goal.returns
returns c = λ before program n longest now store. by_outcome (record { before = before; unit = program }) n longest (program_means before program now store) (program_trace_is_path before program now store)
