-- Whether the log that is written by a cut has more rows than a log may have. (The profile's own.)
use Rattle.std.specs.Prelude.{◌≡◌, ⊤, ℕ, ◌<◌, ◌≤◌, List, length, Option, None, Result, Ok, Err}
use Rattle.wc_controller.specs.{InputStates, OfRun}
use Rattle.wc_cut.specs.CutAgain.{rows_of_cut}
use Rattle.wc_cut.specs.declared.cutting.TooManyRows.{TooManyRows}
use Rattle.wc_controller.specs.declared.ending.Ending.{Ending}
use Rattle.wc_controller.specs.declared.ending.Ending.TheVariants as ended
use Rattle.wc_model.specs.Run.Log.{most_rows}

-- how it ended: if there are too many rows, all was done
abbrev pub ending_reported : Result Ending TooManyRows → Ending
ending_reported (Ok ending) = ending
ending_reported (Err many) = ended.Done

-- no capacity is left if the rows are too many, and then only if all was done
abbrev pub IsReported : Ending → ℕ → Result Ending TooManyRows → Type 0
IsReported ending capacity (Ok answer) = (answer ≡ ending) × (ending ≡ ended.Done → 0 < capacity)
IsReported ending capacity (Err many) = (ending ≡ ended.Done) × (capacity ≡ 0)

-- If all was done, and no row of the log is refused, what was written has as many rows as a log may have, or it is reported that it has
-- more; the heading counts as one.
abbrev pub ReportsTooMany : ℕ → InputStates → Option (List ℕ) → Result Ending TooManyRows → Type 0
ReportsTooMany count inputs taken (Ok ended.Done) =
    OfRun inputs taken (λ start plate logic log. log.refusal ≡ None → length (rows_of_cut plate count log.rows) < most_rows)
ReportsTooMany count inputs taken (Ok ending) = ⊤
ReportsTooMany count inputs taken (Err many) =
    OfRun inputs taken (λ start plate logic log. log.refusal ≡ None → most_rows ≤ length (rows_of_cut plate count log.rows))
