-- What is reported of too many rows, from what the observer says of the rows that were seen.
use Rattle.std.proofs.Common.{◌≡◌, ℕ, ◌<◌, ◌≤◌, List, length, arith, subst, sym}
use Rattle.std.specs.Prelude.{Option, Some, None, Result, Ok, Err}
use Rattle.wc_controller.proofs.Allowing.{known_more, on_known}
use Rattle.wc_controller.specs.{InputStates, Reader, OfLogic, log_by, EndsSaying, OfRun, OfStart}
use Rattle.wc_cut.specs.{rows_of_cut, HasCounted, IsReported, ReportsTooMany, ending_reported}
use Rattle.wc_cut.specs.declared.cutter.Cutter.{Cutter}
use Rattle.wc_cut.specs.declared.cutting.TooManyRows.{TooManyRows}
use Rattle.wc_controller.specs.declared.ending.Ending.{Ending}
use Rattle.wc_controller.specs.declared.ending.Ending.TheVariants as ended
use Rattle.wc_model.specs.Definitions.{PlateData, Text, LogOf, most_rows, Logic}
use Rattle.wc_run.specs.{Ended, Start}

-- what follows of each logic follows of the one that runs
logic_more : (first : Text) (known : Option (List ℕ)) (P Q : Option Logic → Type 0) → ((logic : Option Logic) → P logic → Q logic) →
    OfLogic first known P → OfLogic first known Q
logic_more first None P Q more h = more _ h
logic_more first (Some bytes) P Q more h = (h.0, h.1, more _ h.2)

start_more : (program next : Option Reader) (taken : Option (List ℕ)) (P Q : Start → Option Logic → Type 0) →
    ((start : Start) (logic : Option Logic) → P start logic → Q start logic) → OfStart program next taken P → OfStart program next taken Q
start_more None next taken P Q more h = more _ _ h
start_more (Some program) next taken P Q more h = on_known program.bytes _ _ (λ text. known_more next _ _ (λ known found.
    let start : Start = record { first = Some text; next = known; taken = taken } in
    (found.0, found.1, logic_more found.0 known (P start) (Q start) (more start) found.2))) h

-- and what follows of each run follows of a run of these inputs
pub run_more : (inputs : InputStates) (taken : Option (List ℕ)) (P Q : Start → PlateData → Option Logic → LogOf → Type 0) →
    ((start : Start) (plate : PlateData) (logic : Option Logic) (log : LogOf) → P start plate logic log → Q start plate logic log) →
    OfRun inputs taken P → OfRun inputs taken Q
run_more inputs taken P Q more h = on_known inputs.plate.bytes _ _ (λ table read. (
  read.0,
  read.1,
  start_more inputs.program inputs.next taken _ _
      (λ start logic. on_known inputs.log.bytes _ _ (λ bytes. more start read.0 logic (log_by logic bytes))) read.2,
)) h

-- what the cutter says once all rows have come
abbrev pub counted : Cutter → ℕ → Ended
counted cutter count = λ start taken plate logic rows refusal. HasCounted cutter count plate rows refusal

module _ (count : ℕ) (cutter : Cutter) (inputs : InputStates) (old new : Option (List ℕ)) where
  -- all was done, and a row more would have been a log's
  enough : 0 < cutter.capacity → EndsSaying (counted cutter count) inputs ended.Done old new → ReportsTooMany count inputs old (Ok ended.Done)
  enough some said = run_more inputs old
      (λ start plate logic log. HasCounted cutter count plate log.rows log.refusal)
      (λ start plate logic log. log.refusal ≡ None → length (rows_of_cut plate count log.rows) < most_rows)
      (λ start plate logic log counts none. omega (arith, counts none, some)) said.2

  -- all was done, and none would
  too_many : cutter.capacity ≡ 0 → EndsSaying (counted cutter count) inputs ended.Done old new → (many : TooManyRows) → ReportsTooMany count inputs old (Err many)
  too_many full said many = run_more inputs old
      (λ start plate logic log. HasCounted cutter count plate log.rows log.refusal)
      (λ start plate logic log. log.refusal ≡ None → most_rows ≤ length (rows_of_cut plate count log.rows))
      (λ start plate logic log counts none. omega (arith, counts none, full)) said.2

  pub reports : (ending : Ending) (answer : Result Ending TooManyRows) → IsReported ending cutter.capacity answer →
      EndsSaying (counted cutter count) inputs ending old new → ReportsTooMany count inputs old answer
  reports ending (Ok ended.Done) is said = enough (is.1 (sym is.0)) (subst (λ e. EndsSaying (counted cutter count) inputs e old new) (sym is.0) said)
  reports ending (Ok (ended.Refused input number place)) is said = tt
  reports ending (Ok (ended.ReadFault input)) is said = tt
  reports ending (Ok ended.WriteFault) is said = tt
  reports ending (Ok ended.NoMemory) is said = tt
  reports ending (Err many) is said = too_many is.1 (subst (λ e. EndsSaying (counted cutter count) inputs e old new) is.0 said) many

-- the ending is the one that was reported
pub is_reported : (ending : Ending) (capacity : ℕ) (answer : Result Ending TooManyRows) → IsReported ending capacity answer → ending ≡ ending_reported answer
is_reported ending capacity (Ok answer) is = sym is.0
is_reported ending capacity (Err many) is = is.0
