-- The first program is loaded.
use Rattle.std.proofs.Common.{◌≡◌, ℕ, List, [], ◌∷◌, Some, None, refl, sym, subst, inr, arith, lit≤}
use Rattle.std.specs.Fmt.{digits}
use Rattle.std.specs.Prelude.{Option, codes, ◌++◌}
use Rattle.wc_examples_instrument.specs.Worked.{plate_text, plate_of_15_kg}
use Rattle.wc_examples_instrument.specs.FirstJob.{program_bytes, program_tokens, log_bytes, log_records, table, job_bytes}
use Rattle.wc_examples_language.specs.Programs.{copies_an_input, first_unit}
use Rattle.wc_laws_language.proofs.Longest.{computed_is_worst, longest_of_worst}
use Rattle.wc_laws_grammar.proofs.FoundTokens.{found_cut}
use Rattle.wc_laws_grammar.proofs.Spelling.{spelling}
use Rattle.wc_model.specs.Definitions.{IsCostFault, JobAnswer, AnswersPlate, AnswersJob, AnswersPrograms, loads_program, run_answer, Sections, IsLoaded, Record, log_of, Table, plate_of, IsLongest, IsRead, Scope}

pub first_is_read : IsRead program_bytes copies_an_input
first_is_read = record {
  short = lit≤ tt;
  tokens = program_tokens;
  cut = found_cut _ _ refl;
  spelled = record { spelled = search spelling depth 60 fits 20000; order = refl };
  within_limits = record { units = lit≤ tt; bodies = (record { lines = lit≤ tt; depth_of_body = lit≤ tt }, tt) };
}

-- no path of the first program is too long: the longest has two items
pub first_is_short : IsCostFault copies_an_input None
first_is_short =
    let scope : Scope = record { before = []; unit = first_unit } in
    let longest : IsLongest scope 2 = longest_of_worst scope _ (computed_is_worst scope _ refl) in
    inr (λ path is. let l = longest.greatest path is in omega (arith, l), refl)

pub first_is_loaded : IsLoaded program_bytes copies_an_input
first_is_loaded = record { read = first_is_read; declarations = refl; bodies = refl; costs = first_is_short }

-- the first job is answered, whatever reads its table and its records
pub first_answer : (table_of : List ℕ → Option Table) (records_of : List ℕ → List Record) → table_of plate_text ≡ Some table → records_of log_bytes ≡ log_records → AnswersJob table_of records_of job_bytes (record { output = codes "S 0 2 0001 0 0 0 0" ++ 10 ∷ []; status = 0 })
unfolding digits
first_answer table_of records_of t r =
    let answer : JobAnswer = record { output = codes "S 0 2 0001 0 0 0 0" ++ 10 ∷ []; status = 0 } in
    let sections : Sections = record { plate = plate_text; program = program_bytes; next = None; log = log_bytes } in
    let program : (records : List Record) → log_records ≡ records → AnswersPrograms (λ logic. run_answer plate_of_15_kg logic (log_of records)) program_bytes None answer =
    λ records e. subst (λ (rs : List Record). AnswersPrograms (λ logic. run_answer plate_of_15_kg logic (log_of rs)) program_bytes None answer) e
    (loads_program copies_an_input first_is_loaded refl) in
    subst (λ (found : Option Table). AnswersPlate records_of sections (plate_of found) answer) (sym t) (program (records_of log_bytes) (sym r))
