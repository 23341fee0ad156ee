-- A job has one answer.
use Rattle.std.proofs.Common.{◌≡◌, ℕ, List, Option, Some, None, inl, inr, refl, subst, ◌∙◌}
use Rattle.std.specs.Prelude.{Result, Ok, Err}
use Rattle.wc_laws_loading.proofs.LoadLaws.{loaded_or_refused, never_both, one_loaded, one_refusal}
use Rattle.wc_laws_loading.specs.Laws.{HasOne, OneAnswer}
use Rattle.wc_model.specs.Definitions.{Table, plate_of, PlateData, IsLoaded, IsRefused, Text, Sections, sections_of, Record, log_of, AnswersNext, AnswersPlate, AnswersProgram, AnswersSections, JobAnswer, loads_program, refuses_program, refusing, run_answer, first_logic}

-- what is equal to something is that alone
exactly : {A : Type 0} (x : A) → HasOne (λ (y : A). y ≡ x)
exactly x = record { it = x; holds = refl; alone = λ other is. is }

-- a program that is loaded has the one answer of its text
only_loaded : (program : List ℕ) (rest : Text → JobAnswer → Type 0) (text : Text) → IsLoaded program text → (one : HasOne (rest text)) (other : JobAnswer) →
    AnswersProgram program rest other → other ≡ one.it
only_loaded program rest text loaded one other (refuses_program number line refused is) = absurd (never_both program text number line loaded refused)
only_loaded program rest text loaded one other (loads_program found read answered) =
    one.alone other (subst (λ (t : Text). rest t other) (one_loaded program found text read loaded) answered)

loaded_one : (program : List ℕ) (rest : Text → JobAnswer → Type 0) (text : Text) → IsLoaded program text → HasOne (rest text) → HasOne (AnswersProgram program rest)
loaded_one program rest text loaded one =
    record { it = one.it; holds = loads_program text loaded one.holds; alone = only_loaded program rest text loaded one }

-- one that is refused has its one refusal
only_refused : (program : List ℕ) (rest : Text → JobAnswer → Type 0) (number line : ℕ) → IsRefused program number line → (other : JobAnswer) →
    AnswersProgram program rest other → other ≡ refusing number line
only_refused program rest number line refused other (refuses_program found place again is) =
    let same = one_refusal program found place number line again refused in is ∙ (λ i. refusing (same.0 i) (same.1 i))
only_refused program rest number line refused other (loads_program found read answered) = absurd (never_both program found number line read refused)

refused_one : (program : List ℕ) (rest : Text → JobAnswer → Type 0) (number line : ℕ) → IsRefused program number line → HasOne (AnswersProgram program rest)
refused_one program rest number line refused =
    record { it = refusing number line; holds = refuses_program number line refused refl; alone = only_refused program rest number line refused }

-- so any program has one answer, if each text has one
program_one : (program : List ℕ) (rest : Text → JobAnswer → Type 0) → ((text : Text) → HasOne (rest text)) → HasOne (AnswersProgram program rest)
program_one program rest each = elim (loaded_or_refused program) [
  | inl found ↦ loaded_one program rest found.0 found.1 (each found.0)
  | inr found ↦ refused_one program rest found.0 found.1 found.2
]

next_one : (next : Option (List ℕ)) (rest : Option Text → JobAnswer → Type 0) → ((other : Option Text) → HasOne (rest other)) → HasOne (AnswersNext next rest)
next_one None rest each = each None
next_one (Some next) rest each = program_one next (λ text. rest (Some text)) (λ text. each (Some text))

-- the sections of a job, by what is read of the plate
plate_one : (records_of : List ℕ → List Record) (sections : Sections) (plate : Result PlateData ℕ) → HasOne (AnswersPlate records_of sections plate)
plate_one records_of sections (Err number) = exactly (refusing number 0)
plate_one records_of sections (Ok plate) =
    let ran : Text → Option Text → JobAnswer = λ text other. run_answer plate (first_logic text other) (log_of (records_of sections.log)) in
    program_one sections.program (λ text. AnswersNext sections.next (λ other one. one ≡ ran text other))
    (λ text. next_one sections.next (λ other one. one ≡ ran text other) (λ other. exactly (ran text other)))

sections_one : (table_of : List ℕ → Option Table) (records_of : List ℕ → List Record) (sections : Result Sections ℕ) → HasOne (AnswersSections table_of records_of sections)
sections_one table_of records_of (Err number) = exactly (refusing number 0)
sections_one table_of records_of (Ok sections) = plate_one records_of sections (plate_of (table_of sections.plate))

pub one_answer : OneAnswer
one_answer table_of records_of bytes = sections_one table_of records_of (sections_of bytes)
