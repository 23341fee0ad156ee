-- Which answers are allowed, from the program to the whole job and to the files that a command
-- names.
use Rattle.wc_model.proofs.Common.{◌≡◌, ℕ, ◌<◌, ◌≤◌, List, length, Ok, Err, refl, ap, sym, subst, inl, inr, Keeps-refl}
use Rattle.std.specs.Prelude.{◌⊎◌, Option, Some, None, IfOk, IfSome, Result}
use Rattle.wc_controller.proofs.Givings.{only_refused, upto_more}
use Rattle.wc_controller.specs.{RefusesPlate, RefusesLength, WritesUpTo, AnswersFile, AnswersPlateFile, AnswersWithPlate, too_long, whole, AllowsSections, Reader, IfKnown}
use Rattle.wc_model.specs.Definitions.{plate_of, PlateData, Sections, longest_job, log_of, JobAnswer, AnswersPlate, AnswersPrograms, refusing, run_answer}
use Rattle.wc_model.specs.declared.fault.Fault.TheVariants as fault
use Rattle.wc_plate.specs.TomlTable.{table_read}
use Rattle.wc_record.specs.Reading.{records_of}
use Rattle.wc_run.specs.declared.fault.RunFault.{RunFault}
use Rattle.wc_run.specs.declared.fault.RunFault.TheVariants.{Refused, Read, Write, Memory}

-- what follows of what holds of a value holds of it too
pub on_known : {A : Type 0} (known : Option A) (P Q : A → Type 0) → ((value : A) → P value → Q value) → IfSome known P → IfSome known Q
on_known None P Q f h = tt
on_known (Some value) P Q f h = f value h

-- so of a success
pub on_success : {A E : Type 0} (answer : Result A E) (P Q : A → Type 0) → ((value : A) → P value → Q value) → IfOk answer P → IfOk answer Q
on_success (Ok value) P Q f h = f value h
on_success (Err e) P Q f h = tt

-- of what two things hold, both hold
pub on_both : {A : Type 0} (known : Option A) (P Q R : A → Type 0) → ((value : A) → P value → Q value → R value) → IfSome known P → IfSome known Q → IfSome known R
on_both None P Q R f h k = tt
on_both (Some value) P Q R f h k = f value h k

-- what holds of each value holds of one that is known
pub on_each : {A : Type 0} (known : Option A) (P : A → Type 0) → ((value : A) → P value) → IfSome known P
on_each None P f = tt
on_each (Some value) P f = f value

-- what holds of the bytes that were read holds of all that are known
pub of_known : (known : Option (List ℕ)) (bytes : List ℕ) (P : List ℕ → Type 0) → IfSome known (λ all. bytes ≡ all) → P bytes → IfSome known P
of_known None bytes P e h = tt
of_known (Some all) bytes P e h = subst P e h

-- what follows of what holds of the bytes of a reader that may be missing holds of them too
pub known_more : (reader : Option Reader) (P Q : Option (List ℕ) → Type 0) → ((known : Option (List ℕ)) → P known → Q known) → IfKnown reader P → IfKnown reader Q
known_more None P Q f h = f None h
known_more (Some reader) P Q f h = on_known reader.bytes (λ bytes. P (Some bytes)) (λ bytes. Q (Some bytes)) (λ bytes. f (Some bytes)) h

-- and what holds of whatever bytes
pub known_each : (reader : Option Reader) (P : Option (List ℕ) → Type 0) → ((known : Option (List ℕ)) → P known) → IfKnown reader P
known_each None P f = f None
known_each (Some reader) P f = on_each reader.bytes (λ bytes. P (Some bytes)) (λ bytes. f (Some bytes))

-- a plate that holds, and what is allowed of the programs
pub sections_run : (sections : Sections) (plate : PlateData) → plate_of (table_read sections.plate) ≡ Ok plate →
    (answer : JobAnswer) → AnswersPrograms (λ logic. run_answer plate logic (log_of (records_of sections.log))) sections.program sections.next answer → AllowsSections sections answer
sections_run sections plate e answer h = subst (λ validated. AnswersPlate records_of sections validated answer) (sym e) h

-- an input that was not read whole, if one that is too long is refused by what is allowed
not_read : (allowed : JobAnswer → Type 0) (bytes : List ℕ) (why : RunFault) (old : Option (List ℕ)) →
    (longest_job < length bytes → allowed (refusing 702 0)) → RefusesLength (Some bytes) why → WritesUpTo allowed (Some why) old old
not_read allowed bytes (Refused number place) old f h =
    only_refused allowed number place old
    (subst (λ n. allowed (refusing n place)) (sym h.0) (subst (λ p. allowed (refusing 702 p)) (sym h.1) (f h.2)))
not_read allowed bytes Read old f h = inl (Keeps-refl old)
not_read allowed bytes Write old f h = absurd h
not_read allowed bytes Memory old f h = inl (Keeps-refl old)

-- a file that was not read whole
pub file_not_read : (known : Option (List ℕ)) (P : List ℕ → Type 0) (why : RunFault) → ((bytes : List ℕ) → RefusesLength (Some bytes) why → P bytes)
    → RefusesLength known why → IfSome known P
file_not_read None P why f h = tt
file_not_read (Some bytes) P why f h = f bytes h

-- of its bytes what is too long is refused
pub too_long_file : (bytes : List ℕ) (rest : JobAnswer → Type 0) (why : RunFault) (old : Option (List ℕ)) → RefusesLength (Some bytes) why
    → WritesUpTo (AnswersFile bytes rest) (Some why) old old
too_long_file bytes rest why old h = not_read (AnswersFile bytes rest) bytes why old (λ longer. too_long longer refl) h

-- a file that was read whole
pub file_read : (bytes : List ℕ) (rest : JobAnswer → Type 0) (answer : Option RunFault) (old new : Option (List ℕ)) → length bytes ≤ longest_job
    → WritesUpTo rest answer old new → WritesUpTo (AnswersFile bytes rest) answer old new
file_read bytes rest answer old new short h = upto_more rest (AnswersFile bytes rest) answer old new (λ one w. whole short w) h

-- a plate's file that was not taken
pub plate_not_read : (bytes : List ℕ) (rest : PlateData → JobAnswer → Type 0) (why : RunFault) (old : Option (List ℕ)) → RefusesPlate bytes why →
    WritesUpTo (AnswersWithPlate bytes rest) (Some why) old old
plate_not_read bytes rest (Refused number place) old h =
    only_refused (AnswersWithPlate bytes rest) number place old (subst (λ p. AnswersWithPlate bytes rest (refusing number p)) (sym h.0) (by_cause h.1)) where
      by_cause : ((number ≡ 702) × (longest_job < length bytes)) ⊎ ((length bytes ≤ longest_job) × (plate_of (table_read bytes) ≡ Err number)) → AnswersWithPlate bytes rest (refusing number 0)
      by_cause (inl k) = too_long k.1 (ap (λ n. refusing n 0) k.0)
      by_cause (inr k) = whole k.0 (subst (λ validated. AnswersPlateFile validated rest (refusing number 0)) (sym k.1) refl)
plate_not_read bytes rest Read old h = inl (Keeps-refl old)
plate_not_read bytes rest Write old h = absurd h
plate_not_read bytes rest Memory old h = inl (Keeps-refl old)

-- a plate's file that was taken
pub plate_read : (bytes : List ℕ) (plate : PlateData) (rest : PlateData → JobAnswer → Type 0) (answer : Option RunFault) (old new : Option (List ℕ)) →
    (length bytes ≤ longest_job) × (plate_of (table_read bytes) ≡ Ok plate) → WritesUpTo (rest plate) answer old new → WritesUpTo (AnswersWithPlate bytes rest) answer old new
plate_read bytes plate rest answer old new is h =
    upto_more (rest plate) (AnswersWithPlate bytes rest) answer old new
    (λ one k. whole is.0 (subst (λ validated. AnswersPlateFile validated rest one) (sym is.1) k)) h
