-- One step of a log, from a record that was read.
use Rattle.std.proofs.Common.{◌≡◌, ◌≤◌, ◌<◌, ◌+◌, ◌^◌, ◌&&◌, ℕ, suc, Bool, true, false, cond, List, [], ◌∷◌, ◌++◌, length, reverse, Option, Some, None, Result, Ok, Err, refl, sym, ap, ◌∙◌, arith}
use Rattle.wc_model.proofs.Common.{nat_tests, reverse_onto, bytes_eq-Decides, bytes_eq}
use Rattle.circular_buffer.proofs.Places.{slice_get-append_right}
use Rattle.std.proofs.lemmas.List.{append_assoc, length-reverse}
use Rattle.std.specs.Prelude.{codes, nat_le, nat_lt, IfSome, option_map}
use Rattle.wc_model.specs.Definitions.{Record, LogOf, first_row, has_fields, last_moment, log_after, log_of, log_with, moment_of, number_within, refused_at, row_at, row_data_of, row_from, row_of, row_of_fields, where_passes, with_row, LogRow, RowData}
use Rattle.wc_record.proofs.Marks.{cut_log_is_same}
use Rattle.wc_record.specs.Cutting.{cut_from, log_start}
use Rattle.wc_record.specs.{Answer, HasLeft, IsLeft, Takes, end_after, log_following, moment_or_zero, row_bytes, GivesRecord, Reads, ReadsTo, all_records, record_at, records_read, HasRecords, records_of, head_view}
use Rattle.wc_record.specs.declared.log.LogEnd.{LogEnd}
use Rattle.wc_record.specs.declared.log.Rows.{Rows}
use Rattle.wc_record.specs.declared.row_head.RowHead.{RowHead}
use Rattle.wc_record.specs.declared.row_kind.LogFault.TheVariants as fault

-- a moment is below 2^40
moment_early : (o : Option ℕ) (ms : ℕ) → where_passes (λ n. nat_le n 1099511627775) o ≡ Some ms → ms < 2 ^ 40
moment_early None ms e = cc
moment_early (Some n) ms e = by_test (nat_le n 1099511627775) refl e
  where
    by_test : (b : Bool) → nat_le n 1099511627775 ≡ b → cond b (Some n) None ≡ Some ms → ms < 2 ^ 40
    by_test true f h =
        let same : n ≡ ms = cc in
        let small : n ≤ 1099511627775 = grind (arith, nat_tests) in
        rw (← same) (omega arith)
    by_test false f h = cc

-- what a row keeps of the fields that write it
pub record RowFacts (n last : ℕ) (fields : Record) (row : LogRow) : Type 0 where
  pub number : row.number ≡ n
  pub in_order : last ≤ row.ms
  pub early : row.ms < 2 ^ 40
  pub moment : (before : List Record) → last_moment (fields ∷ before) ≡ Some row.ms

-- by its data
from_data : (n last ms : ℕ) (moment : List ℕ) (more : Record) (row : LogRow) → moment_of moment ≡ Some ms → last ≤ ms → (brings : Result RowData ℕ) → row_from n ms brings ≡ Ok row → RowFacts n last (moment ∷ more) row
from_data n last ms moment more row m order (Err e) h = cc
from_data n last ms moment more row m order (Ok brings) h =
    let same : record { number = n; ms = ms; brings = brings } ≡ row = cc in
    rw (← same) (record { number = refl; in_order = order; early = moment_early (number_within 13 moment) ms m; moment = λ before. m })

-- by its moment
from_moment : (n last : ℕ) (moment kind text : List ℕ) (more : Record) (row : LogRow) (o : Option ℕ) → moment_of moment ≡ o → row_at n (Some last) o kind text ≡ Ok row → RowFacts n last (moment ∷ more) row
from_moment n last moment kind text more row None m e = cc
from_moment n last moment kind text more row (Some ms) m e = by_order (nat_le last ms) refl e
  where
    by_order : (b : Bool) → nat_le last ms ≡ b → cond b (row_from n ms (row_data_of kind text)) (Err 603) ≡ Ok row → RowFacts n last (moment ∷ more) row
    by_order true f h = from_data n last ms moment more row m (grind (arith, nat_tests)) (row_data_of kind text) h
    by_order false f h = cc

-- the facts of a row
pub row_facts : (n last : ℕ) (fields : Record) (row : LogRow) → row_of_fields n (Some last) fields ≡ Ok row → RowFacts n last fields row
row_facts n last [] row e = cc
row_facts n last (a ∷ []) row e = cc
row_facts n last (a ∷ b ∷ []) row e = cc
row_facts n last (moment ∷ kind ∷ text ∷ []) row e = from_moment n last moment kind text (kind ∷ text ∷ []) row (moment_of moment) refl e
row_facts n last (a ∷ b ∷ c ∷ d ∷ more) row e = cc

-- no moment before is like the moment 0 before
at_zero : (n : ℕ) (o : Option ℕ) (kind text : List ℕ) → row_at n None o kind text ≡ row_at n (Some 0) o kind text
at_zero n None kind text = refl
at_zero n (Some ms) kind text = let first : nat_le 0 ms ≡ true = grind (arith, nat_tests) in rw first refl

-- so for the fields of a row
from_zero : (n : ℕ) (o : Option ℕ) (fields : Record) → row_of_fields n o fields ≡ row_of_fields n (Some (moment_or_zero o)) fields
from_zero n (Some last) fields = refl
from_zero n None [] = refl
from_zero n None (a ∷ []) = refl
from_zero n None (a ∷ b ∷ []) = refl
from_zero n None (moment ∷ kind ∷ text ∷ []) = at_zero n (moment_of moment) kind text
from_zero n None (a ∷ b ∷ c ∷ d ∷ more) = refl

-- the row of a record within the limit of rows
row_within : (before : List Record) (fields : Record) (n last : ℕ) → n ≡ length before → n < 1000000 → last ≡ moment_or_zero (last_moment before) → row_of before fields ≡ row_of_fields (n + 1) (Some last) fields
row_within before fields n last counted few is =
    let below : nat_lt 1000000 (suc (length before)) ≡ false = grind (arith, nat_tests) in
    let next : n + 1 ≡ suc (length before) = omega arith in
    rw (below, next, is) (from_zero (suc (length before)) (last_moment before) fields)

-- a record that writes a row
pub step_row : (before rest : List Record) (fields : Record) (n last : ℕ) (row : LogRow) → n ≡ length before → n < 1000000 → last ≡ moment_or_zero (last_moment before) → row_of_fields (n + 1) (Some last) fields ≡ Ok row
    → log_after before (fields ∷ rest) ≡ with_row row (log_after (fields ∷ before) rest)
step_row before rest fields n last row counted few is e = ap (λ r. log_with before r (log_after (fields ∷ before) rest)) (row_within before fields n last counted few is ∙ e)

-- a record that is refused
pub step_refused : (before rest : List Record) (fields : Record) (n last number : ℕ) → n ≡ length before → n < 1000000 → last ≡ moment_or_zero (last_moment before) → row_of_fields (n + 1) (Some last) fields ≡ Err number
    → log_after before (fields ∷ rest) ≡ refused_at number (n + 1)
step_refused before rest fields n last number counted few is e =
    let next : suc (length before) ≡ n + 1 = omega arith in
    ap (λ r. log_with before r (log_after (fields ∷ before) rest)) (row_within before fields n last counted few is ∙ e) ∙ ap (refused_at number) next

-- a record that is one too many
pub step_too_many : (before rest : List Record) (fields : Record) (n place : ℕ) → n ≡ length before → 1000000 ≤ n → place ≡ n + 1 → log_after before (fields ∷ rest) ≡ refused_at 607 place
step_too_many before rest fields n place counted many is =
    let above : nat_lt 1000000 (suc (length before)) ≡ true = grind (arith, nat_tests) in
    let next : suc (length before) ≡ place = omega (arith, counted, is) in
    rw above (ap (refused_at 607) next)

-- the first row has no moment
pub first_has_none : (fields : Record) → true ≡ has_fields first_row fields → last_moment (fields ∷ []) ≡ None
first_has_none [] e = refl
first_has_none (name ∷ more) e = by_name (bytes_eq (codes "ms") name) refl (sym e)
  where
    by_name : (b : Bool) → bytes_eq (codes "ms") name ≡ b → (b && has_fields (codes "kind" ∷ codes "data" ∷ []) more) ≡ true → moment_of name ≡ None
    by_name true f h = let same : codes "ms" ≡ name = (bytes_eq-Decides (codes "ms") name).0 f in rw (← same) refl
    by_name false f h = cc

-- the first row, if it is as it must be
pub first_read : (left rest : List Record) (fields : Record) → left ≡ fields ∷ rest → true ≡ has_fields first_row fields → log_of left ≡ log_after (fields ∷ []) rest
first_read left rest fields e f = rw (e, ← f) refl

-- a first row that is not as it must be is refused, and so is a log with none
pub first_refused : (left rest : List Record) (fields : Record) → left ≡ fields ∷ rest → false ≡ has_fields first_row fields → (log_of left ≡ refused_at 601 1) × (fields ≡ record_at left 1)
first_refused left rest fields e f = rw (e, ← f) (refl, refl)

pub none_refused : (left : List Record) (fields : Record) → left ≡ [] → fields ≡ [] → (log_of left ≡ refused_at 601 1) × (fields ≡ record_at left 1)
none_refused left fields e f = rw e (refl, f)

-- what is given is taken, and the end is kept
pub taken : {R : Type 0} (bytes_left : R → Option (List ℕ)) (before left : List Record) (answer : Answer RowHead) (given : Rows R) (end : Option LogEnd) → end ≡ end_after answer
    → GivesRecord bytes_left before left answer given → Takes (head_view (row_bytes given)) bytes_left (log_following before left) answer (record given { end = end })
taken bytes_left before left (Ok (Some row)) given end e h =
    let represents = h.3.represents in
    (log_following h.0 h.1, h.2, rw e (h.0, h.1, record { has = represents.has; number = represents.number; last = represents.last; few = represents.few }, refl))
taken bytes_left before left (Ok None) given end e h = (h, rw e h)
taken bytes_left before left (Err (fault.Refused number place)) given end e h = (h.0, rw e h.0)
taken bytes_left before left (Err fault.Read) given end e h = tt
taken bytes_left before left (Err fault.Memory) given end e h = tt

-- after it are the same records, up to the end
pub read_on : {R : Type 0} (bytes_left : R → Option (List ℕ)) (before left : List Record) (answer : Answer RowHead) (given : Rows R) (end : Option LogEnd) → end ≡ end_after answer
    → GivesRecord bytes_left before left answer given → ReadsTo bytes_left end (record given { end = end }) (all_records before left)
read_on bytes_left before left (Ok (Some row)) given end e h =
    let represents = h.3.represents in
    rw e (
      h.0,
      h.1,
      record {
        represents = record { has = represents.has; number = represents.number; last = represents.last; few = represents.few };
        all = h.3.all;
        current = h.3.current;
      },
    )
read_on bytes_left before left (Ok None) given end e h = rw e tt
read_on bytes_left before left (Err (fault.Refused number place)) given end e h = rw e h.1
read_on bytes_left before left (Err fault.Read) given end e h = rw e tt
read_on bytes_left before left (Err fault.Memory) given end e h = rw e tt

-- what is given of the same log and the same records
pub gives_as : {R : Type 0} (bytes_left : R → Option (List ℕ)) (before left before' left' : List Record) (answer : Answer RowHead) (given : Rows R)
    → log_following before left ≡ log_following before' left' → all_records before left ≡ all_records before' left' → GivesRecord bytes_left before' left' answer given → GivesRecord bytes_left before left answer given
gives_as bytes_left before left before' left' (Ok (Some row)) given e f h = (h.0, h.1, e ∙ h.2, record { represents = h.3.represents; all = f ∙ h.3.all; current = h.3.current })
gives_as bytes_left before left before' left' (Ok None) given e f h = e ∙ h
gives_as bytes_left before left before' left' (Err (fault.Refused number place)) given e f h = (e ∙ h.0, rw f h.1)
gives_as bytes_left before left before' left' (Err fault.Read) given e f h = (tt, tt)
gives_as bytes_left before left before' left' (Err fault.Memory) given e f h = (tt, tt)

-- no record was read
pub none_read : (before : List Record) → 0 ≡ length before → before ≡ []
none_read [] e = refl
none_read (fields ∷ before) e = absurd (omega (arith, e))

-- one record more was read
pub one_read : (fields : Record) (before rest : List Record) → all_records before (fields ∷ rest) ≡ all_records (fields ∷ before) rest
one_read fields before rest = sym (ap (λ l. l ++ rest) (reverse_onto before fields []) ∙ append_assoc (reverse before) (fields ∷ []) rest)

-- the record after n is the one of the next number
pub record_there : (fields : Record) (before rest : List Record) (n : ℕ) → n ≡ length before → fields ≡ record_at (all_records before (fields ∷ rest)) (n + 1)
record_there fields before rest n counted =
    let place : n ≡ length (reverse before) + 0 = omega (arith, length-reverse before) in
    let next : n + 1 ≡ suc n = omega arith in
    rw (next, slice_get-append_right (reverse before) (fields ∷ rest) n 0 place) refl

-- so it is if it was read last
pub record_read : (fields : Record) (earlier left : List Record) (n : ℕ) → n ≡ suc (length earlier) → fields ≡ record_at (all_records (fields ∷ earlier) left) n
record_read fields earlier left n counted =
    let next : n ≡ length earlier + 1 = omega arith in
    rw (next, ← one_read fields earlier left) (record_there fields earlier left (length earlier) refl)

-- what is left if nothing has ended the log
pub not_ended : {R : Type 0} (bytes_left : R → Option (List ℕ)) (rows : Rows R) (log : LogOf) (end : Option LogEnd) → end ≡ None → IsLeft bytes_left end rows log → IsLeft bytes_left None rows log
not_ended bytes_left rows log end e h = rw e at h

-- the records if nothing has ended the log
pub reads_still : {R : Type 0} (bytes_left : R → Option (List ℕ)) (rows : Rows R) (records : List Record) (end : Option LogEnd) → end ≡ None → ReadsTo bytes_left end rows records → ReadsTo bytes_left None rows records
reads_still bytes_left rows records end e h = rw e at h

-- if the bytes are known, their log is left at first: what is cut off changes none of it
pub all_left : {R : Type 0} (bytes_left : R → Option (List ℕ)) (rows : Rows R) (known read : Option (List ℕ)) → rows.number ≡ 0 → rows.last ≡ 0 → rows.end ≡ None → read ≡ option_map (cut_from log_start) known
    → ((bytes : List ℕ) → read ≡ Some bytes → HasRecords bytes_left rows.records (records_of bytes)) → IfSome known (λ bytes. HasLeft bytes_left rows (log_of (records_of bytes)))
all_left bytes_left rows None read number last end cut h = tt
all_left bytes_left rows (Some bytes) read number last end cut h =
    rw end ([], records_of (cut_from log_start bytes), record { has = h (cut_from log_start bytes) cut; number = number; last = last; few = omega arith }, sym (cut_log_is_same bytes))

-- and its records are read up to the cut
pub all_read : {R : Type 0} (bytes_left : R → Option (List ℕ)) (rows : Rows R) (known read : Option (List ℕ)) → rows.number ≡ 0 → rows.last ≡ 0 → rows.end ≡ None → read ≡ option_map (cut_from log_start) known
    → ((bytes : List ℕ) → read ≡ Some bytes → HasRecords bytes_left rows.records (records_of bytes)) → IfSome known (λ bytes. Reads bytes_left rows (records_read bytes))
all_read bytes_left rows None read number last end cut h = tt
all_read bytes_left rows (Some bytes) read number last end cut h =
    rw end (
      [],
      records_of (cut_from log_start bytes),
      record {
        represents = record { has = h (cut_from log_start bytes) cut; number = number; last = last; few = omega arith };
        all = refl;
        current = tt;
      },
    )
