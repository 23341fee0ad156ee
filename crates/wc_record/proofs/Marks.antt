-- A byte order mark at the start of a log is read as `csv` reads it: it is not one of the log's bytes.
use Rattle.wc_model.proofs.Common.{◌≡◌, ◌==◌, ◌&&◌, ℕ, Bool, true, false, cond, List, [], ◌∷◌, refl, subst, sym, ap, ◌∙◌, eqb-true}
use Rattle.csv.specs.Reading.{default_config, records, strip_bom}
use Rattle.wc_model.specs.Run.Log.{log_of}
use Rattle.wc_record.proofs.CutRecords.{same_log}
use Rattle.wc_record.specs.Cutting.{cut_from, after_opening, after_plain, log_start, record_start}
use Rattle.wc_record.specs.Reading.{records_of}
use Rattle.wc_record.specs.declared.place.LogPlace.{LogPlace}
use Rattle.wc_record.specs.declared.place.ByteState.{ByteState}
use Rattle.wc_record.specs.declared.place.ByteState.TheVariants as byte_state

-- what a text with no mark at its start begins with
no_mark_first : (a : ℕ) (xs : List ℕ) → (a == 0xEF) ≡ false → strip_bom (a ∷ xs) ≡ a ∷ xs
unfolding strip_bom
no_mark_first a [] e = refl
no_mark_first a (b ∷ []) e = refl
no_mark_first a (b ∷ c ∷ rest) e = rw e refl

-- the same if its second byte is not a mark's
no_mark_second : (a b : ℕ) (xs : List ℕ) → (b == 0xBB) ≡ false → strip_bom (a ∷ b ∷ xs) ≡ a ∷ b ∷ xs
unfolding strip_bom
no_mark_second a b [] e = refl
no_mark_second a b (c ∷ rest) e = rw e (none (a == 0xEF))
  where
    none : (x : Bool) → cond ((x && false) && (c == 0xBF)) rest (a ∷ b ∷ c ∷ rest) ≡ a ∷ b ∷ c ∷ rest
    none true = refl
    none false = refl

-- the same if its third byte is not a mark's
no_mark_third : (a b c : ℕ) (xs : List ℕ) → (c == 0xBF) ≡ false → strip_bom (a ∷ b ∷ c ∷ xs) ≡ a ∷ b ∷ c ∷ xs
unfolding strip_bom
no_mark_third a b c xs e = rw e (none (a == 0xEF) (b == 0xBB))
  where
    none : (x y : Bool) → cond ((x && y) && false) xs (a ∷ b ∷ c ∷ xs) ≡ a ∷ b ∷ c ∷ xs
    none true true = refl
    none true false = refl
    none false y = refl

-- the bytes that are read from a position on, if n bytes were read and no field has ended
from : ByteState → ℕ → List ℕ → List ℕ
from at size bytes = cut_from (record { byte_state = at; ended = 0; size = size }) bytes

-- after two bytes of a mark
third_kept : (bytes : List ℕ) → strip_bom (0xEF ∷ 0xBB ∷ from byte_state.ThirdOfMark 2 bytes) ≡ cut_from record_start (strip_bom (0xEF ∷ 0xBB ∷ bytes))
unfolding strip_bom cut_from from
third_kept [] = refl
third_kept (c ∷ rest) = by_third (c == 0xBF) refl
  where
    by_third : (x : Bool) → (c == 0xBF) ≡ x → strip_bom (0xEF ∷ 0xBB ∷ c ∷ cut_from (cond x record_start (after_plain 0 3 c)) rest) ≡ cut_from record_start (strip_bom (0xEF ∷ 0xBB ∷ c ∷ rest))
    by_third true e = rw (eqb-true c 0xBF e) refl
    by_third false e = no_mark_third 0xEF 0xBB c _ e ∙ sym (ap (cut_from record_start) (no_mark_third 0xEF 0xBB c rest e))

-- after one
second_kept : (bytes : List ℕ) → strip_bom (0xEF ∷ from byte_state.SecondOfMark 1 bytes) ≡ cut_from record_start (strip_bom (0xEF ∷ bytes))
unfolding strip_bom cut_from from
second_kept [] = refl
second_kept (b ∷ rest) = by_second (b == 0xBB) refl
  where
    third : LogPlace
    third = record { byte_state = byte_state.ThirdOfMark; ended = 0; size = 2 }

    by_second : (x : Bool) → (b == 0xBB) ≡ x → strip_bom (0xEF ∷ b ∷ cut_from (cond x third (after_plain 0 2 b)) rest) ≡ cut_from record_start (strip_bom (0xEF ∷ b ∷ rest))
    by_second true e = subst (λ y. strip_bom (0xEF ∷ y ∷ from byte_state.ThirdOfMark 2 rest) ≡ cut_from record_start (strip_bom (0xEF ∷ y ∷ rest))) (sym (eqb-true b 0xBB e)) (third_kept rest)
    by_second false e = no_mark_second 0xEF b _ e ∙ sym (ap (cut_from record_start) (no_mark_second 0xEF b rest e))

-- what is read of a log is, without its mark, what is read of the log without its mark
mark_kept : (bytes : List ℕ) → strip_bom (cut_from log_start bytes) ≡ cut_from record_start (strip_bom bytes)
unfolding strip_bom cut_from from
mark_kept [] = refl
mark_kept (a ∷ rest) = by_first (a == 0xEF) refl
  where
    second : LogPlace
    second = record { byte_state = byte_state.SecondOfMark; ended = 0; size = 1 }

    by_first : (x : Bool) → (a == 0xEF) ≡ x → strip_bom (a ∷ cut_from (cond x second (after_opening 0 1 a)) rest) ≡ cut_from record_start (strip_bom (a ∷ rest))
    by_first true e = subst (λ y. strip_bom (y ∷ from byte_state.SecondOfMark 1 rest) ≡ cut_from record_start (strip_bom (y ∷ rest))) (sym (eqb-true a 0xEF e)) (second_kept rest)
    by_first false e = no_mark_first a _ e ∙ sym (ap (cut_from record_start) (no_mark_first a rest e))

-- what is read of a log has the rows and the refusal of the whole log
pub cut_log_is_same : (bytes : List ℕ) → log_of (records_of (cut_from log_start bytes)) ≡ log_of (records_of bytes)
cut_log_is_same bytes = ap (λ (xs : List ℕ). log_of (records default_config xs)) (mark_kept bytes) ∙ same_log (strip_bom bytes)
