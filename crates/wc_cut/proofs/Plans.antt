-- What is written row by row is the log that is cut.
use Rattle.wc_model.proofs.Common.{◌≡◌, ℕ, zero, suc, ◌+◌, ◌<◌, ◌≤◌, inl, inr, Bool, true, false, List, [], ◌∷◌, ◌++◌, length, drop, take, refl, ap, sym, ◌∙◌, arith, append_assoc, append-nil, cases_lt, le-leb, lt-leb, drop_all, length-drop, take_all}
use Rattle.std.specs.Prelude.{Option, Some, None, nat_lt, if◌then◌else◌}
use Rattle.wc_controller.specs.Files.{Observed}
use Rattle.wc_cut.specs.{cut_log, cut_observed, cut_plan, cut_written, opening_text, row_written, row_text, rows_text}
use Rattle.wc_laws_instrument.specs.Preludes.{past_after}
use Rattle.wc_model.specs.Definitions.{PlateData, LogRefusal, LogRow, Past, Logic}
use Rattle.wc_run.specs.Observing.{Written, text_coming, text_in_all}

-- the three cases of a row
before_cut : {A : Type 0} (b : Bool) (x y : A) → b ≡ true → (if b then x else y) ≡ x
before_cut b x y e = ap (λ c. if c then x else y) e

after_cut : {A : Type 0} (b c : Bool) (x y z : A) → b ≡ false → c ≡ true → (if b then x else if c then y else z) ≡ y
after_cut b c x y z e f = λ i. if e i then x else if f i then y else z

at_cut : {A : Type 0} (b c : Bool) (x y z : A) → b ≡ false → c ≡ false → (if b then x else if c then y else z) ≡ z
at_cut b c x y z e f = λ i. if e i then x else if f i then y else z

-- tests of numbers
is_less : (a b : ℕ) → a < b → nat_lt a b ≡ true
is_less a b h = le-leb (suc a) b (omega (arith, h))

is_not_less : (a b : ℕ) → b ≤ a → nat_lt a b ≡ false
is_not_less a b h = lt-leb (suc a) b (omega (arith, h))

module _ (count : ℕ) (plate : PlateData) (logic : Option Logic) where
  -- what a row is written as
  pub written_before : (past : Past) (row : LogRow) → length past < count → row_written count plate logic past row ≡ []
  written_before past row h =
      before_cut (nat_lt (length past) count) [] (if nat_lt count (length past) then row_text row else opening_text plate past ++ row_text row)
      (is_less (length past) count h)

  pub written_after : (past : Past) (row : LogRow) → count < length past → row_written count plate logic past row ≡ row_text row
  written_after past row h =
      after_cut (nat_lt (length past) count) (nat_lt count (length past)) [] (row_text row) (opening_text plate past ++ row_text row)
      (is_not_less (length past) count (omega (arith, h))) (is_less count (length past) h)

  pub written_at : (past : Past) (row : LogRow) → count ≡ length past → row_written count plate logic past row ≡ opening_text plate past ++ row_text row
  written_at past row h =
      at_cut (nat_lt (length past) count) (nat_lt count (length past)) [] (row_text row) (opening_text plate past ++ row_text row)
      (is_not_less (length past) count (omega (arith, h))) (is_not_less count (length past) (omega (arith, h)))

  -- after the cut
  text_after : (past : Past) (rows : List LogRow) → count < length past → text_coming (cut_plan count) plate logic past rows ≡ rows_text rows
  text_after past [] more = refl
  text_after past (row ∷ rows) more = λ i. written_after past row more i ++ text_after (row ∷ past) rows (omega (arith, more)) i

  -- what is written of the rows after the cut, if there are any
  abbrev coming_text : Past → List LogRow → List ℕ
  coming_text past [] = []
  coming_text past (row ∷ rows) = opening_text plate past ++ rows_text (row ∷ rows)

  text_at : (past : Past) (rows : List LogRow) → count ≡ length past → text_coming (cut_plan count) plate logic past rows ≡ coming_text past rows
  text_at past [] here = refl
  text_at past (row ∷ rows) here =
      (λ i. written_at past row here i ++ text_after (row ∷ past) rows (omega (arith, here)) i)
      ∙ append_assoc (opening_text plate past) (row_text row) (rows_text rows)

  -- n rows before it
  text_before : (k : ℕ) (past : Past) (rows : List LogRow) → length past + k ≡ count →
      text_coming (cut_plan count) plate logic past rows ≡ coming_text (past_after past (take k rows)) (drop k rows)
  text_before zero past rows there = text_at past rows (omega (arith, there))
  text_before (suc k) past [] there = refl
  text_before (suc k) past (row ∷ rows) there =
      (λ i. written_before past row (omega (arith, there)) i ++ text_coming (cut_plan count) plate logic (row ∷ past) rows)
      ∙ text_before k (row ∷ past) rows (omega (arith, there))

  coming_some : (past : Past) (rows : List LogRow) → 0 < length rows → coming_text past rows ≡ opening_text plate past ++ rows_text rows
  coming_some past [] h = absurd (omega arith)
  coming_some past (row ∷ rows) h = refl

  -- a log with a row after the cut
  text_with : (rows : List LogRow) → count < length rows → text_coming (cut_plan count) plate logic [] rows ≡ cut_log count plate rows
  text_with rows more = text_before count [] rows (omega arith)
      ∙ coming_some (past_after [] (take count rows)) (drop count rows) (omega (arith, more, length-drop count rows))

  -- and one without
  text_without : (rows : List LogRow) → length rows ≤ count → text_coming (cut_plan count) plate logic [] rows ≡ []
  text_without rows few = text_before count [] rows (omega arith) ∙ ap (coming_text (past_after [] (take count rows))) (drop_all count rows few)

  whole_opening : (rows : List LogRow) → length rows ≤ count → opening_text plate (past_after [] rows) ≡ cut_log count plate rows
  whole_opening rows few =
      sym (append-nil (opening_text plate (past_after [] rows)))
      ∙ sym (λ i. opening_text plate (past_after [] (take_all count rows few i)) ++ rows_text (drop_all count rows few i))

  -- in all
  text_whole : (rows : List LogRow) (refusal : Option LogRefusal) → text_in_all (cut_plan count) plate logic refusal rows ≡ cut_written count plate logic refusal rows
  text_whole rows None = elim (cases_lt count (length rows)) [
    | inl more ↦
        (λ i. text_with rows more i ++ (if lt-leb (length rows) count more i then opening_text plate (past_after [] rows) else []))
        ∙ append-nil (cut_log count plate rows)
    | inr few ↦
        (λ i. text_without rows few i ++ (if le-leb (length rows) count few i then opening_text plate (past_after [] rows) else []))
        ∙ whole_opening rows few
  ]
  text_whole rows (Some refusal) = elim (cases_lt count (length rows)) [
    | inl more ↦
        ap (λ text. text ++ []) (text_with rows more) ∙ append-nil (cut_log count plate rows)
        ∙ sym (before_cut (nat_lt count (length rows)) (cut_log count plate rows) [] (is_less count (length rows) more))
    | inr few ↦
        ap (λ text. text ++ []) (text_without rows few)
        ∙ sym (ap (λ b. if b then cut_log count plate rows else []) (is_not_less count (length rows) few))
  ]

-- so what is written by the plan is what is written of a log that is cut
pub plan_is_cut : (count : ℕ) → text_in_all (cut_plan count) ≡ cut_written count
plan_is_cut count = λ i plate logic refusal rows. text_whole count plate logic rows refusal i

-- whoever cuts after n rows
abbrev observed_with : Written → Observed
observed_with written = record { written = written; begins = λ logic. true }

pub observed_is : (count kept : ℕ) → kept ≡ count → observed_with (text_in_all (cut_plan kept)) ≡ cut_observed count
observed_is count kept e = λ i. record { written = (ap (λ n. text_in_all (cut_plan n)) e ∙ plan_is_cut count) i; begins = λ logic. true }
