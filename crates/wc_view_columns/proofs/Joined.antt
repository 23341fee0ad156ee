-- A time line with a row more; what is known of some numbers and then of others.
use Rattle.wc_model.proofs.Common.{◌≡◌, ℕ, ◌<◌, ◌≤◌, ◌⊎◌, inl, inr, List, [], ◌∷◌, ◌++◌, Some, None, length, sym, ap, ◌∙◌, subst, le_of_eq, ℤ, refl, arith, int_max_is, int_min_is, ints, fold-append, int_max, int_min, fold}
use Rattle.wc_view_columns.specs.{IsStateOf, span_of, AreFrom, Row, column_count, column_number, left_by, AreColumns, IsStart}
use Rattle.wc_view_columns.specs.declared.line.TimeLine.{TimeLine}
use Rattle.wc_view_columns.specs.declared.state.State.{State}
use Rattle.wc_view_columns.specs.declared.span.NumberSpan.{NumberSpan}
use Rattle.wc_view_columns.proofs.Rows.{AreEach, still_narrow}

-- the same columns
pub moved : (rows : List Row) (a b : TimeLine) → b.columns.items ≡ a.columns.items → b.start ≡ a.start → b.power ≡ a.power → AreColumns rows a → AreColumns rows b
moved rows a b same start power are = record {
  count = ap length same ∙ are.count ∙ (λ i. column_count (sym start i) (sym power i) rows);
  each = subst (λ cs. AreEach b.start b.power rows cs) (sym same)
      (subst (λ s. AreEach s b.power rows a.columns.items) (sym start) (subst (λ p. AreEach a.start p rows a.columns.items) (sym power) are.each));
}

-- if something is left by rows, there are rows, which have a start
pub from_start : (rows : List Row) (row : Row) (start : ℕ) (state : State) → IsStateOf (left_by rows) state → IsStart rows start → AreFrom 0 (rows ++ row ∷ [])
    → AreFrom start (rows ++ row ∷ [])
from_start [] row start state held begun from = let e : Some state.inputs.last ≡ None = held.inputs.last in absurd (cc (e))
from_start (r ∷ rows) row start state held begun from = (le_of_eq begun, from.1)

pub start_stays : (rows : List Row) (row : Row) (start : ℕ) (state : State) → IsStateOf (left_by rows) state → IsStart rows start → IsStart (rows ++ row ∷ []) start
start_stays [] row start state held begun = let e : Some state.inputs.last ≡ None = held.inputs.last in absurd (cc (e))
start_stays (r ∷ rows) row start state held begun = begun

-- no narrower columns reach, if none did before, or the row is too far
pub narrow_on : (start power : ℕ) (rows : List Row) (row : Row) → ((p : ℕ) → p < power → 720 < column_count start p rows) → (p : ℕ)
    → ((p < power) ⊎ (720 ≤ column_number start p row.ms)) → 720 < column_count start p (rows ++ row ∷ [])
narrow_on start power rows row was p (inl l) = still_narrow start p rows row (inl (was p l))
narrow_on start power rows row was p (inr far) = still_narrow start p rows row (inr far)

-- in whatever order it is looked for
folded_on : (f : ℤ → ℤ → ℤ) → ((a b c : ℤ) → f (f a b) c ≡ f a (f b c)) → (a b : ℤ) (numbers : List ℤ) → fold f (f a b) numbers ≡ f a (fold f b numbers)
folded_on f assoc a b [] = refl
folded_on f assoc a b (c ∷ numbers) = ap (λ n. fold f n numbers) (assoc a b c) ∙ folded_on f assoc a (f b c) numbers

min_assoc : (a b c : ℤ) → int_min (int_min a b) c ≡ int_min a (int_min b c)
min_assoc a b c = omega (arith, ints, int_min_is a b, int_min_is (int_min a b) c, int_min_is b c, int_min_is a (int_min b c))

max_assoc : (a b c : ℤ) → int_max (int_max a b) c ≡ int_max a (int_max b c)
max_assoc a b c = omega (arith, ints, int_max_is a b, int_max_is (int_max a b) c, int_max_is b c, int_max_is a (int_max b c))

-- of both together
pub both_spans : (earlier later : List ℤ) (a b c : NumberSpan) → Some a ≡ span_of earlier → Some b ≡ span_of later
    → c.least ≡ int_min a.least b.least → c.greatest ≡ int_max a.greatest b.greatest → c.last ≡ b.last → Some c ≡ span_of (earlier ++ later)
both_spans [] later a b c ea eb least greatest last = absurd (cc)
both_spans (x ∷ xs) [] a b c ea eb least greatest last = absurd (cc)
both_spans (x ∷ xs) (y ∷ ys) a b c ea eb least greatest last =
    let first : a ≡ record { least = fold int_min x xs; greatest = fold int_max x xs; last = fold (λ _ n. n) x xs } = cc in
    let second : b ≡ record { least = fold int_min y ys; greatest = fold int_max y ys; last = fold (λ _ n. n) y ys } = cc in
    let lower : c.least ≡ fold int_min x (xs ++ y ∷ ys) =
    least ∙ (λ i. int_min (first i).least (second i).least)
    ∙ sym (folded_on int_min min_assoc (fold int_min x xs) y ys) ∙ sym (fold-append int_min x xs (y ∷ ys)) in
    let upper : c.greatest ≡ fold int_max x (xs ++ y ∷ ys) =
    greatest ∙ (λ i. int_max (first i).greatest (second i).greatest)
    ∙ sym (folded_on int_max max_assoc (fold int_max x xs) y ys) ∙ sym (fold-append int_max x xs (y ∷ ys)) in
    let end : c.last ≡ fold (λ _ n. n) x (xs ++ y ∷ ys) = last ∙ ap (λ s. s.last) second ∙ sym (fold-append (λ _ n. n) x xs (y ∷ ys)) in
    λ i. Some (record { least = lower i; greatest = upper i; last = end i })
