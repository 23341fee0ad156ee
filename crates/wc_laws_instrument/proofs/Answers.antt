-- An answer has twenty bytes.
use Rattle.wc_model.proofs.Common.{◌≡◌, ℕ, zero, suc, ◌+◌, ◌-◌, ◌*◌, ◌/◌, ◌%◌, ◌<◌, ◌≤◌, inl, inr, Bool, true, false, cond, not, ◌&&◌, List, [], ◌∷◌, ◌++◌, length, refl, ap, sym, subst, ◌∙◌, arith, length-append, append_assoc, mul-le-mul, mul-le-mul_right, length-decimal-le, ints, unsigned_abs-mul, is_negative}
use Rattle.std.proofs.Math.ListN.{length-replicate}
use Rattle.std.proofs.lemmas.Bool.{cases_lt, cases_Bool, and_parts, or_parts, not-true, true≢false, leb-true}
use Rattle.std.specs.Prelude.{ℤ, pos, negsuc, ◌-ℤ◌, ◌*ℤ◌, int_le, int_lt, unsigned_abs, Option, Some, None, is_some, unwrap_or, decimal, Contains, nat_le, ◌==◌, ◌||◌, ⊤, replicate}
use Rattle.std.specs.List.{list_all, slice_index_or}
use Rattle.wc_laws_instrument.proofs.Indication.{tare_same_at_zero, tare_ended, tare_new, tare_same, no_intervals}
use Rattle.wc_laws_instrument.proofs.Rounding.{quotient_bounds}
use Rattle.wc_model.specs.Definitions.{Sample, SetZero, SetTare, ClearTare, History, refused_unless, has_sample, is_stable, is_over, is_under, is_valid, is_centre_of_zero, can_be_tared, zero_refusal, tare_refusal, from_zero, active_tare, is_tare_active, tare_counts, intervals_of, gross_intervals, net_intervals, in_units, tare_value, gross, net, PlateData, IsPlate, allowed_intervals, grams, kilograms, tonnes, nearest, nearest_above_zero}
use Rattle.wc_model.specs.Instrument.Answers.{last_digits, minus_of, value_text, weight_text, Mode, Shown, Tare, RequestOutcome, Plain, ZeroRefused, TareRefused, status_byte, mode_byte, weight_asked, answer, answer_to, answers_to, command_of, after_command, after_requests}

-- how far from 0 the nearest number is
abs_nearest : (num : ℤ) (span : ℕ) → unsigned_abs (nearest num span) ≡ nearest_above_zero (unsigned_abs num) span
abs_nearest (pos n) span = refl
abs_nearest (negsuc n) span = omega (arith, ints)

-- if two loads are n intervals, what is no farther from 0 than both together is at most one more
difference_bound : (x y z span : ℕ) → 0 < span → z ≤ x + y →
    nearest_above_zero z span ≤ nearest_above_zero x span + nearest_above_zero y span + 1
difference_bound x y z span h le =
    let a : ℕ = nearest_above_zero x span in
    let b : ℕ = nearest_above_zero y span in
    let c : ℕ = nearest_above_zero z span in
    let bx : (2 * (a * span) ≤ 2 * x + span) × (2 * x + span < 2 * (a * span) + 2 * span) = quotient_bounds x span h in
    let by : (2 * (b * span) ≤ 2 * y + span) × (2 * y + span < 2 * (b * span) + 2 * span) = quotient_bounds y span h in
    let bz : (2 * (c * span) ≤ 2 * z + span) × (2 * z + span < 2 * (c * span) + 2 * span) = quotient_bounds z span h in
    elim (cases_lt (a + b + 1) c) [
      | inl l ↦
          let scaled : suc (a + b + 1) * span ≤ c * span = mul-le-mul_right span l in
          let parts : suc (a + b + 1) * span ≡ a * span + b * span + 2 * span = omega arith in
          absurd (omega arith)
      | inr l ↦ l
    ]

-- the number of the last digits
pub length_last_digits : (count number : ℕ) → length (last_digits count number) ≡ count
length_last_digits zero number = refl
length_last_digits (suc count) number =
    omega (arith, length-append (last_digits count (number / 10)) ((48 + number % 10) ∷ []), length_last_digits count (number / 10))

-- a sign is one byte or none
pub length_minus : (value : ℤ) → length (minus_of value) ≤ 1
length_minus value = one_or_none (is_negative value)
  where
    one_or_none : (b : Bool) → length {A = ℕ} (cond b (45 ∷ []) []) ≤ 1
    one_or_none true = omega arith
    one_or_none false = omega arith

-- a text of three parts
pub length_three : (a b c : List ℕ) → length (a ++ b ++ c) ≡ length a + length b + length c
length_three a b c = omega (arith, length-append (a ++ b) c, length-append a b)

-- a weight below ten million is at most ten bytes
pub length_value : (decimals : ℕ) (value : ℤ) → decimals ≤ 3 → unsigned_abs value < 10000000 → length (value_text decimals value) ≤ 10
length_value zero value few small =
    omega (
      arith,
      length_three (minus_of value) (decimal (unsigned_abs value / 1)) [],
      length_minus value,
      length-decimal-le 7 (unsigned_abs value / 1) (omega arith) (omega arith) (omega arith),
    )
length_value (suc zero) value few small =
    omega (
      arith,
      length_three (minus_of value) (decimal (unsigned_abs value / 10)) (46 ∷ last_digits 1 (unsigned_abs value)),
      length_minus value,
      length-decimal-le 6 (unsigned_abs value / 10) (omega arith) (omega arith) (omega arith),
      length_last_digits 1 (unsigned_abs value),
    )
length_value (suc (suc zero)) value few small =
    omega (
      arith,
      length_three (minus_of value) (decimal (unsigned_abs value / 100)) (46 ∷ last_digits 2 (unsigned_abs value)),
      length_minus value,
      length-decimal-le 5 (unsigned_abs value / 100) (omega arith) (omega arith) (omega arith),
      length_last_digits 2 (unsigned_abs value),
    )
length_value (suc (suc (suc zero))) value few small =
    omega (
      arith,
      length_three (minus_of value) (decimal (unsigned_abs value / 1000)) (46 ∷ last_digits 3 (unsigned_abs value)),
      length_minus value,
      length-decimal-le 4 (unsigned_abs value / 1000) (omega arith) (omega arith) (omega arith),
      length_last_digits 3 (unsigned_abs value),
    )
length_value (suc (suc (suc (suc d)))) value few small = absurd (omega arith)

-- if nothing is refused
not_some : {A : Type 0} (o : Option A) → is_some o ≡ false → o ≡ None
not_some None e = refl
not_some (Some x) e = absurd (true≢false e)

-- what is not refused passes the second test
passes_second : (first second : Bool) → refused_unless first second ≡ None → second ≡ true
passes_second true true e = refl
passes_second true false e = absurd (cc)
passes_second false second e = absurd (cc)

-- an active tare is 1 to n intervals
tare_in_range : (p : PlateData) (history : History) (t : ℤ) → active_tare p history ≡ Some t →
    (int_le (pos 1) (intervals_of p t) ≡ true) × (int_le (intervals_of p t) (pos p.n) ≡ true)
tare_in_range p [] t e = absurd (cc)
tare_in_range p (Sample counts ∷ before) t e = tare_in_range p before t e
tare_in_range p (ClearTare ∷ before) t e = absurd (cc)
tare_in_range p (SetZero ∷ before) t e = elim (cases_Bool (is_some (zero_refusal p before))) [
  | inl refused ↦ tare_in_range p before t (sym (tare_same_at_zero p before refused) ∙ e)
  | inr accepted ↦
      let none : active_tare p (SetZero ∷ before) ≡ None = tare_ended p before (not_some (zero_refusal p before) accepted) in
      absurd (cc)
]
tare_in_range p (SetTare ∷ before) t e = elim (cases_Bool (is_some (tare_refusal p before))) [
  | inl refused ↦ tare_in_range p before t (sym (tare_same p before refused) ∙ e)
  | inr accepted ↦
      let none : tare_refusal p before ≡ None = not_some (tare_refusal p before) accepted in
      let left : active_tare p (SetTare ∷ before) ≡ Some (from_zero p before) = tare_new p before none in
      let same : from_zero p before ≡ t = cc in
      let tared : can_be_tared p before ≡ true = passes_second (is_stable p before) (can_be_tared p before) none in
      subst (λ z. (int_le (pos 1) (intervals_of p z) ≡ true) × (int_le (intervals_of p z) (pos p.n) ≡ true)) same
      (and_parts (int_le (pos 1) (gross_intervals p before)) (int_le (gross_intervals p before) (pos p.n)) tared)
]

-- the tare in intervals is no more than Max
tare_bound : (p : PlateData) (history : History) → 0 < p.span_counts → unsigned_abs (intervals_of p (tare_counts p history)) ≤ p.n
tare_bound p history h = go (active_tare p history) refl
  where
    go : (o : Option ℤ) → active_tare p history ≡ o → unsigned_abs (intervals_of p (unwrap_or o (pos 0))) ≤ p.n
    go None e = let zero_is : intervals_of p (pos 0) ≡ pos 0 = no_intervals p h in
        let abs_zero : unsigned_abs (intervals_of p (pos 0)) ≡ 0 = ap unsigned_abs zero_is in omega arith
    go (Some t) e = let range = tare_in_range p history t e in
        let low : int_le (pos 1) (intervals_of p t) ≡ true = range.0 in
        let high : int_le (intervals_of p t) (pos p.n) ≡ true = range.1 in
        omega (arith, ints)

-- of a test that holds with another, the other
with_first : (a b : Bool) → a ≡ true → (a && b) ≡ false → b ≡ false
with_first true b e h = h
with_first false b e h = absurd (true≢false (sym e))

-- a gross weight that is shown is at most n + 20 intervals from 0
gross_bound : (p : PlateData) (history : History) → is_valid p history ≡ true → unsigned_abs (gross_intervals p history) ≤ p.n + 20
gross_bound p history valid =
    let parts : (has_sample history ≡ true) × (not (is_over p history || is_under p history) ≡ true) =
    and_parts (has_sample history) (not (is_over p history || is_under p history)) valid in
    let within : (is_over p history ≡ false) × (is_under p history ≡ false) = or_parts (is_over p history) (is_under p history) (not-true (is_over p history || is_under p history) parts.1) in
    let k : ℤ = gross_intervals p history in
    let high : int_lt (pos (p.n + 9)) k ≡ false = with_first (has_sample history) (int_lt (pos (p.n + 9)) k) parts.0 within.0 in
    let low : int_lt k (negsuc 19) ≡ false = with_first (has_sample history) (int_lt k (negsuc 19)) parts.0 within.1 in
    omega (arith, ints)

-- a net weight is no farther from 0 than the gross weight and the tare together, and one
net_bound : (p : PlateData) (history : History) → 0 < p.span_counts →
    unsigned_abs (net_intervals p history) ≤ unsigned_abs (gross_intervals p history) + unsigned_abs (intervals_of p (tare_counts p history)) + 1
net_bound p history h =
    let r : ℤ = from_zero p history in
    let t : ℤ = tare_counts p history in
    let n : ℤ = pos p.n in
    let apart : unsigned_abs (r -ℤ t) ≤ unsigned_abs r + unsigned_abs t = omega (arith, ints) in
    let scaled : unsigned_abs (r -ℤ t) * p.n ≤ (unsigned_abs r + unsigned_abs t) * p.n = mul-le-mul_right p.n apart in
    let sum : unsigned_abs ((r -ℤ t) *ℤ n) ≤ unsigned_abs (r *ℤ n) + unsigned_abs (t *ℤ n) =
    omega (arith, unsigned_abs-mul (r -ℤ t) n, unsigned_abs-mul r n, unsigned_abs-mul t n) in
    let bound = difference_bound (unsigned_abs (r *ℤ n)) (unsigned_abs (t *ℤ n)) (unsigned_abs ((r -ℤ t) *ℤ n)) p.span_counts h sum in
    omega (arith, bound, abs_nearest (r *ℤ n) p.span_counts, abs_nearest (t *ℤ n) p.span_counts, abs_nearest ((r -ℤ t) *ℤ n) p.span_counts)

-- no element of a list is above a bound of all
index_le : (xs : List ℕ) (k d bound : ℕ) → list_all (λ x. nat_le x bound) xs ≡ true → k < length xs → slice_index_or xs k d ≤ bound
index_le [] k d bound h l = absurd (omega arith)
index_le (x ∷ xs) zero d bound h l = leb-true x bound (and_parts (nat_le x bound) (list_all (λ x. nat_le x bound) xs) h).0
index_le (x ∷ xs) (suc k) d bound h l = index_le xs k d bound (and_parts (nat_le x bound) (list_all (λ x. nat_le x bound) xs) h).1 (omega arith)

-- an interval is at most 50
interval_bound : (decimals e : ℕ) → Contains (allowed_intervals decimals) e → e ≤ 50
interval_bound decimals e c = go (decimals == 0 || decimals == 3) c
  where
    go : (b : Bool) → Contains (cond b (1 ∷ 2 ∷ 5 ∷ 10 ∷ 20 ∷ 50 ∷ []) (1 ∷ 2 ∷ 5 ∷ [])) e → e ≤ 50
    go true d = subst (λ x. x ≤ 50) d.2 (index_le (1 ∷ 2 ∷ 5 ∷ 10 ∷ 20 ∷ 50 ∷ []) d.0 e 50 refl d.1)
    go false d = subst (λ x. x ≤ 50) d.2 (index_le (1 ∷ 2 ∷ 5 ∷ []) d.0 e 50 refl d.1)

-- n intervals are below ten million units
units_bound : (p : PlateData) (k : ℤ) → p.e ≤ 50 → unsigned_abs k ≤ 20021 → unsigned_abs (in_units p k) < 10000000
units_bound p k e h =
    let product : unsigned_abs k * p.e ≤ 20021 * 50 = mul-le-mul h e in
    omega (arith, unsigned_abs-mul k (pos p.e))

-- there is none, or it is below ten million units
abbrev pub IsShort : Option ℤ → Type 0
IsShort None = ⊤
IsShort (Some value) = unsigned_abs value < 10000000

-- a value, if there is an indication, is short if it is short then
short_if_valid : (b : Bool) (value : ℤ) → (b ≡ true → unsigned_abs value < 10000000) → IsShort (cond b (Some value) None)
short_if_valid true value h = h refl
short_if_valid false value h = tt

-- one of two
short_of_two : (b : Bool) (x y : Option ℤ) → IsShort x → IsShort y → IsShort (cond b x y)
short_of_two true x y hx hy = hx
short_of_two false x y hx hy = hy

-- the weights that answers carry are short
pub short_weight : (p : PlateData) (history : History) (mode : Mode) → IsPlate p → IsShort (weight_asked p history mode)
short_weight p history mode plate = by_mode mode
  where
    some_span : 0 < p.span_counts
    some_span = omega (arith, plate.span_in_range.0, plate.count.0)

    small : p.e ≤ 50
    small = interval_bound p.decimals p.e plate.allowed

    short_gross : is_valid p history ≡ true → unsigned_abs (in_units p (gross_intervals p history)) < 10000000
    short_gross valid = units_bound p (gross_intervals p history) small (omega (arith, gross_bound p history valid, plate.count.1))

    short_net : is_valid p history ≡ true → unsigned_abs (in_units p (net_intervals p history)) < 10000000
    short_net valid = units_bound p (net_intervals p history) small
        (omega (arith, net_bound p history some_span, gross_bound p history valid, tare_bound p history some_span, plate.count.1))

    short_tare : is_valid p history ≡ true → unsigned_abs (tare_value p history) < 10000000
    short_tare valid = units_bound p (intervals_of p (tare_counts p history)) small (omega (arith, tare_bound p history some_span, plate.count.1))

    by_mode : (m : Mode) → IsShort (weight_asked p history m)
    by_mode Shown = short_of_two (is_tare_active p history) (net p history) (gross p history)
        (short_if_valid (is_valid p history) (in_units p (net_intervals p history)) short_net)
        (short_if_valid (is_valid p history) (in_units p (gross_intervals p history)) short_gross)
    by_mode Tare = short_if_valid (is_valid p history) (tare_value p history) short_tare

-- a short weight has ten bytes, and so has none
length_weight : (decimals : ℕ) (weight : Option ℤ) → decimals ≤ 3 → IsShort weight → length (weight_text decimals weight) ≡ 10
length_weight decimals None few h = refl
length_weight decimals (Some value) few h =
    let text : List ℕ = value_text decimals value in
    omega (arith, length_value decimals value few h, length-append (replicate (10 - length text) 32) text, length-replicate {A = ℕ} (10 - length text) 32)

-- one of two bytes
one_byte : (b : Bool) (x y : ℕ) → length (cond b (x ∷ []) (y ∷ [])) ≡ 1
one_byte true x y = refl
one_byte false x y = refl

-- one of five
one_of_five : (a b c d : Bool) (v w x y z : ℕ) →
    length (cond a (v ∷ []) (cond b (w ∷ []) (cond c (x ∷ []) (cond d (y ∷ []) (z ∷ []))))) ≡ 1
one_of_five true b c d v w x y z = refl
one_of_five false true c d v w x y z = refl
one_of_five false false true d v w x y z = refl
one_of_five false false false true v w x y z = refl
one_of_five false false false false v w x y z = refl

-- the status is one byte
length_status : (p : PlateData) (history : History) (asked : RequestOutcome) → length (status_byte p history asked) ≡ 1
length_status p history Plain = one_of_five (not (has_sample history)) (is_over p history) (is_under p history) (is_centre_of_zero p history) 73 79 85 90 32
length_status p history ZeroRefused = refl
length_status p history TareRefused = refl

-- the mode is one byte
length_mode : (p : PlateData) (history : History) (mode : Mode) → length (mode_byte p history mode) ≡ 1
length_mode p history Shown = one_byte (is_tare_active p history) 78 71
length_mode p history Tare = refl

-- a unit has three bytes
pub length_unit : (unit : List ℕ) → Contains (grams ∷ kilograms ∷ tonnes ∷ []) unit → length unit ≡ 3
length_unit unit (zero, l, e) = ap length (sym e)
length_unit unit (suc zero, l, e) = ap length (sym e)
length_unit unit (suc (suc zero), l, e) = ap length (sym e)
length_unit unit (suc (suc (suc k)), l, e) = absurd (omega arith)

-- an answer has twenty bytes
pub length_answer : (p : PlateData) (history : History) (mode : Mode) (asked : RequestOutcome) → IsPlate p → length (answer p history mode asked) ≡ 20
length_answer p history mode asked plate =
    simp length-append (omega (
      arith,
      length_status p history asked,
      length_mode p history mode,
      one_byte (is_stable p history) 32 77,
      length_weight p.decimals (weight_asked p history mode) plate.few_decimals (short_weight p history mode plate),
      length_unit p.unit plate.known_unit,
    ))

-- the history after requests and more requests
pub after_more_requests : (texts more : List (List ℕ)) (history : History) →
    after_requests (texts ++ more) history ≡ after_requests more (after_requests texts history)
after_more_requests [] more history = refl
after_more_requests (text ∷ texts) more history = after_more_requests texts more (after_command (command_of text) history)

-- the answers to them
pub answers_to_more : (p : PlateData) (texts more : List (List ℕ)) (history : History) →
    answers_to p (texts ++ more) history ≡ answers_to p texts history ++ answers_to p more (after_requests texts history)
answers_to_more p [] more history = refl
answers_to_more p (text ∷ texts) more history =
    ap (λ r. answer_to p (command_of text) history ++ r) (answers_to_more p texts more (after_command (command_of text) history))
    ∙ sym (append_assoc (answer_to p (command_of text) history) (answers_to p texts (after_command (command_of text) history))
    (answers_to p more (after_requests texts (after_command (command_of text) history))))
