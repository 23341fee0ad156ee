-- A table that is accepted gives a plate in its ranges.
use Rattle.wc_model.proofs.Common.{◌≡◌, ℕ, suc, ◌+◌, ◌*◌, ◌/◌, ◌%◌, ◌^◌, ◌≤◌, inl, inr, Bool, true, false, cond, not, ◌&&◌, List, [], ◌∷◌, refl, ap, sym, subst, ◌∙◌, arith, div-add-mod, mul_comm, ints, list_any, bytes_eq}
use Rattle.std.proofs.lemmas.Bool.{and_parts, or_cases, true≢false, leb-true}
use Rattle.std.specs.Prelude.{ℤ, pos, negsuc, neg_ℤ, ◌≤ℤ◌, ◌*ℤ◌, int_le, int_div, int_rem, unsigned_abs, Option, Some, None, Ok, find, codes, Contains}
use borrow.Author.Differences.{neg_is}
use Rattle.wc_model.specs.Definitions.{PlateData, IsPlate, grams, kilograms, tonnes, grams_of, allowed_intervals, least_sample, greatest_sample, Table, KeyValues, written_of, line_unit, is_between, is_interval, is_count, rules_after_unit, plate_from, unless_broken, validated, plate_of_written, plate_of}

-- if no rule is broken, each holds
each_holds : (a b c d e : Bool) →
    find {X = ℕ × Bool} (λ rule. not rule.1) ((504, a) ∷ (505, b) ∷ (506, c) ∷ (507, d) ∷ (508, e) ∷ []) ≡ None →
    (a ≡ true) × (b ≡ true) × (c ≡ true) × (d ≡ true) × (e ≡ true)
each_holds false b c d e h = absurd (cc)
each_holds true false c d e h = absurd (cc)
each_holds true true false d e h = absurd (cc)
each_holds true true true false e h = absurd (cc)
each_holds true true true true false h = absurd (cc)
each_holds true true true true true h = (refl, refl, refl, refl, refl)

-- an accepted plate broke no rule
none_broken : (broken : Option (ℕ × Bool)) (plate p : PlateData) → unless_broken broken plate ≡ Ok p → (broken ≡ None) × (plate ≡ p)
none_broken None plate p e = (refl, cc)
none_broken (Some rule) plate p e = absurd (cc)

-- a list that has a number that passes has it
contained : (xs : List ℕ) (e : ℤ) → list_any (λ x. int_le e (pos x) && int_le (pos x) e) xs ≡ true → Contains xs (unsigned_abs e) × (e ≡ pos (unsigned_abs e))
contained [] e h = absurd (true≢false (sym h))
contained (x ∷ xs) e h = elim (or_cases (int_le e (pos x) && int_le (pos x) e) (list_any (λ x. int_le e (pos x) && int_le (pos x) e) xs) h) [
  | inl here ↦
      let parts : (int_le e (pos x) ≡ true) × (int_le (pos x) e ≡ true) = and_parts (int_le e (pos x)) (int_le (pos x) e) here in
      let same : e ≡ pos x = omega (arith, ints) in
      ((0, omega arith, omega (arith, ints)), omega (arith, ints))
  | inr there ↦
      let rest : Contains xs (unsigned_abs e) × (e ≡ pos (unsigned_abs e)) = contained xs e there in
      ((suc rest.0.0, omega arith, rest.0.2), rest.1)
]

-- a unit of the line is one of the three
unit_known : (a b c : Bool) (unit : List ℕ) →
    cond a (Some grams) (cond b (Some kilograms) (cond c (Some tonnes) None)) ≡ Some unit → Contains (grams ∷ kilograms ∷ tonnes ∷ []) unit
unit_known true b c unit e = let same : grams ≡ unit = cc in (0, omega arith, same)
unit_known false true c unit e = let same : kilograms ≡ unit = cc in (1, omega arith, same)
unit_known false false true unit e = let same : tonnes ≡ unit = cc in (2, omega arith, same)
unit_known false false false unit e = absurd (cc)

-- a number between two
between_parts : (low high z : ℤ) → is_between low high z ≡ true → (low ≤ℤ z) × (z ≤ℤ high)
between_parts low high z h =
    let parts : (int_le low z ≡ true) × (int_le z high ≡ true) = and_parts (int_le low z) (int_le z high) h in
    (omega (arith, ints), omega (arith, ints))

-- a whole number of intervals
whole_count : (max e : ℤ) (a : ℕ) → e ≡ pos a → is_count max e ≡ true →
    (unsigned_abs max ≡ unsigned_abs (int_div max e) * a) × (500 ≤ unsigned_abs (int_div max e)) × (unsigned_abs (int_div max e) ≤ 10000)
    × (int_div max e ≡ pos (unsigned_abs (int_div max e)))
whole_count (pos m) (pos b) a same h =
    let parts : (int_le (pos (m % b)) (pos 0) ≡ true) × (is_between (pos 500) (pos 10000) (pos (m / b)) ≡ true) =
    and_parts (int_le (pos (m % b)) (pos 0)) (is_between (pos 500) (pos 10000) (pos (m / b))) h in
    let between : (pos 500 ≤ℤ pos (m / b)) × (pos (m / b) ≤ℤ pos 10000) = between_parts (pos 500) (pos 10000) (pos (m / b)) parts.1 in
    let none : m % b ≡ 0 = omega (arith, ints, parts.0) in
    let whole : b * (m / b) + m % b ≡ m = div-add-mod m b in
    let equal : b ≡ a = cc in
    let turned : b * (m / b) ≡ (m / b) * b = mul_comm b (m / b) in
    let scaled : (m / b) * b ≡ (m / b) * a = ap (λ x. (m / b) * x) equal in
    (omega arith, omega (arith, ints, between), omega (arith, ints, between), refl)
whole_count (pos m) (negsuc b) a same h = absurd (cc)
whole_count (negsuc m) (pos b) a same h =
    let q : ℤ = neg_ℤ (pos (suc m / b)) in
    let parts : (int_le (int_rem (negsuc m) (pos b)) (pos 0) ≡ true) × (is_between (pos 500) (pos 10000) q ≡ true) =
    and_parts (int_le (int_rem (negsuc m) (pos b)) (pos 0)) (is_between (pos 500) (pos 10000) q) h in
    let between : (pos 500 ≤ℤ q) × (q ≤ℤ pos 10000) = between_parts (pos 500) (pos 10000) q parts.1 in
    absurd (omega (arith, ints, between, neg_is (pos (suc m / b))))
whole_count (negsuc m) (negsuc b) a same h = absurd (cc)

-- what is written, if no rule is broken, is in its ranges
in_ranges : (w : KeyValues) (unit : List ℕ) → Contains (grams ∷ kilograms ∷ tonnes ∷ []) unit →
    find {X = ℕ × Bool} (λ rule. not rule.1) (rules_after_unit w unit) ≡ None → IsPlate (plate_from w unit)
in_ranges w unit known none =
    let decimals : ℕ = unsigned_abs w.decimals in
    let n : ℤ = int_div w.max w.e in
    let zero_test : Bool = is_between least_sample greatest_sample w.zero_counts in
    let span_test : Bool = is_between (pos 4 *ℤ n) (pos 8000000) w.span_counts in
    let listed : Bool = list_any (λ allowed. int_le w.e (pos allowed) && int_le (pos allowed) w.e) (allowed_intervals decimals) in
    let heavy : Bool = int_le (pos (5 * 10 ^ decimals)) (w.e *ℤ pos (grams_of unit)) in
    let all = each_holds (is_between (pos 0) (pos 3) w.decimals) (is_interval unit decimals w.e) (is_count w.max w.e) (zero_test && span_test)
    (is_between (pos 2) (pos 16) w.window) none in
    let few : (pos 0 ≤ℤ w.decimals) × (w.decimals ≤ℤ pos 3) = between_parts (pos 0) (pos 3) w.decimals all.0 in
    let interval : (listed ≡ true) × (heavy ≡ true) = and_parts listed heavy all.1 in
    let allowed : Contains (allowed_intervals decimals) (unsigned_abs w.e) × (w.e ≡ pos (unsigned_abs w.e)) = contained (allowed_intervals decimals) w.e interval.0 in
    let whole = whole_count w.max w.e (unsigned_abs w.e) allowed.1 all.2 in
    let counts : (zero_test ≡ true) × (span_test ≡ true) = and_parts zero_test span_test all.3 in
    let zero : (least_sample ≤ℤ w.zero_counts) × (w.zero_counts ≤ℤ greatest_sample) = between_parts least_sample greatest_sample w.zero_counts counts.0 in
    let span : ((pos 4 *ℤ n) ≤ℤ w.span_counts) × (w.span_counts ≤ℤ pos 8000000) = between_parts (pos 4 *ℤ n) (pos 8000000) w.span_counts counts.1 in
    let window : (pos 2 ≤ℤ w.window) × (w.window ≤ℤ pos 16) = between_parts (pos 2) (pos 16) w.window all.4 in
    record {
      known_unit = known;
      few_decimals = omega (arith, ints, few);
      allowed = allowed.0;
      five_grams = leb-true (5 * 10 ^ decimals) (unsigned_abs w.e * grams_of unit)
          (ap (λ z. int_le (pos (5 * 10 ^ decimals)) (z *ℤ pos (grams_of unit))) (sym allowed.1) ∙ interval.1);
      exact = whole.0;
      count = (whole.1, whole.2);
      zero_in_range = zero;
      span_in_range = (omega (arith, ints, span, whole.3), omega (arith, ints, span));
      window_in_range = (omega (arith, ints, window), omega (arith, ints, window));
    }

-- a plate that is checked and accepted
validated_is_plate : (w : KeyValues) (unit : Option (List ℕ)) (p : PlateData) → ((u : List ℕ) → unit ≡ Some u → Contains (grams ∷ kilograms ∷ tonnes ∷ []) u) →
    validated w unit ≡ Ok p → IsPlate p
validated_is_plate w None p known e = absurd (cc)
validated_is_plate w (Some unit) p known e =
    let fine = none_broken (find {X = ℕ × Bool} (λ rule. not rule.1) (rules_after_unit w unit)) (plate_from w unit) p e in
    subst (λ q. IsPlate q) fine.1 (in_ranges w unit (known unit refl) fine.0)

-- the keys of a plate that are accepted make a plate in its ranges
written_is_plate : (w : Option KeyValues) (p : PlateData) → plate_of_written w ≡ Ok p → IsPlate p
written_is_plate None p e = absurd (cc)
written_is_plate (Some w) p e = validated_is_plate w (line_unit w.unit) p
    (λ unit same. unit_known (bytes_eq w.unit (codes "g")) (bytes_eq w.unit (codes "kg")) (bytes_eq w.unit (codes "t")) unit same) e

-- a table that is accepted gives a plate in its ranges
pub accepted_is_plate : (table : Option Table) (p : PlateData) → plate_of table ≡ Ok p → IsPlate p
accepted_is_plate None p e = absurd (cc)
accepted_is_plate (Some table) p e = written_is_plate (written_of table) p e
