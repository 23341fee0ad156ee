-- The last samples, and what one more does to them.
use Rattle.std.proofs.Common.{◌≡◌, ◌+◌, ◌-◌, ◌≤◌, List, [], ◌∷◌, ◌++◌, length, ap, sym, ◌∙◌, arith}
use Rattle.std.proofs.lemmas.List.{length-append, length-drop}
use Rattle.std.specs.Prelude.{ℤ, Some, None, Result, Ok, Err, IsOk, OnOk, ◌↔◌}
use Rattle.wc_laws_instrument.proofs.LastItems.{last_of, one_more}
use Rattle.wc_model.specs.Definitions.{PlateData, IsPlate, History, Sample, samples, last_items}
use Rattle.wc_indicator.specs.Kept.{IndicatorState, RepresentsHistory}

-- an indicator that takes one more sample
pub represents_after : (k : IndicatorState) (p : PlateData) (history : History) (x : ℤ) (latest : List ℤ) → RepresentsHistory k p history →
    latest ≡ last_items k.plate.window (k.latest ++ x ∷ []) →
    RepresentsHistory (record { plate = k.plate; latest = latest; last = Some x; zero = k.zero; tare = k.tare }) p (Sample x ∷ history)
represents_after k p history x latest h e = record {
  same_plate = h.same_plate;
  same_latest = e ∙ ap (λ q. last_items q.window (k.latest ++ x ∷ [])) h.same_plate
      ∙ ap (λ xs. last_items p.window (xs ++ x ∷ [])) h.same_latest ∙ one_more p.window (samples history) x;
  same_last = sym (last_of None (samples history) x);
  same_zero = h.same_zero;
  same_tare = h.same_tare;
}

-- the last samples are few
pub few_latest : (k : IndicatorState) (p : PlateData) (history : History) → IsPlate k.plate → RepresentsHistory k p history → length k.latest ≤ 16
few_latest k p history plate represents =
    let same : k.plate.window ≡ p.window = ap (λ q. q.window) represents.same_plate in
    let few : length k.latest ≡ length (samples history) - (length (samples history) - p.window) =
    ap length represents.same_latest ∙ length-drop (length (samples history) - p.window) (samples history) in
    omega (arith, few, same, plate.window_in_range.1)

-- what holds of a success
given : {T E P : Type 0} (r : Result T E) → IsOk r → OnOk r P → P
given (Ok x) is holds = holds
given (Err e) is holds = absurd (cc)

-- two parts that fit are both taken
pub both_taken : {T E : Type 0} (first second empty one two : List ℤ) (r s : Result T E) → empty ≡ [] → length (first ++ second) ≤ 16 →
    (IsOk r ↔ (length empty + length first ≤ 16)) → OnOk r (one ≡ empty ++ first) →
    (IsOk s ↔ (length one + length second ≤ 16)) → OnOk s (two ≡ one ++ second) → two ≡ first ++ second
both_taken first second empty one two r s none few fits taken fits_too taken_too =
    let start : length empty ≡ 0 = ap length none in
    let whole : length (first ++ second) ≡ length first + length second = length-append first second in
    let here : one ≡ first = given r (fits.1 (omega (arith, start, whole, few))) taken ∙ ap (λ e. e ++ first) none in
    let there : length one ≡ length first = ap length here in
    given s (fits_too.1 (omega (arith, there, whole, few))) taken_too ∙ ap (λ l. l ++ second) here
