-- The rows of a prelude leave the state of which it is the prelude.
use Rattle.wc_model.proofs.Common.{◌≡◌, ℕ, zero, suc, ◌+◌, ◌-◌, ◌*◌, ◌<◌, ◌≤◌, inl, inr, Bool, true, false, ◌&&◌, List, [], ◌∷◌, ◌++◌, length, drop, refl, ap, sym, subst, ◌∙◌, arith, append_assoc, append-nil, cases_lt, le-leb, ints, int_max, int_min}
use Rattle.std.proofs.lemmas.List.{drop_at, length-append, length-drop, length-replicate, replicate_more}
use Rattle.std.specs.Prelude.{ℤ, pos, ◌+ℤ◌, ◌-ℤ◌, int_le, int_lt, unsigned_abs, nat_le, replicate, fold, Option, Some, None, is_some, unwrap_or, if◌then◌else◌}
use Rattle.wc_laws_instrument.proofs.Indication.{zero_new, zero_same, tare_ended, tare_same_at_zero, tare_new, tare_same, too_few_samples}
use Rattle.wc_laws_instrument.proofs.LastItems.{last_of}
use Rattle.wc_laws_instrument.proofs.SameStates.{HaveSameState}
use Rattle.wc_model.specs.Definitions.{CommandRefusal, active_tare, can_be_tared, from_zero, intervals_of, is_near_zero, is_stable, present_counts, refused_unless, spread_of, tare_refusal, window_of, zero_point, zero_refusal, PlateData, ClearTare, History, Sample, SetTare, SetZero, last_items, last_sample, samples}

-- the same sample n times, newest first
abbrev pub again : ℕ → ℤ → History → History
again zero counts history = history
again (suc n) counts history = Sample counts ∷ again n counts history

one_longer : (n : ℕ) (counts : ℤ) → replicate (n + 1) counts ≡ replicate (suc n) counts
one_longer n counts = let e : n + 1 ≡ suc n = omega arith in ap (λ m. replicate m counts) e

-- what it adds to the samples
again_samples : (n : ℕ) (counts : ℤ) (history : History) → samples (again n counts history) ≡ samples history ++ replicate n counts
again_samples zero counts history = sym (append-nil (samples history))
again_samples (suc n) counts history =
    ap (λ s. s ++ (counts ∷ [])) (again_samples n counts history) ∙ append_assoc (samples history) (replicate n counts) (counts ∷ [])
    ∙ ap (λ s. samples history ++ s) (replicate_more n counts ∙ one_longer n counts)

-- and it leaves the zero point
again_zero : (p : PlateData) (n : ℕ) (counts : ℤ) (history : History) → zero_point p (again n counts history) ≡ zero_point p history
again_zero p zero counts history = refl
again_zero p (suc n) counts history = again_zero p n counts history

-- equal samples have no spread
fold_same : (f : ℤ → ℤ → ℤ) (x : ℤ) → f x x ≡ x → (n : ℕ) → fold f x (replicate n x) ≡ x
fold_same f x e zero = refl
fold_same f x e (suc n) = ap (λ y. fold f y (replicate n x)) e ∙ fold_same f x e n

either : (b : Bool) (x : ℤ) → (if b then x else x) ≡ x
either true x = refl
either false x = refl

max_same : (x : ℤ) → int_max x x ≡ x
max_same x = either (int_lt x x) x

min_same : (x : ℤ) → int_min x x ≡ x
min_same x = either (int_lt x x) x

no_spread : (n : ℕ) (x : ℤ) → spread_of (replicate n x) ≡ 0
no_spread zero x = refl
no_spread (suc n) x =
    ap (λ y. unsigned_abs (y -ℤ fold int_min x (replicate n x))) (fold_same int_max x (max_same x) n)
    ∙ ap (λ y. unsigned_abs (x -ℤ y)) (fold_same int_min x (min_same x) n) ∙ omega (arith, ints)

-- the last n of a list with n items at its end
last_at : {X : Type 0} (n : ℕ) (xs ys : List X) → length ys ≡ n → last_items n (xs ++ ys) ≡ ys
last_at n xs ys e = drop_at xs ys (length (xs ++ ys) - n) (omega (arith, e, length-append xs ys))

module _ (p : PlateData) (some : 0 < p.window) (counts : ℤ) (history : History) where
  -- the load stays: as many equal samples as the window holds
  abbrev pub at_rest : History
  at_rest = again p.window counts history

  rest_window : window_of p at_rest ≡ replicate p.window counts
  rest_window = ap (last_items p.window) (again_samples p.window counts history)
      ∙ last_at p.window (samples history) (replicate p.window counts) (length-replicate p.window counts)

  -- the scale is stable then
  pub rest_stable : is_stable p at_rest ≡ true
  rest_stable =
      let many : length (samples at_rest) ≡ length (samples history) + p.window =
      ap length (again_samples p.window counts history) ∙ length-append (samples history) (replicate p.window counts)
      ∙ ap (λ n. length (samples history) + n) (length-replicate p.window counts) in
      let still : spread_of (window_of p at_rest) ≡ 0 = ap spread_of rest_window ∙ no_spread p.window counts in
      let within : 2 * spread_of (window_of p at_rest) * p.n ≡ 0 = ap (λ n. 2 * n * p.n) still ∙ omega arith in
      ap (λ b. b && nat_le (2 * spread_of (window_of p at_rest) * p.n) p.span_counts)
      (le-leb p.window (length (samples at_rest)) (omega (arith, many)))
      ∙ le-leb (2 * spread_of (window_of p at_rest) * p.n) p.span_counts (omega (arith, within))

  -- and this load is the present one
  pub rest_present : present_counts p at_rest ≡ counts
  rest_present = ap (λ o. unwrap_or o p.zero_counts) (newest p.window some)
    where
      newest : (n : ℕ) → 0 < n → last_sample (again n counts history) ≡ Some counts
      newest zero h = absurd (omega arith)
      newest (suc n) h = last_of None (samples (again n counts history)) counts

-- a stable scale within range refuses nothing
both : (a b : Bool) → a ≡ true → b ≡ true → refused_unless a b ≡ None
both a b e f = λ i. refused_unless (e i) (f i)

-- what an accepted command says
accepted_stable : (a b : Bool) → refused_unless a b ≡ None → (a ≡ true) × (b ≡ true)
accepted_stable true true e = (refl, refl)
accepted_stable true false e = absurd (cc)
accepted_stable false b e = absurd (cc)

-- a zero point is near the calibrated one, a tare lies from one interval to Max, and neither is moved or taken before the
-- window has been filled
pub record IsReached (p : PlateData) (zero : ℤ) (tare : Option ℤ) : Type 0 where
  pub near : nat_le (50 * unsigned_abs (zero -ℤ p.zero_counts)) p.span_counts ≡ true
  pub within : (t : ℤ) → tare ≡ Some t → (int_le (pos 1) (intervals_of p t) && int_le (intervals_of p t) (pos p.n)) ≡ true

calibrated_near : (p : PlateData) → nat_le (50 * unsigned_abs (p.zero_counts -ℤ p.zero_counts)) p.span_counts ≡ true
calibrated_near p =
    let none : unsigned_abs (p.zero_counts -ℤ p.zero_counts) ≡ 0 = omega (arith, ints) in
    le-leb (50 * unsigned_abs (p.zero_counts -ℤ p.zero_counts)) p.span_counts (omega (arith, none))

module _ (p : PlateData) where
  reached_at_zero : (history : History) → IsReached p (zero_point p history) (active_tare p history) →
      (refusal : Option CommandRefusal) → zero_refusal p history ≡ refusal →
      IsReached p (zero_point p (SetZero ∷ history)) (active_tare p (SetZero ∷ history))
  reached_at_zero history before None e = record {
    near = ap (λ z. nat_le (50 * unsigned_abs (z -ℤ p.zero_counts)) p.span_counts) (zero_new p history e)
        ∙ (accepted_stable (is_stable p history) (is_near_zero p history) e).1;
    within = λ t f. absurd (none_some (sym (tare_ended p history e) ∙ f));
  }
    where
      none_some : {t : ℤ} → None ≡ Some t → ⊥
      none_some f = cc
  reached_at_zero history before (Some why) e =
      subst (λ z. IsReached p z (active_tare p (SetZero ∷ history))) (sym (zero_same p history (ap is_some e)))
      (subst (λ t. IsReached p (zero_point p history) t) (sym (tare_same_at_zero p history (ap is_some e))) before)

  reached_at_tare : (history : History) → IsReached p (zero_point p history) (active_tare p history) →
      (refusal : Option CommandRefusal) → tare_refusal p history ≡ refusal →
      IsReached p (zero_point p (SetTare ∷ history)) (active_tare p (SetTare ∷ history))
  reached_at_tare history before None e = record {
    near = before.near;
    within = λ t f.
        let is : from_zero p history ≡ t = the_same (from_zero p history) t (sym (tare_new p history e) ∙ f) in
        ap (λ c. int_le (pos 1) (intervals_of p c) && int_le (intervals_of p c) (pos p.n)) (sym is)
        ∙ (accepted_stable (is_stable p history) (can_be_tared p history) e).1;
  }
    where
      the_same : (a b : ℤ) → Some a ≡ Some b → a ≡ b
      the_same a b f = ap (λ o. unwrap_or o a) f
  reached_at_tare history before (Some why) e =
      subst (λ t. IsReached p (zero_point p history) t) (sym (tare_same p history (ap is_some e))) before

  -- whatever has come
  pub reached : (history : History) → IsReached p (zero_point p history) (active_tare p history)
  reached [] = record { near = calibrated_near p; within = λ t f. absurd (cc) }
  reached (Sample counts ∷ history) = reached history
  reached (SetZero ∷ history) = reached_at_zero history (reached history) (zero_refusal p history) refl
  reached (SetTare ∷ history) = reached_at_tare history (reached history) (tare_refusal p history) refl
  reached (ClearTare ∷ history) = record { near = (reached history).near; within = λ t f. absurd (cc) }

  -- in motion every command is refused
  in_motion : (b : Bool) (history : History) → is_stable p history ≡ false → is_some (refused_unless (is_stable p history) b) ≡ true
  in_motion b history e = ap (λ a. is_some (refused_unless a b)) e

  -- with fewer samples than the window holds nothing was accepted
  pub nothing_accepted : (history : History) → length (samples history) < p.window →
      (zero_point p history ≡ p.zero_counts) × (active_tare p history ≡ None)
  nothing_accepted [] h = (refl, refl)
  nothing_accepted (Sample counts ∷ history) h = nothing_accepted history (omega (arith, h, length-append (samples history) (counts ∷ [])))
  nothing_accepted (SetZero ∷ history) h =
      let refused : is_some (zero_refusal p history) ≡ true = in_motion (is_near_zero p history) history (too_few_samples p history h) in
      (zero_same p history refused ∙ (nothing_accepted history h).0, tare_same_at_zero p history refused ∙ (nothing_accepted history h).1)
  nothing_accepted (SetTare ∷ history) h =
      let refused : is_some (tare_refusal p history) ≡ true = in_motion (can_be_tared p history) history (too_few_samples p history h) in
      ((nothing_accepted history h).0, tare_same p history refused ∙ (nothing_accepted history h).1)
  nothing_accepted (ClearTare ∷ history) h = ((nothing_accepted history h).0, refl)

-- a load that is not the calibrated zero is zeroed, if it is near it
module _ (p : PlateData) (some : 0 < p.window) where
  abbrev pub zeroed : ℤ → History
  zeroed point = SetZero ∷ again p.window point []

  zero_accepted : (point : ℤ) → nat_le (50 * unsigned_abs (point -ℤ p.zero_counts)) p.span_counts ≡ true →
      zero_refusal p (again p.window point []) ≡ None
  zero_accepted point near =
      both (is_stable p (again p.window point [])) (is_near_zero p (again p.window point [])) (rest_stable p some point [])
      (ap (λ c. nat_le (50 * unsigned_abs (c -ℤ p.zero_counts)) p.span_counts) (rest_present p some point []) ∙ near)

  pub zeroed_there : (point : ℤ) → nat_le (50 * unsigned_abs (point -ℤ p.zero_counts)) p.span_counts ≡ true →
      (zero_point p (zeroed point) ≡ point) × (active_tare p (zeroed point) ≡ None)
  zeroed_there point near = (
    zero_new p (again p.window point []) (zero_accepted point near) ∙ rest_present p some point [],
    tare_ended p (again p.window point []) (zero_accepted point near),
  )

  -- a load above the zero point is tared, if it lies within the range of a tare
  abbrev pub tared : ℤ → ℤ → History → History
  tared point tare before = SetTare ∷ again p.window (point +ℤ tare) before

  difference_back : (point tare : ℤ) → (point +ℤ tare) -ℤ point ≡ tare
  difference_back point tare = omega (arith, ints)

  tared_there : (point tare : ℤ) (before : History) → zero_point p before ≡ point →
      (int_le (pos 1) (intervals_of p tare) && int_le (intervals_of p tare) (pos p.n)) ≡ true →
      (zero_point p (tared point tare before) ≡ point) × (active_tare p (tared point tare before) ≡ Some tare)
  tared_there point tare before there within =
      let rest : History = again p.window (point +ℤ tare) before in
      let zero_is : zero_point p rest ≡ point = again_zero p p.window (point +ℤ tare) before ∙ there in
      let load : from_zero p rest ≡ tare = (λ i. rest_present p some (point +ℤ tare) before i -ℤ zero_is i) ∙ difference_back point tare in
      let accepted : tare_refusal p rest ≡ None = both (is_stable p rest) (can_be_tared p rest) (rest_stable p some (point +ℤ tare) before)
      (ap (λ c. int_le (pos 1) (intervals_of p c) && int_le (intervals_of p c) (pos p.n)) load ∙ within) in
      (zero_is, tare_new p rest accepted ∙ ap Some load)

-- samples, the newest first
abbrev pub with_samples : List ℤ → History → History
with_samples [] history = history
with_samples (counts ∷ more) history = with_samples more (Sample counts ∷ history)

samples_with : (xs : List ℤ) (history : History) → samples (with_samples xs history) ≡ samples history ++ xs
samples_with [] history = sym (append-nil (samples history))
samples_with (x ∷ xs) history = samples_with xs (Sample x ∷ history) ∙ append_assoc (samples history) (x ∷ []) xs

zero_with : (p : PlateData) (xs : List ℤ) (history : History) → zero_point p (with_samples xs history) ≡ zero_point p history
zero_with p [] history = refl
zero_with p (x ∷ xs) history = zero_with p xs (Sample x ∷ history)

tare_with : (p : PlateData) (xs : List ℤ) (history : History) → active_tare p (with_samples xs history) ≡ active_tare p history
tare_with p [] history = refl
tare_with p (x ∷ xs) history = tare_with p xs (Sample x ∷ history)

-- a short list is all its last items
all_of_short : (n : ℕ) (xs : List ℤ) → length xs ≤ n → last_items n xs ≡ xs
all_of_short n xs h = let none : length xs - n ≡ 0 = omega arith in ap (λ k. drop k xs) none

-- The history that the rows of a prelude leave: zero, tare and the last samples.
abbrev pub zero_history : PlateData → Bool → ℤ → History
zero_history p true point = []
zero_history p false point = SetZero ∷ again p.window point []

abbrev pub tare_history : PlateData → ℤ → Option ℤ → History → History
tare_history p point None before = before
tare_history p point (Some tare) before = SetTare ∷ again p.window (point +ℤ tare) before

module _ (p : PlateData) (some : 0 < p.window) (history : History) where
  abbrev the_zero : ℤ
  the_zero = zero_point p history

  abbrev the_tare : Option ℤ
  the_tare = active_tare p history

  abbrev pub before_samples : Bool → History
  before_samples same = tare_history p the_zero the_tare (zero_history p same the_zero)

  zero_brought : (same : Bool) → (same ≡ true → the_zero ≡ p.zero_counts) →
      (zero_point p (zero_history p same the_zero) ≡ the_zero) × (active_tare p (zero_history p same the_zero) ≡ None)
  zero_brought true says = (sym (says refl), refl)
  zero_brought false says = zeroed_there p some the_zero (reached p history).near

  tare_brought : (before : History) (tare : Option ℤ) → the_tare ≡ tare → zero_point p before ≡ the_zero → active_tare p before ≡ None →
      (zero_point p (tare_history p the_zero tare before) ≡ the_zero) × (active_tare p (tare_history p the_zero tare before) ≡ tare)
  tare_brought before None e zero_is none = (zero_is, none)
  tare_brought before (Some tare) e zero_is none = tared_there p some the_zero tare before zero_is ((reached p history).within tare e)

  both_brought : (same : Bool) → (same ≡ true → the_zero ≡ p.zero_counts) →
      (zero_point p (before_samples same) ≡ the_zero) × (active_tare p (before_samples same) ≡ the_tare)
  both_brought same says =
      tare_brought (zero_history p same the_zero) the_tare refl (zero_brought same says).0 (zero_brought same says).1

  -- with a short history there is nothing before the samples
  nothing_before : (same : Bool) → (the_zero ≡ p.zero_counts → same ≡ true) → length (samples history) < p.window → before_samples same ≡ []
  nothing_before same says few =
      (λ i. tare_history p the_zero ((nothing_accepted p history few).1 i) (zero_history p same the_zero))
      ∙ ap (λ b. zero_history p b the_zero) (says (nothing_accepted p history few).0)

  window_length : length (window_of p history) ≡ length (samples history) - (length (samples history) - p.window)
  window_length = length-drop (length (samples history) - p.window) (samples history)

  window_brought : (same : Bool) → (the_zero ≡ p.zero_counts → same ≡ true) →
      window_of p (with_samples (window_of p history) (before_samples same)) ≡ window_of p history
  window_brought same says =
      ap (last_items p.window) (samples_with (window_of p history) (before_samples same))
      ∙ elim (cases_lt (length (samples history)) p.window) [
        | inl few ↦ ap (λ h. last_items p.window (samples h ++ window_of p history)) (nothing_before same says few)
            ∙ all_of_short p.window (window_of p history) (omega (arith, window_length))
        | inr many ↦ last_at p.window (samples (before_samples same)) (window_of p history) (omega (arith, window_length))
      ]

  -- the state is brought back
  pub state_brought : (same : Bool) → (same ≡ true → the_zero ≡ p.zero_counts) → (the_zero ≡ p.zero_counts → same ≡ true) →
      HaveSameState p history (with_samples (window_of p history) (before_samples same))
  state_brought same says back = record {
    zero = zero_with p (window_of p history) (before_samples same) ∙ (both_brought same says).0;
    tare = tare_with p (window_of p history) (before_samples same) ∙ (both_brought same says).1;
    window = window_brought same back;
  }
