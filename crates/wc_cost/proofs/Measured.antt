-- Units that are lowered and measured one after the other.
use Rattle.wc_model.proofs.Common.{◌≡◌, ℕ, zero, suc, ◌+◌, ◌≤◌, List, [], ◌∷◌, ◌++◌, length, Option, Some, None, Err, append_assoc, refl, sym, ap, subst, ◌∙◌, arith, length-append, inl, inr, slice_index}
use Rattle.std.proofs.lemmas.List.{append-nil, length-map, map-append}
use Rattle.wc_names.specs.RepresentsText.{onto}
use Rattle.wc_text_flat.proofs.FlatPaths.{BlocksMeasured, MeasuredAs}
use Rattle.wc_text_flat.proofs.UnitPaths.{AreBoundsAfter, blocks_step, measured_is_worst, measured_path, unit_measured}
use Rattle.wc_text_flat.specs.{sources_of, worst_of, AreLoweredAfter, IsLowered, AreBoundsBelow}
use Rattle.wc_laws_language.proofs.Longest.{Found, best_block, best_path}
use Rattle.wc_model.specs.Definitions.{Refusal, positions_after, FirstTooLong, IsShortEnough, MOST_STEPS, Scope, Item, own_lines, ProgramUnit}
use Rattle.wc_model.specs.declared.code.Code.{Code}
use Rattle.wc_model.specs.declared.fault.Fault.{Fault}
use Rattle.wc_model.specs.declared.fault.Fault.TheVariants.{Refused, Memory}
use Rattle.wc_laws_language.proofs.Places.{Some-same}
use Rattle.wc_laws_language.specs.SoundnessLaws.{NestsSimply}
use Rattle.wc_cost.specs.{AreLoaded, IsMeasured, IsOverrun, LoadsUnits, MeasuresUnit, AreLines, bounds_of, codes_of, AreSmall}
use Rattle.wc_cost.specs.declared.units.LoweredUnit.{LoweredUnit}

-- a unit that is lowered, with the length of its longest path
pub record IsSound (scope : Scope) (lowered : LoweredUnit) : Type 0 where
  pub code : IsLowered scope scope.unit.body lowered.code.items
  pub lines : lowered.lines.items ≡ sources_of scope.unit.body
  pub path : List Item
  pub best : best_path scope ≡ Some path
  pub bound : lowered.bound ≡ length path
  pub small : lowered.bound ≤ MOST_STEPS
  pub simple : NestsSimply scope.unit.body

-- the units so far, newest first
abbrev pub AreSoFar : List ProgramUnit → List LoweredUnit → Type 0
AreSoFar [] done = done ≡ []
AreSoFar (unit ∷ before) done = (others : List LoweredUnit) × (lowered : LoweredUnit) × (done ≡ others ++ lowered ∷ []) × IsSound (record { before = before; unit = unit }) lowered × AreSoFar before others

-- and in text order
abbrev pub AreSound : List ProgramUnit → List ProgramUnit → List LoweredUnit → Type 0
AreSound before [] [] = Unit {0}
AreSound before (unit ∷ units) (lowered ∷ more) = IsSound (record { before = before; unit = unit }) lowered × AreSound (unit ∷ before) units more
AreSound before [] (lowered ∷ more) = ⊥
AreSound before (unit ∷ units) [] = ⊥

counted : (before : List ProgramUnit) (done : List LoweredUnit) → AreSoFar before done → length done ≡ length before
counted [] done h = ap length h
counted (unit ∷ before) done h =
    let a = ap (λ (xs : List LoweredUnit). length xs) h.2 in
    let b = length-append h.0 (h.1 ∷ []) in
    let c = counted before h.0 h.4 in
    omega (arith, a, b, c)

-- the bound of a unit among others
at_end : (xs : List ℕ) (x : ℕ) (ys : List ℕ) (k : ℕ) → k ≡ length xs → slice_index (xs ++ x ∷ ys) k ≡ x
at_end [] x ys zero e = refl
at_end [] x ys (suc k) e = cc
at_end (y ∷ xs) x ys zero e = cc
at_end (y ∷ xs) x ys (suc k) e = at_end xs x ys k (omega (arith, e))

measured_as : (found : Found) (path : List Item) (n : ℕ) → found ≡ Some path → n ≡ length path → MeasuredAs found (record { steps = n; lines = own_lines path })
measured_as found path n e f = subst (λ (x : Found). MeasuredAs x (record { steps = n; lines = own_lines path })) (sym e) (f, refl)

blocks_more : (bounds : List ℕ) (unit : ProgramUnit) (before : List ProgramUnit) (lowered : LoweredUnit) → BlocksMeasured bounds before (best_block before) → IsSound (record { before = before; unit = unit }) lowered → slice_index bounds (length before) ≡ lowered.bound → BlocksMeasured bounds (unit ∷ before) (best_block (unit ∷ before))
blocks_more bounds unit before lowered known sound e =
    blocks_step bounds unit before known (record { steps = lowered.bound; lines = own_lines sound.path }) (measured_as (best_path (record { before = before; unit = unit })) sound.path lowered.bound sound.best sound.bound) e

more_bounds : (done others : List LoweredUnit) (lowered : LoweredUnit) (more : List ℕ) → done ≡ others ++ lowered ∷ [] → bounds_of done ++ more ≡ bounds_of others ++ lowered.bound ∷ more
more_bounds done others lowered more e =
    ap (λ (xs : List LoweredUnit). bounds_of xs ++ more) e ∙ ap (λ xs. xs ++ more) (map-append (λ (u : LoweredUnit). u.bound) others (lowered ∷ [])) ∙ append_assoc (bounds_of others) (lowered.bound ∷ []) more

-- the blocks so far are measured by their bounds
pub blocks_measured : (before : List ProgramUnit) (done : List LoweredUnit) → AreSoFar before done → (more : List ℕ) → BlocksMeasured (bounds_of done ++ more) before (best_block before)
blocks_measured [] done h more = λ name unit earlier e. cc
blocks_measured (unit ∷ before) done h more =
    let known = blocks_measured before h.0 h.4 (h.1.bound ∷ more) in
    let a : length (bounds_of h.0) ≡ length h.0 = length-map h.0 (λ (u : LoweredUnit). u.bound) in
    let b = counted before h.0 h.4 in
    subst (λ bounds. BlocksMeasured bounds (unit ∷ before) (best_block (unit ∷ before))) (sym (more_bounds done h.0 h.1 more h.2))
    (blocks_more (bounds_of h.0 ++ h.1.bound ∷ more) unit before h.1 known h.3 (at_end (bounds_of h.0) h.1.bound more (length before) (omega (arith, a, b))))

blocks_now : (before : List ProgramUnit) (done : List LoweredUnit) → AreSoFar before done → BlocksMeasured (bounds_of done) before (best_block before)
blocks_now before done h = subst (λ bounds. BlocksMeasured bounds before (best_block before)) (append-nil (bounds_of done)) (blocks_measured before done h [])

-- a unit that was measured is sound
pub measured_sound : (before : List ProgramUnit) (done : List LoweredUnit) (unit : ProgramUnit) (lowered : LoweredUnit) → AreSoFar before done → NestsSimply unit.body → IsMeasured (bounds_of done) (record { before = before; unit = unit }) lowered → IsSound (record { before = before; unit = unit }) lowered
measured_sound before done unit lowered h simple m =
    let scope : Scope = record { before = before; unit = unit } in
    let way = worst_of (bounds_of done) lowered.code.items (sources_of unit.body) in
    let path = measured_path (best_path scope) way (unit_measured (bounds_of done) before unit (blocks_now before done h) simple lowered.code.items m.code) in
    record { code = m.code; lines = m.lines; path = path.0; best = path.1; bound = m.bound ∙ path.2; small = m.small; simple = simple }

-- the bounds so far are small
small_more : (bounds : List ℕ) (bound : ℕ) → AreSmall bounds → bound ≤ MOST_STEPS → AreSmall (bounds ++ bound ∷ [])
small_more [] bound h l = λ k. at k
  where
    at : (k : ℕ) → slice_index (bound ∷ []) k ≤ MOST_STEPS
    at zero = l
    at (suc k) = omega arith
small_more (b ∷ bounds) bound h l = λ k. at k (small_more bounds bound (λ j. h (suc j)) l)
  where
    at : (k : ℕ) → AreSmall (bounds ++ bound ∷ []) → slice_index (b ∷ bounds ++ bound ∷ []) k ≤ MOST_STEPS
    at zero g = h 0
    at (suc k) g = g k

small_none : (bounds : List ℕ) → bounds ≡ [] → AreSmall bounds
small_none bounds e k = let a : slice_index bounds k ≡ slice_index [] k = ap (λ (xs : List ℕ). slice_index xs k) e in omega (arith, a)

pub bounds_small : (before : List ProgramUnit) (done : List LoweredUnit) → AreSoFar before done → AreSmall (bounds_of done)
bounds_small [] done h = small_none (bounds_of done) (ap bounds_of h)
bounds_small (unit ∷ before) done h =
    subst AreSmall (sym (ap bounds_of h.2 ∙ map-append (λ (u : LoweredUnit). u.bound) h.0 (h.1 ∷ []))) (small_more (bounds_of h.0) h.1.bound (bounds_small before h.0 h.4) h.3.small)

-- a path of a unit is no longer than its bound
longest_of : (scope : Scope) (path : List Item) (n : ℕ) → best_path scope ≡ Some path → n ≡ length path → Rattle.wc_model.specs.Language.Paths.IsLongest scope n
longest_of scope path n e f = (measured_is_worst scope (best_path scope) (record { steps = n; lines = own_lines path }) refl (measured_as (best_path scope) path n e f)).0

short_enough : (before : List ProgramUnit) (unit : ProgramUnit) (following : List ProgramUnit) (lowered : LoweredUnit) → IsSound (record { before = before; unit = unit }) lowered → IsShortEnough (record { before = before; item = unit; following = following })
short_enough before unit following lowered sound = λ path is.
    let longest = longest_of (record { before = before; unit = unit }) sound.path lowered.bound sound.best sound.bound in
    let l = longest.greatest path is in
    let m = sound.small in
    omega (arith, l, m)

-- no unit so far is too long
pub none_too_long : (before : List ProgramUnit) (done : List LoweredUnit) → AreSoFar before done → (left : List ProgramUnit) (refusal : Option Refusal) → FirstTooLong (positions_after before left) refusal → FirstTooLong (positions_after [] (onto before left)) refusal
none_too_long [] done h left refusal f = f
none_too_long (unit ∷ before) done h left refusal f = none_too_long before h.0 h.4 (unit ∷ left) refusal (inr (short_enough before unit left h.1 h.3, f))

-- and this one is
pub too_long : (before : List ProgramUnit) (done : List LoweredUnit) (unit : ProgramUnit) (left : List ProgramUnit) (number place : ℕ) → AreSoFar before done → NestsSimply unit.body → IsOverrun (bounds_of done) (record { before = before; unit = unit }) number place →
    FirstTooLong (positions_after before (unit ∷ left)) (Some (record { number = number; line = place }))
too_long before done unit left number place h simple o =
    let scope : Scope = record { before = before; unit = unit } in
    let way = worst_of (bounds_of done) o.code (sources_of unit.body) in
    let longest = (measured_is_worst scope (best_path scope) way refl (unit_measured (bounds_of done) before unit (blocks_now before done h) simple o.code o.lowered)).0 in
    let r = longest.reached in
    let l = o.long in
    inl ((longest.path, longest.is_path, omega (arith, r, l)), (λ i. Some (record { number = o.number_is i; line = o.place_is i })))

-- turned round
pub in_order : (before : List ProgramUnit) (done : List LoweredUnit) → AreSoFar before done → (left : List ProgramUnit) (more : List LoweredUnit) → AreSound before left more → AreSound [] (onto before left) (done ++ more)
in_order [] done h left more s = subst (λ (xs : List LoweredUnit). AreSound [] left (xs ++ more)) (sym h) s
in_order (unit ∷ before) done h left more s =
    subst (AreSound [] (onto before (unit ∷ left))) (sym (ap (λ (xs : List LoweredUnit). xs ++ more) h.2 ∙ append_assoc h.0 (h.1 ∷ []) more)) (in_order before h.0 h.4 (unit ∷ left) (h.1 ∷ more) (h.3, s))

-- what they are
pub sound_lowered : (before units : List ProgramUnit) (laids : List LoweredUnit) → AreSound before units laids → AreLoweredAfter before units (codes_of laids)
sound_lowered before [] [] s = tt
sound_lowered before [] (lowered ∷ laids) s = absurd s
sound_lowered before (unit ∷ units) [] s = absurd s
sound_lowered before (unit ∷ units) (lowered ∷ laids) s = (s.0.code, sound_lowered (unit ∷ before) units laids s.1)

pub sound_lines : (before units : List ProgramUnit) (laids : List LoweredUnit) → AreSound before units laids → AreLines units laids
sound_lines before [] [] s = tt
sound_lines before [] (lowered ∷ laids) s = absurd s
sound_lines before (unit ∷ units) [] s = absurd s
sound_lines before (unit ∷ units) (lowered ∷ laids) s = (s.0.lines, sound_lines (unit ∷ before) units laids s.1)

one_path : (found : Found) (a b : List Item) → found ≡ Some a → found ≡ Some b → length a ≡ length b
one_path found a b e f = ap (λ (p : List Item). length p) (sym (Some-same a b (sym e ∙ f)))

bounds_after : (bounds : List ℕ) (before units : List ProgramUnit) (laids : List LoweredUnit) → BlocksMeasured bounds before (best_block before) → AreSound before units laids → ((k : ℕ) → slice_index bounds (length before + k) ≡ slice_index (bounds_of laids) k) → (n : ℕ) → AreBoundsAfter before units (codes_of laids) bounds n
bounds_after bounds before [] [] known s are n k l scope code c d = cc
bounds_after bounds before [] (lowered ∷ laids) known s are n k l scope code c d = absurd s
bounds_after bounds before (unit ∷ units) [] known s are n k l scope code c d = absurd s
bounds_after bounds before (unit ∷ units) (lowered ∷ laids) known s are n zero l scope code c d =
    let mine : Scope = record { before = before; unit = unit } in
    let way = worst_of bounds lowered.code.items (sources_of unit.body) in
    let path = measured_path (best_path mine) way (unit_measured bounds before unit known s.0.simple lowered.code.items s.0.code) in
    let here : slice_index bounds (length before + 0) ≡ way.steps = are 0 ∙ s.0.bound ∙ one_path (best_path mine) s.0.path path.0 s.0.best path.1 ∙ sym path.2 in
    subst (λ (x : Scope). slice_index bounds (length before + 0) ≡ (worst_of bounds code (sources_of x.unit.body)).steps) (sym (Some-same mine scope c))
    (subst (λ (x : List Code). slice_index bounds (length before + 0) ≡ (worst_of bounds x (sources_of unit.body)).steps) (sym (Some-same lowered.code.items code d)) here)
bounds_after bounds before (unit ∷ units) (lowered ∷ laids) known s are n (suc k) l scope code c d =
    let first : slice_index bounds (length before) ≡ lowered.bound = ap (slice_index bounds) (let a : length before ≡ length before + 0 = omega arith in a) ∙ are 0 in
    ap (slice_index bounds) (let a : length before + suc k ≡ length (unit ∷ before) + k = omega arith in a)
    ∙ bounds_after bounds (unit ∷ before) units laids (blocks_more bounds unit before lowered known s.0 first) s.1
    (λ j. ap (slice_index bounds) (let a : length (unit ∷ before) + j ≡ length before + suc j = omega arith in a) ∙ are (suc j)) (suc k) k (omega arith) scope code c d

pub sound_bounds : (units : List ProgramUnit) (laids : List LoweredUnit) → AreSound [] units laids → (n : ℕ) → AreBoundsBelow units (codes_of laids) (bounds_of laids) n
sound_bounds units laids s n k l scope code c d =
    ap (slice_index (bounds_of laids)) (let a : k ≡ 0 + k = omega arith in a)
    ∙ bounds_after (bounds_of laids) [] units laids (λ name unit earlier e. cc) s (λ j. ap (slice_index (bounds_of laids)) (let a : 0 + j ≡ j = omega arith in a)) n k l scope code c d

-- a unit that is refused, and a text whose units are all lowered
pub unit_refused : (text : List ProgramUnit) (before : List ProgramUnit) (done : List LoweredUnit) (unit : ProgramUnit) (left : List ProgramUnit) (fault : Fault) → onto before (unit ∷ left) ≡ text → AreSoFar before done → NestsSimply unit.body →
    MeasuresUnit (bounds_of done) (record { before = before; unit = unit }) (Err fault) → LoadsUnits text (Err fault)
unit_refused text before done unit left Memory e h simple m = tt
unit_refused text before done unit left (Refused number place) e h simple m =
    subst (λ (t : List ProgramUnit). FirstTooLong (positions_after [] t) (Some (record { number = number; line = place }))) e
    (none_too_long before done h (unit ∷ left) (Some (record { number = number; line = place })) (too_long before done unit left number place h simple m))

pub all_loaded : (text : List ProgramUnit) (before : List ProgramUnit) (done : List LoweredUnit) → onto before [] ≡ text → AreSoFar before done → AreLoaded text done
all_loaded text before done e h =
    let sound : AreSound [] text done = subst (λ (t : List ProgramUnit). AreSound [] t done) e (subst (AreSound [] (onto before [])) (append-nil done) (in_order before done h [] [] tt)) in
    record {
      lowered = sound_lowered [] text done sound;
      lines = sound_lines [] text done sound;
      bounds = sound_bounds text done sound (length done);
      small = bounds_small before done h;
      costs = subst (λ (t : List ProgramUnit). FirstTooLong (positions_after [] t) None) e (none_too_long before done h [] None refl);
    }
