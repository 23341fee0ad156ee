-- The numbers of a frame at first, and with a process image.
use Rattle.wc_model.proofs.Common.{◌≡◌, ℕ, suc, ◌+◌, ◌≤◌, Bool, true, false, cond, List, [], ◌∷◌, ◌++◌, map, length, drop, Option, Some, None, ℤ, refl, sym, ap, ◌∙◌, arith, if◌then◌else◌, reverse, slice_get, position_from}
use Rattle.std.proofs.lemmas.List.{length-append, length-map, length-drop}
use Rattle.std.specs.Option.{option_map}
use Rattle.wc_text_flat.specs.{frame_of_reversed, AreContents, image_numbers, with_image_numbers, FirstNumbersAreContents}
use Rattle.wc_model.specs.Definitions.{content_number, place_number, first_numbers, slot_kind_of, slot_kinds, image_contents, overlaid, with_image, initial_of_reversed, Location, Content, Store, same_place, store_of, program_frame, ProgramUnit}
use Rattle.wc_model.specs.declared.image.Image.{Image}
use Rattle.wc_laws_language.proofs.FramePlaces.{one_number}

-- a search that starts at another number finds the same
pub position_unshifted : {X : Type 0} (test : X → Bool) (start k : ℕ) (xs : List X) → position_from test (start + 1) xs ≡ Some k → (j : ℕ) × (k ≡ suc j) × (position_from test start xs ≡ Some j)
position_unshifted test start k [] e = cc
position_unshifted test start k (x ∷ xs) e = step (test x) e (λ f. position_unshifted test (start + 1) k xs f)
  where
    step : (b : Bool) → cond b (Some (start + 1)) (position_from test (start + 1 + 1) xs) ≡ Some k → (position_from test (start + 1 + 1) xs ≡ Some k → (j : ℕ) × (k ≡ suc j) × (position_from test (start + 1) xs ≡ Some j)) → (j : ℕ) × (k ≡ suc j) × (cond b (Some start) (position_from test (start + 1) xs) ≡ Some j)
    step true f onward = (start, (let same = one_number (Some (start + 1)) (start + 1) k refl f in omega (arith, same)), refl)
    step false f onward = onward f

-- the places of these entries are the first of a frame
abbrev pub StartsWith : List (Location × Content) → List (Location × Content) → Type 0
StartsWith [] frame = Unit {0}
StartsWith (entry ∷ entries) [] = ⊥
StartsWith (entry ∷ entries) (first ∷ frame) = (first.0 ≡ entry.0) × StartsWith entries frame

pub starts_within : (entries frame : List (Location × Content)) → StartsWith entries frame → length entries ≤ length frame
starts_within [] frame s = omega arith
starts_within (entry ∷ entries) [] s = absurd s
starts_within (entry ∷ entries) (first ∷ frame) s = let l = starts_within entries frame s.1 in omega (arith, l)

-- what is said of a content is at each entry's number
abbrev pub reported : {X : Type 0} → (Content → X) → List (Location × Content) → List X
reported f entries = map (λ entry. f entry.1) entries

-- what is said of a place, with contents in place of the first
pub overlaid_at : {X : Type 0} (f : Content → X) (store : Store) (place : Location) (entries frame : List (Location × Content)) (xs : List X) → StartsWith entries frame → length xs ≡ length frame → (k : ℕ) → place_number frame place ≡ Some k → slice_get xs k ≡ option_map f (store place) → slice_get (reported f entries ++ drop (length entries) xs) k ≡ option_map f (overlaid entries store place)
overlaid_at f store place [] frame xs s l k e h = h
overlaid_at f store place (entry ∷ entries) [] xs s l k e h = absurd s
overlaid_at f store place (entry ∷ entries) (first ∷ frame) [] s l k e h = absurd (omega (arith, l))
overlaid_at f store place (entry ∷ entries) (first ∷ frame) (x ∷ xs) s l k e h =
    step (same_place entry.0 place) (ap (λ (p : Location). cond (same_place p place) (Some 0) (position_from (λ (q : Location × Content). same_place q.0 place) 1 frame)) (sym s.0) ∙ e)
    (λ j g i. overlaid_at f store place entries frame xs s.1 (omega (arith, l)) j g i)
  where
    further : (found : (j : ℕ) × (k ≡ suc j) × (place_number frame place ≡ Some j)) → ((j : ℕ) → place_number frame place ≡ Some j → slice_get xs j ≡ option_map f (store place) → slice_get (reported f entries ++ drop (length entries) xs) j ≡ option_map f (overlaid entries store place)) → slice_get (reported f (entry ∷ entries) ++ drop (length (entry ∷ entries)) (x ∷ xs)) k ≡ option_map f (overlaid entries store place)
    further found onward =
        ap (λ i. slice_get (reported f (entry ∷ entries) ++ drop (length (entry ∷ entries)) (x ∷ xs)) i) found.1
        ∙ onward found.0 found.2 (ap (λ i. slice_get (x ∷ xs) i) (sym found.1) ∙ h)

    step : (b : Bool) → cond b (Some 0) (position_from (λ (q : Location × Content). same_place q.0 place) 1 frame) ≡ Some k → ((j : ℕ) → place_number frame place ≡ Some j → slice_get xs j ≡ option_map f (store place) → slice_get (reported f entries ++ drop (length entries) xs) j ≡ option_map f (overlaid entries store place)) → slice_get (reported f (entry ∷ entries) ++ drop (length (entry ∷ entries)) (x ∷ xs)) k ≡ option_map f (elim (if b then Some entry.1 else store_of entries place) as (λ o. Option Content) [ Some content ↦ Some content | None ↦ store place ])
    step true g onward = ap (λ i. slice_get (reported f (entry ∷ entries) ++ drop (length (entry ∷ entries)) (x ∷ xs)) i) (sym (one_number (Some 0) 0 k refl g))
    step false g onward = further (position_unshifted (λ (q : Location × Content). same_place q.0 place) 0 k frame g) onward

-- the inputs, the status bits and the weights are the first places of a program's frame
pub image_starts : (image : Image) (before : List ProgramUnit) (program : ProgramUnit) → StartsWith (image_contents image) (program_frame before program)
image_starts image before program = (refl, (refl, (refl, (refl, (refl, (refl, (refl, (refl, (refl, (refl, (refl, (refl, (refl, (refl, (refl, (refl, (refl, (refl, (refl, (refl, (refl, (refl, (refl, (refl, (refl, tt)))))))))))))))))))))))))

-- the contents with an image
pub image_written : (before : List ProgramUnit) (program : ProgramUnit) (store : Store) (numbers : List ℤ) → AreContents (program_frame before program) store numbers → (image : Image) → AreContents (program_frame before program) (with_image image store) (with_image_numbers image numbers)
image_written before program store numbers h image = record {
  count =
      let a = length-append (image_numbers image) (drop 25 numbers) in
      let b = length-drop 25 numbers in
      let l = starts_within (image_contents image) (program_frame before program) (image_starts image before program) in
      let c = h.count in
      let m : length (image_numbers image) ≡ 25 = refl in
      let n : length (image_contents image) ≡ 25 = refl in
      omega (arith, a, b, c, l, m, n);
  kinds = λ place k e.
      overlaid_at slot_kind_of store place (image_contents image) (program_frame before program) (slot_kinds (program_frame before program)) (image_starts image before program)
      (length-map (program_frame before program) (λ (entry : Location × Content). slot_kind_of entry.1)) k e (h.kinds place k e);
  each = λ place k e. overlaid_at content_number store place (image_contents image) (program_frame before program) numbers (image_starts image before program) h.count k e (h.each place k e);
}

-- what is said of a place at first
pub first_at : {X : Type 0} (f : Content → X) (frame : List (Location × Content)) (place : Location) (k : ℕ) → place_number frame place ≡ Some k → slice_get (reported f frame) k ≡ option_map f (store_of frame place)
first_at f [] place k e = cc
first_at f (entry ∷ frame) place k e = step (same_place entry.0 place) e (λ j g. first_at f frame place j g)
  where
    further : (found : (j : ℕ) × (k ≡ suc j) × (place_number frame place ≡ Some j)) → ((j : ℕ) → place_number frame place ≡ Some j → slice_get (reported f frame) j ≡ option_map f (store_of frame place)) → slice_get (reported f (entry ∷ frame)) k ≡ option_map f (store_of frame place)
    further found onward = ap (λ i. slice_get (reported f (entry ∷ frame)) i) found.1 ∙ onward found.0 found.2

    step : (b : Bool) → cond b (Some 0) (position_from (λ (x : Location × Content). same_place x.0 place) 1 frame) ≡ Some k → ((j : ℕ) → place_number frame place ≡ Some j → slice_get (reported f frame) j ≡ option_map f (store_of frame place)) → slice_get (reported f (entry ∷ frame)) k ≡ option_map f (if b then Some entry.1 else store_of frame place)
    step true g onward = ap (λ i. slice_get (reported f (entry ∷ frame)) i) (sym (one_number (Some 0) 0 k refl g))
    step false g onward = further (position_unshifted (λ (x : Location × Content). same_place x.0 place) 0 k frame g) onward

-- the first numbers are those of the first store
pub first_of_reversed : (units : List ProgramUnit) → AreContents (frame_of_reversed units) (initial_of_reversed units) (first_numbers (frame_of_reversed units))
first_of_reversed [] = record { count = refl; kinds = λ place k e. cc; each = λ place k e. cc }
first_of_reversed (program ∷ before) = record {
  count = length-map (program_frame before program) (λ (entry : Location × Content). content_number entry.1);
  kinds = first_at slot_kind_of (program_frame before program);
  each = first_at content_number (program_frame before program);
}

pub first_numbers_are_contents : FirstNumbersAreContents
first_numbers_are_contents text = first_of_reversed (reverse text)
