-- The numbers of places in a frame, and what is written there.
use Rattle.wc_model.proofs.Common.{◌≡◌, ℕ, zero, suc, ◌<◌, Bool, true, false, List, [], ◌∷◌, length, Some, ℤ, refl, sym, ap, ◌∙◌, arith, slice_get, slice_set, if◌then◌else◌, length-set}
use Rattle.std.specs.Option.{option_map}
use Rattle.wc_text_flat.specs.Contents.{AreContents}
use Rattle.wc_model.specs.Definitions.{content_number, place_number, slot_kind_of, slot_kinds, Location, Content, Store, same_place, with_content}
use Rattle.wc_laws_language.proofs.FramePlaces.{one_number, one_place, number_within, same_place-refl}
use Rattle.wc_laws_language.proofs.Tests.{same_place-sound}

-- a number that was written is there
pub set_here : (ns : List ℤ) (i : ℕ) (n old : ℤ) → slice_get ns i ≡ Some old → slice_get (slice_set ns i n) i ≡ Some n
set_here [] i n old e = cc
set_here (m ∷ ns) zero n old e = refl
set_here (m ∷ ns) (suc i) n old e = set_here ns i n old e

-- and the others are as they were
pub set_elsewhere : (ns : List ℤ) (i j : ℕ) (n : ℤ) → (i ≡ j → ⊥) → slice_get (slice_set ns i n) j ≡ slice_get ns j
set_elsewhere [] i j n differ = refl
set_elsewhere (m ∷ ns) zero zero n differ = absurd (differ refl)
set_elsewhere (m ∷ ns) zero (suc j) n differ = refl
set_elsewhere (m ∷ ns) (suc i) zero n differ = refl
set_elsewhere (m ∷ ns) (suc i) (suc j) n differ = set_elsewhere ns i j n (λ e. differ (ap suc e))

-- within the list there is an element
pub there_is : (ns : List ℤ) (k : ℕ) → k < length ns → (n : ℤ) × (slice_get ns k ≡ Some n)
there_is [] k l = absurd (omega (arith, l))
there_is (n ∷ ns) zero l = (n, refl)
there_is (n ∷ ns) (suc k) l = there_is ns k (omega (arith, l))

-- the store after a content is written, and the numbers after its number is
pub write_both : (frame : List (Location × Content)) (store : Store) (numbers : List ℤ) → AreContents frame store numbers → (place : Location) (k : ℕ) → place_number frame place ≡ Some k → (content : Content) → slice_get (slot_kinds frame) k ≡ Some (slot_kind_of content) → AreContents frame (with_content store place content) (slice_set numbers k (content_number content))
write_both frame store numbers h place k e content kind = record {
  count = length-set numbers k (content_number content) ∙ h.count;
  kinds = λ other j f. same_kinds other j f (same_place place other) refl;
  each = λ other j f. step other j f (same_place place other) refl;
}
  where
    there : (n : ℤ) × (slice_get numbers k ≡ Some n)
    there = there_is numbers k (let l = number_within frame place k e in omega (arith, l, h.count))

    same_kinds : (other : Location) (j : ℕ) → place_number frame other ≡ Some j → (b : Bool) → same_place place other ≡ b → slice_get (slot_kinds frame) j ≡ option_map slot_kind_of (if b then Some content else store other)
    same_kinds other j f true same =
        let is : place ≡ other = same_place-sound place other same in
        let number : k ≡ j = one_number (place_number frame other) k j (ap (place_number frame) (sym is) ∙ e) f in
        ap (slice_get (slot_kinds frame)) (sym number) ∙ kind
    same_kinds other j f false differs = h.kinds other j f

    step : (other : Location) (j : ℕ) → place_number frame other ≡ Some j → (b : Bool) → same_place place other ≡ b → slice_get (slice_set numbers k (content_number content)) j ≡ option_map content_number (if b then Some content else store other)
    step other j f true same =
        let is : place ≡ other = same_place-sound place other same in
        let number : k ≡ j = one_number (place_number frame other) k j (ap (place_number frame) (sym is) ∙ e) f in
        ap (slice_get (slice_set numbers k (content_number content))) (sym number) ∙ set_here numbers k (content_number content) there.0 there.1
    step other j f false differs =
        set_elsewhere numbers k j (content_number content) (λ same.
        let is : place ≡ other = one_place frame place other k e (f ∙ ap Some (sym same)) in
        let self : same_place place other ≡ true = ap (same_place place) (sym is) ∙ same_place-refl place in
        cc)
        ∙ h.each other j f
