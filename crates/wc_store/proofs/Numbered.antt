-- Entries whose places are numbered from 0 on: what is kept under a place is what is at its index.
use Rattle.std.proofs.Common.{◌≡◌, ◌≢◌, ◌≤◌, ◌<◌, ℕ, zero, suc, ◌+◌, Bool, true, false, List, [], ◌∷◌, ◌++◌, Option, Some, None, length, length-append, replicate, map, subst, cond, option_map, ℤ, pos, refl, ap, sym, ◌∙◌, arith, eq-eqb, ne_eqb}
use Rattle.wc_model.proofs.Common.{slice_get, slice_set, eqb, IfSome, map-append, length-map, lookup, set_value}
use Rattle.wc_model.specs.Language.Frames.{IsInRange}
use Rattle.wc_model.specs.declared.kind.SlotKind.{SlotKind}
use Rattle.wc_store.proofs.Ranges.{range_at, written_fits}
use Rattle.wc_store.specs.Inside.{ArePlacesFrom, kinds_in, numbers_in, tag_view, number_view, AreInRange, IsInRangeAt}
use Rattle.wc_store.specs.declared.named_store.TaggedNumber.{TaggedNumber}

-- a place has this number
abbrev pub is_place : ℕ → ℕ → Bool
is_place at place = eqb at place

-- a test holds, or does not
raised : {A : Type 0} (test : Bool) (x y z : A) → test ≡ true → x ≡ z → cond test x y ≡ z
raised true x y z e same = same
raised false x y z e same = absurd (cc)

unmet : {A : Type 0} (test : Bool) (x y z : A) → test ≡ false → y ≡ z → cond test x y ≡ z
unmet true x y z e same = absurd (cc)
unmet false x y z e same = same

-- what is kept under a place is what is at its index
pub found : {B : Type 0} (f : TaggedNumber → B) (at first index : ℕ) (entries : List (ℕ × TaggedNumber)) → at ≡ first + index → ArePlacesFrom first entries →
    slice_get (map (λ e. f e.1) entries) index ≡ option_map f (lookup (is_place at) entries)
found f at first index [] e h = refl
found f at first zero (entry ∷ entries) e h =
    let here : at ≡ entry.0 = omega (arith, h.0) in
    sym (ap (option_map f) (raised (is_place at entry.0) (Some entry.1) (lookup (is_place at) entries) (Some entry.1) (eq-eqb _ _ here) refl))
found f at first (suc index) (entry ∷ entries) e h =
    let apart : at ≢ entry.0 = omega (arith, h.0) in
    found f at (first + 1) index entries (omega arith) h.1
    ∙ sym (ap (option_map f) (unmet (is_place at entry.0) (Some entry.1) (lookup (is_place at) entries) (lookup (is_place at) entries) (ne_eqb _ _ apart) refl))

-- what is written under a place is written at its index
pub written : {B : Type 0} (f : TaggedNumber → B) (at first index : ℕ) (entries : List (ℕ × TaggedNumber)) (w : TaggedNumber) → at ≡ first + index → ArePlacesFrom first entries →
    map (λ e. f e.1) (set_value (is_place at) entries w) ≡ slice_set (map (λ e. f e.1) entries) index (f w)
written f at first index [] w e h = refl
written f at first zero (entry ∷ entries) w e h =
    let here : at ≡ entry.0 = omega (arith, h.0) in
    ap (map (λ e. f e.1)) (raised (is_place at entry.0) ((entry.0, w) ∷ entries) (entry ∷ set_value (is_place at) entries w) ((entry.0, w) ∷ entries) (eq-eqb _ _ here) refl)
written f at first (suc index) (entry ∷ entries) w e h =
    let apart : at ≢ entry.0 = omega (arith, h.0) in
    ap (map (λ e. f e.1)) (unmet (is_place at entry.0) ((entry.0, w) ∷ entries) (entry ∷ set_value (is_place at) entries w) (entry ∷ set_value (is_place at) entries w) (ne_eqb _ _ apart) refl)
    ∙ ap (λ xs. f entry.1 ∷ xs) (written f at (first + 1) index entries w (omega arith) h.1)

-- one of two lists whose places are numbered
either_numbered : (test : Bool) (first : ℕ) (xs ys : List (ℕ × TaggedNumber)) → ArePlacesFrom first xs → ArePlacesFrom first ys → ArePlacesFrom first (cond test xs ys)
either_numbered true first xs ys h k = h
either_numbered false first xs ys h k = k

-- a write leaves the places
pub still_numbered : (at first : ℕ) (entries : List (ℕ × TaggedNumber)) (w : TaggedNumber) → ArePlacesFrom first entries → ArePlacesFrom first (set_value (is_place at) entries w)
still_numbered at first [] w h = h
still_numbered at first (entry ∷ entries) w h =
    either_numbered (is_place at entry.0) first ((entry.0, w) ∷ entries) (entry ∷ set_value (is_place at) entries w) h (h.0, still_numbered at (first + 1) entries w h.1)

-- what is there already, written once more
pub written_again : {B : Type 0} (xs : List B) (index : ℕ) (x : B) → slice_get xs index ≡ Some x → slice_set xs index x ≡ xs
written_again [] index x e = refl
written_again (y ∷ ys) zero x e = ap (λ z. z ∷ ys) (cc (e))
written_again (y ∷ ys) (suc index) x e = ap (λ zs. y ∷ zs) (written_again ys index x e)

-- no place is numbered past the end
pub none_yet : (at first : ℕ) (entries : List (ℕ × TaggedNumber)) → first + length entries ≤ at → ArePlacesFrom first entries → lookup (is_place at) entries ≡ None
none_yet at first [] e h = refl
none_yet at first (entry ∷ entries) e h =
    let apart : at ≢ entry.0 = omega (arith, h.0) in
    unmet (is_place at entry.0) (Some entry.1) (lookup (is_place at) entries) None (ne_eqb _ _ apart) (none_yet at (first + 1) entries (omega arith) h.1)

-- the next place goes last
pub numbered_on : (first : ℕ) (entries : List (ℕ × TaggedNumber)) (place : ℕ) (w : TaggedNumber) → place ≡ first + length entries → ArePlacesFrom first entries → ArePlacesFrom first (entries ++ (place, w) ∷ [])
numbered_on first [] place w e h = (omega arith, tt)
numbered_on first (entry ∷ entries) place w e h = (h.0, numbered_on (first + 1) entries place w (omega arith) h.1)

-- zeros and one more
zero_last : (n : ℕ) → replicate n (pos 0) ++ pos 0 ∷ [] ≡ replicate (suc n) (pos 0)
zero_last zero = refl
zero_last (suc n) = ap (λ xs. pos 0 ∷ xs) (zero_last n)

-- entries of places of these kinds, all 0
pub record AreZeros (kinds : List SlotKind) (entries : List (ℕ × TaggedNumber)) : Type 0 where
  pub places : ArePlacesFrom 0 entries
  pub kinds_are : kinds_in entries ≡ kinds
  pub zero : numbers_in entries ≡ replicate (length entries) (pos 0)

-- one more of them
pub one_more : (kinds : List SlotKind) (kind : SlotKind) (entries : List (ℕ × TaggedNumber)) (place : ℕ) (w : TaggedNumber) → AreZeros kinds entries →
    place ≡ length entries → tag_view w ≡ kind → number_view w ≡ pos 0 → AreZeros (kinds ++ kind ∷ []) (entries ++ (place, w) ∷ [])
one_more kinds kind entries place w h at k n =
    let long : suc (length entries) ≡ length (entries ++ (place, w) ∷ []) = omega (arith, length-append entries ((place, w) ∷ [])) in
    record {
      places = numbered_on 0 entries place w (omega arith) h.places;
      kinds_are = map-append (λ (e : ℕ × TaggedNumber). tag_view e.1) entries ((place, w) ∷ []) ∙ ap (λ xs. xs ++ tag_view w ∷ []) h.kinds_are ∙ ap (λ x. kinds ++ x ∷ []) k;
      zero = map-append (λ (e : ℕ × TaggedNumber). number_view e.1) entries ((place, w) ∷ []) ∙ ap (λ xs. xs ++ number_view w ∷ []) h.zero
          ∙ ap (λ x. replicate (length entries) (pos 0) ++ x ∷ []) n ∙ zero_last (length entries) ∙ ap (λ n. replicate n (pos 0)) long;
    }

-- there are as many entries as kinds
pub zeros_length : (kinds : List SlotKind) (entries : List (ℕ × TaggedNumber)) → AreZeros kinds entries → length entries ≡ length kinds
zeros_length kinds entries h = sym (length-map entries (λ (e : ℕ × TaggedNumber). tag_view e.1)) ∙ ap length h.kinds_are

-- a number in the range of the slot at a place is in the range of its kind
pub in_kind : (kinds : List SlotKind) (at : ℕ) (kind : SlotKind) (n : ℤ) → slice_get kinds at ≡ Some kind → IsInRangeAt kinds at n → IsInRange kind n
in_kind kinds at kind n e r = subst (λ (o : Option SlotKind). IfSome o (λ k. IsInRange k n)) e r

-- what is kept under a place: its kind, its number, and that the number is in the kind's range
pub record IsKept (entries : List (ℕ × TaggedNumber)) (at : ℕ) (tagged : TaggedNumber) : Type 0 where
  pub kind : slice_get (kinds_in entries) at ≡ Some (tag_view tagged)
  pub number : slice_get (numbers_in entries) at ≡ Some (number_view tagged)
  pub range_there : IsInRangeAt (kinds_in entries) at (number_view tagged)
  pub range : IsInRange (tag_view tagged) (number_view tagged)

pub is_kept : (entries : List (ℕ × TaggedNumber)) (at : ℕ) (tagged : TaggedNumber) → ArePlacesFrom 0 entries → AreInRange (kinds_in entries) (numbers_in entries) →
    lookup (is_place at) entries ≡ Some tagged → IsKept entries at tagged
is_kept entries at tagged h ranges e =
    let kind : slice_get (kinds_in entries) at ≡ Some (tag_view tagged) = found tag_view at 0 at entries (omega arith) h ∙ ap (option_map tag_view) e in
    let number : slice_get (numbers_in entries) at ≡ Some (number_view tagged) = found number_view at 0 at entries (omega arith) h ∙ ap (option_map number_view) e in
    let there = range_at (kinds_in entries) (numbers_in entries) at (number_view tagged) ranges number in
    record { kind = kind; number = number; range_there = there; range = in_kind (kinds_in entries) at (tag_view tagged) (number_view tagged) kind there }

-- below the end something is kept
there : {B : Type 0} (xs : List B) (at : ℕ) → at < length xs → slice_get xs at ≢ None
there [] at within e = omega (arith, within)
there (x ∷ xs) zero within e = absurd (cc (e))
there (x ∷ xs) (suc at) within e = there xs at (omega (arith, within)) e

pub not_missing : (entries : List (ℕ × TaggedNumber)) (at : ℕ) → ArePlacesFrom 0 entries → at < length (kinds_in entries) → lookup (is_place at) entries ≢ None
not_missing entries at h within e = there (kinds_in entries) at within (found tag_view at 0 at entries (omega arith) h ∙ ap (option_map tag_view) e)

-- a number written under a place: the places and kinds stay, and the numbers are in range
pub record IsWritten (entries new : List (ℕ × TaggedNumber)) (at : ℕ) (n : ℤ) : Type 0 where
  pub places : ArePlacesFrom 0 new
  pub kinds_stay : kinds_in new ≡ kinds_in entries
  pub numbers_are : numbers_in new ≡ slice_set (numbers_in entries) at n
  pub ranges : AreInRange (kinds_in new) (numbers_in new)

pub is_written : (entries new : List (ℕ × TaggedNumber)) (at : ℕ) (tagged w : TaggedNumber) (n : ℤ) → ArePlacesFrom 0 entries → AreInRange (kinds_in entries) (numbers_in entries) →
    IsKept entries at tagged → IsInRangeAt (kinds_in entries) at n → tag_view w ≡ tag_view tagged → number_view w ≡ n → new ≡ set_value (is_place at) entries w → IsWritten entries new at n
is_written entries new at tagged w n h ranges kept r tag number e =
    let kinds_stay : kinds_in new ≡ kinds_in entries = ap kinds_in e ∙ written tag_view at 0 at entries w (omega arith) h ∙ written_again (kinds_in entries) at (tag_view w) (kept.kind ∙ ap Some (sym tag)) in
    let numbers_are : numbers_in new ≡ slice_set (numbers_in entries) at n = ap numbers_in e ∙ written number_view at 0 at entries w (omega arith) h ∙ ap (slice_set (numbers_in entries) at) number in
    record {
      places = subst (ArePlacesFrom 0) (sym e) (still_numbered at 0 entries w h);
      kinds_stay = kinds_stay;
      numbers_are = numbers_are;
      ranges = subst (λ kinds. AreInRange kinds (numbers_in new)) (sym kinds_stay)
          (subst (AreInRange (kinds_in entries)) (sym numbers_are) (written_fits (kinds_in entries) (numbers_in entries) at n ranges r));
    }
