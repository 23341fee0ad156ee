-- Lines without quotes, too short to be cut, are passed whole.
use Rattle.wc_model.proofs.Common.{◌≡◌, ◌≢◌, ◌≤◌, ◌<◌, ◌+◌, ◌-◌, ◌==◌, ◌||◌, ◌&&◌, ℕ, zero, suc, Bool, true, false, cond, List, [], ◌∷◌, ◌++◌, length, min, refl, subst, ap, ◌∙◌, arith, nat_le, slice_index, nat_tests}
use Rattle.wc_record.proofs.Cuts.{cut_next}
use Rattle.wc_record.specs.Cutting.{AreUnquotedLines, Passes, cut_from, after, after_at, after_plain, is_cut, is_outside, record_start}
use Rattle.wc_record.specs.declared.place.LogPlace.{LogPlace}
use Rattle.wc_record.specs.declared.place.ByteState.{ByteState}
use Rattle.wc_record.specs.declared.place.ByteState.TheVariants as byte_state

-- with fewer bytes than are read of each record nothing is cut
uncut : (place : LogPlace) → place.size < 65536 → is_cut place ≡ false
uncut place few = by_fields (nat_le 3 place.ended)
  where
    by_fields : (b : Bool) → (b && nat_le 65536 place.size) ≡ false
    by_fields true = grind (arith, nat_tests)
    by_fields false = refl

-- outside of quotes, a byte that opens none leads outside, with at most one byte more
pub record StaysOutside (size : ℕ) (place : LogPlace) : Type 0 where
  pub outside : is_outside place.byte_state ≡ true
  pub grows : place.size ≤ size

-- of two such places
either : (size : ℕ) (b : Bool) (x y : LogPlace) → StaysOutside size x → StaysOutside size y → StaysOutside size (cond b x y)
either size true x y h k = h
either size false x y h k = k

-- after a byte that is not a quote
plain_stays : (ended size byte : ℕ) → StaysOutside size (after_plain ended size byte)
plain_stays ended size byte =
    either size (byte == 44) _ _ (record { outside = refl; grows = omega arith })
    (either size ((byte == 13) || (byte == 10)) _ _ (record { outside = refl; grows = omega arith }) (record { outside = refl; grows = omega arith }))

-- at each position outside of quotes
byte_state_stays : (at : ByteState) (ended size byte : ℕ) → is_outside at ≡ true → (byte == 34) ≡ false → StaysOutside size (after_at at ended size byte)
byte_state_stays byte_state.Opening ended size byte e f = rw f (plain_stays ended size byte)
byte_state_stays byte_state.Plain ended size byte e f = plain_stays ended size byte
byte_state_stays byte_state.Quoted ended size byte e f = cc
byte_state_stays other ended size byte e f = cc

-- after a line feed a record starts
line_ends : (at : ByteState) (ended size : ℕ) → is_outside at ≡ true → after_at at ended size 10 ≡ record_start
line_ends byte_state.Opening ended size e = refl
line_ends byte_state.Plain ended size e = refl
line_ends byte_state.Quoted ended size e = cc
line_ends other ended size e = cc

-- what is not a quote does not pass the test for one
no_quote : (byte : ℕ) → byte ≢ 34 → (byte == 34) ≡ false
no_quote byte e = grind (arith, nat_tests)

-- up to a line feed all bytes are passed, and a record starts
pub lines_pass : (bytes : List ℕ) (place : LogPlace) (last : ℕ) → is_outside place.byte_state ≡ true → place.size + length bytes < 65536 → last < length bytes → slice_index bytes last ≡ 10
    → ((k : ℕ) → k < length bytes → slice_index bytes k ≢ 34) → Passes place bytes (suc last) record_start
lines_pass [] place last e few within feed none = absurd (omega (arith, within))
lines_pass (byte ∷ bytes) place zero e few within feed none = λ following.
    let uncut_here = uncut place (omega (arith, few)) in
    let is : byte ≡ 10 = feed in
    cut_next place byte (bytes ++ following) uncut_here
    ∙ ap (λ (here : LogPlace). byte ∷ cut_from here (bytes ++ following)) (ap (λ b. after place b) is ∙ line_ends place.byte_state place.ended (min 65536 (place.size + 1)) e)
lines_pass (byte ∷ bytes) place (suc last) e few within feed none = λ following.
    let uncut_here = uncut place (omega (arith, few)) in
    let stays = byte_state_stays place.byte_state place.ended (min 65536 (place.size + 1)) byte e (no_quote byte (none 0 (omega arith))) in
    cut_next place byte (bytes ++ following) uncut_here
    ∙ ap (λ (xs : List ℕ). byte ∷ xs)
    (lines_pass bytes (after place byte) last stays.outside (omega (arith, few, stays.grows)) (omega (arith, within)) feed (λ k low. none (suc k) (omega (arith, low))) following)

-- what an unquoted chunk has up to its last line feed is passed
pub whole_lines_pass : (place : LogPlace) (bytes : List ℕ) (count : ℕ) → is_outside place.byte_state ≡ true → place.size + length bytes < 65536 → AreUnquotedLines bytes count → 0 < count → Passes place bytes count record_start
whole_lines_pass place bytes count e few lines some =
    let found = lines some in
    let last : suc (count - 1) ≡ count = omega (arith, some) in
    subst (λ n. Passes place bytes n record_start) last
    (lines_pass bytes place (count - 1) e few (omega (arith, found.0, some)) found.1 found.2)
