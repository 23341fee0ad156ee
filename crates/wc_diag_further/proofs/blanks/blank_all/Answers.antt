use Rattle.wc_model.proofs.Common.{◌≡◌, ◌<◌, ◌+◌, ℕ, List, ◌++◌, drop, get_or, length, map, set, take, arith, refl, ne_eqb, get_or_default, map_over_more}
use Rattle.wc_diag_further.specs.Further.{blank_of}
use Rattle.wc_diag_further.proofs.blanks.blank_all.Goals as goal
use Rattle.wc_diag_further.proofs.blanks.blank_all.Goals.{then-byte-eq10, else-byte-eq10}

line_feed_stays : (old new : ℕ) → old ≡ 10 → new ≡ 10 → new ≡ blank_of old
line_feed_stays old new is e = rw (is, e) refl

other_taken : (old new : ℕ) → (old ≡ 10 → ⊥) → new ≡ 32 → new ≡ blank_of old
other_taken old new other e = rw (ne_eqb old 10 other, e) refl

-- one more byte
byte_more : (xs ys : List ℕ) (i new : ℕ) → i < length xs → length ys ≡ length xs → ys ≡ map blank_of (take i xs) ++ drop i xs → new ≡ blank_of (get_or ys i 0)
    → set ys i new ≡ map blank_of (take (i + 1) xs) ++ drop (i + 1) xs
byte_more xs ys i new lt long h e =
    let within : i < length ys = omega arith in
    rw e (map_over_more blank_of xs ys i (get_or ys i 0) lt h (get_or_default ys i 0 (get_or ys i 0) within))

pub loop-byte-preserved : goal.loop-byte-preserved
loop-byte-preserved c =
    byte_more c.args.text.now c.loop-byte.text c.loop-byte.byte-index c.if-byte-eq10.byte c.loop-byte-test.true c.loop-byte.auto.text c.loop-byte.invariant
    (elim c.if-byte-eq10.branch [
      | then-byte-eq10 w ↦ line_feed_stays _ _ w.if-byte-eq10.true w.byte-is
      | else-byte-eq10 w ↦ other_taken _ _ w.if-byte-eq10.false w.byte-is
    ])
