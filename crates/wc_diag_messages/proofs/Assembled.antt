-- Parts that are written one after the other.
use Rattle.std.proofs.Common.{◌≡◌, ℕ, List, [], ◌++◌, append_assoc, refl, Result, Ok, Err, OnOk}

-- four parts in an empty message
pub four_parts : (a b c d start first second third all : List ℕ) → start ≡ [] → first ≡ start ++ a → second ≡ first ++ b → third ≡ second ++ c → all ≡ third ++ d
    → all ≡ a ++ b ++ c ++ d
four_parts a b c d start first second third all none e f g h = rw (h, g, f, e, none) refl

-- four parts after what was there, the last of which may fail
pub four_after : {E X : Type 0} (r : Result Unit E) (old a b c d first second third all : List X) → first ≡ old ++ a → second ≡ first ++ b → third ≡ second ++ c → OnOk r (all ≡ third ++ d)
    → OnOk r (all ≡ old ++ (a ++ b ++ c ++ d))
four_after (Ok x) old a b c d first second third all e f g h =
    rw (h, g, f, e, append_assoc old a b, append_assoc old (a ++ b) c, append_assoc old (a ++ b ++ c) d) refl
four_after (Err x) old a b c d first second third all e f g h = tt

-- and five
pub five_after : {E : Type 0} (r : Result Unit E) (old a b c d e first second third fourth all : List ℕ) → first ≡ old ++ a → second ≡ first ++ b → third ≡ second ++ c → fourth ≡ third ++ d
    → OnOk r (all ≡ fourth ++ e) → OnOk r (all ≡ old ++ (a ++ b ++ c ++ d ++ e))
five_after (Ok x) old a b c d e first second third fourth all f g h i j =
    rw (j, i, h, g, f, append_assoc old a b, append_assoc old (a ++ b) c, append_assoc old (a ++ b ++ c) d, append_assoc old (a ++ b ++ c ++ d) e) refl
five_after (Err x) old a b c d e first second third fourth all f g h i j = tt

-- five parts in an empty message
pub five_parts : {X : Type 0} (a b c d e start first second third fourth all : List X) → start ≡ [] → first ≡ start ++ a → second ≡ first ++ b → third ≡ second ++ c → fourth ≡ third ++ d → all ≡ fourth ++ e
    → all ≡ a ++ b ++ c ++ d ++ e
five_parts a b c d e start first second third fourth all none f g h i j = rw (j, i, h, g, f, none) refl

-- six parts in an empty message
pub six_parts : (a b c d e f start first second third fourth fifth all : List ℕ) → start ≡ [] → first ≡ start ++ a → second ≡ first ++ b → third ≡ second ++ c → fourth ≡ third ++ d
    → fifth ≡ fourth ++ e → all ≡ fifth ++ f
    → all ≡ a ++ b ++ c ++ d ++ e ++ f
six_parts a b c d e f start first second third fourth fifth all none h i j k l m = rw (m, l, k, j, i, h, none) refl

-- seven, of which the fifth and the sixth are one
pub seven_parts : (a b c d e f g start first second third fourth fifth sixth all : List ℕ) → start ≡ [] → first ≡ start ++ a → second ≡ first ++ b → third ≡ second ++ c → fourth ≡ third ++ d
    → fifth ≡ fourth ++ e → sixth ≡ fifth ++ f → all ≡ sixth ++ g
    → all ≡ a ++ b ++ c ++ d ++ (e ++ f) ++ g
seven_parts a b c d e f g start first second third fourth fifth sixth all none h i j k l m n =
    rw (n, m, l, k, j, i, h, none, append_assoc (a ++ b ++ c ++ d) e f) refl

-- six parts after what was there, of which the last four are one
pub six_after : {E : Type 0} (r : Result Unit E) (old a b c d e f first second third fourth fifth all : List ℕ) → first ≡ old ++ a → second ≡ first ++ b → third ≡ second ++ c
    → fourth ≡ third ++ d → fifth ≡ fourth ++ e → OnOk r (all ≡ fifth ++ f)
    → OnOk r (all ≡ old ++ (a ++ b ++ (c ++ d ++ e ++ f)))
six_after (Ok x) old a b c d e f first second third fourth fifth all g h i j k l =
    rw (
      l,
      k,
      j,
      i,
      h,
      g,
      append_assoc old a b,
      append_assoc (old ++ (a ++ b)) c d,
      append_assoc (old ++ (a ++ b)) (c ++ d) e,
      append_assoc (old ++ (a ++ b)) (c ++ d ++ e) f,
      append_assoc old (a ++ b) (c ++ d ++ e ++ f),
    ) refl
six_after (Err x) old a b c d e f first second third fourth fifth all g h i j k l = tt

-- seven, of which the fifth and the sixth are one
pub seven_after : {E : Type 0} (r : Result Unit E) (old a b c d e f g first second third fourth fifth sixth all : List ℕ) → first ≡ old ++ a → second ≡ first ++ b → third ≡ second ++ c
    → fourth ≡ third ++ d → fifth ≡ fourth ++ e → sixth ≡ fifth ++ f → OnOk r (all ≡ sixth ++ g)
    → OnOk r (all ≡ old ++ (a ++ b ++ c ++ d ++ (e ++ f) ++ g))
seven_after (Ok x) old a b c d e f g first second third fourth fifth sixth all h i j k l m n =
    rw (
      n,
      m,
      l,
      k,
      j,
      i,
      h,
      append_assoc old a b,
      append_assoc old (a ++ b) c,
      append_assoc old (a ++ b ++ c) d,
      append_assoc (old ++ (a ++ b ++ c ++ d)) e f,
      append_assoc old (a ++ b ++ c ++ d) (e ++ f),
      append_assoc old (a ++ b ++ c ++ d ++ (e ++ f)) g,
    ) refl
seven_after (Err x) old a b c d e f g first second third fourth fifth sixth all h i j k l m n = tt
