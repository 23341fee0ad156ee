-- If no character of two texts acts on a terminal, none does of both together.
use Rattle.std.proofs.Common.{◌≡◌, ◌<◌, ◌≤◌, ◌&&◌, ◌||◌, not, nat_lt, Bool, true, List, [], ◌∷◌, ℕ, ◌++◌, get_or, refl, ap, arith}
use Rattle.wc_model.proofs.Common.{and_parts, nat_tests, IsCharBoundary-start, IsUtf8-from_is_utf8, is_utf8}
use Rattle.wc_diag_texts.specs.Plain.{acts, acts_nowhere, is_calm, is_control, passes, acting_length}
use Rattle.wc_diag_texts.proofs.ActingBytes.{begin_not, no_fourth, no_second, no_third}

-- no character ends with a byte with which another begins, so more text after a character makes it no other
before_more : (byte : ℕ) (bytes more : List ℕ) → (128 ≤ get_or more 0 0 → 192 ≤ get_or more 0 0) → acting_length (byte ∷ bytes) ≡ 0 → acting_length (byte ∷ (bytes ++ more)) ≡ 0
before_more byte [] more begins none = no_second byte (get_or more 0 0) (get_or more 1 0) (get_or more 2 0) (begin_not (get_or more 0 0) begins)
before_more byte (second ∷ []) more begins none = no_third byte second 0 0 (get_or more 0 0) (get_or more 1 0) none (begin_not (get_or more 0 0) begins)
before_more byte (second ∷ third ∷ []) more begins none = no_fourth byte second third 0 (get_or more 0 0) none (begin_not (get_or more 0 0) begins)
before_more byte (second ∷ third ∷ fourth ∷ rest) more begins none = none

silent : (n : ℕ) → not (nat_lt 0 n) ≡ true → n ≡ 0
silent n e = grind (arith, nat_tests)

begins_character : (more : List ℕ) → is_utf8 more ≡ true → 128 ≤ get_or more 0 0 → 192 ≤ get_or more 0 0
begins_character [] text high = absurd (omega arith)
begins_character (byte ∷ bytes) text high = (IsCharBoundary-start (byte ∷ bytes) (IsUtf8-from_is_utf8 (byte ∷ bytes) text)).1 (omega arith) high

pub calm_joined : (bytes more : List ℕ) → acts_nowhere bytes ≡ true → acts_nowhere more ≡ true → is_utf8 more ≡ true → acts_nowhere (bytes ++ more) ≡ true
calm_joined [] more first second text = second
calm_joined (byte ∷ bytes) more first second text =
    let parts = and_parts (not (acts (byte ∷ bytes))) (acts_nowhere bytes) first in
    let none = before_more byte bytes more (begins_character more text) (silent (acting_length (byte ∷ bytes)) parts.0) in
    λ i. not (nat_lt 0 (none i)) && calm_joined bytes more parts.1 second text i

-- a byte of ASCII
pub ascii_is_calm : (byte : ℕ) → byte < 128 → acts_nowhere (byte ∷ []) ≡ true
ascii_is_calm byte less = ap (λ n. not (nat_lt 0 n) && true) (no_second byte 0 0 0 refl)

no_act : (control other rest : Bool) → (not (control || other) && rest) ≡ true → not other ≡ true
no_act control other rest e = grind arith

calm_is_silent : (bytes : List ℕ) → is_calm bytes ≡ true → acts_nowhere bytes ≡ true
calm_is_silent [] e = refl
calm_is_silent (byte ∷ bytes) e =
    let rest = (and_parts (not (is_control byte || acts (byte ∷ bytes))) (is_calm bytes) e).1 in
    λ i. no_act (is_control byte) (acts (byte ∷ bytes)) (is_calm bytes) e i && calm_is_silent bytes rest i

-- what passes
pub passing_is_calm : (bytes : List ℕ) → passes bytes ≡ true → acts_nowhere bytes ≡ true
passing_is_calm bytes e = calm_is_silent bytes (and_parts (is_calm bytes) (is_utf8 bytes) e).0
