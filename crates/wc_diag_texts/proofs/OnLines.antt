-- Bytes as they are shown on one line.
use Rattle.std.proofs.Common.{◌≡◌, ◌∙◌, ◌==◌, ◌&&◌, ◌||◌, ◌<◌, not, Bool, true, false, List, [], ◌∷◌, ℕ, ◌++◌, if◌then◌else◌, refl, sym, ap, arith, Result, Ok, Err, OnOk}
use Rattle.wc_model.proofs.Common.{and_parts, nat_tests, IsUtf8-append, IsUtf8-from_ascii, IsUtf8-from_is_utf8, is_utf8-from_IsUtf8, IsAscii-cons, IsAscii-nil, list_all, is_utf8}
use Rattle.std.proofs.lemmas.List.{append-nil, flat_map_more}
use Rattle.wc_diag_texts.specs.Plain.{IsShown, acts, escaped_text, is_calm, is_control, is_plain, passes, shown_text, space_for_tab, with_spaces}

-- more of them after these
pub shown_further : (old new text : List ℕ) → IsShown old → new ≡ old ++ shown_text text → IsShown new
shown_further old new text was e =
    (was.0 ++ text ∷ [], e ∙ ap (λ l. l ++ shown_text text) was.1 ∙ flat_map_more shown_text [] was.0 text)

-- more of them after these, if it may fail
pub says_further : {E : Type 0} (r : Result Unit E) (old new text : List ℕ) → OnOk r (new ≡ old ++ shown_text text) → IsShown old → OnOk r (IsShown new)
says_further (Ok x) old new text e was = shown_further old new text was e
says_further (Err x) old new text e was = tt

-- two texts in UTF-8
pub text_joined : (bytes more : List ℕ) → is_utf8 bytes ≡ true → is_utf8 more ≡ true → is_utf8 (bytes ++ more) ≡ true
text_joined bytes more first second = is_utf8-from_IsUtf8 (bytes ++ more) (IsUtf8-append bytes more (IsUtf8-from_is_utf8 bytes first) (IsUtf8-from_is_utf8 more second))

-- what passes is in UTF-8, and plain
pub passing_is_text : (bytes : List ℕ) → passes bytes ≡ true → is_utf8 bytes ≡ true
passing_is_text bytes e = (and_parts (is_calm bytes) (is_utf8 bytes) e).1

plain_if_calm : (control other rest feed : Bool) → (not (control || other) && rest) ≡ true → (feed || not control) ≡ true
plain_if_calm control other rest feed e = grind arith

calm_is_plain : (bytes : List ℕ) → is_calm bytes ≡ true → list_all is_plain bytes ≡ true
calm_is_plain [] e = refl
calm_is_plain (byte ∷ bytes) e =
    let rest = (and_parts (not (is_control byte || acts (byte ∷ bytes))) (is_calm bytes) e).1 in
    λ i. plain_if_calm (is_control byte) (acts (byte ∷ bytes)) (is_calm bytes) (byte == 10) e i && calm_is_plain bytes rest i

pub passing_is_plain : (bytes : List ℕ) → passes bytes ≡ true → list_all is_plain bytes ≡ true
passing_is_plain bytes e = calm_is_plain bytes (and_parts (is_calm bytes) (is_utf8 bytes) e).0

-- a byte of ASCII, and nothing
pub ascii_is_text : (byte : ℕ) → byte < 128 → is_utf8 (byte ∷ []) ≡ true
ascii_is_text byte less = is_utf8-from_IsUtf8 (byte ∷ []) (IsUtf8-from_ascii (byte ∷ []) (IsAscii-cons byte [] less IsAscii-nil))

pub nothing_is_text : is_utf8 [] ≡ true
nothing_is_text = is_utf8-from_IsUtf8 [] (IsUtf8-from_ascii [] IsAscii-nil)

-- what passes has no tab, so it is shown as it is
not_control : (control other rest : Bool) → (not (control || other) && rest) ≡ true → control ≡ true → ⊥
not_control control other rest e f = grind arith

tab_is_control : (byte : ℕ) → (byte == 9) ≡ true → is_control byte ≡ true
tab_is_control byte e = grind (arith, nat_tests)

not_spaced : (byte : ℕ) → ((byte == 9) ≡ true → ⊥) → space_for_tab byte ≡ byte
not_spaced byte other =
    elim (byte == 9) as (λ v. (v ≡ true → ⊥) → (if v then 32 else byte) ≡ byte) [
      | true ↦ λ f. absurd (f refl)
      | false ↦ λ _. refl
    ] other

calm_is_spaced : (bytes : List ℕ) → is_calm bytes ≡ true → with_spaces bytes ≡ bytes
calm_is_spaced [] e = refl
calm_is_spaced (byte ∷ bytes) e =
    let rest = (and_parts (not (is_control byte || acts (byte ∷ bytes))) (is_calm bytes) e).1 in
    let tab = not_spaced byte (λ is. not_control (is_control byte) (acts (byte ∷ bytes)) (is_calm bytes) e (tab_is_control byte is)) in
    λ i. tab i ∷ calm_is_spaced bytes rest i

pub passing_is_shown : (bytes : List ℕ) → passes bytes ≡ true → shown_text bytes ≡ bytes
passing_is_shown bytes e =
    ap (λ l. if passes l then l else escaped_text bytes) (calm_is_spaced bytes (and_parts (is_calm bytes) (is_utf8 bytes) e).0)
    ∙ ap (λ b. if b then bytes else escaped_text bytes) e

-- one of them
pub one_shown : (bytes text : List ℕ) → bytes ≡ shown_text text → IsShown bytes
one_shown bytes text e = (text ∷ [], e ∙ sym (append-nil (shown_text text)))
