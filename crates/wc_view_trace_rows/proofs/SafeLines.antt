-- A line is shown with no character on which a terminal would act.
use Rattle.wc_model.proofs.Common.{◌≡◌, ℕ, zero, suc, ◌-◌, ◌<◌, ◌≤◌, ◌⊎◌, inl, inr, Bool, true, false, List, [], ◌∷◌, ◌++◌, cond, get_or, refl, sym, subst, arith, cases_lt, nat_tests, is_utf8}
use Rattle.std.specs.Prelude.{◌==◌, ◌&&◌, nat_le}
use Rattle.wc_diag_texts.proofs.ActingBytes.{ascii_not, no_fourth, no_second, no_third, plain_first}
use Rattle.wc_diag_texts.specs.Plain.{characters, acting_by, acting_length, continues}
use Rattle.wc_view_trace_rows.specs.{first_columns, fitted, IsSafe, ShownLinesAreSafe, between_words, is_control, shown, shown_byte, shown_bytes, shown_first, single_spaces}

-- as long as the first ones, from one on, are above ASCII they are those of the other text
abbrev AreAs : ℕ → ℕ → List ℕ → List ℕ → Type 0
AreAs zero i bytes others = Unit {0}
AreAs (suc n) i bytes others = 128 ≤ get_or bytes i 0 → (get_or bytes i 0 ≡ get_or others i 0) × AreAs n (suc i) bytes others

one_later : (n i first other : ℕ) (bytes others : List ℕ) → AreAs n i bytes others → AreAs n (suc i) (first ∷ bytes) (other ∷ others)
one_later zero i first other bytes others are = tt
one_later (suc n) i first other bytes others are = λ high. ((are high).0, one_later n (suc i) first other bytes others (are high).1)

-- what follows the first byte of such a character is above ASCII
acts_further : (byte : ℕ) (bytes others : List ℕ) → acting_length (byte ∷ bytes) ≡ 0 → AreAs 3 0 others bytes → acting_length (byte ∷ others) ≡ 0
acts_further byte bytes others none are = by_second (cases_lt b 128)
  where
    b : ℕ
    b = get_or others 0 0

    c : ℕ
    c = get_or others 1 0

    d : ℕ
    d = get_or others 2 0

    second : ℕ
    second = get_or bytes 0 0

    third : ℕ
    third = get_or bytes 1 0

    by_fourth : (high : 128 ≤ b) (next : 128 ≤ c) → ((d < 128) ⊎ (128 ≤ d)) → acting_by byte second third d ≡ 0
    by_fourth high next (inl low) = no_fourth byte second third (get_or bytes 2 0) d none (ascii_not d low)
    by_fourth high next (inr last) = subst (λ x. acting_by byte second third x ≡ 0) (sym (((are high).1 next).1 last).0) none

    by_third : (high : 128 ≤ b) → ((c < 128) ⊎ (128 ≤ c)) → acting_by byte second c d ≡ 0
    by_third high (inl low) = no_third byte second third (get_or bytes 2 0) c d none (ascii_not c low)
    by_third high (inr next) = subst (λ x. acting_by byte second x d ≡ 0) (sym ((are high).1 next).0) (by_fourth high next (cases_lt d 128))

    by_second : ((b < 128) ⊎ (128 ≤ b)) → acting_by byte b c d ≡ 0
    by_second (inl low) = no_second byte b c d (ascii_not b low)
    by_second (inr high) = subst (λ x. acting_by byte x c d ≡ 0) (sym (are high).0) (by_third high (cases_lt c 128))

-- a byte as it is shown
no_control : (is_text : Bool) (byte : ℕ) → is_control (shown_byte is_text byte) ≡ false
no_control is_text byte = grind (arith, nat_tests)

same_byte : (is_text : Bool) (byte : ℕ) → 128 ≤ shown_byte is_text byte → shown_byte is_text byte ≡ byte
same_byte is_text byte high = grind (arith, nat_tests)

first_no_control : (is_text : Bool) (n byte : ℕ) → is_control (shown_first is_text n byte) ≡ false
first_no_control is_text zero byte = no_control is_text byte
first_no_control is_text (suc n) byte = refl

shown_as : (n : ℕ) (is_text : Bool) (bytes : List ℕ) → AreAs n 0 (shown_bytes is_text 0 bytes) bytes
shown_as zero is_text bytes = tt
shown_as (suc n) is_text [] = λ high. absurd (omega arith)
shown_as (suc n) is_text (byte ∷ bytes) = by (acting_length (byte ∷ bytes)) (shown_as n is_text bytes)
  where
    by : (m : ℕ) → AreAs n 0 (shown_bytes is_text 0 bytes) bytes → 128 ≤ shown_first is_text m byte
        → (shown_first is_text m byte ≡ byte) × AreAs n 1 (shown_first is_text m byte ∷ shown_bytes is_text (m - 1) bytes) (byte ∷ bytes)
    by zero others high = (same_byte is_text byte high, one_later n 0 (shown_byte is_text byte) byte (shown_bytes is_text 0 bytes) bytes others)
    by (suc m) others high = absurd (omega arith)

-- what is shown of a byte, before what is shown of those that follow
first_acts : (is_text : Bool) (n byte : ℕ) (bytes : List ℕ) → acting_length (byte ∷ bytes) ≡ n
    → acting_length (shown_first is_text n byte ∷ shown_bytes is_text (n - 1) bytes) ≡ 0
first_acts is_text (suc n) byte bytes is = refl
first_acts is_text zero byte bytes is = by (cases_lt (shown_byte is_text byte) 194)
  where
    rest : List ℕ
    rest = shown_bytes is_text 0 bytes

    by : ((shown_byte is_text byte < 194) ⊎ (194 ≤ shown_byte is_text byte)) → acting_length (shown_byte is_text byte ∷ rest) ≡ 0
    by (inl low) = plain_first (shown_byte is_text byte) (get_or rest 0 0) (get_or rest 1 0) (get_or rest 2 0) low
    by (inr high) =
        subst (λ b. acting_length (b ∷ rest) ≡ 0) (sym (same_byte is_text byte (omega (arith, high))))
        (acts_further byte bytes rest is (shown_as 3 is_text bytes))

bytes_are_safe : (is_text : Bool) (n : ℕ) (bytes : List ℕ) → IsSafe (shown_bytes is_text n bytes)
bytes_are_safe is_text n [] = tt
bytes_are_safe is_text (suc n) (byte ∷ bytes) = bytes_are_safe is_text n bytes
bytes_are_safe is_text zero (byte ∷ bytes) = (
  first_no_control is_text (acting_length (byte ∷ bytes)) byte,
  first_acts is_text (acting_length (byte ∷ bytes)) byte bytes refl,
  bytes_are_safe is_text (acting_length (byte ∷ bytes) - 1) bytes,
)

-- a space that follows a space is left out
no_space : (before byte : ℕ) → 128 ≤ before → (byte == 32 && before == 32) ≡ false
no_space before byte high = grind (arith, nat_tests)

kept_as : (n before : ℕ) (bytes : List ℕ) → 128 ≤ before → AreAs n 0 (single_spaces before bytes) bytes
kept_as zero before bytes high = tt
kept_as (suc n) before [] high = λ h. absurd (omega arith)
kept_as (suc n) before (byte ∷ bytes) high =
    subst (λ b. AreAs (suc n) 0 (cond b (single_spaces byte bytes) (byte ∷ single_spaces byte bytes)) (byte ∷ bytes)) (sym (no_space before byte high))
    (λ h. (refl, one_later n 0 byte byte (single_spaces byte bytes) bytes (kept_as n byte bytes h)))

kept_acts : (byte : ℕ) (bytes : List ℕ) → acting_length (byte ∷ bytes) ≡ 0 → acting_length (byte ∷ single_spaces byte bytes) ≡ 0
kept_acts byte bytes none = by (cases_lt byte 194)
  where
    by : ((byte < 194) ⊎ (194 ≤ byte)) → acting_length (byte ∷ single_spaces byte bytes) ≡ 0
    by (inl low) = plain_first byte (get_or (single_spaces byte bytes) 0 0) (get_or (single_spaces byte bytes) 1 0) (get_or (single_spaces byte bytes) 2 0) low
    by (inr high) = acts_further byte bytes (single_spaces byte bytes) none (kept_as 3 byte bytes (omega (arith, high)))

spaces_are_safe : (before : ℕ) (bytes : List ℕ) → IsSafe bytes → IsSafe (single_spaces before bytes)
spaces_are_safe before [] safe = tt
spaces_are_safe before (byte ∷ bytes) safe = by (byte == 32 && before == 32) (spaces_are_safe byte bytes safe.2)
  where
    by : (b : Bool) → IsSafe (single_spaces byte bytes) → IsSafe (cond b (single_spaces byte bytes) (byte ∷ single_spaces byte bytes))
    by true others = others
    by false others = (safe.0, kept_acts byte bytes safe.1, others)

-- a prefix of it, and two dots
abbrev dotted : ℕ → List ℕ → List ℕ
dotted n bytes = first_columns n bytes ++ 46 ∷ 46 ∷ []

dotted_as : (n columns : ℕ) (bytes : List ℕ) → AreAs n 0 (dotted columns bytes) bytes
dotted_as zero columns bytes = tt
dotted_as (suc n) columns [] = λ high. absurd (omega arith)
dotted_as (suc n) zero (byte ∷ bytes) = by (continues byte) (dotted_as n zero bytes)
  where
    by : (b : Bool) → AreAs n 0 (dotted zero bytes) bytes → AreAs (suc n) 0 (cond b (byte ∷ first_columns zero bytes) [] ++ 46 ∷ 46 ∷ []) (byte ∷ bytes)
    by true others = λ high. (refl, one_later n 0 byte byte (dotted zero bytes) bytes others)
    by false others = λ high. absurd (omega arith)
dotted_as (suc n) (suc columns) (byte ∷ bytes) = by (continues byte) (dotted_as n (suc columns) bytes) (dotted_as n columns bytes)
  where
    by : (b : Bool) → AreAs n 0 (dotted (suc columns) bytes) bytes → AreAs n 0 (dotted columns bytes) bytes
        → AreAs (suc n) 0 (cond b (byte ∷ first_columns (suc columns) bytes) (byte ∷ first_columns columns bytes) ++ 46 ∷ 46 ∷ []) (byte ∷ bytes)
    by true same fewer = λ high. (refl, one_later n 0 byte byte (dotted (suc columns) bytes) bytes same)
    by false same fewer = λ high. (refl, one_later n 0 byte byte (dotted columns bytes) bytes fewer)

dotted_acts : (byte n : ℕ) (bytes : List ℕ) → acting_length (byte ∷ bytes) ≡ 0 → acting_length (byte ∷ dotted n bytes) ≡ 0
dotted_acts byte n bytes none = acts_further byte bytes (dotted n bytes) none (dotted_as 3 n bytes)

dots_are_safe : IsSafe (46 ∷ 46 ∷ [])
dots_are_safe = (refl, refl, (refl, refl, tt))

dotted_is_safe : (n : ℕ) (bytes : List ℕ) → IsSafe bytes → IsSafe (dotted n bytes)
dotted_is_safe n [] safe = dots_are_safe
dotted_is_safe zero (byte ∷ bytes) safe = by (continues byte) (dotted_is_safe zero bytes safe.2)
  where
    by : (b : Bool) → IsSafe (dotted zero bytes) → IsSafe (cond b (byte ∷ first_columns zero bytes) [] ++ 46 ∷ 46 ∷ [])
    by true others = (safe.0, dotted_acts byte zero bytes safe.1, others)
    by false others = dots_are_safe
dotted_is_safe (suc n) (byte ∷ bytes) safe = by (continues byte) (dotted_is_safe (suc n) bytes safe.2) (dotted_is_safe n bytes safe.2)
  where
    by : (b : Bool) → IsSafe (dotted (suc n) bytes) → IsSafe (dotted n bytes)
        → IsSafe (cond b (byte ∷ first_columns (suc n) bytes) (byte ∷ first_columns n bytes) ++ 46 ∷ 46 ∷ [])
    by true same fewer = (safe.0, dotted_acts byte (suc n) bytes safe.1, same)
    by false same fewer = (safe.0, dotted_acts byte n bytes safe.1, fewer)

fitted_is_safe : (columns : ℕ) (bytes : List ℕ) → IsSafe bytes → IsSafe (fitted columns bytes)
fitted_is_safe columns bytes safe = by (nat_le (characters bytes) columns)
  where
    by : (b : Bool) → IsSafe (cond b bytes (dotted (columns - 2) bytes))
    by true = safe
    by false = dotted_is_safe (columns - 2) bytes safe

pub lines_are_safe : ShownLinesAreSafe
lines_are_safe columns line =
    let words = between_words line in
    fitted_is_safe columns (shown words) (spaces_are_safe 32 (shown_bytes (is_utf8 words) 0 words) (bytes_are_safe (is_utf8 words) 0 words))
