-- A text without the white space at its ends.
use Rattle.wc_model.proofs.Common.{◌≡◌, ◌∙◌, ℕ, zero, suc, ◌-◌, ◌<◌, ◌≤◌, false, List, [], ◌∷◌, cond, length, get_or, take, drop, refl, sym, ap, arith, length-take, is_ascii_whitespace, IsAsciiWhitespaceBelow, IsAsciiWhitespaceFrom, IsTrimAscii}
use native.Mathlib.Numerals.{unary_clauses}
use Rattle.wc_view_trace_rows.specs.Columns.{between_words, from_word, up_to_word, with_word}

from_word_is : (n : ℕ) (text : List ℕ) → IsAsciiWhitespaceBelow text n → (n < length text → is_ascii_whitespace (get_or text n 0) ≡ false) → from_word text ≡ drop n text
from_word_is zero [] below stops = refl
from_word_is zero (byte ∷ bytes) below stops = ap (λ b. cond b (from_word bytes) (byte ∷ bytes)) (stops (omega arith))
from_word_is (suc n) [] below stops = refl
from_word_is (suc n) (byte ∷ bytes) below stops =
    ap (λ b. cond b (from_word bytes) (byte ∷ bytes)) (below 0 (omega arith))
    ∙ from_word_is n bytes (λ i l. below (suc i) (omega arith)) (λ l. stops (omega arith))

shifted : (n byte : ℕ) (bytes : List ℕ) → IsAsciiWhitespaceFrom (byte ∷ bytes) (suc n) → IsAsciiWhitespaceFrom bytes n
shifted n byte bytes from = λ i a l. from (suc i) (omega arith) (omega arith)

up_to_word_is : (text : List ℕ) (n : ℕ) → n ≤ length text → IsAsciiWhitespaceFrom text n → (0 < n → is_ascii_whitespace (get_or text (n - 1) 0) ≡ false) → up_to_word text ≡ take n text
up_to_word_is [] zero few from ends = refl
up_to_word_is [] (suc n) few from ends = refl
up_to_word_is (byte ∷ bytes) zero few from ends =
    ap (with_word byte) (up_to_word_is bytes zero (omega arith) (λ i a l. from (suc i) (omega arith) (omega arith)) (λ l. absurd (omega arith)))
    ∙ ap (λ b. cond b [] (byte ∷ [])) (from 0 (omega arith) (omega arith))
up_to_word_is (byte ∷ bytes) (suc zero) few from ends =
    ap (with_word byte) (up_to_word_is bytes zero (omega arith) (shifted zero byte bytes from) (λ l. absurd (omega arith)))
    ∙ ap (λ b. cond b [] (byte ∷ [])) (ends (omega arith))
up_to_word_is (byte ∷ []) (suc (suc n)) few from ends = absurd (omega arith)
up_to_word_is (byte ∷ next ∷ bytes) (suc (suc n)) few from ends =
    let here : is_ascii_whitespace (get_or (next ∷ bytes) n 0) ≡ false = simp unary_clauses at (ends (omega arith)) in
    ap (with_word byte) (up_to_word_is (next ∷ bytes) (suc n) (omega arith) (shifted (suc n) byte (next ∷ bytes) from) (λ l. simp unary_clauses here))

pub between_words_is : (text trimmed : List ℕ) → IsTrimAscii text trimmed → trimmed ≡ between_words text
between_words_is text trimmed (n, is, below, starts, from, ends) =
    let few : length trimmed ≤ length (drop n text) = omega (arith, ap length is, length-take (length trimmed) (drop n text)) in
    is ∙ sym (up_to_word_is (drop n text) (length trimmed) few from ends) ∙ ap up_to_word (sym (from_word_is n text below starts))
