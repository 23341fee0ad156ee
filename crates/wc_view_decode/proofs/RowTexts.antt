-- Texts that are put together part by part.
use Rattle.wc_model.proofs.Common.{◌≡◌, ◌+◌, ℕ, suc, ℤ, List, [], ◌∷◌, ◌++◌, length, get_or, refl, sym, ap, ◌∙◌, arith, rules, signed_decimal}
use Rattle.std.proofs.lemmas.List.{append_assoc, append-nil}
use Rattle.wc_view_decode.specs.Formats.{bit_text, bits_text, named_words, none_text, of_bits}
use Rattle.wc_view_decode.specs.declared.format.DecodeFormat.{DecodeFormat}

-- a part more after a text
pub one_more : (old p q t u : List ℕ) → t ≡ old ++ p → u ≡ t ++ q → u ≡ old ++ (p ++ q)
one_more old p q t u e f = f ∙ ap (λ x. x ++ q) e ∙ append_assoc old p q

-- two parts more
pub two_more : (old p q r t u : List ℕ) → t ≡ old ++ p → u ≡ t ++ (q ++ r) → u ≡ old ++ (p ++ q ++ r)
two_more old p q r t u e f = one_more old (p ++ q) r (t ++ q) u (one_more old p q t (t ++ q) e refl) (f ∙ sym (append_assoc t q r))

-- a part more, under another name
pub named_more : (old p q s t u : List ℕ) → t ≡ old ++ p → u ≡ t ++ s → s ≡ q → u ≡ old ++ (p ++ q)
named_more old p q s t u e f g = one_more old p q t u e (f ∙ ap (λ x. t ++ x) g)

-- one bit more
pub bit_more : (of_bit : ℕ → List ℕ) (i : ℕ) (old t u : List ℕ) → t ≡ old ++ of_bits of_bit i → u ≡ t ++ of_bit i → u ≡ old ++ of_bits of_bit (i + 1)
bit_more of_bit i old t u e f =
    let next : i + 1 ≡ suc i = omega arith in
    rw next (one_more old (of_bits of_bit i) (of_bit i) t u e f)

-- all bits
pub all_bits : (format : DecodeFormat) (bits n : ℕ) (old t text : List ℕ) → n ≡ 16 → t ≡ old ++ none_text format bits
    → text ≡ t ++ of_bits (bit_text format bits) n → text ≡ old ++ bits_text format bits
unfolding bits_text
all_bits format bits n old t text all none e = one_more old (none_text format bits) (of_bits (bit_text format bits) 16) t text none (e ∙ ap (λ k. t ++ of_bits (bit_text format bits) k) all)

-- four words, each after its name
pub four_words : (old t1 t2 t3 t4 n1 n2 n3 n4 : List ℕ) (ws : List ℤ) (d : ℤ) → length ws ≡ 4
    → t1 ≡ old ++ (n1 ++ signed_decimal (get_or ws 0 d)) → t2 ≡ t1 ++ (n2 ++ signed_decimal (get_or ws 1 d))
    → t3 ≡ t2 ++ (n3 ++ signed_decimal (get_or ws 2 d)) → t4 ≡ t3 ++ (n4 ++ signed_decimal (get_or ws 3 d))
    → t4 ≡ old ++ named_words (n1 ∷ n2 ∷ n3 ∷ n4 ∷ []) ws
unfolding named_words
four_words old t1 t2 t3 t4 n1 n2 n3 n4 (a ∷ b ∷ c ∷ e ∷ []) d size e1 e2 e3 e4 = rw (e4, e3, e2, e1) (search (rules, append_assoc, append-nil))
four_words old t1 t2 t3 t4 n1 n2 n3 n4 ws d size e1 e2 e3 e4 = absurd (omega (arith, size))
