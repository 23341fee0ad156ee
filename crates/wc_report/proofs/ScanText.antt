-- The line of a scan, put together from its end.
use Rattle.hex.specs.Hex.{IsBytes, encode_lower}
use Rattle.wc_report.proofs.Digits.{digits_same}
use Rattle.std.proofs.Common.{◌≡◌, ◌<◌, ◌/◌, ◌%◌, ◌^◌, ◌↔◌, ℕ, zero, suc, ℤ, List, [], ◌∷◌, ◌++◌, length, get_or, Result, Ok, Err, refl, sym, ap, ◌∙◌, arith, rules}
use Rattle.wc_model.proofs.Common.{decimal, IsOk, OnOk, signed_decimal}
use Rattle.std.proofs.lemmas.List.{append_assoc}
use Rattle.wc_model.specs.Definitions.{hex_of_word, ScanLine, line_text}
use Rattle.wc_model.specs.declared.image.Outputs.{Outputs}

-- a list of four
four : (d : ℤ) (ws : List ℤ) → length ws ≡ 4 → ws ≡ get_or ws 0 d ∷ get_or ws 1 d ∷ get_or ws 2 d ∷ get_or ws 3 d ∷ []
four d [] e = absurd (omega arith)
four d (a ∷ []) e = absurd (omega arith)
four d (a ∷ b ∷ []) e = absurd (omega arith)
four d (a ∷ b ∷ c ∷ []) e = absurd (omega arith)
four d (a ∷ b ∷ c ∷ f ∷ []) e = refl
four d (a ∷ b ∷ c ∷ f ∷ g ∷ more) e = absurd (omega arith)

-- the parts of the line, one before the other
parts : (ms steps : ℕ) (bits : ℕ) (first second third fourth : ℤ)
    → 83 ∷ 32 ∷ (decimal ms ++ (32 ∷ (decimal steps ++ (32 ∷ (hex_of_word bits ++ (32 ∷ (signed_decimal first ++ (32 ∷ (signed_decimal second ++ (32 ∷ (signed_decimal third ++ (32 ∷ (signed_decimal fourth ++ (10 ∷ []))))))))))))))
    ≡ line_text (ScanLine ms steps (record { bits = bits; words = first ∷ second ∷ third ∷ fourth ∷ [] }))
parts ms steps bits first second third fourth = search (rules, append_assoc)

-- what is written whole is what was to be written
pub written_whole : {E : Type 0} (r : Result Unit E) (buffer size : ℕ) (out text : List ℕ) → (IsOk r ↔ (buffer ≡ size)) → buffer ≡ size → OnOk r (out ≡ text) → out ≡ text
written_whole (Ok u) buffer size out text fits is h = h
written_whole (Err e) buffer size out text fits is h = let no = fits.1 is in cc

-- the line of outputs, from its end
pub joined : (ms steps : ℕ) (outputs : Outputs) (d : ℤ) → length outputs.words ≡ 4 → (t0 t1 t2 t3 t4 t5 t6 t7 t8 : List ℕ)
    → t0 ≡ 10 ∷ []
    → t1 ≡ 32 ∷ (signed_decimal (get_or outputs.words 3 d) ++ t0)
    → t2 ≡ 32 ∷ (signed_decimal (get_or outputs.words 2 d) ++ t1)
    → t3 ≡ 32 ∷ (signed_decimal (get_or outputs.words 1 d) ++ t2)
    → t4 ≡ 32 ∷ (signed_decimal (get_or outputs.words 0 d) ++ t3)
    → t5 ≡ 32 ∷ (hex_of_word outputs.bits ++ t4)
    → t6 ≡ 32 ∷ (decimal steps ++ t5)
    → t7 ≡ 32 ∷ (decimal ms ++ t6)
    → t8 ≡ 83 ∷ t7
    → t8 ≡ line_text (ScanLine ms steps outputs)
joined ms steps outputs d size t0 t1 t2 t3 t4 t5 t6 t7 t8 e0 e1 e2 e3 e4 e5 e6 e7 e8 =
    rw (e8, e7, e6, e5, e4, e3, e2, e1, e0)
    (parts ms steps outputs.bits (get_or outputs.words 0 d) (get_or outputs.words 1 d) (get_or outputs.words 2 d) (get_or outputs.words 3 d)
    ∙ ap (λ ws. line_text (ScanLine ms steps (record { bits = outputs.bits; words = ws }))) (sym (four d outputs.words size)))

-- a word's bytes are bytes
bytes_of_word : (word : ℕ) → word < 2 ^ 16 → IsBytes ((word / 256) ∷ (word % 256) ∷ [])
bytes_of_word word small zero = omega arith
bytes_of_word word small (suc zero) = omega arith
bytes_of_word word small (suc (suc i)) = omega arith

-- the digits of a word's bytes are those of the word
pub word_written : (word : ℕ) → word < 2 ^ 16 → (bytes out : List ℕ) → bytes ≡ ((word / 256) % 256) ∷ (word % 256) ∷ [] → out ≡ encode_lower bytes → out ≡ hex_of_word word
word_written word small bytes out are is =
    let high : (word / 256) % 256 ≡ word / 256 = omega arith in
    let same : bytes ≡ (word / 256) ∷ (word % 256) ∷ [] = are ∙ ap (λ b. b ∷ (word % 256) ∷ []) high in
    is ∙ ap encode_lower same ∙ digits_same ((word / 256) ∷ (word % 256) ∷ []) (bytes_of_word word small)
