-- What is cut out of a line, field by field.
use Rattle.std.proofs.Common.{◌≡◌, ◌≤◌, ℕ, ℤ, List, [], ◌∷◌, ◌++◌, FitsSigned, codes, decimal, refl, arith, rules, lit≤}
use Rattle.std.proofs.lemmas.List.{append_assoc}
use Rattle.std.specs.Fmt.{signed_decimal}
use Rattle.wc_view_decode.proofs.Digits.{signed_is_field}
use Rattle.wc_view_decode.specs.Lines.{AreFieldBytes, CutsField, words_text, AreWords, RefusalContent, ScanContent, content_text}
use Rattle.wc_model.specs.Definitions.{hex_of_bytes, hex_of_word, AnswerLine, line_text}
use mir.Syntax.{w32}

-- what a field is read as
abbrev pub ReadsWord : List ℕ → ℤ → Type 0
ReadsWord field number = (z : ℤ) → FitsSigned w32 z → field ≡ signed_decimal z → number ≡ z

-- a word is a field
word_is_field : (z : ℤ) → FitsSigned w32 z → AreFieldBytes (signed_decimal z)
word_is_field z fits = signed_is_field z (omega (arith, fits.sfits))

-- four words
pub words_cut : (words : List ℤ) (text f1 r1 f2 r2 f3 r3 f4 r4 : List ℕ) (n1 n2 n3 n4 : ℤ) → AreWords words → text ≡ words_text words
    → CutsField text f1 r1 → CutsField r1 f2 r2 → CutsField r2 f3 r3 → CutsField r3 f4 r4
    → ReadsWord f1 n1 → ReadsWord f2 n2 → ReadsWord f3 n3 → ReadsWord f4 n4
    → n1 ∷ n2 ∷ n3 ∷ n4 ∷ [] ≡ words
words_cut (a ∷ b ∷ c ∷ d ∷ []) text f1 r1 f2 r2 f3 r3 f4 r4 n1 n2 n3 n4 (fa, fb, fc, fd) e cut1 cut2 cut3 cut4 read1 read2 read3 read4 =
    let p1 = cut1 (signed_decimal a) (words_text (b ∷ c ∷ d ∷ [])) 32 (word_is_field a fa) (lit≤ tt) e in
    let p2 = cut2 (signed_decimal b) (words_text (c ∷ d ∷ [])) 32 (word_is_field b fb) (lit≤ tt) p1.1 in
    let p3 = cut3 (signed_decimal c) (words_text (d ∷ [])) 32 (word_is_field c fc) (lit≤ tt) p2.1 in
    let p4 = cut4 (signed_decimal d) [] 10 (word_is_field d fd) (lit≤ tt) p3.1 in
    rw (read1 a fa p1.0, read2 b fb p2.0, read3 c fc p3.0, read4 d fd p4.0) refl
words_cut words text f1 r1 f2 r2 f3 r3 f4 r4 n1 n2 n3 n4 are e cut1 cut2 cut3 cut4 read1 read2 read3 read4 = absurd are

-- the line of a scan, by its fields
pub scan_fields : (ms steps bits : ℕ) (words : List ℤ) → AreWords words
    → content_text (ScanContent ms steps (record { bits = bits; words = words }))
    ≡ 83 ∷ 32 ∷ (decimal ms ++ 32 ∷ (decimal steps ++ 32 ∷ (hex_of_word bits ++ 32 ∷ words_text words)))
scan_fields ms steps bits (a ∷ b ∷ c ∷ d ∷ []) are = search (rules, append_assoc)
scan_fields ms steps bits words are = absurd are

-- the line of a refusal
pub refusal_fields : (number place : ℕ) → content_text (RefusalContent number place) ≡ codes "refused" ++ 32 ∷ (decimal number ++ 32 ∷ (decimal place ++ 10 ∷ []))
refusal_fields number place = search (rules, append_assoc)

-- the line of answers
pub answer_fields : (ms : ℕ) (bytes : List ℕ) → line_text (AnswerLine ms bytes) ≡ 76 ∷ 32 ∷ (decimal ms ++ 32 ∷ (hex_of_bytes bytes ++ 10 ∷ []))
answer_fields ms bytes = search (rules, append_assoc)
