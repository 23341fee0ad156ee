-- What is written for a line of a report: for people, or a row of a table. (The forms are the profile's own.)
use Rattle.std.proofs.Common.{Vec, Global}
use Rattle.std.specs.Prelude.{◌≡◌, ℕ, zero, suc, ◌/◌, ◌%◌, ◌^◌, ◌==◌, ◌&&◌, nat_le, not, Bool, ℤ, List, [], ◌∷◌, ◌++◌, codes, decimal, if◌then◌else◌, Result, OnOk, IsOkUnless, flat_map}
use Rattle.std.specs.Fmt.{signed_decimal}
use Rattle.wc_view_decode.specs.AnswerTexts.{answer_text}
use Rattle.wc_view_decode.specs.Lines.{LineContent, AnswersContent, RefusalContent, ScanContent}
use Rattle.wc_view_decode.specs.declared.answer.LineAnswer.{LineAnswer}
use Rattle.wc_view_decode.specs.declared.format.DecodeFormat.{DecodeFormat}
use Rattle.wc_view_decode.specs.declared.format.DecodeFormat.TheVariants.{Text, Table}
use Rattle.wc_model.specs.Definitions.{hex_of_bytes, refused_text}
use Rattle.wc_model.specs.declared.fault.Fault.{Fault}
use Rattle.wc_model.specs.declared.fault.Fault.TheVariants as fault
use Rattle.wc_model.specs.declared.image.Outputs.{Outputs}

-- these bytes are put at the end of a text, or memory for them is refused
abbrev pub Puts : {A : Type 0} → Vec ℕ Global → Vec ℕ Global → Result A Fault → List ℕ → Type 0
Puts old new result bytes = OnOk result (new.items ≡ old.items ++ bytes) × IsOkUnless result fault.Memory

-- whether a bit is set
abbrev pub is_bit_on : ℕ → ℕ → Bool
is_bit_on bits i = (bits / 2 ^ i) % 2 == 1

-- for people the name of a bit that is set, in a table the column of each
abbrev pub bit_text : DecodeFormat → ℕ → ℕ → List ℕ
bit_text Text bits i = if is_bit_on bits i then codes " %QX0." ++ decimal i else []
bit_text Table bits i = if is_bit_on bits i then codes ",1" else codes ",0"

-- what is written of each of the first n bits, one after the other
abbrev pub of_bits : (ℕ → List ℕ) → ℕ → List ℕ
of_bits of_bit zero = []
of_bits of_bit (suc i) = of_bits of_bit i ++ of_bit i

-- for people, that no bit is set
abbrev pub none_text : DecodeFormat → ℕ → List ℕ
none_text Text bits = if bits == 0 then codes " none" else []
none_text Table bits = []

-- what is written of all sixteen
unfoldable pub bits_text : DecodeFormat → ℕ → List ℕ
bits_text format bits = none_text format bits ++ of_bits (bit_text format bits) 16

-- words, each after its name
unfoldable pub named_words : List (List ℕ) → List ℤ → List ℕ
named_words [] words = []
named_words (name ∷ names) [] = []
named_words (name ∷ names) (z ∷ words) = name ++ signed_decimal z ++ named_words names words

-- what precedes each word
abbrev pub word_names : DecodeFormat → List (List ℕ)
word_names Text = codes "  %QD0 " ∷ codes "  %QD1 " ∷ codes "  %QD2 " ∷ codes "  %QD3 " ∷ []
word_names Table = codes "," ∷ codes "," ∷ codes "," ∷ codes "," ∷ []

-- a scan for people, up to its words
abbrev pub scan_prefix : ℕ → ℕ → Outputs → List ℕ
scan_prefix ms steps outputs =
    codes "S " ++ decimal ms ++ codes "  " ++ decimal steps ++ codes " steps  on:" ++ bits_text Text outputs.bits

-- the line of a scan
abbrev pub scan_line : DecodeFormat → ℕ → ℕ → Outputs → List ℕ
scan_line Text ms steps outputs =
    scan_prefix ms steps outputs ++ named_words (word_names Text) outputs.words ++ (10 ∷ [])
scan_line Table ms steps outputs =
    decimal ms ++ codes ",S," ++ decimal steps ++ bits_text Table outputs.bits ++ named_words (word_names Table) outputs.words
    ++ codes ",\n"

-- the line of an answer
abbrev pub answer_line : DecodeFormat → ℕ → LineAnswer → List ℕ
answer_line Text ms answer = codes "L " ++ decimal ms ++ codes "  " ++ answer_text answer ++ (10 ∷ [])
answer_line Table ms answer = decimal ms ++ codes ",L,,,,,,,,,,,,,,,,,,,,,," ++ (34 ∷ []) ++ answer_text answer ++ (34 ∷ 10 ∷ [])

-- a line for each answer to a row
abbrev pub answer_lines : DecodeFormat → ℕ → List LineAnswer → List ℕ
answer_lines format ms answers = flat_map (answer_line format ms) answers

-- what precedes the number of a refusal
abbrev pub refusal_mark : DecodeFormat → List ℕ
refusal_mark Text = codes "refused "
refusal_mark Table = codes ",refused,,,,,,,,,,,,,,,,,,,,,,"

-- the line of a refusal
abbrev pub refusal_line : DecodeFormat → ℕ → ℕ → List ℕ
refusal_line Text number place = refused_text number place
refusal_line Table number place = codes ",refused,,,,,,,,,,,,,,,,,,,,,," ++ decimal number ++ codes " " ++ decimal place ++ (10 ∷ [])

-- what is written for a line of a report
abbrev pub decoded : DecodeFormat → LineContent → List ℕ
decoded format (ScanContent ms steps outputs) = scan_line format ms steps outputs
decoded format (AnswersContent ms answers) = answer_lines format ms answers
decoded format (RefusalContent number place) = refusal_line format number place

-- the line before all others
abbrev pub heading : DecodeFormat → List ℕ
heading Text = []
heading Table = codes "ms,kind,steps,q0,q1,q2,q3,q4,q5,q6,q7,q8,q9,q10,q11,q12,q13,q14,q15,d0,d1,d2,d3,answer" ++ (10 ∷ [])

-- what precedes a line that is not of a report
abbrev pub opening : DecodeFormat → List ℕ
opening Text = codes "? "
opening Table = codes ",?,,,,,,,,,,,,,,,,,,,,,," ++ (34 ∷ [])

-- printable ASCII other than the `\` with which a byte begins that is shown by its digits
abbrev pub is_shown : ℕ → Bool
is_shown byte = nat_le 32 byte && nat_le byte 126 && not (byte == 92)

-- a byte of such a line: for people any other is shown by its digits, so that no terminal acts on it; in a
-- table each quote is written twice
abbrev pub passed_byte : DecodeFormat → ℕ → List ℕ
passed_byte Text byte = if is_shown byte then byte ∷ [] else 92 ∷ 120 ∷ hex_of_bytes (byte ∷ [])
passed_byte Table byte = if byte == 34 then 34 ∷ 34 ∷ [] else byte ∷ []

-- such a line itself
abbrev pub passed_on : DecodeFormat → List ℕ → List ℕ
passed_on how bytes = flat_map (passed_byte how) bytes

-- and what follows it
abbrev pub closing : DecodeFormat → List ℕ
closing Text = 10 ∷ []
closing Table = 34 ∷ 10 ∷ []

-- what is written for a line that is not of a report
abbrev pub unknown : DecodeFormat → List ℕ → List ℕ
unknown format line = opening format ++ passed_on format line ++ closing format
