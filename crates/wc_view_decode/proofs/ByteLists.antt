-- The bytes of answers are bytes.
use Rattle.wc_model.proofs.Common.{◌≡◌, ◌<◌, ◌+◌, ℕ, zero, suc, Bool, true, false, List, [], ◌∷◌, ◌++◌, arith, lit<, and_parts, common_steps, AllByRecursion, list_all}
use Rattle.hex.specs.Hex.{IsBytes}
use Rattle.wc_view_decode.proofs.Takings.{both}
use Rattle.wc_view_decode.specs.AnswerBytes.{AreAllAnswers, IsAnswer, answer_bytes, bytes_of_answers, is_weight_byte}
use Rattle.wc_view_decode.specs.declared.answer.LineAnswer.{LineAnswer}
use Rattle.wc_view_decode.specs.declared.answer.LineAnswer.TheVariants.{Weight, NotUnderstood}
use Rattle.wc_sma.specs.Letters.{kind_letter, motion_letter, status_letter, unit_letters}
use Rattle.wc_sma.specs.declared.letters.MassUnit.{MassUnit}
use Rattle.wc_sma.specs.declared.letters.MassUnit.TheVariants.{Gram}
use Rattle.wc_sma.specs.declared.letters.Status.{Status}
use Rattle.wc_sma.specs.declared.letters.Status.TheVariants.{Normal}
use Rattle.wc_sma.specs.declared.letters.WeightKind.{WeightKind}
use Rattle.wc_sma.specs.declared.letters.WeightKind.TheVariants.{Gross}

-- each is below 256
abbrev IsSmall : ℕ → Type 0
IsSmall byte = byte < 256

abbrev AreSmall : List ℕ → Type 0
AreSmall bytes = AllByRecursion IsSmall bytes

-- so they are bytes
bytes_from_small : (bytes : List ℕ) → AreSmall bytes → IsBytes bytes
bytes_from_small [] are i = omega arith
bytes_from_small (byte ∷ bytes) are zero = are.0
bytes_from_small (byte ∷ bytes) are (suc i) = bytes_from_small bytes are.1 i

-- a byte of a weight
weight_byte_small : (byte : ℕ) → is_weight_byte byte ≡ true → byte < 256
weight_byte_small byte h = grind (arith, common_steps)

weight_small : (bytes : List ℕ) → list_all is_weight_byte bytes ≡ true → AreSmall bytes
weight_small [] h = tt
weight_small (byte ∷ bytes) h =
    let parts = and_parts (is_weight_byte byte) (list_all is_weight_byte bytes) h in
    (weight_byte_small byte parts.0, weight_small bytes parts.1)

status_small : (s : Status) → status_letter s < 256
status_small Normal = lit< tt
status_small s = lit< tt

kind_small : (k : WeightKind) → kind_letter k < 256
kind_small Gross = lit< tt
kind_small k = lit< tt

motion_small : (b : Bool) → motion_letter b < 256
motion_small true = lit< tt
motion_small false = lit< tt

unit_small : (u : MassUnit) → AreSmall (unit_letters u)
unit_small Gram = (lit< tt, (lit< tt, (lit< tt, tt)))
unit_small u = (lit< tt, (lit< tt, (lit< tt, tt)))

-- an answer
answer_small : (a : LineAnswer) → IsAnswer a → AreSmall (answer_bytes a)
answer_small (Weight r) (size, bytes) =
    let weight = both IsSmall r.weight (unit_letters r.unit) (weight_small r.weight bytes) (unit_small r.unit) in
    let text = both IsSmall (r.weight ++ unit_letters r.unit) (13 ∷ []) weight (lit< tt, tt) in
    (lit< tt, (status_small r.status, (lit< tt, (kind_small r.kind, (motion_small r.is_stable, (lit< tt, text))))))
answer_small NotUnderstood ok = (lit< tt, (lit< tt, (lit< tt, tt)))

-- several
answers_small : (answers : List LineAnswer) → AreAllAnswers answers → AreSmall (bytes_of_answers answers)
answers_small [] all = tt
answers_small (a ∷ answers) (ok, all) = both IsSmall (answer_bytes a) (bytes_of_answers answers) (answer_small a ok) (answers_small answers all)

pub answers_are_bytes : (answers : List LineAnswer) → AreAllAnswers answers → IsBytes (bytes_of_answers answers)
answers_are_bytes answers all = bytes_from_small (bytes_of_answers answers) (answers_small answers all)
