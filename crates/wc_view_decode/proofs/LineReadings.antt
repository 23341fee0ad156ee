-- The answers of the line, as they are read.
use Rattle.std.proofs.Common.{◌≡◌, ◌<◌, ◌≤◌, ◌+◌, ◌-◌, ◌/◌, ◌%◌, ◌^◌, ◌&&◌, ℕ, zero, suc, ℤ, Bool, true, false, cond, List, [], ◌∷◌, ◌++◌, length, decimal, Option, Some, None, refl, ap, ◌∙◌, arith, length-append}
use Rattle.wc_model.proofs.Common.{decimal_is_IsNumeral, common_steps, list_all-append, digit_from_value, is_negative, list_all, AllDigits}
use Rattle.std.specs.Prelude.{replicate, unsigned_abs}
use Rattle.wc_view_decode.proofs.AnswerFields.{unit_length}
use Rattle.wc_view_decode.specs.AnswerBytes.{AreAllAnswers, IsAnswer, answer_bytes, bytes_of_answers, is_weight_byte, reading_bytes, AnswersAreRead, AreAnswersTo, IsReadingOf}
use Rattle.wc_view_decode.specs.declared.answer.LineAnswer.{LineAnswer}
use Rattle.wc_view_decode.specs.declared.answer.LineAnswer.TheVariants.{Weight, NotUnderstood}
use Rattle.wc_view_decode.specs.declared.answer.WeightAnswer.{WeightAnswer}
use Rattle.wc_laws_instrument.proofs.Answers.{IsShort, length_answer, short_weight}
use Rattle.wc_model.specs.Instrument.Answers as line_answers
use Rattle.wc_model.specs.Definitions.{is_stable, PlateData, IsPlate, History, SetZero, SetTare, ClearTare}
use Rattle.wc_sma.proofs.AnswerLetters.{letters_are_answers}
use Rattle.wc_sma.specs.Letters.{unit_letters}

-- a text of bytes of a weight
abbrev Passes : List ℕ → Type 0
Passes text = list_all is_weight_byte text ≡ true

-- two of them
both_pass : (prefix back : List ℕ) → Passes prefix → Passes back → Passes (prefix ++ back)
both_pass prefix back f b = list_all-append is_weight_byte prefix back ∙ (λ i. f i && b i)

-- a digit
digit_passes : (c : ℕ) → 48 ≤ c → c ≤ 57 → is_weight_byte c ≡ true
digit_passes c low high = grind (arith, common_steps)

digits_pass : (ds : List ℕ) → AllDigits 10 ds → Passes ds
digits_pass [] are = refl
digits_pass (c ∷ cs) are =
    let range = digit_from_value c are.0 in
    λ i. digit_passes c range.0 range.1 i && digits_pass cs are.1 i

-- spaces
spaces_pass : (n : ℕ) → Passes (replicate n 32)
spaces_pass zero = refl
spaces_pass (suc n) = spaces_pass n

-- a minus
minus_passes : (value : ℤ) → Passes (line_answers.minus_of value)
minus_passes value = go (is_negative value)
  where
    go : (b : Bool) → Passes (cond b (45 ∷ []) [])
    go true = refl
    go false = refl

-- the last digits
last_digits_pass : (count number : ℕ) → Passes (line_answers.last_digits count number)
last_digits_pass zero number = refl
last_digits_pass (suc count) number =
    both_pass (line_answers.last_digits count (number / 10)) ((48 + number % 10) ∷ []) (last_digits_pass count (number / 10))
    (λ i. digit_passes (48 + number % 10) (omega arith) (omega arith) i && true)

fraction_passes : (decimals number : ℕ) → Passes (line_answers.fraction_text decimals number)
fraction_passes zero number = refl
fraction_passes (suc decimals) number = last_digits_pass (suc decimals) number

-- what precedes the point
whole_small : (decimals number : ℕ) → decimals ≤ 3 → number < 10000000 → number / 10 ^ decimals < 2 ^ 64
whole_small zero number few small = omega arith
whole_small (suc zero) number few small = omega arith
whole_small (suc (suc zero)) number few small = omega arith
whole_small (suc (suc (suc zero))) number few small = omega arith
whole_small (suc (suc (suc (suc d)))) number few small = absurd (omega arith)

-- a weight
weight_passes : (decimals : ℕ) (weight : Option ℤ) → decimals ≤ 3 → IsShort weight → Passes (line_answers.weight_text decimals weight)
weight_passes decimals None few short = refl
weight_passes decimals (Some value) few short =
    let whole : ℕ = unsigned_abs value / 10 ^ decimals in
    let text : List ℕ = line_answers.value_text decimals value in
    both_pass (replicate (10 - length text) 32) text (spaces_pass (10 - length text))
    (both_pass (line_answers.minus_of value ++ decimal whole) (line_answers.fraction_text decimals (unsigned_abs value))
    (both_pass (line_answers.minus_of value) (decimal whole) (minus_passes value)
    (digits_pass (decimal whole) (decimal_is_IsNumeral whole (whole_small decimals (unsigned_abs value) few short)).0.1))
    (fraction_passes decimals (unsigned_abs value)))

-- an answer with a weight
read_one : (p : PlateData) (history : History) (mode : line_answers.Mode) (asked : line_answers.RequestOutcome) → IsPlate p
    → (r : WeightAnswer) × IsAnswer (Weight r) × (line_answers.answer p history mode asked ≡ reading_bytes r) × IsReadingOf p history mode asked r
read_one p history mode asked plate =
    let status = letters_are_answers.status p history asked in
    let kind = letters_are_answers.kind p history mode in
    let motion = letters_are_answers.motion p history in
    let unit = letters_are_answers.unit p plate in
    let weight : List ℕ = line_answers.weight_text p.decimals (line_answers.weight_asked p history mode) in
    let r : WeightAnswer = record { status = status.0; kind = kind.0; is_stable = is_stable p history; weight = weight; unit = unit.0 } in
    let same : line_answers.answer p history mode asked ≡ reading_bytes r =
    λ i. 10 ∷ (status.1 i ++ (49 ∷ []) ++ kind.1 i ++ motion i ++ (32 ∷ []) ++ weight ++ unit.1 i ++ (13 ∷ [])) in
    let size : length weight ≡ 10 =
    omega (
      arith,
      length_answer p history mode asked plate,
      ap length same,
      unit_length unit.0,
      length-append (weight ++ unit_letters unit.0) (13 ∷ []),
      length-append weight (unit_letters unit.0),
    ) in (
      r,
      (size, weight_passes p.decimals (line_answers.weight_asked p history mode) plate.few_decimals (short_weight p history mode plate)),
      same,
      record { status = status.2; kind = kind.2; motion = refl; weight = refl; unit = unit.1 },
    )

-- the answer to a request
read_request : (p : PlateData) (command : line_answers.Command) (history : History) → IsPlate p
    → (a : LineAnswer) × IsAnswer a × (line_answers.answer_to p command history ≡ answer_bytes a)
read_request p line_answers.AskWeight history plate = let o = read_one p history line_answers.Shown line_answers.Plain plate in (Weight o.0, o.1, o.2)
read_request p line_answers.Zero history plate = let o = read_one p (SetZero ∷ history) line_answers.Shown (line_answers.asked_zero p history) plate in (Weight o.0, o.1, o.2)
read_request p line_answers.TakeTare history plate = let o = read_one p (SetTare ∷ history) line_answers.Shown (line_answers.asked_tare p history) plate in (Weight o.0, o.1, o.2)
read_request p line_answers.AskTare history plate = let o = read_one p history line_answers.Tare line_answers.Plain plate in (Weight o.0, o.1, o.2)
read_request p line_answers.Clear history plate = let o = read_one p (ClearTare ∷ history) line_answers.Shown line_answers.Plain plate in (Weight o.0, o.1, o.2)
read_request p line_answers.Unknown history plate = (NotUnderstood, tt, refl)

-- the answers to requests
read_all : (p : PlateData) (texts : List (List ℕ)) (history : History) → IsPlate p
    → (answers : List LineAnswer) × AreAllAnswers answers × AreAnswersTo p texts history answers × (line_answers.answers_to p texts history ≡ bytes_of_answers answers)
read_all p [] history plate = ([], tt, tt, refl)
read_all p (text ∷ texts) history plate =
    let first = read_request p (line_answers.command_of text) history plate in
    let rest = read_all p texts (line_answers.after_command (line_answers.command_of text) history) plate in
    (first.0 ∷ rest.0, (first.1, rest.1), (first.2, rest.2), λ i. first.2 i ++ rest.3 i)

pub answers_are_read : AnswersAreRead
answers_are_read = record { one = read_one; all = read_all }
