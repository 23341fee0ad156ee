-- The bytes of an answer, by the letters of the line; which answers are in some bytes, and what is read of those that the line gives.
use Rattle.wc_model.specs.Instrument.Answers as line_answers
use Rattle.std.specs.Prelude.{◌≡◌, ℕ, ◌==◌, ◌&&◌, ◌||◌, Bool, true, List, [], ◌∷◌, ◌++◌, length, take, drop, slice_index, Option, Some, None}
use Rattle.std.specs.Char.{is_ascii_digit}
use Rattle.std.specs.List.{AllByRecursion, flat_map, list_all}
use Rattle.wc_sma.specs.Letters.{kind_letter, motion_letter, status_letter, unit_letters, IsKind, IsStatus}
use Rattle.wc_model.specs.Definitions.{is_stable, PlateData, IsPlate, History}
use Rattle.wc_view_decode.specs.declared.answer.LineAnswer.{LineAnswer}
use Rattle.wc_view_decode.specs.declared.answer.LineAnswer.TheVariants.{Weight, NotUnderstood}
use Rattle.wc_view_decode.specs.declared.answer.WeightAnswer.{WeightAnswer}

-- the twenty bytes of an answer with a weight: LF, status, `1`, weight's letter, motion, space, weight, unit, CR
abbrev pub reading_bytes : WeightAnswer → List ℕ
reading_bytes r =
    10 ∷ status_letter r.status ∷ 49 ∷ kind_letter r.kind ∷ motion_letter r.is_stable ∷ 32 ∷ (r.weight ++ unit_letters r.unit ++ (13 ∷ []))

-- the bytes of an answer
abbrev pub answer_bytes : LineAnswer → List ℕ
answer_bytes (Weight reading) = reading_bytes reading
answer_bytes NotUnderstood = 10 ∷ 63 ∷ 13 ∷ []

-- the bytes of answers, joined
abbrev pub bytes_of_answers : List LineAnswer → List ℕ
bytes_of_answers answers = flat_map answer_bytes answers

-- whether a byte may be in a weight: a space, `-`, a point or a digit
abbrev pub is_weight_byte : ℕ → Bool
is_weight_byte byte = byte == 32 || byte == 45 || byte == 46 || is_ascii_digit byte

-- whether bytes have what all answers with a weight have: LF, `1`, a space and CR in their places, and bytes of a weight
abbrev pub is_framed : List ℕ → Bool
is_framed frame =
    slice_index frame 0 == 10 && slice_index frame 2 == 49 && slice_index frame 5 == 32 && slice_index frame 19 == 13
    && list_all is_weight_byte (take 10 (drop 6 frame))

-- a weight is ten such bytes
abbrev pub IsAnswer : LineAnswer → Type 0
IsAnswer (Weight reading) = (length reading.weight ≡ 10) × (list_all is_weight_byte reading.weight ≡ true)
IsAnswer NotUnderstood = Unit {0}

-- each of them is one
abbrev pub AreAllAnswers : List LineAnswer → Type 0
AreAllAnswers answers = AllByRecursion IsAnswer answers

-- A reading says what is so of a scale of this plate and history, if this weight is asked for and this is answered.
pub record IsReadingOf (p : PlateData) (history : History) (mode : line_answers.Mode) (asked : line_answers.RequestOutcome) (r : WeightAnswer) : Type 0 where
  pub status : IsStatus p history asked r.status
  pub kind : IsKind p history mode r.kind
  pub motion : r.is_stable ≡ is_stable p history
  pub weight : r.weight ≡ line_answers.weight_text p.decimals (line_answers.weight_asked p history mode)
  pub unit : p.unit ≡ unit_letters r.unit

-- these are the answers to requests, one to each, which come after this history
abbrev pub AreAnswersTo : PlateData → List (List ℕ) → History → List LineAnswer → Type 0
AreAnswersTo p [] history [] = Unit {0}
AreAnswersTo p (text ∷ texts) history (answer ∷ answers) =
    (line_answers.answer_to p (line_answers.command_of text) history ≡ answer_bytes answer)
    × AreAnswersTo p texts (line_answers.after_command (line_answers.command_of text) history) answers
AreAnswersTo p texts history answers = ⊥

-- Each answer of the line is read back, as what is so.
--     one      an answer with a weight is the bytes of a reading, which says what is so of the scale
--     all      the answers to requests are the bytes of one answer to each
pub record AnswersAreRead : Type 0 where
  pub one : (p : PlateData) (history : History) (mode : line_answers.Mode) (asked : line_answers.RequestOutcome) → IsPlate p →
      (r : WeightAnswer) × IsAnswer (Weight r) × (line_answers.answer p history mode asked ≡ reading_bytes r) × IsReadingOf p history mode asked r
  pub all : (p : PlateData) (texts : List (List ℕ)) (history : History) → IsPlate p →
      (answers : List LineAnswer) × AreAllAnswers answers × AreAnswersTo p texts history answers
      × (line_answers.answers_to p texts history ≡ bytes_of_answers answers)

-- this answer is the only one whose bytes these are, or there is none
abbrev pub IsAnswerOf : Option LineAnswer → List ℕ → Type 0
IsAnswerOf (Some answer) bytes =
    IsAnswer answer × (bytes ≡ answer_bytes answer)
    × ((other : LineAnswer) → IsAnswer other → bytes ≡ answer_bytes other → answer ≡ other)
IsAnswerOf None bytes = (answer : LineAnswer) → IsAnswer answer → ¬ (bytes ≡ answer_bytes answer)

-- this answer is the only one whose bytes come first, or there is none
abbrev pub IsFirstAnswer : Option LineAnswer → List ℕ → Type 0
IsFirstAnswer (Some answer) bytes =
    IsAnswer answer × ((rest : List ℕ) × (bytes ≡ answer_bytes answer ++ rest))
    × ((other : LineAnswer) (rest : List ℕ) → IsAnswer other → bytes ≡ answer_bytes other ++ rest → answer ≡ other)
IsFirstAnswer None bytes = (answer : LineAnswer) (rest : List ℕ) → IsAnswer answer → ¬ (bytes ≡ answer_bytes answer ++ rest)

-- these answers are the only ones whose bytes these are, or there are none
abbrev pub AreAnswersOf : Option (List LineAnswer) → List ℕ → Type 0
AreAnswersOf (Some answers) bytes =
    AreAllAnswers answers × (bytes ≡ bytes_of_answers answers)
    × ((others : List LineAnswer) → AreAllAnswers others → bytes ≡ bytes_of_answers others → answers ≡ others)
AreAnswersOf None bytes = (answers : List LineAnswer) → AreAllAnswers answers → ¬ (bytes ≡ bytes_of_answers answers)
