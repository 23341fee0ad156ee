-- What a line with answers says.
use Rattle.std.proofs.Common.{◌≡◌, ◌<◌, ◌^◌, ℕ, List, [], ◌∷◌, ◌++◌, decimal, lit<, lit≤, length, Option, Some, None, Result, Ok, Err, IfOk, option_map, slice_index, sym, ap, ◌∙◌, arith}
use Rattle.hex.specs.Hex.{IsBytes}
use Rattle.wc_view_decode.proofs.ByteLists.{answers_are_bytes}
use Rattle.wc_view_decode.proofs.CutLines.{answer_fields}
use Rattle.wc_view_decode.proofs.Digits.{decimal_is_field, hex_is_field}
use Rattle.wc_model.specs.Definitions.{hex_of_bytes, AnswerLine, line_text}
use Rattle.wc_view_decode.specs.{CutsField, AreContentOf, InRange, IsContentOf, LineContent, AnswersContent, RefusalContent, ScanContent, content_text, AreAllAnswers, bytes_of_answers}
use Rattle.wc_view_decode.specs.declared.answer.LineAnswer.{LineAnswer}

-- the line is that of this moment and these bytes if it is any
abbrev pub IsOnlyRow : List ℕ → ℕ → List ℕ → Type 0
IsOnlyRow line ms bytes = (m : ℕ) (bs : List ℕ) → m < 2 ^ 40 → IsBytes bs → line ≡ line_text (AnswerLine m bs) → (ms ≡ m) × (bytes ≡ bs)

-- what is cut out of a line is such a row
pub row_cut : (line f1 r1 f2 r2 f3 r3 : List ℕ) (ms : ℕ) (bytes : List ℕ) → CutsField line f1 r1 → CutsField r1 f2 r2 → CutsField r2 f3 r3
    → ((n : ℕ) → n < 2 ^ 40 → f2 ≡ decimal n → ms ≡ n) → ((bs : List ℕ) → IsBytes bs → f3 ≡ hex_of_bytes bs → bytes ≡ bs) → IsOnlyRow line ms bytes
row_cut line f1 r1 f2 r2 f3 r3 ms bytes cut1 cut2 cut3 moment digits m bs below are e =
    let p1 = cut1 (76 ∷ []) (decimal m ++ 32 ∷ (hex_of_bytes bs ++ 10 ∷ [])) 32 (lit< tt, tt) (lit≤ tt) (e ∙ answer_fields m bs) in
    let p2 = cut2 (decimal m) (hex_of_bytes bs ++ 10 ∷ []) 32 (decimal_is_field m (omega (arith, below))) (lit≤ tt) p1.1 in
    let p3 = cut3 (hex_of_bytes bs) [] 10 (hex_is_field bs) (lit≤ tt) p2.1 in
    (moment m below p2.0, digits bs are p3.0)

-- whatever else a line that starts with L says, it is the same
only_content : (line bytes : List ℕ) (ms : ℕ) (answers : List LineAnswer) → slice_index line 0 ≡ 76 → IsOnlyRow line ms bytes
    → ((others : List LineAnswer) → AreAllAnswers others → bytes ≡ bytes_of_answers others → answers ≡ others)
    → (other : LineContent) → InRange other → line ≡ content_text other → AnswersContent ms answers ≡ other
only_content line bytes ms answers letter row only (AnswersContent m others) (below, all, some) e =
    let same = row m (bytes_of_answers others) below (answers_are_bytes others all) e in
    ap (λ n. AnswersContent n answers) same.0 ∙ ap (λ a. AnswersContent m a) (only others all same.1)
only_content line bytes ms answers letter row only (ScanContent m steps outputs) ok e = absurd (omega (arith, letter, ap (λ t. slice_index t 0) e))
only_content line bytes ms answers letter row only (RefusalContent number place) ok e = absurd (omega (arith, letter, ap (λ t. slice_index t 0) e))

-- a line whose bytes are not answers says none
none_reported : (line bytes : List ℕ) (ms : ℕ) → slice_index line 0 ≡ 76 → IsOnlyRow line ms bytes
    → ((others : List LineAnswer) → AreAllAnswers others → 0 < length others → ¬ (bytes ≡ bytes_of_answers others))
    → (reported : LineContent) → InRange reported → ¬ (line ≡ content_text reported)
none_reported line bytes ms letter row never (AnswersContent m others) (below, all, some) e =
    never others all some (row m (bytes_of_answers others) below (answers_are_bytes others all) e).1
none_reported line bytes ms letter row never (ScanContent m steps outputs) ok e = omega (arith, letter, ap (λ t. slice_index t 0) e)
none_reported line bytes ms letter row never (RefusalContent number place) ok e = omega (arith, letter, ap (λ t. slice_index t 0) e)

-- what the bytes say, the line says
content_by_line : (found : Option LineContent) (line bytes : List ℕ) (ms : ℕ) → slice_index line 0 ≡ 76 → ms < 2 ^ 40 → line_text (AnswerLine ms bytes) ≡ line → IsOnlyRow line ms bytes
    → AreContentOf ms found bytes → IsContentOf found line
content_by_line (Some reported) line bytes ms letter below written row (answers, is, all, some, eb, only) =
    rw is (
      (below, all, some),
      sym written ∙ ap (λ b. line_text (AnswerLine ms b)) eb,
      only_content line bytes ms answers letter row only,
    )
content_by_line None line bytes ms letter below written row never = none_reported line bytes ms letter row never

-- the same after a fault of memory
pub row_content : {X E : Type 0} (view : X → LineContent) (given : Result (Option X) E) (line bytes : List ℕ) (ms : ℕ) → slice_index line 0 ≡ 76 → ms < 2 ^ 40 → line_text (AnswerLine ms bytes) ≡ line → IsOnlyRow line ms bytes
    → IfOk given (λ found. AreContentOf ms (option_map view found) bytes) → IfOk given (λ found. IsContentOf (option_map view found) line)
row_content view (Ok found) line bytes ms letter below written row reported = content_by_line (option_map view found) line bytes ms letter below written row reported
row_content view (Err fault) line bytes ms letter below written row reported = tt

-- and a line that is written otherwise says none
pub otherwise_none : (line bytes : List ℕ) (ms : ℕ) → slice_index line 0 ≡ 76 → ¬ (line_text (AnswerLine ms bytes) ≡ line) → IsOnlyRow line ms bytes
    → (reported : LineContent) → InRange reported → ¬ (line ≡ content_text reported)
otherwise_none line bytes ms letter other row (AnswersContent m others) (below, all, some) e =
    let same = row m (bytes_of_answers others) below (answers_are_bytes others all) e in
    other (ap (λ n. line_text (AnswerLine n bytes)) same.0 ∙ ap (λ b. line_text (AnswerLine m b)) same.1 ∙ sym e)
otherwise_none line bytes ms letter other row (ScanContent m steps outputs) ok e = omega (arith, letter, ap (λ t. slice_index t 0) e)
otherwise_none line bytes ms letter other row (RefusalContent number place) ok e = omega (arith, letter, ap (λ t. slice_index t 0) e)
