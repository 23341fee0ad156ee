-- The answer to one byte fits twenty bytes, so a buffer of twenty never fails.
use Rattle.std.proofs.Common.{◌≡◌, ◌==◌, refl, ◌<◌, ◌≤◌, ◌⊎◌, inl, inr, ℕ, Bool, true, false, List, [], ◌∷◌, ◌++◌, length, take, sym, subst, ap, arith, Option, Some, None, if◌then◌else◌, length-append}
use Rattle.wc_model.proofs.Common.{option_to_list, length-take}
use Rattle.wc_indicator.specs.Kept.{IndicatorState}
use Rattle.wc_laws_instrument.proofs.Answers.{length_answer}
use Rattle.wc_laws_instrument.proofs.Requests.{is_cut_anywhere}
use Rattle.wc_model.specs.Instrument.Answers.{AskTare, AskWeight, Clear, Command, Plain, Shown, TakeTare, Tare, Unknown, Zero, after_requests, answer_to, answers_to, asked_tare, asked_zero, command_of}
use Rattle.wc_model.specs.Definitions.{IsPlate, PlateData, carriage_return, open_request, requests_in, ClearTare, History, SetTare, SetZero, HasFailedSince}
use Rattle.wc_run.specs.Coming.{HasLineFailed, IsCutShortAt}
use Rattle.wc_run.specs.OpenScales.{Came, Represents}
use Rattle.wc_run.specs.declared.open_scale.OpenScale.{OpenScale}
use Rattle.wc_scale.specs.declared.line.AnswerBuffer.{AnswerBuffer}
use Rattle.wc_sma.specs.Feeding.{IsCutShort}

-- no answer has more than twenty bytes
answer_short : (p : PlateData) (command : Command) (history : History) → IsPlate p → length (answer_to p command history) ≤ 20
answer_short p AskWeight history is = omega (arith, length_answer p history Shown Plain is)
answer_short p Zero history is = omega (arith, length_answer p (SetZero ∷ history) Shown (asked_zero p history) is)
answer_short p TakeTare history is = omega (arith, length_answer p (SetTare ∷ history) Shown (asked_tare p history) is)
answer_short p AskTare history is = omega (arith, length_answer p history Tare Plain is)
answer_short p Clear history is = omega (arith, length_answer p (ClearTare ∷ history) Shown Plain is)
answer_short p Unknown history is = omega arith

-- one byte completes one request or none
few : (closes : Bool) (started : Option (List ℕ)) → length (if closes then option_to_list started else []) ≤ 1
few true None = omega arith
few true (Some text) = omega arith
few false started = omega arith

one_request : (before : List ℕ) (byte : ℕ) → length (requests_in before (byte ∷ [])) ≤ 1
one_request before byte = subst (λ texts. length texts ≤ 1) (sym (is_cut_anywhere.byte before byte)) (few (byte == carriage_return) (open_request before))

-- so none precedes it
none_before : (done : List (List ℕ)) (next : List ℕ) (left : List (List ℕ)) → length (done ++ (next ∷ left)) ≤ 1 → done ≡ []
none_before [] next left h = refl
none_before (text ∷ done) next left h = absurd (omega (arith, length-append done (next ∷ left)))

-- what is cut short is not after twenty bytes
never_cut : (p : PlateData) (before : List ℕ) (byte : ℕ) (history : History) (indicator : IndicatorState) (bytes : List ℕ) → IsPlate p → length bytes ≡ 20 →
    IsCutShort p (requests_in before (byte ∷ [])) history indicator (Some []) (Some bytes) → ⊥
never_cut p before byte history indicator bytes is whole cut =
    let few : length (cut.done ++ (cut.next ∷ cut.left)) ≤ 1 = subst (λ texts. length texts ≤ 1) cut.in_order (one_request before byte) in
    let none : cut.done ≡ [] = none_before cut.done cut.next cut.left few in
    let parts : answer_to p (command_of cut.next) history ≡ cut.written ++ cut.unwritten =
    subst (λ done. answer_to p (command_of cut.next) (after_requests done history) ≡ cut.written ++ cut.unwritten) none cut.in_parts in
    let taken : bytes ≡ cut.written = subst (λ done. bytes ≡ answers_to p done history ++ cut.written) none cut.answers in
    let all : length (answer_to p (command_of cut.next) history) ≡ length (cut.written ++ cut.unwritten) = ap length parts in
    let prefix : length bytes ≡ length cut.written = ap length taken in
    omega (arith, answer_short p (command_of cut.next) history is, all, prefix, length-append cut.written cut.unwritten, whole, cut.short)

-- a write failed, so the buffer is full
is_full : (buffer : AnswerBuffer) → HasFailedSince 0 buffer.failures → length (take buffer.taken buffer.bytes) ≡ 20
is_full buffer failed =
    let some : 0 < buffer.failures = elim failed [ inl more ↦ more | inr most ↦ omega (arith, most) ] in
    let full : buffer.taken ≡ 20 = buffer.full some in
    omega (arith, length-take buffer.taken buffer.bytes, full, buffer.whole)

-- a line of a scale that is open takes each byte
pub never_fails : {S : Type 0} (opened new : OpenScale S) (empty buffer : AnswerBuffer) (byte : ℕ) (plate : PlateData) (came : Came) →
    Represents opened plate came → empty.taken ≡ 0 → empty.failures ≡ 0 →
    IsCutShortAt opened new (byte ∷ []) (Some (take empty.taken empty.bytes)) (Some (take buffer.taken buffer.bytes)) →
    (HasLineFailed opened ⊎ HasFailedSince empty.failures buffer.failures) → ⊥
never_fails opened new empty buffer byte plate came represents none works fails (inl failed) = absurd (cc)
never_fails opened new empty buffer byte plate came represents none works fails (inr failed) =
    never_cut plate came.bytes byte came.history new.indicator (take buffer.taken buffer.bytes) represents.is_plate
    (is_full buffer (subst (λ n. HasFailedSince n buffer.failures) works failed))
    (subst (λ n. IsCutShort plate (requests_in came.bytes (byte ∷ [])) came.history new.indicator (Some (take n empty.bytes)) (Some (take buffer.taken buffer.bytes))) none
    (fails.cut plate came represents))
