-- The customer's calls have no part in what the line makes of calls.
use Rattle.std.proofs.Common.{◌≡◌, refl, sym, ap, ◌∙◌, subst, ℕ, List, [], ◌∷◌, ◌++◌, append-nil, not, take}
use Rattle.std.specs.Prelude.{cond}
use Rattle.wc_scale.proofs.LineSteps.{each_step}
use Rattle.wc_scale.specs.{AnswersWithoutTheCustomer, AreMade, Byte, Call, CustomersCallsHaveNoPart, HasLegalState, LegalCallsDecide, Look, Open, Sample, after_call, after_calls, answer_to_call, answers_to_calls, is_customers, legal_calls, RefusesByte, TakesByte}
use Rattle.wc_model.specs.Instrument.Plates.{PlateData}
use Rattle.wc_run.specs.{with_byte, Came}
use Rattle.wc_scale.specs.declared.results.Answer.{Answer}
use Rattle.wc_scale.specs.declared.scale.Scale.{Scale}

-- calls do what the fold does
all_steps : (plate : PlateData) (state : Came) (calls : List Call) (first last : Scale) (bytes : List ℕ) → HasLegalState first plate state → AreMade calls first last bytes →
    HasLegalState last plate (after_calls calls state) × (bytes ≡ answers_to_calls plate calls state)
all_steps plate state [] first last bytes at made = (subst (λ s. HasLegalState s plate state) (sym made.0) at, made.1)
all_steps plate state (call ∷ calls) first last bytes at made =
    let before = all_steps plate state calls first made.0 made.1 at made.3 in
    let step = each_step call made.0 last made.2 made.4 plate (after_calls calls state) before.0 in
    (step.0, made.5 ∙ λ i. before.1 i ++ step.1 i)

-- two lists of calls after which the fold has one state and one answer
abbrev FoldAlike : PlateData → Came → List Call → List Call → Type 0
FoldAlike plate state calls others = (after_calls calls state ≡ after_calls others state) × (answers_to_calls plate calls state ≡ answers_to_calls plate others state)

-- one more call, unless it is the customer's
one_more : (plate : PlateData) (state : Came) (call : Call) (calls legal : List Call) → FoldAlike plate state calls legal →
    FoldAlike plate state (call ∷ calls) (cond (not (is_customers call)) (call ∷ legal) legal)
one_more plate state (Byte byte) calls legal same = (ap (with_byte byte) same.0, λ i. same.1 i ++ answer_to_call plate (Byte byte) (same.0 i))
one_more plate state (Sample counts) calls legal same = (ap (after_call (Sample counts)) same.0, ap (λ bytes. bytes ++ []) same.1)
one_more plate state (Open text) calls legal same = (same.0, ap (λ bytes. bytes ++ []) same.1)
one_more plate state Look calls legal same = (same.0, ap (λ bytes. bytes ++ []) same.1)
one_more plate state call calls legal same = (same.0, append-nil (answers_to_calls plate calls state) ∙ same.1)

all_the_same : (plate : PlateData) (state : Came) (calls : List Call) → FoldAlike plate state calls (legal_calls calls)
all_the_same plate state [] = (refl, refl)
all_the_same plate state (call ∷ calls) = one_more plate state call calls (legal_calls calls) (all_the_same plate state calls)

pub no_part : CustomersCallsHaveNoPart
no_part plate state calls first last bytes at made =
    let all = all_steps plate state calls first last bytes at made in
    let same = all_the_same plate state calls in
    (subst (λ s. HasLegalState last plate s) same.0 all.0, all.1 ∙ same.1)

pub decided : LegalCallsDecide
decided plate state calls others first last other end bytes answers at again same made mades =
    let one = no_part plate state calls first last bytes at made in
    let two = no_part plate state others other end answers again mades in (
      (after_calls (legal_calls calls) state, one.0, subst (λ l. HasLegalState end plate (after_calls l state)) (sym same) two.0),
      one.1 ∙ ap (λ l. answers_to_calls plate l state) same ∙ sym two.1,
    )

-- a byte is one more of them
pub without_the_customer : (old new : Scale) (byte : ℕ) (answer : Answer) → TakesByte old new byte answer → RefusesByte old new answer → AnswersWithoutTheCustomer old byte answer
without_the_customer old new byte answer takes refuses plate state calls first so_far at made =
    let bytes : List ℕ = take answer.length answer.bytes in
    (no_part plate state (Byte byte ∷ calls) first new (so_far ++ bytes) at (old, so_far, bytes, made, (answer, takes, refuses, refl), refl)).1
