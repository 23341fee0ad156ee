-- Lines that are passed over, what follows the end of a body, and runs with steps before them.
use Rattle.std.proofs.Common.{zero, suc, [], ◌∷◌, refl, arith, ◌≡◌, ℕ, ◌+◌, List, ◌++◌, length, Option, Some, None, ap, ◌∙◌}
use Rattle.wc_text_flat.specs.{SkippedLinesAreDropped, EndedBodiesAreOver, State, Skips, Ended, Ran, Here, runs}
use Rattle.wc_model.specs.declared.code.Code.{Code}
use Rattle.wc_text_flat.proofs.Sides.{then_counted}

pub skipped_lines_are_dropped : SkippedLinesAreDropped
skipped_lines_are_dropped here code zero state l = refl
skipped_lines_are_dropped here [] (suc n) state l = absurd (omega (arith, l))
skipped_lines_are_dropped here (line ∷ code) (suc n) state l = skipped_lines_are_dropped here code n state (omega (arith, l))

pub ended_bodies_are_over : EndedBodiesAreOver
ended_bodies_are_over here [] state = refl
ended_bodies_are_over here (line ∷ code) state = ended_bodies_are_over here code state

-- the same run with another number of steps
abbrev pub with_steps : Ran → ℕ → Ran
with_steps ran steps = record { result = ran.result; numbers = ran.numbers; steps = steps }

-- no steps before a run
pub counted_none : (o : Option Ran) → then_counted 0 o ≡ o
counted_none None = refl
counted_none (Some ran) = ap (λ n. Some (with_steps ran n)) (let a : 0 + ran.steps ≡ ran.steps = omega arith in a)

-- steps before steps
pub counted_twice : (a b : ℕ) (o : Option Ran) → then_counted a (then_counted b o) ≡ then_counted (a + b) o
counted_twice a b None = refl
counted_twice a b (Some ran) = ap (λ n. Some (with_steps ran n)) (let e : a + (b + ran.steps) ≡ a + b + ran.steps = omega arith in e)

-- lines that are passed over
pub passed_over : (h : Here) (own others : List Code) (n : ℕ) (state : State) → runs h (own ++ others) (Skips (length own + n)) state ≡ runs h others (Skips n) state
passed_over h [] others n state = ap (λ k. runs h others (Skips k) state) (let a : 0 + n ≡ n = omega arith in a)
passed_over h (line ∷ own) others n state =
    ap (λ k. runs h (line ∷ own ++ others) (Skips k) state) (let a : length (line ∷ own) + n ≡ suc (length own + n) = omega arith in a) ∙ passed_over h own others n state

-- and those after the end of a body
pub ended_over : (h : Here) (own others : List Code) (state : State) → runs h (own ++ others) Ended state ≡ runs h others Ended state
ended_over h [] others state = refl
ended_over h (line ∷ own) others state = ended_over h own others state
