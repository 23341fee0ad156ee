-- Two first faults of a text are found after the same tokens, and are the same.
use Rattle.std.proofs.Common.{◌≡◌, ◌≤◌, ℕ, List, [], ◌∷◌, ◌++◌, refl, ap, sym, ◌∙◌, inl, inr, arith}
use Rattle.std.specs.Prelude.{◌⊎◌, ◌==◌, cond}
use Rattle.wc_model.specs.Definitions.{Mark, ReadingFault, UnexpectedToken, UnitNotClosed, NotOneProgramLast, EmptyParentheses, NotAllowedInParentheses, ParenthesisNotPaired, TooDeep, TooMany, rank_of, IsRaised, IsFaultFree, IsFirstReadingFault}

-- the first list goes on with a token where the second ends
abbrev pub GoesOn : (a b x y : List Mark) → Type 0
GoesOn a b x y = (t : Mark) × (more : List Mark) × (a ≡ x ++ t ∷ more) × (y ≡ t ∷ more ++ b)

-- of two ways to cut a list, one cuts earlier, or they are the same
pub cuts : (a b x y : List Mark) → a ++ b ≡ x ++ y → ((a ≡ x) × (b ≡ y)) ⊎ (GoesOn x y a b ⊎ GoesOn a b x y)
cuts [] b [] y e = inl (refl, e)
cuts [] b (t ∷ x) y e = inr (inl (t, x, refl, e))
cuts (t ∷ a) b [] y e = inr (inr (t, a, refl, sym e))
cuts (t ∷ a) b (s ∷ x) y e =
    let head : t ≡ s = cc in
    let tail : a ++ b ≡ x ++ y = cc in
    elim (cuts a b x y tail) [
      | inl k ↦ let p = k.0 in inl ((cc), k.1)
      | inr k ↦ elim k [
        | inl m ↦ let p = m.2 in inr (inl (m.0, m.1, (cc), m.3))
        | inr m ↦ let p = m.2 in inr (inr (m.0, m.1, (cc), m.3))
      ]
    ]

-- the fault of a rank
fault_of : ℕ → ReadingFault
fault_of rank =
    cond (rank == 202) UnitNotClosed (cond (rank == 203) NotOneProgramLast (cond (rank == 204) EmptyParentheses (cond (rank == 205) NotAllowedInParentheses
    (cond (rank == 206) ParenthesisNotPaired (cond (rank == 207) TooDeep (cond (rank == 208) TooMany UnexpectedToken))))))

known : (fault : ReadingFault) → fault_of (rank_of fault) ≡ fault
unfolding fault_of
known UnexpectedToken = refl
known other = refl

same_fault : (f g : ReadingFault) → rank_of f ≤ rank_of g → rank_of g ≤ rank_of f → f ≡ g
same_fault f g a b =
    let e : rank_of f ≡ rank_of g = omega arith in
    sym (known f) ∙ ap fault_of e ∙ known g

-- a fault that is found at an earlier token is not one if that token is passed without one
passed_over : (f : ReadingFault) (a b x y : List Mark) (last_line line : ℕ) → GoesOn a b x y → IsRaised f x y last_line line → IsFaultFree a b → ⊥
passed_over f a b x y last_line line goes raised free =
    free x goes.0 goes.1 line goes.2 f (rw goes.3 at raised)

-- two first faults are found after the same tokens, and are the same
pub record IsSame (last_line : ℕ) (before left : List Mark) (f g : ReadingFault) (place : ℕ) : Type 0 where
  pub fault : f ≡ g
  pub raised : IsRaised g before left last_line place

pub same_first : (tokens : List Mark) (last_line line place : ℕ) (f g : ReadingFault) → (h : IsFirstReadingFault tokens last_line f line) → IsFirstReadingFault tokens last_line g place → IsSame last_line h.before h.left f g place
same_first tokens last_line line place f g h k =
    elim (cuts h.before h.left k.before k.left (sym h.whole ∙ k.whole)) [
      | inl same ↦ record {
        fault = same_fault f g
            (h.lowest g place (rw (same.0, same.1) k.raised))
            (k.lowest f line (rw (← same.0, ← same.1) h.raised));
        raised = rw (same.0, same.1) k.raised;
      }
      | inr r ↦ elim r [
        | inl later ↦ absurd (passed_over f k.before k.left h.before h.left last_line line later h.raised k.fault_free)
        | inr earlier ↦ absurd (passed_over g h.before h.left k.before k.left last_line place earlier k.raised h.fault_free)
      ]
    ]
