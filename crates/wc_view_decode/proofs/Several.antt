-- Answers one after the other.
use Rattle.wc_model.proofs.Common.{◌≡◌, ◌+◌, ◌<◌, ℕ, List, [], ◌∷◌, ◌++◌, length, drop, refl, sym, ◌∙◌, ap, arith, length-append, Some, None, true, false, ◌==◌, eqb-true, flat_map-append, drop-append_seam}
use Rattle.std.proofs.lemmas.List.{append_assoc, append-nil}
use Rattle.wc_view_decode.proofs.Takings.{both}
use Rattle.wc_view_decode.specs.AnswerBytes.{AreAllAnswers, IsAnswer, answer_bytes, bytes_of_answers, AreAnswersOf, IsFirstAnswer}
use Rattle.wc_view_decode.specs.declared.answer.LineAnswer.{LineAnswer}
use Rattle.wc_view_decode.specs.declared.answer.LineAnswer.TheVariants.{Weight, NotUnderstood}

-- whatever answers the bytes are, the rest is the answers after these
abbrev pub IsAfter : List ℕ → List LineAnswer → List ℕ → Type 0
IsAfter bytes answers rest =
    (others : List LineAnswer) → AreAllAnswers others → bytes ≡ bytes_of_answers others
    → (left : List LineAnswer) × (others ≡ answers ++ left) × AreAllAnswers left × (rest ≡ bytes_of_answers left)

-- the bytes are those of answers and then a rest, which is that of whatever answers they are
pub record LeavesRest (bytes : List ℕ) (answers : List LineAnswer) (rest : List ℕ) : Type 0 where
  pub taken : bytes ≡ bytes_of_answers answers ++ rest
  pub all : AreAllAnswers answers
  pub only : IsAfter bytes answers rest

-- nothing is taken first
pub none_taken : (bytes : List ℕ) → LeavesRest bytes [] bytes
none_taken bytes = record { taken = refl; all = tt; only = λ others all e. (others, refl, all, e) }

-- bytes of one answer more
bytes_after : (answers : List LineAnswer) (a : LineAnswer) → bytes_of_answers (answers ++ a ∷ []) ≡ bytes_of_answers answers ++ answer_bytes a
bytes_after answers a = flat_map-append answer_bytes answers (a ∷ []) ∙ ap (λ one. bytes_of_answers answers ++ one) (append-nil (answer_bytes a))

-- an answer has bytes
some_bytes : (a : LineAnswer) → 0 < length (answer_bytes a)
some_bytes (Weight r) = omega arith
some_bytes NotUnderstood = omega arith

-- so empty bytes hold no answers
no_bytes : (left : List LineAnswer) → [] ≡ bytes_of_answers left → left ≡ []
no_bytes [] e = refl
no_bytes (a ∷ left) e =
    absurd (omega (arith, some_bytes a, ap length e, length-append (answer_bytes a) (bytes_of_answers left)))

-- the answers are all there are at the end
pub at_end : (bytes : List ℕ) (answers : List LineAnswer) (rest : List ℕ) → rest ≡ [] → LeavesRest bytes answers rest → AreAnswersOf (Some answers) bytes
at_end bytes answers rest end leaves = (
  leaves.all,
  leaves.taken ∙ ap (λ r. bytes_of_answers answers ++ r) end ∙ append-nil (bytes_of_answers answers),
  λ others all e.
      let following = leaves.only others all e in
      sym (following.1 ∙ ap (λ l. answers ++ l) (no_bytes following.0 (sym end ∙ following.3)) ∙ append-nil answers),
)

-- what is left begins with no answer
none_left : (rest : List ℕ) → ¬ (rest ≡ []) → IsFirstAnswer None rest → (left : List LineAnswer) → AreAllAnswers left → ¬ (rest ≡ bytes_of_answers left)
none_left rest some first [] all e = some e
none_left rest some first (a ∷ left) (ok, all) e = first a (bytes_of_answers left) ok e

-- then there are none
pub at_none : (bytes : List ℕ) (answers : List LineAnswer) (rest : List ℕ) → ¬ (rest ≡ []) → IsFirstAnswer None rest → LeavesRest bytes answers rest → AreAnswersOf None bytes
at_none bytes answers rest some first leaves =
    λ others all e. let following = leaves.only others all e in none_left rest some first following.0 following.2 following.3

-- what is left after an answer
one_left : (answers : List LineAnswer) (a : LineAnswer) (rest : List ℕ) → ¬ (rest ≡ []) → IsFirstAnswer (Some a) rest
    → (others left : List LineAnswer) → others ≡ answers ++ left → AreAllAnswers left → rest ≡ bytes_of_answers left
    → (more : List LineAnswer) × (others ≡ (answers ++ a ∷ []) ++ more) × AreAllAnswers more × (drop (length (answer_bytes a)) rest ≡ bytes_of_answers more)
one_left answers a rest some first others [] are all e = absurd (some e)
one_left answers a rest some (ok, prefix, only) others (b ∷ left) are (okb, all) e =
    let same : a ≡ b = only b (bytes_of_answers left) okb e in
    let here : rest ≡ answer_bytes a ++ bytes_of_answers left = e ∙ ap (λ x. answer_bytes x ++ bytes_of_answers left) (sym same) in (
      left,
      are ∙ ap (λ x. answers ++ x ∷ left) (sym same) ∙ sym (append_assoc answers (a ∷ []) left),
      all,
      ap (drop (length (answer_bytes a))) here ∙ drop-append_seam (answer_bytes a) (bytes_of_answers left),
    )

-- one answer is taken
pub one_taken : (bytes : List ℕ) (answers : List LineAnswer) (a : LineAnswer) (rest : List ℕ) → ¬ (rest ≡ []) → IsFirstAnswer (Some a) rest → LeavesRest bytes answers rest
    → LeavesRest bytes (answers ++ a ∷ []) (drop (length (answer_bytes a)) rest)
one_taken bytes answers a rest some (ok, prefix, only) leaves =
    let left : drop (length (answer_bytes a)) rest ≡ prefix.0 = ap (drop (length (answer_bytes a))) prefix.1 ∙ drop-append_seam (answer_bytes a) prefix.0 in
    record {
      taken = leaves.taken ∙ ap (λ r. bytes_of_answers answers ++ r) prefix.1
          ∙ sym (append_assoc (bytes_of_answers answers) (answer_bytes a) prefix.0)
          ∙ ap (λ t. t ++ prefix.0) (sym (bytes_after answers a))
          ∙ ap (λ r. bytes_of_answers (answers ++ a ∷ []) ++ r) (sym left);
      all = both IsAnswer answers (a ∷ []) leaves.all (ok, tt);
      only = λ others all e.
          let following = leaves.only others all e in
          one_left answers a rest some (ok, prefix, only) others following.0 following.1 following.2 following.3;
    }

-- a list of no length is empty
pub is_empty : (xs : List ℕ) → (length xs == 0) ≡ true → xs ≡ []
is_empty [] h = refl
is_empty (x ∷ xs) h = absurd (omega (arith, eqb-true (length (x ∷ xs)) 0 h))

-- and one of another is not
pub is_not_empty : (xs : List ℕ) → (length xs == 0) ≡ false → ¬ (xs ≡ [])
is_not_empty xs h e = let never = rw e at h in cc
