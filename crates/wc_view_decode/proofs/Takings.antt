-- What is taken and what is written of it.
use Rattle.wc_model.proofs.Common.{◌≡◌, ◌<◌, ◌+◌, ℕ, suc, List, [], ◌∷◌, ◌++◌, length, take, get_or, sym, ap, ◌∙◌, arith, take-suc, AllByRecursion}
use Rattle.std.proofs.lemmas.List.{append_assoc}

-- what is appended to a text that follows another
pub after_text : (text old new added : List ℕ) → new ≡ old ++ added → (text ++ old) ++ added ≡ text ++ new
after_text text old new added e = append_assoc text old added ∙ ap (λ t. text ++ t) (sym e)

-- one byte more of those that are taken
pub one_taken_more : (read bytes : List ℕ) (n other : ℕ) → n < length bytes → (read ++ take n bytes) ++ get_or bytes n other ∷ [] ≡ read ++ take (n + 1) bytes
one_taken_more read bytes n other within =
    let next : n + 1 ≡ suc n = omega arith in
    append_assoc read (take n bytes) (get_or bytes n other ∷ []) ∙ ap (λ b. read ++ b) (sym (ap (λ m. take m bytes) next ∙ take-suc bytes n other within))

-- what holds of each of some and of each of others
pub both : {X : Type 0} (P : X → Type 0) (xs ys : List X) → AllByRecursion P xs → AllByRecursion P ys → AllByRecursion P (xs ++ ys)
both P [] ys first more = more
both P (x ∷ xs) ys first more = (first.0, both P xs ys first.1 more)
