-- Texts that are put one after another.
use Rattle.std.proofs.Common.{◌≡◌, ◌∙◌, ℕ, List, [], ◌∷◌, ◌++◌, Bool, false, cond, length, take, drop, refl, sym, ap, Option, Some, None}
use Rattle.std.proofs.lemmas.List.{append_assoc, drop_at, take-append-drop, take_at}
use Rattle.std.specs.Prelude.{option_map}
use Rattle.wc_view_trace_rows.specs.{fitted, gap, line_shown, with_cell, between_words, shown}

-- two parts, or three
pub two_parts : {X : Type 0} (old a b first all : List X) → first ≡ old ++ a → all ≡ first ++ b → all ≡ old ++ (a ++ b)
two_parts old a b first all e f = rw (f, e, append_assoc old a b) refl

pub three_parts : {X : Type 0} (old a b c first second all : List X) → first ≡ old ++ a → second ≡ first ++ b → all ≡ second ++ c → all ≡ old ++ (a ++ (b ++ c))
three_parts old a b c first second all e f g = rw (g, two_parts old a b first second e f, append_assoc old (a ++ b) c, append_assoc a b c) refl

-- a cell of a row
pub one_cell : (column start : ℕ) (old first new text : List ℕ) (cell : Option (List ℕ)) → cell ≡ Some text → first ≡ old ++ gap column (drop start old) → new ≡ first ++ text
    → new ≡ take start old ++ with_cell column cell (drop start old)
one_cell column start old first new text cell is one two =
    two_parts old (gap column (drop start old)) text first new one two
    ∙ ap (λ l. l ++ (gap column (drop start old) ++ text)) (sym (take-append-drop start old))
    ∙ append_assoc (take start old) (drop start old) (gap column (drop start old) ++ text)
    ∙ ap (λ c. take start old ++ with_cell column c (drop start old)) (sym is)

-- the result of a line of a body
pub numbered : {A B : Type 0} (b : Bool) (f : A → B) (number : Option A) (n : A) → b ≡ false → number ≡ Some n → cond b None (option_map f number) ≡ Some (f n)
numbered b f number n is there = ap (λ x. cond x None (option_map f number)) is ∙ ap (option_map f) there

-- the row that follows a text
pub row_put : (old prefix first second new : List ℕ) (result written : Option (List ℕ)) (r w : ℕ) (start : ℕ) → start ≡ length old → first ≡ old ++ prefix
    → second ≡ take start first ++ with_cell r result (drop start first)
    → new ≡ take start second ++ with_cell w written (drop start second)
    → new ++ 10 ∷ [] ≡ old ++ (with_cell w written (with_cell r result prefix) ++ 10 ∷ [])
row_put old prefix first second new result written r w start is one two three =
    let cut = λ (t : List ℕ). take_at old t start (sym is) in
    let left = λ (t : List ℕ). drop_at old t start (sym is) in
    let second_is : second ≡ old ++ with_cell r result prefix =
    two ∙ (λ i. take start (one i) ++ with_cell r result (drop start (one i))) ∙ (λ i. cut prefix i ++ with_cell r result (left prefix i)) in
    let new_is : new ≡ old ++ with_cell w written (with_cell r result prefix) =
    three ∙ (λ i. take start (second_is i) ++ with_cell w written (drop start (second_is i)))
    ∙ (λ i. cut (with_cell r result prefix) i ++ with_cell w written (left (with_cell r result prefix) i)) in
    ap (λ l. l ++ 10 ∷ []) new_is ∙ append_assoc old (with_cell w written (with_cell r result prefix)) (10 ∷ [])

-- a line that follows a text
pub line_put : (old put new line words : List ℕ) (start columns : ℕ) → start ≡ length old → words ≡ between_words line → put ≡ old ++ shown words
    → new ≡ take start put ++ fitted columns (drop start put) → new ≡ old ++ line_shown columns line
line_put old put new line words start columns is words_are one two =
    let text = shown (between_words line) in
    let put_is : put ≡ old ++ text = one ∙ ap (λ w. old ++ shown w) words_are in
    two ∙ ap (λ p. take start p ++ fitted columns (drop start p)) put_is
    ∙ (λ i. take_at old text start (sym is) i ++ fitted columns (drop_at old text start (sym is) i))
