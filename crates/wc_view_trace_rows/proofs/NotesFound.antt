-- The notes of a line among notes that are in the order of their lines.
use Rattle.wc_model.proofs.Common.{◌≡◌, ◌∙◌, ℕ, zero, suc, ◌+◌, ◌<◌, ◌≤◌, Bool, true, false, List, [], ◌∷◌, cond, length, get_or, refl, sym, ap, arith, Some, None, drop, eqb-false, ne_eqb}
use Rattle.std.specs.Prelude.{◌==◌, filter, slice_get}
use Rattle.wc_view_trace_rows.specs.Notes.{AreInOrder, note_among, of_line}
use Rattle.wc_view_trace_rows.specs.declared.notes.Note.{Note}

-- what is there after the first ones
pub from_number : {X : Type 0} (n i : ℕ) (xs : List X) → slice_get (drop n xs) i ≡ slice_get xs (n + i)
from_number zero i xs = ap (slice_get xs) (let e : i ≡ 0 + i = omega arith in e)
from_number (suc n) i [] = refl
from_number (suc n) i (x ∷ xs) = from_number n i xs ∙ ap (slice_get (x ∷ xs)) (let e : suc (n + i) ≡ suc n + i = omega arith in e)

-- no note has this line, if each has a greater one
abbrev AllAfter : ℕ → List Note → Type 0
AllAfter line notes = (i : ℕ) (d : Note) → i < length notes → line < (get_or notes i d).line

none_found : (line : ℕ) (notes : List Note) (k : ℕ) → AllAfter line notes → of_line line (slice_get notes k) ≡ None
none_found line [] k after = refl
none_found line (note ∷ notes) zero after = ap (λ b. cond b (Some note) None) (ne_eqb note.line line (λ e. omega (arith, e, after 0 note (omega arith))))
none_found line (note ∷ notes) (suc k) after = none_found line notes k (λ i d l. after (suc i) d (omega arith))

none_left : (line : ℕ) (notes : List Note) (k : ℕ) → AllAfter line notes → note_among notes line k ≡ None
none_left line [] k after = refl
none_left line (note ∷ notes) k after =
    ap (λ b. slice_get (cond b (note ∷ filter (λ (n : Note). n.line == line) notes) (filter (λ (n : Note). n.line == line) notes)) k)
    (ne_eqb note.line line (λ e. omega (arith, e, after 0 note (omega arith))))
    ∙ none_left line notes k (λ i d l. after (suc i) d (omega arith))

-- from the first note of the line on
from_first : (line : ℕ) (notes : List Note) (index : ℕ) → AreInOrder notes → ((i : ℕ) (d : Note) → i < length notes → line ≤ (get_or notes i d).line)
    → of_line line (slice_get notes index) ≡ note_among notes line index
from_first line [] index order from = refl
from_first line (note ∷ notes) index order from =
    by (note.line == line) refl index (λ k. from_first line notes k (λ i j d a l. order (suc i) (suc j) d (omega arith) (omega arith)) (λ i d l. from (suc i) d (omega arith)))
  where
    by : (b : Bool) → (note.line == line) ≡ b → (k : ℕ) → ((n : ℕ) → of_line line (slice_get notes n) ≡ note_among notes line n)
        → of_line line (slice_get (note ∷ notes) k) ≡ slice_get (cond b (note ∷ filter (λ (n : Note). n.line == line) notes) (filter (λ (n : Note). n.line == line) notes)) k
    by true e zero onward = ap (λ b. cond b (Some note) None) e
    by true e (suc k) onward = onward k
    by false e k onward =
        let first : line < note.line = omega (arith, from 0 note (omega arith), eqb-false note.line line e) in
        let after : AllAfter line (note ∷ notes) = λ i d l. let rise = order 0 i d (omega arith) l in omega arith in
        none_found line (note ∷ notes) k after ∙ sym (none_left line notes k (λ i d l. after (suc i) d (omega arith)))

pub found : (line : ℕ) (notes : List Note) (first index : ℕ) → AreInOrder notes → ((k : ℕ) (d : Note) → k < first → (get_or notes k d).line < line)
    → ((k : ℕ) (d : Note) → first ≤ k → k < length notes → line ≤ (get_or notes k d).line) → first ≤ length notes
    → of_line line (slice_get notes (first + index)) ≡ note_among notes line index
found line notes zero index order before from within =
    ap (λ n. of_line line (slice_get notes n)) (zero_plus index) ∙ from_first line notes index order (λ i d l. from i d (omega arith) l)
  where
    zero_plus : (n : ℕ) → 0 + n ≡ n
    zero_plus n = omega arith
found line [] (suc first) index order before from within = absurd (omega arith)
found line (note ∷ notes) (suc first) index order before from within =
    let next : suc first + index ≡ suc (first + index) = omega arith in
    ap (λ n. of_line line (slice_get (note ∷ notes) n)) next
    ∙ found line notes first index (λ i j d a l. order (suc i) (suc j) d (omega arith) (omega arith)) (λ k d l. before (suc k) d (omega arith))
    (λ k d a l. from (suc k) d (omega arith) (omega arith)) (omega arith)
    ∙ ap (λ b. slice_get (cond b (note ∷ filter (λ (n : Note). n.line == line) notes) (filter (λ (n : Note). n.line == line) notes)) index)
    (sym (ne_eqb note.line line (λ e. omega (arith, e, before 0 note (omega arith)))))
