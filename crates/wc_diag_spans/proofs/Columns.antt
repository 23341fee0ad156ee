-- Columns, counted back from a place to the LF before it.
use Rattle.wc_model.proofs.Common.{◌≡◌, ◌+◌, ◌-◌, ◌==◌, ℕ, Bool, not, List, length, min, take, sym, ap, ◌∙◌, zero-add, arith, take-length, take_min, suffix_len}

-- no LF
abbrev pub is_other : ℕ → Bool
is_other byte = not (byte == 10)

-- that number of bytes at the end of these were not an LF
abbrev pub IsBack : List ℕ → ℕ → Type 0
IsBack above count =
    suffix_len is_other above ≡ count + suffix_len is_other (take (length above - count) above)

-- none was looked at
pub back_begins : (above : List ℕ) → IsBack above 0
back_begins above =
    let all : length above - 0 ≡ length above = omega arith in
    ap (suffix_len is_other) (sym (ap (λ k. take k above) all ∙ take-length above)) ∙ sym (zero-add _)

-- the column, by the bytes above the place
pub column_is : (text above : List ℕ) (place count : ℕ) → above ≡ take (min place (length text)) text → count ≡ suffix_len is_other above → count ≡ suffix_len is_other (take place text)
column_is text above place count e f = f ∙ ap (suffix_len is_other) (e ∙ take_min place text)
