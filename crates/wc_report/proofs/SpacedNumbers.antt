-- What follows a text if space was made for it and then filled, and numbers, each after a space, one by one.
use Rattle.std.proofs.Common.{◌≡◌, ◌+◌, ℕ, List, [], ◌++◌, length, take, drop, ap, arith, length-append, length-drop, ◌<◌, suc, ◌∷◌, get_or, refl, sym, ◌∙◌}
use Rattle.std.proofs.lemmas.List.{append-nil, append_assoc}
use Rattle.wc_model.proofs.Common.{decimal, take-length, take-suc, drop_of_length-le}
use Rattle.wc_model.specs.Say.UnitReport.{spaced_lines}

-- the buffer is filled whole
pub filled : (old buffer digits : List ℕ) (size : ℕ) → take (length old) buffer ≡ old → length buffer ≡ length old + length digits → size ≡ length buffer
    → take size ((take (length old) buffer ++ (digits ++ drop (length digits) (drop (length old) buffer)))
    ++ drop (length (take (length old) buffer ++ (digits ++ drop (length digits) (drop (length old) buffer)))) buffer) ≡ old ++ digits
filled old buffer digits size before whole is =
    let inner : drop (length digits) (drop (length old) buffer) ≡ [] = drop_of_length-le (drop (length old) buffer) (omega (arith, length-drop (length old) buffer, whole)) in
    let text : take (length old) buffer ++ (digits ++ drop (length digits) (drop (length old) buffer)) ≡ old ++ digits = rw (before, inner) (ap (λ d. old ++ d) (append-nil digits)) in
    let outer : drop (length (old ++ digits)) buffer ≡ [] = drop_of_length-le buffer (omega (arith, length-append old digits, whole)) in
    let long : size ≡ length (old ++ digits) = omega (arith, length-append old digits, whole, is) in
    rw (text, outer, append-nil (old ++ digits), long) (take-length (old ++ digits))

-- numbers of lines after others
lines_after : (prefix back : List ℕ) → spaced_lines (prefix ++ back) ≡ spaced_lines prefix ++ spaced_lines back
lines_after [] back = refl
lines_after (n ∷ prefix) back =
    ap (λ rest. 32 ∷ (decimal n ++ rest)) (lines_after prefix back)
    ∙ ap (λ rest. 32 ∷ rest) (sym (append_assoc (decimal n) (spaced_lines prefix) (spaced_lines back)))

pub one_line_more : (lines : List ℕ) (n : ℕ) (other : ℕ) → n < length lines → spaced_lines (take (n + 1) lines) ≡ spaced_lines (take n lines) ++ 32 ∷ decimal (get_or lines n other)
one_line_more lines n other within =
    let next : n + 1 ≡ suc n = omega arith in
    rw next (ap spaced_lines (take-suc lines n other within) ∙ lines_after (take n lines) (get_or lines n other ∷ [])
    ∙ ap (λ text. spaced_lines (take n lines) ++ 32 ∷ text) (append-nil (decimal (get_or lines n other))))
