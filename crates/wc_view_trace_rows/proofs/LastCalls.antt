-- The last calls of standard blocks, item by item.
use Rattle.wc_model.proofs.Common.{◌≡◌, ◌∙◌, ℕ, suc, ◌+◌, ◌<◌, List, [], ◌∷◌, ◌++◌, cond, length, take, sym, ap, arith, if◌then◌else◌, length-take-le}
use Rattle.wc_machine.specs.declared.seen.SeenLine.{SeenLine}
use Rattle.wc_view_trace_rows.specs.Items.{block_of, is_call_at, last_call, last_call_from}

-- one more item
more_from : (place count last : ℕ) (lines : List SeenLine) (seen : SeenLine)
    → last_call_from place count last (lines ++ seen ∷ []) ≡ cond (is_call_at place (block_of seen)) (count + length lines + 1) (last_call_from place count last lines)
more_from place count last [] seen = ap (λ n. cond (is_call_at place (block_of seen)) (n + 1) last) (let e : count ≡ count + 0 = omega arith in e)
more_from place count last (one ∷ lines) seen =
    more_from place (count + 1) (if is_call_at place (block_of one) then count + 1 else last) lines seen
    ∙ ap (λ n. cond (is_call_at place (block_of seen)) (n + 1) (last_call_from place count last (one ∷ lines))) (let e : count + 1 + length lines ≡ count + suc (length lines) = omega arith in e)

pub marked : (place i : ℕ) (lines : List SeenLine) (seen : SeenLine) (old new : ℕ) → i < length lines → take (i + 1) lines ≡ take i lines ++ seen ∷ []
    → new ≡ cond (is_call_at place (block_of seen)) (i + 1) old → old ≡ last_call place (take i lines) → new ≡ last_call place (take (i + 1) lines)
marked place i lines seen old new l taken is was =
    let long : 0 + length (take i lines) ≡ i = omega (arith, length-take-le i lines (omega arith)) in
    is ∙ ap (λ n. cond (is_call_at place (block_of seen)) (i + 1) n) was
    ∙ ap (λ n. cond (is_call_at place (block_of seen)) (n + 1) (last_call place (take i lines))) (sym long)
    ∙ sym (ap (last_call place) taken ∙ more_from place 0 0 (take i lines) seen)
