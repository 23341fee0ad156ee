use Rattle.wc_model.proofs.Common.{◌≡◌, ◌<◌, ◌∙◌, ℕ, Result, pos, sym, ap, arith, unsigned_abs, common_steps, FitsUnsignedBits, OkIff, result_unwrap_or}
use Rattle.wc_diag_texts.specs.Numbers.{is_refusal}
use Rattle.wc_view_decode.proofs.Digits.{known_below}
use Rattle.wc_view_decode.proofs.lines.refusal_number.Goals as goal

-- a small number has 16 bits
short : {E : Type 0} (n number result : ℕ) (r : Result ℕ E) → number ≡ n → n < 703 → OkIff r (FitsUnsignedBits 16 (pos number)) (unsigned_abs (pos number))
    → result ≡ result_unwrap_or r 0 → result ≡ n
short n number result r same small fits is = grind (arith, common_steps)

pub returns-then-is_known-clause-number : goal.returns-then-is_known-clause-number
returns-then-is_known-clause-number c n known e =
    let small = known_below n known in
    short n c.number.result c.unwrap_or-number.result c.try_from.result (c.number.ensures n (omega (arith, small)) e) small c.try_from.ensures c.unwrap_or-number.ensures

pub returns-else-is_known-clause-number : goal.returns-else-is_known-clause-number
returns-else-is_known-clause-number c n known e =
    let small = known_below n known in
    let same = short n c.number.result c.unwrap_or-number.result c.try_from.result (c.number.ensures n (omega (arith, small)) e) small c.try_from.ensures c.unwrap_or-number.ensures in
    let never = sym c.if-is_known.false ∙ c.is_some-is_known.ensures ∙ c.entry_of.ensures.known ∙ ap (λ number. is_refusal number) same ∙ known in
    cc
