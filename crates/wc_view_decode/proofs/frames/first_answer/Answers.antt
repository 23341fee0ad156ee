use Rattle.std.proofs.Common.{◌≡◌, ◌∙◌, sym, ◌∷◌, List, ℕ}
use Rattle.wc_view_decode.proofs.Framed.{first_of_twenty}
use Rattle.wc_view_decode.proofs.frames.first_answer.Goals as goal

pub returns : goal.returns
returns c =
    let other : (rest : List ℕ) → ¬ (c.args.bytes.now ≡ 10 ∷ 63 ∷ 13 ∷ rest) = λ rest e.
    let before = sym c.starts_with.ensures.value ∙ c.if-starts_with.false in
    let begins = rw e at before in
    cc in
    first_of_twenty c.weight_in.result c.args.bytes.now other c.weight_in.ensures
