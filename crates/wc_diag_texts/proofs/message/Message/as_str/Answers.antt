use Rattle.wc_model.proofs.Common.{◌≡◌, ◌∙◌, List, ℕ, Bor, Result, Ok, Err, IsUtf8, ap, MatchResult, result_unwrap_or, IsUtf8-from_is_utf8}
use Rattle.wc_diag_texts.proofs.message.Message.as_str.Goals as goal

the_text : {E : Type 0} (bytes : List ℕ) (other : Bor (List ℕ)) (No : E → Type 0) → (r : Result (Bor (List ℕ)) E)
    → MatchResult r (λ s. (s.now ≡ bytes) × IsUtf8 bytes) (λ e. ¬ (IsUtf8 bytes) × No e) → IsUtf8 bytes → (result_unwrap_or r other).now ≡ bytes
the_text bytes other No (Ok s) h is = h.0
the_text bytes other No (Err e) h is = absurd (h.0 is)

pub returns : goal.returns
returns c =
    ap (λ s. s.now) c.unwrap_or.ensures
    ∙ the_text c.as_bytes.result.now _ _ c.from_utf8.result c.from_utf8.ensures.cases (IsUtf8-from_is_utf8 c.as_bytes.result.now c.as_bytes.ensures.text)
    ∙ c.as_bytes.ensures.all
