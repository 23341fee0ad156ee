-- Prefixes of a text, and what precedes and follows them.
use Rattle.wc_model.proofs.Common.{ℕ, List, ◌++◌, Option, ap, sym, ◌∙◌, Appends-trans, Appends}
use Rattle.std.proofs.lemmas.List.{append_assoc}
use Rattle.wc_run.specs.Runs.{AppendsPrefix}

-- a prefix of a text is one of what is longer
pub prefix_of_more : (old new : Option (List ℕ)) (text more : List ℕ) → AppendsPrefix old new text → AppendsPrefix old new (text ++ more)
prefix_of_more old new text more f = (f.0, f.1 ++ more, ap (λ t. t ++ more) f.2 ∙ append_assoc f.0 f.1 more, f.3)

-- a prefix after a text is a prefix of both
pub prefix_after : (old middle new : Option (List ℕ)) (text more : List ℕ) → Appends old middle text → AppendsPrefix middle new more → AppendsPrefix old new (text ++ more)
prefix_after old middle new text more w f =
    (text ++ f.0, f.1, ap (λ t. text ++ t) f.2 ∙ sym (append_assoc text f.0 f.1), Appends-trans old middle new text f.0 w f.3)
