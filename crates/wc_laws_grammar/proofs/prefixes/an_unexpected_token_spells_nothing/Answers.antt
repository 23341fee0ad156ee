use Rattle.std.proofs.Common.{◌≡◌, ℕ, List, [], ◌∷◌, ◌++◌, ◌∙◌, sym, append_assoc}
use Rattle.wc_model.specs.Definitions.{Text, Mark, Spells, UnexpectedToken, IsRaised}
use Rattle.wc_laws_grammar.proofs.prefixes.an_unexpected_token_spells_nothing.Goals as goal

-- the token that is found, and the tokens before it, begin the text
spells_nothing : (tokens before left : List Mark) (last_line line : ℕ) (text : Text)
    → tokens ≡ before ++ left → IsRaised UnexpectedToken before left last_line line → Spells tokens text → ⊥
spells_nothing tokens before [] last_line line text e raised h = raised
spells_nothing tokens before (mark ∷ following) last_line line text e raised h =
    let same : tokens ≡ (before ++ mark ∷ []) ++ following = e ∙ sym (append_assoc before (mark ∷ []) following) in
    raised.0 (following, (text, rw (← same) h))

pub returns : goal.returns
returns c = λ tokens last_line line text fault h. spells_nothing tokens fault.before fault.left last_line line text fault.whole fault.raised h
