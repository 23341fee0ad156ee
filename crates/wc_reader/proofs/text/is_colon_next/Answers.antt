-- The first token says it.
use Rattle.wc_model.proofs.Common.{sym, ap, ◌∙◌, option_copied}
use Rattle.wc_reader.proofs.FirstTokens.{colon_first, no_colon_first, nothing_first}
use Rattle.wc_reader.proofs.text.is_colon_next.Goals as goal

pub returns-in-Colon : goal.returns-in-Colon
returns-in-Colon c =
    colon_first c.args.tokens.now c.in-Some.token.now (sym c.first.ensures.value ∙ ap (λ o. option_copied o) c.in-Some.is) c.in-Colon.is

pub returns-in_default : goal.returns-in_default
returns-in_default c =
    no_colon_first c.args.tokens.now c.in-Some.token.now (sym c.first.ensures.value ∙ ap (λ o. option_copied o) c.in-Some.is) c.in_default.not-Colon

pub returns-in-None : goal.returns-in-None
returns-in-None c = nothing_first c.args.tokens.now (sym c.first.ensures.value ∙ ap (λ o. option_copied o) c.in-None.is)
