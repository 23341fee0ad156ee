use Rattle.wc_model.proofs.Common.{sym, is_some, rules}
use Rattle.wc_model.specs.Language.Kinds.{same_result}
use Rattle.wc_verify.proofs.Found.{pair_found}
use Rattle.wc_verify.proofs.steps.validate_closing.Goals as goal

pub returns : goal.returns
returns c = λ line rest.
    pair_found 403 402 c.is_some.result c.eq.result (is_some c.args.inner) (same_result c.args.outer c.args.inner) c.unless.result c.unless-2.result c.first_of.result c.unless.ensures c.unless-2.ensures c.first_of.ensures (sym c.is_some.ensures) (search (rules, c.eq.ensures)) line rest
