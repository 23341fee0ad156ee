use Rattle.wc_model.proofs.Common.{sym, is_some}
use Rattle.wc_model.specs.Language.BodyRules.{is_of, takes}
use Rattle.wc_verify.proofs.Found.{pair_found}
use Rattle.wc_verify.proofs.refusals.validate_result.Goals as goal

pub returns : goal.returns
returns c = λ line rest.
    pair_found 403 402 c.is_some.result c.is_taken.result (is_some c.args.kind) (is_of (takes c.args.operator) c.args.kind) c.unless.result c.unless-2.result c.first_of.result c.unless.ensures c.unless-2.ensures c.first_of.ensures (sym c.is_some.ensures) (sym c.is_taken.ensures) line rest
