use Rattle.wc_model.specs.Definitions.{first_broken, PlainLine, Load, term_view}
use Rattle.wc_verify.proofs.Found.{loaded}
use Rattle.wc_verify.proofs.instructions.load.Goals as goal

pub returns : goal.returns
returns c = λ scope kind is label following more.
    let term = term_view c.args.operand.now in
    let seen = c.see-seen.ensures scope is in
    c.kind_following.ensures scope (PlainLine label c.args.line (Load c.args.negated term)) following kind more (c.refuse.ensures.validates _ (first_broken more) (c.validate_load.ensures scope term seen c.args.line more))
    (loaded scope label c.args.line c.args.negated term kind c.see-seen.result.kind c.kind_loaded-after.result c.kind_loaded-after.ensures seen.kind)
