use Rattle.wc_model.specs.Definitions.{first_broken, PlainLine, Apply, term_view}
use Rattle.wc_verify.proofs.instructions.apply.Goals as goal

pub returns : goal.returns
returns c = λ scope is label following more.
    let term = term_view c.args.operand.now in
    c.kind_following.ensures scope (PlainLine label c.args.line (Apply c.args.operator term)) following c.args.kind more (c.refuse.ensures.validates _ (first_broken more) (c.validate_apply.ensures scope (c.see-seen.ensures scope is) c.args.line more)) c.kind_after_operator-after.ensures
