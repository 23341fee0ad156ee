use Rattle.wc_model.specs.Definitions.{first_broken, PlainLine, term_view}
use Rattle.wc_model.specs.Language.Tree.{Store}
use Rattle.std.proofs.Common.{refl}
use Rattle.wc_verify.proofs.instructions.store.Goals as goal

pub returns : goal.returns
returns c = λ scope is label following more.
    let term = term_view c.args.target.now in
    c.kind_following.ensures scope (PlainLine label c.args.line (Store c.args.storing term)) following c.args.kind more (c.refuse.ensures.validates _ (first_broken more) (c.validate_store.ensures scope term (c.see-seen.ensures scope is) c.args.line more)) refl
