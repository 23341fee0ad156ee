use Rattle.std.proofs.Common.{Some, None}
use Rattle.wc_model.specs.Language.Views.{term_view}
use Rattle.wc_verify.proofs.Seeing.{seen_as}
use Rattle.wc_verify.proofs.seen.see.Goals as goal

pub returns-in-Some : goal.returns-in-Some
returns-in-Some c = λ scope is. seen_as scope (term_view c.args.operand.now) (Some c.in-Some.entity) (c.in-Some.ensures is.text scope is.tables_are is.unit_is)

pub returns-in-None : goal.returns-in-None
returns-in-None c = λ scope is. seen_as scope (term_view c.args.operand.now) None (c.in-None.ensures is.text scope is.tables_are is.unit_is)
