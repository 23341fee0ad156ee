use Rattle.wc_model.proofs.Common.{◌∙◌, sym, ap, option_and_then}
use Rattle.wc_built_in.specs.Keywords.{elementary_for}
use Rattle.wc_model.specs.Language.Names.{name_of}
use Rattle.wc_built_in.proofs.ReservedWords.{elementary_is}
use Rattle.wc_built_in.proofs.meanings.elementary_type.Goals as goal

pub returns : goal.returns
returns c = c.elementary_for.ensures ∙ ap (option_and_then elementary_for) (sym c.in_ok-keyword_named.was ∙ c.keyword_named.ensures) ∙ elementary_is (name_of c.args.text.now)

pub returns-in_err-keyword_named : goal.returns-in_err-keyword_named
returns-in_err-keyword_named c = c.from_residual.ensures ∙ ap (option_and_then elementary_for) (sym c.in_err-keyword_named.was ∙ c.keyword_named.ensures) ∙ elementary_is (name_of c.args.text.now)
