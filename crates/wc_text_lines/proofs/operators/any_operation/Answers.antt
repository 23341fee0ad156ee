use Rattle.wc_model.proofs.Common.{◌∙◌, sym, ap, option_and_then}
use Rattle.wc_text_lines.specs.Meanings.{operation_for}
use Rattle.wc_model.specs.Language.Names.{name_of}
use Rattle.wc_text_lines.proofs.KeywordMeanings.{operation_is}
use Rattle.wc_text_lines.proofs.operators.any_operation.Goals as goal

pub returns : goal.returns
returns c = c.operation_for.ensures ∙ ap (option_and_then operation_for) (sym c.in_ok-keyword_named.was ∙ c.keyword_named.ensures) ∙ operation_is (name_of c.args.text.now)

pub returns-in_err-keyword_named : goal.returns-in_err-keyword_named
returns-in_err-keyword_named c = rw c.from_residual.ensures (ap (option_and_then operation_for) (sym c.in_err-keyword_named.was ∙ c.keyword_named.ensures) ∙ operation_is (name_of c.args.text.now))
