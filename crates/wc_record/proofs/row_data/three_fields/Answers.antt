use Rattle.std.proofs.Common.{ap, sym, ◌∙◌, option_map}
use Rattle.wc_record.proofs.ThreeFields.{no_first, no_second, no_third, not_three, just_three}
use Rattle.wc_record.proofs.row_data.three_fields.Goals as goal
use Rattle.wc_record.specs.Views.{fields_view}

pub returns-in_err-moment : goal.returns-in_err-moment
returns-in_err-moment c = ap (option_map fields_view) c.from_residual.ensures ∙ no_first _ c.in_err-moment.ensures.value

pub returns-in_err-kind : goal.returns-in_err-kind
returns-in_err-kind c = ap (option_map fields_view) c.from_residual-in_err-kind.ensures ∙ no_second _ c.in_err-kind.ensures.value

pub returns-in_err-text : goal.returns-in_err-text
returns-in_err-text c = ap (option_map fields_view) c.from_residual-in_err-text.ensures ∙ no_third _ c.in_err-text.ensures.value

pub returns-then-len-ne3 : goal.returns-then-len-ne3
returns-then-len-ne3 c = not_three _ (λ e. c.if-len-ne3.true (c.len.ensures ∙ e))

pub returns : goal.returns
returns c = just_three _ c.in_ok-moment.moment.now c.in_ok-kind.kind.now c.in_ok-text.text.now (sym c.len.ensures ∙ c.if-len-ne3.false) c.in_ok-moment.ensures.value c.in_ok-kind.ensures.value c.in_ok-text.ensures.value
