use Rattle.wc_model.proofs.Common.{◌≡◌, ◌∙◌, false, true, ap, sym, is_some, option_and_then, IfOk-weaker}
use Rattle.wc_diag_places.proofs.calls.offending_in_call.Goals as goal
use Rattle.wc_model.specs.Definitions.{name_of, type_of}
use Rattle.wc_names.specs.Numbered.{numbered_type}

pub returns-in_default : goal.returns-in_default
returns-in_default c =
    IfOk-weaker c.offending_in_list.result _ _
    (λ call given scope is type line k arguments typed instance listed first.
    given scope type line k arguments is
    (sym (c.in-Some.ensures.declared is.text scope is.tables_are is.unit_is ∙ ap (λ text. option_and_then (numbered_type scope.before) (type_of scope (name_of text))) c.text_at.ensures
    ∙ ap (option_and_then (numbered_type scope.before)) typed)) listed first)
    c.offending_in_list.ensures

pub returns-in-None : goal.returns-in-None
returns-in-None c = λ scope is type line k arguments typed instance listed first.
    let known : false ≡ true =
    c.in-None.ensures.known is.text scope is.tables_are is.unit_is ∙ ap (λ text. is_some (type_of scope (name_of text))) c.text_at.ensures ∙ ap is_some typed in
    absurd (cc)
