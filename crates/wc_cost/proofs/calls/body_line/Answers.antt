use Rattle.std.proofs.Common.{is_some, option_map, sym, ap, ◌∙◌}
use Rattle.wc_names.specs.declared.located.VariablePlace.{VariablePlace}
use Rattle.wc_model.specs.Definitions.{name_of, type_of}
use Rattle.wc_model.specs.declared.code.Code.TheVariants.{Not}
use Rattle.wc_cost.proofs.Calling.{begins, called_as, not_called}
use Rattle.wc_cost.proofs.calls.body_line.Goals as goal

pub returns-in-Some : goal.returns-in-Some
returns-in-Some c = λ scope is may.
    let name = name_of c.args.instance.now in
    let first = sym (begins scope name) ∙ sym (c.variable.ensures.begins is.text scope is.tables_are is.unit_is) ∙ ap (option_map (λ (v : VariablePlace). v.first)) c.in-Some.is in
    called_as scope (type_of scope name) c.in-Some.located.declared name c.body_at.result (ap (option_map (λ (v : VariablePlace). v.declared)) (sym c.in-Some.is) ∙ c.variable.ensures.declared is.text scope is.tables_are is.unit_is) may
    (λ type e callable. c.body_at.ensures scope name type e first callable)

pub returns-in-None : goal.returns-in-None
returns-in-None c = λ scope is may.
    not_called scope (type_of scope (name_of c.args.instance.now)) (name_of c.args.instance.now) Not (ap is_some (sym c.in-None.is) ∙ c.variable.ensures.known is.text scope is.tables_are is.unit_is) may
