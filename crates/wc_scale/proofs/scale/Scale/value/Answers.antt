use Rattle.wc_model.proofs.Common.{◌≡◌, ◌∙◌, Some, ap, arith, of_z, sym, to_z, w64, ints, option_copied}
use Rattle.wc_scale.proofs.ReadValues.{has_number, is_value, leads_nowhere, refuses_value}
use Rattle.wc_scale.proofs.scale.Scale.value.Goals as goal

pub returns-in-Ok-None-clause-refused : goal.returns-in-Ok-None-clause-refused
returns-in-Ok-None-clause-refused c =
    let scale = c.args.self.now in let opened = c.in-Some.opened in let machine = c.in-Some-machine.machine.now in
    let has : opened.machine ≡ Some machine = sym c.machine.ensures ∙ ap option_copied c.in-Some-machine.is in
    refuses_value scale opened machine c.in-Some.is has c.args.name.now c.no_value-in-Ok-None.result c.no_value-in-Ok-None.ensures
    (leads_nowhere scale opened machine c.in-Some.is has c.loaded.result.now.source c.args.name.now c.loaded.ensures (sym c.in-Ok-None.field-0-is ∙ c.in-Ok-None.ensures.means))

pub returns-in-Some-number-clause-reports : goal.returns-in-Some-number-clause-reports
returns-in-Some-number-clause-reports c = λ _.
    let scale = c.args.self.now in let opened = c.in-Some.opened in let machine = c.in-Some-machine.machine.now in
    let has : opened.machine ≡ Some machine = sym c.machine.ensures ∙ ap option_copied c.in-Some-machine.is in
    let raw : to_z w64 (of_z w64 c.in-Some-number.number) ≡ c.in-Some-number.number = omega (arith, ints) in
    is_value scale opened machine c.in-Some.is has c.loaded.result.now.source c.args.name.now c.in-Ok-Some.variable c.kind_number.result _ c.loaded.ensures (sym c.in-Ok-Some.field-0-is ∙ c.in-Ok-Some.ensures.means)
    (λ text store place at k. ap Some raw ∙ c.in-Some-number.ensures text store place at k) c.kind_number.ensures

pub returns-in-None-clause-refused : goal.returns-in-None-clause-refused
returns-in-None-clause-refused c =
    let scale = c.args.self.now in let opened = c.in-Some.opened in let machine = c.in-Some-machine.machine.now in
    let has : opened.machine ≡ Some machine = sym c.machine.ensures ∙ ap option_copied c.in-Some-machine.is in
    refuses_value scale opened machine c.in-Some.is has c.args.name.now c.no_value-in-None.result c.no_value-in-None.ensures
    (has_number scale opened machine c.in-Some.is has c.loaded.result.now.source c.args.name.now c.in-Ok-Some.variable c.loaded.ensures (sym c.in-Ok-Some.field-0-is ∙ c.in-Ok-Some.ensures.means)
    (λ text store place at k. c.in-None.ensures text store place at k))
