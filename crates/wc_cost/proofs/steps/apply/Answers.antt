use Rattle.wc_model.proofs.Common.{◌≡◌, [], ◌∷◌, ◌∙◌, ap, arith, of_z, sym, to_z, w32, ints}
use Rattle.wc_model.specs.declared.code.Code.TheVariants.{ApplyNumber}
use Rattle.wc_text_flat.specs.Lowered.{apply_line}
use Rattle.wc_cost.specs.Lowering.{operand_view}
use Rattle.wc_cost.proofs.steps.apply.Goals as goal

pub returns-in-Number : goal.returns-in-Number
returns-in-Number c = λ scope rest is read.
    let raw : to_z w32 (of_z w32 c.in-Number.number) ≡ c.in-Number.number = omega (arith, ints) in
    (operand_view c.flat_operand.result, c.flat_operand.ensures scope is read, ap (λ n. ApplyNumber c.args.operator n ∷ []) raw ∙ ap (λ operand. apply_line c.args.operator (operand_view operand) ∷ []) (sym c.in-Number.is))

pub returns-in-At : goal.returns-in-At
returns-in-At c = λ scope rest is read. (operand_view c.flat_operand.result, c.flat_operand.ensures scope is read, ap (λ operand. apply_line c.args.operator (operand_view operand) ∷ []) (sym c.in-At.is))
