use Rattle.wc_model.proofs.Common.{◌≡◌, ◌∙◌, ap, arith, of_z, sym, to_z, w32, ints}
use Rattle.wc_model.specs.declared.code.Code.TheVariants.{OpenNumber, OpenPlace}
use Rattle.wc_text_flat.specs.Lowered.{short_line}
use Rattle.wc_cost.specs.Lowering.{operand_view}
use Rattle.wc_cost.proofs.Loading.{openable, opened}
use Rattle.wc_cost.proofs.steps.opening.Goals as goal

pub returns-in-Number : goal.returns-in-Number
returns-in-Number c = λ scope is read.
    let raw : to_z w32 (of_z w32 c.in-Number.number) ≡ c.in-Number.number = omega (arith, ints) in
    opened scope c.args.operand.now c.in-Some.operand (OpenNumber (to_z w32 (of_z w32 c.in-Number.number))) c.in-Some.is
    (operand_view c.flat_operand.result, c.flat_operand.ensures scope is (openable scope c.args.operand.now c.in-Some.operand c.in-Some.is read), ap (λ n. OpenNumber n) raw ∙ ap (λ operand. short_line (operand_view operand)) (sym c.in-Number.is))

pub returns-in-At : goal.returns-in-At
returns-in-At c = λ scope is read.
    opened scope c.args.operand.now c.in-Some.operand (OpenPlace c.in-At.place) c.in-Some.is
    (operand_view c.flat_operand.result, c.flat_operand.ensures scope is (openable scope c.args.operand.now c.in-Some.operand c.in-Some.is read), ap (λ operand. short_line (operand_view operand)) (sym c.in-At.is))
