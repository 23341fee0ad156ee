use Rattle.wc_model.proofs.Common.{◌≡◌, [], ◌∷◌, ap, arith, of_z, subst, sym, to_z, w32, ◌∙◌, ints}
use Rattle.std.specs.Prelude.{pos, ◌-ℤ◌, if◌then◌else◌}
use Rattle.wc_model.specs.Language.Views.{term_view}
use Rattle.wc_model.specs.declared.code.Code.TheVariants.{LoadNumber}
use Rattle.wc_text_flat.specs.Lowered.{load_line}
use Rattle.wc_cost.specs.{IsBitWhere, IsNegatable, operand_view}
use Rattle.wc_cost.proofs.Loading.{negatable}
use Rattle.wc_cost.proofs.steps.load.Goals as goal

pub returns-in-Number : goal.returns-in-Number
returns-in-Number c = λ scope rest is read may.
    let operand = c.flat_operand.ensures scope is read in
    let bit = subst (λ o. IsNegatable c.args.negated (operand_view o)) c.in-Number.is (negatable scope c.args.negated (term_view c.args.operand.now) (operand_view c.flat_operand.result) operand may) in
    let raw : to_z w32 (of_z w32 c.in-Number.number) ≡ c.in-Number.number = omega (arith, ints) in
    let is_loaded = c.loaded_number.ensures (subst (λ n. IsBitWhere c.args.negated n) (sym raw) bit) ∙ ap (λ n. if c.args.negated then pos 1 -ℤ n else n) raw in
    let made : to_z w32 (of_z w32 c.loaded_number.result) ≡ c.loaded_number.result = omega (arith, ints) in
    (operand_view c.flat_operand.result, operand, ap (λ n. LoadNumber n ∷ []) (made ∙ is_loaded) ∙ ap (λ o. load_line c.args.negated (operand_view o) ∷ []) (sym c.in-Number.is))

pub returns-in-At : goal.returns-in-At
returns-in-At c = λ scope rest is read may.
    (operand_view c.flat_operand.result, c.flat_operand.ensures scope is read, ap (λ o. load_line c.args.negated (operand_view o) ∷ []) (sym c.in-At.is))
