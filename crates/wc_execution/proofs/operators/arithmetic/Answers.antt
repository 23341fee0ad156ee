-- Sums and differences wrap, and a quotient is in 32 bits.
use Rattle.std.proofs.Common.{rules, FitsSigned, w32, Some, IsSome, ap, sym, ◌∙◌, ◌-ℤ◌, ◌*ℤ◌, int_rem, subst}
use Rattle.wc_model.proofs.Common.{to_z-of_z, wrapping_add_is, wrapping_sub_is, int_wrapping_div}
use Rattle.wc_text_flat.specs.NumberOperators.{apply_number}
use Rattle.wc_execution.proofs.Quotients.{from_quotient_is, left_is, of_bits, quotient_wraps}
use Rattle.wc_execution.proofs.operators.arithmetic.Goals as goal
use Rattle.wc_model.specs.Language.Values.{wrap}

pub returns-in-Add : goal.returns-in-Add
returns-in-Add c =
    ap (λ o. apply_number o c.args.a c.args.b) c.in-Add.is ∙ ap Some (sym (wrapping_add_is w32 c.args.a c.args.b c.ranges.a c.ranges.b))

pub returns-in-Sub : goal.returns-in-Sub
returns-in-Sub c =
    ap (λ o. apply_number o c.args.a c.args.b) c.in-Sub.is ∙ ap Some (sym (wrapping_sub_is w32 c.args.a c.args.b c.ranges.a c.ranges.b))

pub returns-in-Div : goal.returns-in-Div
returns-in-Div c =
    let fits : FitsSigned w32 c.wrapping_div.result = search rules in
    ap (λ o. apply_number o c.args.a c.args.b) c.in-Div.is
    ∙ from_quotient_is c.args.a c.args.b (λ q. wrap q) (subst (λ o. IsSome (apply_number o c.args.a c.args.b)) c.in-Div.is c.requires.there)
    ∙ ap Some (sym (to_z-of_z w32 c.wrapping_div.result fits ∙ c.wrapping_div.ensures ∙ of_bits (int_wrapping_div w32) c.args.a c.args.b c.ranges.a c.ranges.b ∙ quotient_wraps c.args.a c.args.b c.ranges.a))

pub returns-in-Mod : goal.returns-in-Mod
returns-in-Mod c =
    let fits : FitsSigned w32 c.wrapping_rem.result = search rules in
    ap (λ o. apply_number o c.args.a c.args.b) c.in-Mod.is
    ∙ from_quotient_is c.args.a c.args.b (λ q. c.args.a -ℤ q *ℤ c.args.b) (subst (λ o. IsSome (apply_number o c.args.a c.args.b)) c.in-Mod.is c.requires.there)
    ∙ ap Some (left_is c.args.a c.args.b ∙ sym (to_z-of_z w32 c.wrapping_rem.result fits ∙ c.wrapping_rem.ensures ∙ of_bits (λ x y. int_rem x y) c.args.a c.args.b c.ranges.a c.ranges.b))
