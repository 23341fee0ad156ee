use Rattle.std.proofs.Common.{Some, ap, ◌∙◌}
use Rattle.wc_cost.proofs.Calling.{body_none, body_standard, body_unit}
use Rattle.wc_model.specs.declared.code.Code.TheVariants.{Not}
use Rattle.wc_cost.proofs.calls.body_at.Goals as goal

pub returns-in-Elementary : goal.returns-in-Elementary
returns-in-Elementary c = λ scope name type e first may. body_none scope name type c.in-Elementary.field-0 Not (e ∙ ap Some c.in-Elementary.is) may

pub returns-in-Standard : goal.returns-in-Standard
returns-in-Standard c = λ scope name type e first may. body_standard scope name type c.in-Standard.block c.args.at (e ∙ ap Some c.in-Standard.is) first

pub returns-in-Block : goal.returns-in-Block
returns-in-Block c = λ scope name type e first may. body_unit scope name type c.in-Block.number c.unit_number.result c.args.at (e ∙ ap Some c.in-Block.is) first c.unit_number.ensures may
