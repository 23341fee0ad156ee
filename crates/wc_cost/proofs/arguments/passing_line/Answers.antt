use Rattle.std.proofs.Common.{sym, subst}
use Rattle.wc_model.specs.Definitions.{name_of, assignment_view}
use Rattle.wc_cost.specs.Lowering.{IsPassed, operand_view}
use Rattle.wc_cost.proofs.Assigned.{asks_in, asks_out, goes_into, goes_out}
use Rattle.wc_cost.proofs.Placed.{field_place}
use Rattle.wc_cost.proofs.arguments.passing_line.Goals as goal

pub returns-in-Into : goal.returns-in-Into
returns-in-Into c = λ scope is may.
    let instance = name_of c.args.instance.now in
    let a = assignment_view c.args.argument.now in
    let asked = asks_in scope instance a (goes_into a c.in-Into.is) may in
    subst (λ d. IsPassed d scope instance a c.argument_line.result) (sym c.in-Into.is) (
      operand_view c.flat_operand.result,
      c.place_of.result,
      c.flat_operand.ensures scope is asked.0,
      field_place scope instance (name_of c.args.argument.now.name.now) c.place_of.result (c.place_of.ensures.written scope is asked.1),
      c.argument_line.ensures,
    )

pub returns-in-OutOf : goal.returns-in-OutOf
returns-in-OutOf c = λ scope is may.
    let instance = name_of c.args.instance.now in
    let a = assignment_view c.args.argument.now in
    let asked = asks_out scope instance a (goes_out a c.in-OutOf.is) may in
    subst (λ d. IsPassed d scope instance a c.argument_line-in-OutOf.result) (sym c.in-OutOf.is) (
      operand_view c.flat_operand-in-OutOf.result,
      c.place_of-in-OutOf.result,
      c.flat_operand-in-OutOf.ensures scope is asked.0,
      c.place_of-in-OutOf.ensures.written scope is asked.1,
      c.argument_line-in-OutOf.ensures,
    )
