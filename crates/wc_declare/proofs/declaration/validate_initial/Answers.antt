use Rattle.wc_model.proofs.Common.{Some, sym, ap, ◌∙◌, if◌then◌else◌}
use Rattle.wc_model.specs.Definitions.{first_broken, declaration_view}
use Rattle.wc_declare.proofs.Typing.{initial_found}
use Rattle.wc_declare.proofs.declaration.validate_initial.Goals as goal

pub returns-then-suits-clause-validated : goal.returns-then-suits-clause-validated
returns-then-suits-clause-validated c = λ before rest e.
    initial_found before (declaration_view c.args.declaration.now) c.in-Some.initial c.args.declared rest c.in-Some.is e
    ∙ ap (λ b. if b then first_broken rest else Some (record { number = 303; line = c.in-Some.initial.line })) (sym c.suits.ensures ∙ c.if-suits.true)

pub returns-else-suits-clause-validated : goal.returns-else-suits-clause-validated
returns-else-suits-clause-validated c = λ before rest e.
    rw c.refusal.ensures (
    initial_found before (declaration_view c.args.declaration.now) c.in-Some.initial c.args.declared rest c.in-Some.is e
    ∙ ap (λ b. if b then first_broken rest else Some (record { number = 303; line = c.in-Some.initial.line })) (sym c.suits.ensures ∙ c.if-suits.false))
