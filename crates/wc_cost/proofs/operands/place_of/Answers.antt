use Rattle.std.proofs.Common.{sym, ◌∙◌}
use Rattle.wc_model.specs.Definitions.{entity_of, term_view}
use Rattle.wc_cost.proofs.Placed.{not_known, not_placed, placed}
use Rattle.wc_cost.proofs.operands.place_of.Goals as goal

pub returns-in_default-clause-read : goal.returns-in_default-clause-read
returns-in_default-clause-read c = λ scope is h.
    absurd (not_known (λ e. e.readable) scope (entity_of scope (term_view c.args.operand.now)) (sym c.in_default.is ∙ c.entity.ensures is.text scope is.tables_are is.unit_is) h)

pub returns-in-Some-place-clause-read : goal.returns-in-Some-place-clause-read
returns-in-Some-place-clause-read c = λ scope is h.
    placed (λ e. e.readable) scope (entity_of scope (term_view c.args.operand.now)) c.in-Some.entity c.in-Some-place.place (sym c.in-Some.is ∙ c.entity.ensures is.text scope is.tables_are is.unit_is) c.in-Some-place.is h

pub returns-in-None-clause-read : goal.returns-in-None-clause-read
returns-in-None-clause-read c = λ scope is h.
    absurd (not_placed (λ e. e.readable) scope (entity_of scope (term_view c.args.operand.now)) c.in-Some.entity (sym c.in-Some.is ∙ c.entity.ensures is.text scope is.tables_are is.unit_is) c.in-None.is h)

pub returns-in_default-clause-written : goal.returns-in_default-clause-written
returns-in_default-clause-written c = λ scope is h.
    absurd (not_known (λ e. e.writable) scope (entity_of scope (term_view c.args.operand.now)) (sym c.in_default.is ∙ c.entity.ensures is.text scope is.tables_are is.unit_is) h)

pub returns-in-Some-place-clause-written : goal.returns-in-Some-place-clause-written
returns-in-Some-place-clause-written c = λ scope is h.
    placed (λ e. e.writable) scope (entity_of scope (term_view c.args.operand.now)) c.in-Some.entity c.in-Some-place.place (sym c.in-Some.is ∙ c.entity.ensures is.text scope is.tables_are is.unit_is) c.in-Some-place.is h

pub returns-in-None-clause-written : goal.returns-in-None-clause-written
returns-in-None-clause-written c = λ scope is h.
    absurd (not_placed (λ e. e.writable) scope (entity_of scope (term_view c.args.operand.now)) c.in-Some.entity (sym c.in-Some.is ∙ c.entity.ensures is.text scope is.tables_are is.unit_is) c.in-None.is h)
