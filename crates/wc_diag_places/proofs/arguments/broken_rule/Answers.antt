use Rattle.std.proofs.Common.{[], ◌++◌, None, Some}
use Rattle.wc_diag_places.proofs.Breaking.{any_line, refused_at, same_assignment}
use Rattle.wc_diag_places.proofs.arguments.broken_rule.Goals as goal
use Rattle.wc_model.specs.Definitions.{argument_checks, first_broken, members_of, name_of, Assignment, term_view}

pub returns-in-Ok-clause-rule : goal.returns-in-Ok-clause-rule
returns-in-Ok-clause-rule c = λ scope type line position is num listed held.
    let argument : Assignment = record { direction = c.args.item.direction; formal = name_of c.text_at.result.now; actual = term_view c.in-Some.value } in
    any_line scope (members_of scope.before type) line 0 position argument None
    (same_assignment c.args.tokens.now c.args.item position.item c.text_at.result.now c.tokens_at.result.now (term_view c.in-Some.value) listed c.text_at.ensures c.tokens_at.ensures c.in-Some.ensures)
    (c.in-Ok.ensures.validated scope type position.before position.following [] is num held)

pub returns-in-Refused-clause-rule : goal.returns-in-Refused-clause-rule
returns-in-Refused-clause-rule c = λ scope type line position is num listed held.
    let argument : Assignment = record { direction = c.args.item.direction; formal = name_of c.text_at.result.now; actual = term_view c.in-Some.value } in
    let members = members_of scope.before type in
    any_line scope members line c.in-Refused.place position argument (Some c.in-Refused.number)
    (same_assignment c.args.tokens.now c.args.item position.item c.text_at.result.now c.tokens_at.result.now (term_view c.in-Some.value) listed c.text_at.ensures c.tokens_at.ensures c.in-Some.ensures)
    (refused_at (Unit {0}) (first_broken (argument_checks scope 0 members (record { before = position.before; item = argument; following = position.following }) ++ [])) (first_broken []) c.in-Err.fault c.in-Refused.number c.in-Refused.place c.in-Refused.is
    (c.in-Err.ensures.validated scope type position.before position.following [] is num held))
