use Rattle.wc_model.proofs.Common.{◌≡◌, List, sym, ap, subst, ◌∙◌, ◌∷◌, [], ◌++◌, if◌then◌else◌}
use Rattle.wc_model.specs.Definitions.{formal_named, Assignment, members_of, name_of, assignment_view}
use Rattle.wc_model.specs.Language.Checks.{Position, first_broken}
use Rattle.wc_verify.specs.Seeing.{HoldsNames}
use Rattle.wc_verify.proofs.Calling.{argument_found, formal_parts, on_ok, one_more, is_new}
use Rattle.wc_verify.proofs.calls.validate_argument.Goals as goal

pub returns-clause-validated : goal.returns-clause-validated
returns-clause-validated c = λ scope type before following rest is num held.
    let position : Position Assignment = record { before = before; item = assignment_view c.args.argument.now; following = following } in
    let seen = c.see-seen.ensures scope is in
    c.refuse.ensures.validates _ (first_broken rest)
    (argument_found scope (members_of scope.before type) position c.in-Some.formal.kind c.validate_actual-found.result
    (formal_parts scope type (formal_named c.args.argument.now.direction (members_of scope.before type) (name_of c.args.argument.now.name.now)) c.in-Some.formal (c.in-Some.ensures.found is.text c.args.unit scope type is.tables_are is.unit_is num))
    (is_new c.args.names.now before (name_of c.args.argument.now.name.now) held c.in_ok-new.new c.in_ok-new.ensures.new c.if-not-new.false)
    (λ m kind. c.validate_actual-found.ensures scope m seen kind) c.args.line rest)

pub returns-clause-held : goal.returns-clause-held
returns-clause-held c = on_ok c.refuse.result ((before : List Assignment) → HoldsNames c.args.names.now before → HoldsNames c.add.new.self (assignment_view c.args.argument.now ∷ before))
    (λ before held. let more : c.add.new.self ≡ c.args.names.now ++ name_of c.args.argument.now.name.now ∷ [] = c.in_ok-new.ensures.names ∙ ap (λ b. if b then c.args.names.now ++ name_of c.args.argument.now.name.now ∷ [] else c.args.names.now) c.if-not-new.false in
    subst (λ names. HoldsNames names (assignment_view c.args.argument.now ∷ before)) (sym more) (one_more c.args.names.now before (assignment_view c.args.argument.now) held))
