use Rattle.std.proofs.Common.{None, Some, option_map, ap, sym, ◌∙◌}
use Rattle.wc_model.specs.Definitions.{member_named, members_of, name_of}
use Rattle.wc_names.specs.Members.{found_seen}
use Rattle.wc_names.proofs.Formals.{input_by, member_spelled, no_input, no_kind, no_member}
use Rattle.wc_names.proofs.formal.formal_of.Goals as goal

pub returns-in_err-member : goal.returns-in_err-member
returns-in_err-member c = λ before u type h e.
    c.from_residual.ensures ∙ no_member c.args.direction before type (member_named (members_of before type) (name_of c.args.name.now)) (sym (ap (option_map found_seen) c.in_err-member.was) ∙ c.member_of.ensures.seen before u type h e)

pub returns-then-not-passes : goal.returns-then-not-passes
returns-then-not-passes c = λ before u type h e.
    no_input c.args.direction before type (member_named (members_of before type) (name_of c.args.name.now)) (found_seen c.in_ok-member.member) (sym (ap (option_map found_seen) c.in_ok-member.was) ∙ c.member_of.ensures.seen before u type h e) (sym c.passes.ensures ∙ c.if-not-passes.true)

pub returns-in_err-kind : goal.returns-in_err-kind
returns-in_err-kind c = λ before u type h e.
    c.from_residual-in_err-kind.ensures ∙ no_kind c.args.direction before type (member_named (members_of before type) (name_of c.args.name.now)) (found_seen c.in_ok-member.member) (sym (ap (option_map found_seen) c.in_ok-member.was) ∙ c.member_of.ensures.seen before u type h e) (sym c.passes.ensures ∙ c.if-not-passes.false) c.in_err-kind.was

pub returns : goal.returns
returns c = λ before u type h e.
    let name = name_of c.args.name.now in
    input_by c.args.direction before type name (member_named (members_of before type) name) (found_seen c.in_ok-member.member) c.in_ok-kind.kind (Some c.in_ok-place.place) (member_spelled (members_of before type) name)
    (sym (ap (option_map found_seen) c.in_ok-member.was) ∙ c.member_of.ensures.seen before u type h e) (sym c.passes.ensures ∙ c.if-not-passes.false) c.in_ok-kind.was
    (sym c.in_ok-place.was ∙ c.in_ok-member.ensures.place before u type h e)

pub returns-in_err-place : goal.returns-in_err-place
returns-in_err-place c = λ before u type h e.
    let name = name_of c.args.name.now in
    c.from_residual-in_err-place.ensures ∙ input_by c.args.direction before type name (member_named (members_of before type) name) (found_seen c.in_ok-member.member) c.in_ok-kind.kind None (member_spelled (members_of before type) name)
    (sym (ap (option_map found_seen) c.in_ok-member.was) ∙ c.member_of.ensures.seen before u type h e) (sym c.passes.ensures ∙ c.if-not-passes.false) c.in_ok-kind.was
    (sym c.in_err-place.was ∙ c.in_ok-member.ensures.place before u type h e)
