use Rattle.wc_model.proofs.Common.{◌≡◌, ◌+◌, ◌-◌, [], false, true, drop, map, length, subst, sym, ◌∙◌, arith, drop_all}
use Rattle.wc_model.specs.Definitions.{name_of, assignment_view}
use Rattle.wc_cost.specs.{ArePassable, AddsPassed}
use Rattle.wc_cost.proofs.Assigned.{is_other, is_same, none_passed, one_passed, other_passed, passable_from}
use Rattle.wc_names.proofs.Lists.{from_index}
use Rattle.wc_cost.proofs.arguments.put_arguments.Goals as goal

pub loop-index-init : goal.loop-index-init
loop-index-init c = λ scope is may.
    let end : drop (length c.args.arguments.now) c.args.arguments.now ≡ [] = drop_all (length c.args.arguments.now) c.args.arguments.now (omega arith) in
    subst (λ xs. AddsPassed c.args.direction scope (name_of c.args.instance.now) c.args.line (map assignment_view xs) c.args.flat.now c.args.flat.now) (sym end) (none_passed c.args.direction scope (name_of c.args.instance.now) c.args.line c.args.flat.now)

pub loop-index-preserved-in_default : goal.loop-index-preserved-in_default
loop-index-preserved-in_default c = λ scope is may. absurd (omega (arith, c.in_default.ensures.lookup.3, c.loop-index.auto.index, c.loop-index-test.true))

pub loop-index-preserved-then-not-goes : goal.loop-index-preserved-then-not-goes
loop-index-preserved-then-not-goes c = λ scope is may.
    let items = c.args.arguments.now in
    let i = c.loop-index.index - 1 in
    let instance = name_of c.args.instance.now in
    let a = assignment_view c.in-Some.last.now in
    let next : i + 1 ≡ c.loop-index.index = omega (arith, c.loop-index-test.true) in
    let cut = from_index items i c.in-Some.last.now c.in-Some.ensures.lookup.3.0 c.in-Some.ensures.lookup.1 in
    let so_far = subst (λ k. AddsPassed c.args.direction scope instance c.args.line (map assignment_view (drop k items)) c.args.flat.now c.loop-index.flat) (sym next) (c.loop-index.invariant scope is may) in
    subst (λ xs. AddsPassed c.args.direction scope instance c.args.line (map assignment_view xs) c.args.flat.now c.loop-index.flat) (sym cut)
    (other_passed c.args.direction scope instance c.args.line a (map assignment_view (drop (i + 1) items)) c.args.flat.now c.loop-index.flat (is_other a.direction c.args.direction (sym c.goes.ensures ∙ c.if-not-goes.true)) so_far)

pub loop-index-preserved : goal.loop-index-preserved
loop-index-preserved c = λ scope is may.
    let items = c.args.arguments.now in
    let i = c.loop-index.index - 1 in
    let instance = name_of c.args.instance.now in
    let a = assignment_view c.in-Some.last.now in
    let next : i + 1 ≡ c.loop-index.index = omega (arith, c.loop-index-test.true) in
    let cut = from_index items i c.in-Some.last.now c.in-Some.ensures.lookup.3.0 c.in-Some.ensures.lookup.1 in
    let here = subst (λ xs. ArePassable scope instance (map assignment_view xs)) cut (passable_from assignment_view scope instance i items may) in
    let so_far = subst (λ k. AddsPassed c.args.direction scope instance c.args.line (map assignment_view (drop k items)) c.args.flat.now c.loop-index.flat) (sym next) (c.loop-index.invariant scope is may) in
    subst (λ xs. AddsPassed c.args.direction scope instance c.args.line (map assignment_view xs) c.args.flat.now c.put.new.self) (sym cut)
    (one_passed c.args.direction scope instance c.args.line a (map assignment_view (drop (i + 1) items)) c.args.flat.now c.loop-index.flat c.put.new.self c.passing_line-code.result
    (is_same a.direction c.args.direction (sym c.goes.ensures ∙ c.if-not-goes.false)) (c.passing_line-code.ensures scope is here.0) so_far c.in_ok-put.ensures)

pub returns : goal.returns
returns c = λ scope is may.
    let end : c.loop-index.index ≡ 0 = omega (arith, c.loop-index-test.false) in
    subst (λ i. AddsPassed c.args.direction scope (name_of c.args.instance.now) c.args.line (map assignment_view (drop i c.args.arguments.now)) c.args.flat.now c.loop-index.flat) end (c.loop-index.invariant scope is may)
