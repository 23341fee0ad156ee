-- What each line does to the numbers is what its function does.
use Rattle.wc_model.proofs.Common.{w32, rules, refl, subst, ◌∙◌, to_z-of_z}
use Rattle.std.proofs.Math.Dec.{lit<}
use Rattle.wc_execution.proofs.LineParts.{conditional_leaves, jump_leaves, load_number_leaves, open_leaves, open_number_leaves, return_leaves, conditional_there, jump_there, open_number_space, open_space, return_there, block_fits, block_there, call_leaves}
use Rattle.wc_execution.proofs.own_lines.step.Goals as goal
use Rattle.wc_execution.specs.Courses.{IsOwn}

pub returns-in-Standard-clause-leaves : goal.returns-in-Standard-clause-leaves
returns-in-Standard-clause-leaves g c =
    call_leaves c.args.base c.args.now (g.S.Store.slot_kinds c.args.store.now) c.args.current c.args.deferred.now.items (g.S.Store.numbers c.args.store.now) c.args.line.now
    c.in-Standard.block c.in-Standard.at c.on-in-Standard.result (g.S.Store.numbers c.call_standard.new.store) c.in-Standard.is c.call_standard.ensures.called (c.on-in-Standard.ensures.current ∙ (to_z-of_z w32 c.args.current c.ranges.current)) c.on-in-Standard.ensures.course

pub call_standard-requires-clause-there : goal.call_standard-requires-clause-there
call_standard-requires-clause-there g c =
    block_there c.args.base c.args.now (g.S.Store.slot_kinds c.args.store.now) c.args.current c.args.deferred.now.items (g.S.Store.numbers c.args.store.now) c.args.line.now
    c.in-Standard.block c.in-Standard.at c.in-Standard.is c.requires.there

pub overflow_add-base : goal.overflow_add-base
overflow_add-base g c =
    block_fits c.args.base c.args.now (g.S.Store.slot_kinds c.args.store.now) c.args.current c.args.deferred.now.items (g.S.Store.numbers c.args.store.now) c.args.line.now
    c.in-Standard.block c.in-Standard.at c.requires.capacity c.in-Standard.is c.requires.there

pub call_standard-requires-clause-capacity : goal.call_standard-requires-clause-capacity
call_standard-requires-clause-capacity g c = c.requires.capacity

pub call_standard-requires-clause-moment : goal.call_standard-requires-clause-moment
call_standard-requires-clause-moment g c = c.requires.moment

pub call_standard-requires-clause-forward : goal.call_standard-requires-clause-forward
call_standard-requires-clause-forward g c = c.requires.forward

pub returns-in-LoadNumber-clause-kinds : goal.returns-in-LoadNumber-clause-kinds
returns-in-LoadNumber-clause-kinds g c = refl

pub returns-in-LoadNumber-clause-moments : goal.returns-in-LoadNumber-clause-moments
returns-in-LoadNumber-clause-moments g c = c.requires.forward

pub returns-in-Open-clause-kinds : goal.returns-in-Open-clause-kinds
returns-in-Open-clause-kinds g c = refl

pub returns-in-Open-clause-moments : goal.returns-in-Open-clause-moments
returns-in-Open-clause-moments g c = c.requires.forward

pub returns-in-OpenNumber-clause-kinds : goal.returns-in-OpenNumber-clause-kinds
returns-in-OpenNumber-clause-kinds g c = refl

pub returns-in-OpenNumber-clause-moments : goal.returns-in-OpenNumber-clause-moments
returns-in-OpenNumber-clause-moments g c = c.requires.forward

pub returns-in-Jump-clause-kinds : goal.returns-in-Jump-clause-kinds
returns-in-Jump-clause-kinds g c = refl

pub returns-in-Jump-clause-moments : goal.returns-in-Jump-clause-moments
returns-in-Jump-clause-moments g c = c.requires.forward

pub returns-in-Return-clause-kinds : goal.returns-in-Return-clause-kinds
returns-in-Return-clause-kinds g c = refl

pub returns-in-Return-clause-moments : goal.returns-in-Return-clause-moments
returns-in-Return-clause-moments g c = c.requires.forward

pub returns-in-Call-clause-kinds : goal.returns-in-Call-clause-kinds
returns-in-Call-clause-kinds g c = refl

pub returns-in-Call-clause-moments : goal.returns-in-Call-clause-moments
returns-in-Call-clause-moments g c = c.requires.forward

pub returns-in-Standard-clause-kinds : goal.returns-in-Standard-clause-kinds
returns-in-Standard-clause-kinds g c = c.call_standard.ensures.kinds

pub returns-in-Standard-clause-moments : goal.returns-in-Standard-clause-moments
returns-in-Standard-clause-moments g c = c.call_standard.ensures.moments

pub returns-in-Body-clause-kinds : goal.returns-in-Body-clause-kinds
returns-in-Body-clause-kinds g c = refl

pub returns-in-Body-clause-moments : goal.returns-in-Body-clause-moments
returns-in-Body-clause-moments g c = c.requires.forward

pub push-requires : goal.push-requires
push-requires g c =
    (lit< tt, open_space c.args.base c.args.now (g.S.Store.slot_kinds c.args.store.now) c.args.current c.args.deferred.now.items (g.S.Store.numbers c.args.store.now) c.args.line.now c.in-Open.is c.requires.there)

pub push-requires-in-OpenNumber : goal.push-requires-in-OpenNumber
push-requires-in-OpenNumber g c =
    (lit< tt, open_number_space c.args.base c.args.now (g.S.Store.slot_kinds c.args.store.now) c.args.current c.args.deferred.now.items (g.S.Store.numbers c.args.store.now) c.args.line.now c.in-OpenNumber.number c.in-OpenNumber.is c.requires.there)

pub acts-requires : goal.acts-requires
acts-requires g c =
    jump_there c.args.base c.args.now (g.S.Store.slot_kinds c.args.store.now) c.args.current c.args.deferred.now.items (g.S.Store.numbers c.args.store.now) c.args.line.now
    c.in-Jump.condition c.in-Jump.skip _ (to_z-of_z w32 c.args.current c.ranges.current) c.in-Jump.is c.requires.there

pub acts-requires-in-Return : goal.acts-requires-in-Return
acts-requires-in-Return g c =
    return_there c.args.base c.args.now (g.S.Store.slot_kinds c.args.store.now) c.args.current c.args.deferred.now.items (g.S.Store.numbers c.args.store.now) c.args.line.now
    c.in-Return.condition _ (to_z-of_z w32 c.args.current c.ranges.current) c.in-Return.is c.requires.there

pub acts-requires-in-Call : goal.acts-requires-in-Call
acts-requires-in-Call g c =
    conditional_there c.args.base c.args.now (g.S.Store.slot_kinds c.args.store.now) c.args.current c.args.deferred.now.items (g.S.Store.numbers c.args.store.now) c.args.line.now
    c.in-Call.condition c.in-Call.skip _ (to_z-of_z w32 c.args.current c.ranges.current) c.in-Call.is c.requires.there

pub returns-in-LoadNumber-clause-leaves : goal.returns-in-LoadNumber-clause-leaves
returns-in-LoadNumber-clause-leaves g c =
    load_number_leaves c.args.base c.args.now (g.S.Store.slot_kinds c.args.store.now) c.args.current c.args.deferred.now.items (g.S.Store.numbers c.args.store.now) c.args.line.now
    c.in-LoadNumber.number c.on.result c.in-LoadNumber.is (c.on.ensures.current ∙ (to_z-of_z w32 c.in-LoadNumber.number (search rules))) c.on.ensures.course

pub returns-in-Jump-clause-leaves : goal.returns-in-Jump-clause-leaves
returns-in-Jump-clause-leaves g c =
    jump_leaves c.args.base c.args.now (g.S.Store.slot_kinds c.args.store.now) c.args.current c.args.deferred.now.items (g.S.Store.numbers c.args.store.now) c.args.line.now
    c.in-Jump.condition c.in-Jump.skip _ c.acts.result c.over.result (to_z-of_z w32 c.args.current c.ranges.current) c.in-Jump.is c.acts.ensures (c.over.ensures.current ∙ (to_z-of_z w32 c.args.current c.ranges.current)) c.over.ensures.course

pub returns-in-Return-clause-leaves : goal.returns-in-Return-clause-leaves
returns-in-Return-clause-leaves g c =
    return_leaves c.args.base c.args.now (g.S.Store.slot_kinds c.args.store.now) c.args.current c.args.deferred.now.items (g.S.Store.numbers c.args.store.now) c.args.line.now
    c.in-Return.condition _ c.acts-in-Return.result c.out.result (to_z-of_z w32 c.args.current c.ranges.current) c.in-Return.is c.acts-in-Return.ensures (c.out.ensures.current ∙ (to_z-of_z w32 c.args.current c.ranges.current)) c.out.ensures.course

pub returns-in-Call-clause-leaves : goal.returns-in-Call-clause-leaves
returns-in-Call-clause-leaves g c =
    conditional_leaves c.args.base c.args.now (g.S.Store.slot_kinds c.args.store.now) c.args.current c.args.deferred.now.items (g.S.Store.numbers c.args.store.now) c.args.line.now
    c.in-Call.condition c.in-Call.skip _ c.acts-in-Call.result c.over-in-Call.result (to_z-of_z w32 c.args.current c.ranges.current) c.in-Call.is c.acts-in-Call.ensures (c.over-in-Call.ensures.current ∙ (to_z-of_z w32 c.args.current c.ranges.current)) c.over-in-Call.ensures.course

pub returns-in-Open-clause-leaves : goal.returns-in-Open-clause-leaves
returns-in-Open-clause-leaves g c =
    open_leaves c.args.base c.args.now (g.S.Store.slot_kinds c.args.store.now) c.args.current c.args.deferred.now.items (g.S.Store.numbers c.args.store.now) c.args.line.now
    _ c.on-in-Open.result c.push.new.self.items (to_z-of_z w32 c.args.current c.ranges.current) c.in-Open.is c.requires.there c.push.ensures.items c.on-in-Open.ensures.course

pub returns-in-OpenNumber-clause-leaves : goal.returns-in-OpenNumber-clause-leaves
returns-in-OpenNumber-clause-leaves g c =
    open_number_leaves c.args.base c.args.now (g.S.Store.slot_kinds c.args.store.now) c.args.current c.args.deferred.now.items (g.S.Store.numbers c.args.store.now) c.args.line.now
    c.in-OpenNumber.number _ c.on-in-OpenNumber.result c.push-in-OpenNumber.new.self.items (to_z-of_z w32 c.args.current c.ranges.current) c.in-OpenNumber.is c.requires.there c.push-in-OpenNumber.ensures.items
    (c.on-in-OpenNumber.ensures.current ∙ (to_z-of_z w32 c.in-OpenNumber.number (search rules))) c.on-in-OpenNumber.ensures.course

pub returns-in-Body-clause-leaves : goal.returns-in-Body-clause-leaves
returns-in-Body-clause-leaves g c =
    absurd (subst (λ l. IsOwn l) c.in-Body.is c.requires.own)
