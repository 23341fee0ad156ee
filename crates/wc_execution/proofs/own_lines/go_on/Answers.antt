-- What each line that goes on does to the numbers is what its function does.
use Rattle.wc_model.proofs.Common.{w32, rules, refl, ◌∙◌, to_z-of_z}
use Rattle.std.proofs.Math.Dec.{lit<}
use Rattle.wc_execution.proofs.BlockFields.{narrow_same}
use Rattle.wc_execution.proofs.LineParts.{open_place_leaves, open_place_space, apply_number_leaves, apply_place_there, apply_there, close_leaves, close_there, flip_leaves, flip_there, open_place_there, read_there, load_there, put_there, pass_there, write_there, load_leaves, put_leaves, pass_leaves, write_leaves, apply_leaves}
use Rattle.wc_execution.proofs.own_lines.go_on.Goals as goal

pub load-requires-clause-there : goal.load-requires-clause-there
load-requires-clause-there g c =
    load_there c.args.base c.args.now (g.S.Store.slot_kinds c.args.store.now) c.args.current c.args.deferred.now.items (g.S.Store.numbers c.args.store.now) c.args.line.now
    c.in-LoadPlace.negated c.in-LoadPlace.place c.in-LoadPlace.is c.requires.there

pub put-requires-clause-there : goal.put-requires-clause-there
put-requires-clause-there g c =
    put_there c.args.base c.args.now (g.S.Store.slot_kinds c.args.store.now) c.args.current c.args.deferred.now.items (g.S.Store.numbers c.args.store.now) c.args.line.now
    c.in-Store.storing c.in-Store.target _ (to_z-of_z w32 c.args.current c.ranges.current) c.in-Store.is c.requires.there

pub pass-requires-clause-there : goal.pass-requires-clause-there
pass-requires-clause-there g c =
    pass_there c.args.base c.args.now (g.S.Store.slot_kinds c.args.store.now) c.args.current c.args.deferred.now.items (g.S.Store.numbers c.args.store.now) c.args.line.now
    c.in-ArgumentPlace.place c.in-ArgumentPlace.target c.in-ArgumentPlace.is c.requires.there

pub returns-in-LoadPlace-clause-leaves : goal.returns-in-LoadPlace-clause-leaves
returns-in-LoadPlace-clause-leaves g c =
    load_leaves c.args.base c.args.now (g.S.Store.slot_kinds c.args.store.now) c.args.current c.args.deferred.now.items (g.S.Store.numbers c.args.store.now) c.args.line.now
    c.in-LoadPlace.negated c.in-LoadPlace.place c.on.result c.load.result c.in-LoadPlace.is c.load.ensures (c.on.ensures.current ∙ (narrow_same c.load.result c.load.type_inv)) c.on.ensures.course

pub returns-in-Store-clause-leaves : goal.returns-in-Store-clause-leaves
returns-in-Store-clause-leaves g c =
    put_leaves c.args.base c.args.now (g.S.Store.slot_kinds c.args.store.now) c.args.current c.args.deferred.now.items (g.S.Store.numbers c.args.store.now) c.args.line.now
    c.in-Store.storing c.in-Store.target _ c.on-in-Store.result (g.S.Store.numbers c.put.new.store) (to_z-of_z w32 c.args.current c.ranges.current) c.in-Store.is c.put.ensures.numbers c.on-in-Store.ensures.current c.on-in-Store.ensures.course

pub returns-in-ArgumentPlace-clause-leaves : goal.returns-in-ArgumentPlace-clause-leaves
returns-in-ArgumentPlace-clause-leaves g c =
    pass_leaves c.args.base c.args.now (g.S.Store.slot_kinds c.args.store.now) c.args.current c.args.deferred.now.items (g.S.Store.numbers c.args.store.now) c.args.line.now
    c.in-ArgumentPlace.place c.in-ArgumentPlace.target c.on-in-ArgumentPlace.result (g.S.Store.numbers c.pass.new.store) c.in-ArgumentPlace.is c.pass.ensures.numbers (c.on-in-ArgumentPlace.ensures.current ∙ (to_z-of_z w32 c.args.current c.ranges.current)) c.on-in-ArgumentPlace.ensures.course

pub returns-in-Store-clause-moments : goal.returns-in-Store-clause-moments
returns-in-Store-clause-moments g c =
    c.put.ensures.moments c.args.now c.requires.forward

pub returns-in-ArgumentNumber-clause-moments : goal.returns-in-ArgumentNumber-clause-moments
returns-in-ArgumentNumber-clause-moments g c =
    c.write.ensures.moments c.args.now c.requires.forward

pub returns-in-ArgumentPlace-clause-moments : goal.returns-in-ArgumentPlace-clause-moments
returns-in-ArgumentPlace-clause-moments g c =
    c.pass.ensures.moments c.args.now c.requires.forward

pub returns-in-ApplyPlace-clause-leaves : goal.returns-in-ApplyPlace-clause-leaves
returns-in-ApplyPlace-clause-leaves g c =
    apply_leaves c.args.base c.args.now (g.S.Store.slot_kinds c.args.store.now) c.args.current c.args.deferred.now.items (g.S.Store.numbers c.args.store.now) c.args.line.now
    c.in-ApplyPlace.operator c.in-ApplyPlace.place c.on-in-ApplyPlace.result c.read-operand.result _ _ c.apply_number-in-ApplyPlace.result c.in-ApplyPlace.is c.read-operand.ensures
    (to_z-of_z w32 c.args.current c.ranges.current) (narrow_same c.read-operand.result c.read-operand.type_inv) c.apply_number-in-ApplyPlace.ensures (c.on-in-ApplyPlace.ensures.current ∙ (narrow_same c.apply_number-in-ApplyPlace.result c.apply_number-in-ApplyPlace.type_inv)) c.on-in-ApplyPlace.ensures.course

pub write-requires-clause-there : goal.write-requires-clause-there
write-requires-clause-there g c =
    write_there c.args.base c.args.now (g.S.Store.slot_kinds c.args.store.now) c.args.current c.args.deferred.now.items (g.S.Store.numbers c.args.store.now) c.args.line.now
    c.in-ArgumentNumber.target c.in-ArgumentNumber.number _ (to_z-of_z w32 c.in-ArgumentNumber.number (search rules)) c.in-ArgumentNumber.is c.requires.there

pub returns-in-ArgumentNumber-clause-leaves : goal.returns-in-ArgumentNumber-clause-leaves
returns-in-ArgumentNumber-clause-leaves g c =
    write_leaves c.args.base c.args.now (g.S.Store.slot_kinds c.args.store.now) c.args.current c.args.deferred.now.items (g.S.Store.numbers c.args.store.now) c.args.line.now
    c.in-ArgumentNumber.target c.in-ArgumentNumber.number _ c.on-in-ArgumentNumber.result (g.S.Store.numbers c.write.new.store) (to_z-of_z w32 c.in-ArgumentNumber.number (search rules)) c.in-ArgumentNumber.is c.write.ensures.numbers (c.on-in-ArgumentNumber.ensures.current ∙ (to_z-of_z w32 c.args.current c.ranges.current)) c.on-in-ArgumentNumber.ensures.course

pub read-operand-requires-clause-there : goal.read-operand-requires-clause-there
read-operand-requires-clause-there g c =
    read_there c.args.base c.args.now (g.S.Store.slot_kinds c.args.store.now) c.args.current c.args.deferred.now.items (g.S.Store.numbers c.args.store.now) c.args.line.now
    c.in-ApplyPlace.operator c.in-ApplyPlace.place c.in-ApplyPlace.is c.requires.there

pub load-requires-clause-capacity : goal.load-requires-clause-capacity
load-requires-clause-capacity g c = c.requires.capacity

pub put-requires-clause-capacity : goal.put-requires-clause-capacity
put-requires-clause-capacity g c = c.requires.capacity

pub read-operand-requires-clause-capacity : goal.read-operand-requires-clause-capacity
read-operand-requires-clause-capacity g c = c.requires.capacity

pub read-inner-requires-clause-capacity : goal.read-inner-requires-clause-capacity
read-inner-requires-clause-capacity g c = c.requires.capacity

pub write-requires-clause-capacity : goal.write-requires-clause-capacity
write-requires-clause-capacity g c = c.requires.capacity

pub pass-requires-clause-capacity : goal.pass-requires-clause-capacity
pass-requires-clause-capacity g c = c.requires.capacity

pub returns-in-LoadPlace-clause-kinds : goal.returns-in-LoadPlace-clause-kinds
returns-in-LoadPlace-clause-kinds g c = refl

pub returns-in-LoadPlace-clause-moments : goal.returns-in-LoadPlace-clause-moments
returns-in-LoadPlace-clause-moments g c = c.requires.forward

pub returns-in-Store-clause-kinds : goal.returns-in-Store-clause-kinds
returns-in-Store-clause-kinds g c = c.put.ensures.kinds

pub returns-in-ApplyNumber-clause-kinds : goal.returns-in-ApplyNumber-clause-kinds
returns-in-ApplyNumber-clause-kinds g c = refl

pub returns-in-ApplyNumber-clause-moments : goal.returns-in-ApplyNumber-clause-moments
returns-in-ApplyNumber-clause-moments g c = c.requires.forward

pub returns-in-ApplyPlace-clause-kinds : goal.returns-in-ApplyPlace-clause-kinds
returns-in-ApplyPlace-clause-kinds g c = refl

pub returns-in-ApplyPlace-clause-moments : goal.returns-in-ApplyPlace-clause-moments
returns-in-ApplyPlace-clause-moments g c = c.requires.forward

pub returns-in-Not-clause-kinds : goal.returns-in-Not-clause-kinds
returns-in-Not-clause-kinds g c = refl

pub returns-in-Not-clause-moments : goal.returns-in-Not-clause-moments
returns-in-Not-clause-moments g c = c.requires.forward

pub returns-in-OpenPlace-clause-kinds : goal.returns-in-OpenPlace-clause-kinds
returns-in-OpenPlace-clause-kinds g c = refl

pub returns-in-OpenPlace-clause-moments : goal.returns-in-OpenPlace-clause-moments
returns-in-OpenPlace-clause-moments g c = c.requires.forward

pub returns-in-Close-clause-kinds : goal.returns-in-Close-clause-kinds
returns-in-Close-clause-kinds g c = refl

pub returns-in-Close-clause-moments : goal.returns-in-Close-clause-moments
returns-in-Close-clause-moments g c = c.requires.forward

pub returns-in-ArgumentNumber-clause-kinds : goal.returns-in-ArgumentNumber-clause-kinds
returns-in-ArgumentNumber-clause-kinds g c = c.write.ensures.kinds

pub returns-in-ArgumentPlace-clause-kinds : goal.returns-in-ArgumentPlace-clause-kinds
returns-in-ArgumentPlace-clause-kinds g c = c.pass.ensures.kinds

pub apply_number-requires : goal.apply_number-requires
apply_number-requires g c =
    apply_there c.args.base c.args.now (g.S.Store.slot_kinds c.args.store.now) c.args.current c.args.deferred.now.items (g.S.Store.numbers c.args.store.now) c.args.line.now
    c.in-ApplyNumber.operator c.in-ApplyNumber.number _ _ (to_z-of_z w32 c.args.current c.ranges.current) (to_z-of_z w32 c.in-ApplyNumber.number (search rules)) c.in-ApplyNumber.is c.requires.there

pub returns-in-ApplyNumber-clause-leaves : goal.returns-in-ApplyNumber-clause-leaves
returns-in-ApplyNumber-clause-leaves g c =
    apply_number_leaves c.args.base c.args.now (g.S.Store.slot_kinds c.args.store.now) c.args.current c.args.deferred.now.items (g.S.Store.numbers c.args.store.now) c.args.line.now
    c.in-ApplyNumber.operator _ _ c.in-ApplyNumber.number c.apply_number.result c.on-in-ApplyNumber.result (to_z-of_z w32 c.args.current c.ranges.current) (to_z-of_z w32 c.in-ApplyNumber.number (search rules)) c.in-ApplyNumber.is c.apply_number.ensures
    (c.on-in-ApplyNumber.ensures.current ∙ (narrow_same c.apply_number.result c.apply_number.type_inv)) c.on-in-ApplyNumber.ensures.course

pub apply_number-requires-in-ApplyPlace : goal.apply_number-requires-in-ApplyPlace
apply_number-requires-in-ApplyPlace g c =
    apply_place_there c.args.base c.args.now (g.S.Store.slot_kinds c.args.store.now) c.args.current c.args.deferred.now.items (g.S.Store.numbers c.args.store.now) c.args.line.now
    c.in-ApplyPlace.operator c.in-ApplyPlace.place c.read-operand.result _ _ (to_z-of_z w32 c.args.current c.ranges.current) (narrow_same c.read-operand.result c.read-operand.type_inv) c.read-operand.ensures c.in-ApplyPlace.is c.requires.there

pub negated_number-requires : goal.negated_number-requires
negated_number-requires g c =
    flip_there c.args.base c.args.now (g.S.Store.slot_kinds c.args.store.now) c.args.current c.args.deferred.now.items (g.S.Store.numbers c.args.store.now) c.args.line.now
    _ (to_z-of_z w32 c.args.current c.ranges.current) c.in-Not.is c.requires.there

pub returns-in-Not-clause-leaves : goal.returns-in-Not-clause-leaves
returns-in-Not-clause-leaves g c =
    flip_leaves c.args.base c.args.now (g.S.Store.slot_kinds c.args.store.now) c.args.current c.args.deferred.now.items (g.S.Store.numbers c.args.store.now) c.args.line.now
    _ c.negated_number.result c.on-in-Not.result (to_z-of_z w32 c.args.current c.ranges.current) c.in-Not.is c.negated_number.ensures (c.on-in-Not.ensures.current ∙ (narrow_same c.negated_number.result c.negated_number.type_inv)) c.on-in-Not.ensures.course

pub read-inner-requires-clause-there : goal.read-inner-requires-clause-there
read-inner-requires-clause-there g c =
    open_place_there c.args.base c.args.now (g.S.Store.slot_kinds c.args.store.now) c.args.current c.args.deferred.now.items (g.S.Store.numbers c.args.store.now) c.args.line.now
    c.in-OpenPlace.place c.in-OpenPlace.is c.requires.there

pub close-requires : goal.close-requires
close-requires g c =
    close_there c.args.base c.args.now (g.S.Store.slot_kinds c.args.store.now) c.args.current c.args.deferred.now.items (g.S.Store.numbers c.args.store.now) c.args.line.now
    c.in-Close.operator _ (to_z-of_z w32 c.args.current c.ranges.current) c.in-Close.is c.requires.there

pub returns-in-Close-clause-leaves : goal.returns-in-Close-clause-leaves
returns-in-Close-clause-leaves g c =
    close_leaves c.args.base c.args.now (g.S.Store.slot_kinds c.args.store.now) c.args.current c.args.deferred.now.items (g.S.Store.numbers c.args.store.now) c.args.line.now
    c.in-Close.operator _ _ c.on-in-Close.result c.close.new.deferred.items (to_z-of_z w32 c.args.current c.ranges.current) c.in-Close.is c.close.ensures (c.on-in-Close.ensures.current ∙ (narrow_same c.close.result c.close.type_inv)) c.on-in-Close.ensures.course

pub push-requires : goal.push-requires
push-requires g c = (
  lit< tt,
  open_place_space c.args.base c.args.now (g.S.Store.slot_kinds c.args.store.now) c.args.current c.args.deferred.now.items (g.S.Store.numbers c.args.store.now) c.args.line.now
      c.in-OpenPlace.place c.read-inner.result c.read-inner.ensures c.in-OpenPlace.is c.requires.there,
)

pub returns-in-OpenPlace-clause-leaves : goal.returns-in-OpenPlace-clause-leaves
returns-in-OpenPlace-clause-leaves g c =
    open_place_leaves c.args.base c.args.now (g.S.Store.slot_kinds c.args.store.now) c.args.current c.args.deferred.now.items (g.S.Store.numbers c.args.store.now) c.args.line.now
    c.in-OpenPlace.place c.read-inner.result _ c.on-in-OpenPlace.result c.push.new.self.items (to_z-of_z w32 c.args.current c.ranges.current) c.read-inner.ensures c.in-OpenPlace.is c.requires.there c.push.ensures.items
    (c.on-in-OpenPlace.ensures.current ∙ (narrow_same c.read-inner.result c.read-inner.type_inv)) c.on-in-OpenPlace.ensures.course
