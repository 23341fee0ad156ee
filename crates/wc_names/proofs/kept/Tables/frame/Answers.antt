use Rattle.wc_model.proofs.Common.{◌≡◌, arith, [], ◌≤◌, length, ap, sym, subst, length-map, IfOk-weaker}
use Rattle.wc_model.specs.Language.Frames.{frame_of, slot_kind_of, slot_kinds}
use Rattle.wc_names.specs.RepresentsText.{Represents}
use Rattle.wc_names.proofs.HandedOn.{handed_on}
use Rattle.wc_names.proofs.ScopeTables.{at_unit, from_0, frame_size}
use Rattle.wc_names.proofs.kept.Tables.frame.Goals as goal

pub returns-clause-kinds : goal.returns-clause-kinds
returns-clause-kinds c = λ text scope are is.
    let r = at_unit text [] c.args.self.now.units.items c.args.unit scope are is in
    let h = subst (λ ts. Represents ts scope.before scope.unit) (sym c.deref.ensures.value) r.0 in
    handed_on _ _ c.slots.result c.or_memory.result c.or_memory.ensures (c.slots.ensures.kinds scope h (from_0 r.1))

pub returns-clause-few : goal.returns-clause-few
returns-clause-few c = λ text scope are is.
    let r = at_unit text [] c.args.self.now.units.items c.args.unit scope are is in
    let h = subst (λ ts. Represents ts scope.before scope.unit) (sym c.deref.ensures.value) r.0 in
    let size = frame_size c.args.self.now.units.items scope r.0 in
    let small = r.0.is.small in
    handed_on _ _ c.slots.result c.or_memory.result c.or_memory.ensures (IfOk-weaker c.slots.result (λ frame. frame.kinds.items ≡ slot_kinds (frame_of scope)) (λ frame. length frame.kinds.items ≤ 4096) (λ frame e. let l = ap length e in let m = length-map (frame_of scope) (λ entry. slot_kind_of entry.1) in omega (arith, l, m, size, small)) (c.slots.ensures.kinds scope h (from_0 r.1)))

pub returns-clause-initials : goal.returns-clause-initials
returns-clause-initials c = λ text scope are is.
    let r = at_unit text [] c.args.self.now.units.items c.args.unit scope are is in
    let h = subst (λ ts. Represents ts scope.before scope.unit) (sym c.deref.ensures.value) r.0 in
    handed_on _ _ c.slots.result c.or_memory.result c.or_memory.ensures (c.slots.ensures.initials scope h (from_0 r.1))
