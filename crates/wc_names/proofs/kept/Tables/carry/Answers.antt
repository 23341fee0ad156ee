use Rattle.std.proofs.Common.{[], sym, subst, ◌∙◌}
use Rattle.wc_names.specs.RepresentsText.{Represents}
use Rattle.wc_names.proofs.CarriedPlaces.{address_kept, own_frame, path_at, path_kept}
use Rattle.wc_names.proofs.ScopeTables.{at_unit, from_0}
use Rattle.wc_names.proofs.kept.Tables.carry.Goals as goal

pub returns-then-place-lt-DIRECT_VARIABLES-clause-carried : goal.returns-then-place-lt-DIRECT_VARIABLES-clause-carried
returns-then-place-lt-DIRECT_VARIABLES-clause-carried c = λ text scope old_text old_scope are is program old_are old_is old_program within.
    address_kept scope old_scope c.args.place.0 program old_program c.if-place-lt-DIRECT_VARIABLES.true

pub returns-clause-carried : goal.returns-clause-carried
returns-clause-carried c = λ text scope old_text old_scope are is program old_are old_is old_program within.
    let r = at_unit text [] c.args.self.now.units.items c.args.unit scope are is in
    let old = at_unit old_text [] c.args.old.now.units.items c.args.old_unit old_scope old_are old_is in
    let h = subst (λ ts. Represents ts scope.before scope.unit) (sym c.deref.ensures.value) r.0 in
    let o = subst (λ ts. Represents ts old_scope.before old_scope.unit) (sym c.deref-2.ensures.value) old.0 in
    let at = path_at scope c.args.place.0 program c.if-place-lt-DIRECT_VARIABLES.false within in
    c.place_at.ensures.number ∙ c.kept_number.ensures scope.before scope.unit old_scope.before old_scope.unit at.entry h (from_0 r.1) o (from_0 old.1) at.least at.there ∙ path_kept scope old_scope c.args.place.0 at

pub returns-then-place-lt-DIRECT_VARIABLES-clause-own : goal.returns-then-place-lt-DIRECT_VARIABLES-clause-own
returns-then-place-lt-DIRECT_VARIABLES-clause-own c = λ text scope entry are is program there.
    own_frame c.args.self.now.units.items scope (at_unit text [] c.args.self.now.units.items c.args.unit scope are is).0 program c.args.place.0 entry there

pub returns-clause-own : goal.returns-clause-own
returns-clause-own c = λ text scope entry are is program there.
    own_frame c.args.self.now.units.items scope (at_unit text [] c.args.self.now.units.items c.args.unit scope are is).0 program c.args.place.0 entry there
