use Rattle.std.proofs.Common.{[], sym, subst}
use Rattle.wc_names.specs.RepresentsText.{Represents}
use Rattle.wc_names.proofs.ScopeTables.{at_unit, from_0}
use Rattle.wc_names.proofs.kept.Tables.entity.Goals as goal

pub returns : goal.returns
returns c = λ text scope are is.
    let r = at_unit text [] c.args.self.now.units.items c.args.unit scope are is in
    c.entity.ensures scope (subst (λ ts. Represents ts scope.before scope.unit) (sym c.deref.ensures.value) r.0) (from_0 r.1)
