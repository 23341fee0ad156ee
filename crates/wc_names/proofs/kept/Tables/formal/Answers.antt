use Rattle.std.proofs.Common.{is_some, [], ap, sym, subst, ◌∙◌}
use Rattle.wc_model.specs.Language.Names.{name_of}
use Rattle.wc_names.specs.RepresentsText.{Represents}
use Rattle.wc_names.proofs.Formals.{formals_numbered}
use Rattle.wc_names.proofs.ScopeTables.{at_unit}
use Rattle.wc_names.proofs.kept.Tables.formal.Goals as goal

pub returns-clause-found : goal.returns-clause-found
returns-clause-found c = λ text unit scope type are is e.
    let r = at_unit text [] c.args.self.now.units.items unit scope are is in
    let h = subst (λ ts. Represents ts scope.before scope.unit) (sym c.deref.ensures.value) r.0 in
    c.formal_of.ensures scope.before scope.unit type h e

pub returns-clause-known : goal.returns-clause-known
returns-clause-known c = λ text unit scope type are is e.
    let r = at_unit text [] c.args.self.now.units.items unit scope are is in
    let h = subst (λ ts. Represents ts scope.before scope.unit) (sym c.deref.ensures.value) r.0 in
    ap is_some (c.formal_of.ensures scope.before scope.unit type h e) ∙ formals_numbered c.args.direction c.deref.result.now scope.before scope.unit h type c.args.declared (name_of c.args.name.now) e
