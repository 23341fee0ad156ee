use Rattle.std.proofs.Common.{[], map, ap, sym, subst, ◌∙◌}
use Rattle.wc_model.specs.Definitions.{number_of_path, name_of}
use Rattle.wc_names.specs.RepresentsText.{Represents}
use Rattle.wc_names.proofs.OwnNumbers.{own_number}
use Rattle.wc_names.proofs.ScopeTables.{at_unit, from_0, frame_path}
use Rattle.wc_names.proofs.kept.Tables.place.Goals as goal

pub returns-in-Address-clause-number : goal.returns-in-Address-clause-number
returns-in-Address-clause-number c = λ text scope are is.
    let r = at_unit text [] c.args.self.now.units.items c.args.unit scope are is in
    let h = subst (λ ts. Represents ts scope.before scope.unit) (sym c.deref.ensures.value) r.0 in
    c.place_at.ensures.number ∙ c.address.ensures scope h (from_0 r.1) ∙ sym (ap (number_of_path scope) c.in-Address.is)

pub returns-in-Names-clause-number : goal.returns-in-Names-clause-number
returns-in-Names-clause-number c = λ text scope are is.
    let r = at_unit text [] c.args.self.now.units.items c.args.unit scope are is in
    let h = subst (λ ts. Represents ts scope.before scope.unit) (sym c.deref-in-Names.ensures.value) r.0 in
    c.place_at-in-Names.ensures.number ∙ c.number.ensures scope.before scope.unit h (from_0 r.1) ∙ sym (frame_path scope (map (λ n. name_of n.now) c.in-Names.names.now)) ∙ sym (ap (number_of_path scope) c.in-Names.is)

pub returns-in-Address-clause-own : goal.returns-in-Address-clause-own
returns-in-Address-clause-own c = λ text scope other are is. own_number scope c.args.path.now other c.place_at.result (returns-in-Address-clause-number c text scope are is)

pub returns-in-Names-clause-own : goal.returns-in-Names-clause-own
returns-in-Names-clause-own c = λ text scope other are is. own_number scope c.args.path.now other c.place_at-in-Names.result (returns-in-Names-clause-number c text scope are is)
