use Rattle.wc_model.proofs.Common.{◌≡◌, ◌++◌, ◌∷◌, [], not, refl, rules, ap, ◌∙◌, if◌then◌else◌}
use Rattle.wc_model.specs.Language.Views.{name_view}
use Rattle.wc_declare.proofs.UnitsSoFar.{units_more}
use Rattle.wc_declare.proofs.unit.add_unit.Goals as goal

pub returns-in_ok-add-in-Ok-clause-added : goal.returns-in_ok-add-in-Ok-clause-added
returns-in_ok-add-in-Ok-clause-added c = λ text before unit units named fresh is.
    let old = c.args.units.now in
    let name = name_view c.args.name in
    let more : c.push.new.self.items ≡ old.tables.items ++ c.args.table ∷ [] = search rules in
    units_more text before unit old (record { blocks = old.blocks; names = c.add.new.self; tables = c.push.new.self }) c.args.table name units named fresh is refl
    (c.in_ok-add-in-Ok.ensures.names ∙ ap (λ b. if b then old.names ++ name ∷ [] else old.names) (c.in_ok-add-in-Ok.ensures.new ∙ ap not fresh))
    more
