use Rattle.std.proofs.Common.{nat_lt, option_map, sym, ap, subst, ◌∙◌}
use Rattle.wc_model.specs.Language.Names.{name_of}
use Rattle.wc_verify.specs.Instructions.{AsksAhead}
use Rattle.wc_verify.proofs.BodySteps.{ahead_counted}
use Rattle.wc_verify.proofs.bodies.is_ahead.Goals as goal

pub returns-in-Some : goal.returns-in-Some
returns-in-Some c = λ following counts.
    subst (λ o. AsksAhead (option_map (λ t. name_of t.now) o) (nat_lt 0 c.row.result.ahead) following) (sym c.in-Some.is)
    (ap (λ row. nat_lt 0 row.ahead) c.row.ensures ∙ ap (nat_lt 0) (counts (name_of c.in-Some.name.now)) ∙ ahead_counted (name_of c.in-Some.name.now) following)
