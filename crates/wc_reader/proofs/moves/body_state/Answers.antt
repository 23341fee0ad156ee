-- Where the token leads says which view the state has.
use Rattle.std.proofs.Common.{Some, IfSome, map, sym, ap, ◌∙◌, subst}
use Rattle.std.specs.Prelude.{option_map}
use Rattle.wc_model.specs.Language.Views.{unit_view}
use Rattle.wc_text_bodies.specs.Views.{IsCounted, position_view}
use Rattle.wc_reader.proofs.moves.body_state.Goals as goal
use Rattle.wc_reader.specs.TextViews.{place_view}

pub returns-in-Some-Within-clause-following : goal.returns-in-Some-Within-clause-following
returns-in-Some-Within-clause-following c =
    sym (ap (λ o. option_map (place_view (position_view (map unit_view c.args.units.now.items) c.args.body)) o) (c.in-Some-Within.is ∙ ap Some c.in-Some-Within.field-0-is))

pub returns-in-Some-Within-clause-counted : goal.returns-in-Some-Within-clause-counted
returns-in-Some-Within-clause-counted c = subst (λ o. IfSome o (λ it. IsCounted c.args.body)) c.in-Some-Within.is c.requires

pub returns-in-Some-InSection-clause-following : goal.returns-in-Some-InSection-clause-following
returns-in-Some-InSection-clause-following c =
    sym (ap (λ o. option_map (place_view (position_view (map unit_view c.args.units.now.items) c.args.body)) o) (c.in-Some-InSection.is ∙ ap Some c.in-Some-InSection.field-0-is))

pub returns-in-Some-AfterUnit-clause-following : goal.returns-in-Some-AfterUnit-clause-following
returns-in-Some-AfterUnit-clause-following c =
    ap Some c.in_ok-end_unit-in-Some-AfterUnit.ensures
    ∙ sym (ap (λ o. option_map (place_view (position_view (map unit_view c.args.units.now.items) c.args.body)) o) (c.in-Some-AfterUnit.is ∙ ap Some c.in-Some-AfterUnit.field-0-is))

pub returns-clause-following : goal.returns-clause-following
returns-clause-following c = sym (ap (λ o. option_map (place_view (position_view (map unit_view c.args.units.now.items) c.args.body)) o) c.in-None.is)
