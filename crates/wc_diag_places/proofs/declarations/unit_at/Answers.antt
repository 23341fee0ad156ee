use Rattle.wc_model.proofs.Common.{◌-◌, ◌∙◌, ap, sym, nat_lt, position_or_len}
use Rattle.wc_diag_places.proofs.Units.{position_mapped}
use Rattle.wc_diag_places.proofs.declarations.unit_at.Goals as goal
use Rattle.wc_model.specs.Definitions.{ProgramUnit, unit_view}
use Rattle.wc_model.specs.declared.source.Unit.{Unit}

pub returns : goal.returns
returns c =
    let place = c.args.place in
    c.saturating_sub.ensures
    ∙ ap (λ n. n - 1)
    (c.units_until.ensures ∙ ap (position_or_len (λ (unit : Unit). nat_lt place unit.line)) c.deref.ensures.value
    ∙ sym (position_mapped unit_view (λ (unit : ProgramUnit). nat_lt place unit.line) c.args.source.now.units.items))
