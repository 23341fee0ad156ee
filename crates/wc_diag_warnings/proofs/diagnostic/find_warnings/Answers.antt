use Rattle.wc_model.proofs.Common.{◌≡◌, ◌+◌, ◌∷◌, ◌++◌, append_assoc, ap, drop, map, sym, ◌∙◌, drop_more, flat_map}
use Rattle.wc_model.specs.Language.Views.{unit_view}
use Rattle.wc_diag_warnings.specs.{warnings_view, unit_warnings}
use Rattle.wc_diag_warnings.proofs.diagnostic.find_warnings.Goals as goal

pub loop-unit-preserved : goal.loop-unit-preserved
loop-unit-preserved c =
    let units = c.deref-unit-items.result.now in
    let unit = c.unit-item.result in
    let i = c.loop-unit.unit-index in
    let found = warnings_view c.loop-unit.warnings.items in
    let rest = flat_map unit_warnings (map unit_view (drop (i + 1) units)) in
    let left : drop i units ≡ unit ∷ drop (i + 1) units =
    drop_more units i unit c.loop-unit-test.true ∙ ap (λ u. u ∷ drop (i + 1) units) (sym c.unit-item.is) in
    ap (λ l. l ++ rest) c.in-Ok.ensures.added ∙ append_assoc found (unit_warnings (unit_view unit)) rest
    ∙ sym (ap (λ us. found ++ flat_map unit_warnings (map unit_view us)) left) ∙ c.loop-unit.invariant
