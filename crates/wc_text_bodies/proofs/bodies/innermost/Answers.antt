use Rattle.std.proofs.Common.{[], ap, ◌∙◌}
use Rattle.wc_text_bodies.proofs.Openings.{opened-append}
use Rattle.wc_text_bodies.specs.Views.{openings_view}
use Rattle.wc_text_bodies.proofs.bodies.innermost.Goals as goal

pub returns-in-Some : goal.returns-in-Some
returns-in-Some c =
    (openings_view [] c.in-Some.field-0-1.now, ap (openings_view []) c.in-Some.ensures.cases.0 ∙ opened-append [] c.in-Some.field-0-1.now c.in-Some.last.now)
