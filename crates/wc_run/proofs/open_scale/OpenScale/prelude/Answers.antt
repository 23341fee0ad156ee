use Rattle.wc_run.proofs.Feeding.{kept_brings_back}
use Rattle.wc_run.specs.{came_by, state_view}
use Rattle.wc_run.proofs.open_scale.OpenScale.prelude.Goals as goal

pub returns-clause-brings_back : goal.returns-clause-brings_back
returns-clause-brings_back g c plate past program represents =
    kept_brings_back plate past c.kept_state.result.window (state_view c.kept_state.result)
    (c.kept_state.ensures.window plate (came_by past program) represents) (c.kept_state.ensures.state plate (came_by past program) represents)
    represents.is_plate
