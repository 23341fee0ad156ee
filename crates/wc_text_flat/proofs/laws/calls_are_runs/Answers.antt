use Rattle.wc_text_flat.proofs.Held.{calls_are_runs}
use Rattle.wc_text_flat.proofs.laws.calls_are_runs.Goals as goal

pub returns : goal.returns
returns c = calls_are_runs
