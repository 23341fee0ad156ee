use Rattle.wc_text_flat.proofs.Counts.{ended_bodies_are_over}
use Rattle.wc_text_flat.proofs.laws.ended_bodies_are_over.Goals as goal

pub returns : goal.returns
returns c = ended_bodies_are_over
