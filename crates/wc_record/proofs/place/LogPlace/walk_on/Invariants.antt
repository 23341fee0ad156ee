use Rattle.wc_record.specs.Cutting.{Passes}
use Rattle.wc_record.proofs.place.LogPlace.walk_on.Given as goal

abbrev pub invariant-loop-index : goal.invariant-loop-index
invariant-loop-index l = Passes l.fn.self l.bytes l.index l.self
