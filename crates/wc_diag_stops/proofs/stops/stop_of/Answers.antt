use Rattle.std.proofs.Common.{ap}
use Rattle.wc_diag_stops.proofs.Stopped.{nothing_reported}
use Rattle.wc_diag_stops.proofs.stops.stop_of.Goals as goal

pub stopped_at-requires-clause-allowed : goal.stopped_at-requires-clause-allowed
stopped_at-requires-clause-allowed c = nothing_reported c.new-span.result.fault c.new-span.result.expected (ap (λ span. span.expected) c.new-span.ensures)
