use Rattle.wc_view_trace.proofs.Traced.{at_first}
use Rattle.wc_view_trace.proofs.tracer.TracerObserverSlotStore.begin.Goals as goal

pub returns-clause-written : goal.returns-clause-written
returns-clause-written g c = λ plate taken.
    at_first _ _ c.args.first c.args.next taken plate c.in_ok-self.ensures.legend c.in_ok-self-2.ensures.legend
    (record { scans = c.requires.scans; shown = c.requires.shown; unchanged = c.requires.unchanged })
