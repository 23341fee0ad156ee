use Rattle.std.proofs.Common.{◌∙◌}
use Rattle.wc_view_watch.proofs.Observed.{end_is}
use Rattle.wc_view_watch.proofs.watcher.WatcherObserverSlotStore.end.Goals as goal
use Rattle.wc_view_watch.specs.Plans.{scans_so_far}

pub returns-clause-writes : goal.returns-clause-writes
returns-clause-writes g c = λ plate logic past seen.
    let old = c.args.self.now in
    rw (c.deref.ensures.value
    ∙ end_is old plate logic past c.put_end.new.self.text.items (c.in_ok-put_end.ensures.text (scans_so_far old.list.now old.changes plate logic past) seen.scans)) at c.write_text.ensures.writes
