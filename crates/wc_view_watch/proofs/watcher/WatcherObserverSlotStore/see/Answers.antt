use Rattle.std.proofs.Common.{◌∷◌, ◌∙◌}
use Rattle.wc_run.proofs.ScaleRows.{on_ok}
use Rattle.wc_run.specs.Observing.{row_of}
use Rattle.wc_view_watch.proofs.Observed.{seen_after}
use Rattle.wc_view_watch.proofs.watcher.WatcherObserverSlotStore.see.Goals as goal

pub returns-clause-writes : goal.returns-clause-writes
returns-clause-writes g c = λ plate logic past shown represents before.
    let old = c.args.self.now in
    let fit = c.turn.ensures old.list.now plate logic past before.names in
    rw (c.deref.ensures.value ∙ c.in_ok-put_row.ensures.text plate logic past shown represents fit before.scans before.values) at c.write_text.ensures.writes

pub returns-clause-seen : goal.returns-clause-seen
returns-clause-seen g c =
    on_ok _ c.write_text.result
    (λ plate logic past shown represents before.
    let old = c.args.self.now in
    let fit = c.turn.ensures old.list.now plate logic past before.names in
    seen_after old c.put_row.new.self c.turn.new.self plate logic (row_of c.args.seen.now ∷ past) c.in_ok-put_row.ensures.same.list c.in_ok-put_row.ensures.same.number c.in_ok-put_row.ensures.same.changes c.in_ok-put_row.ensures.names
    fit (c.in_ok-put_row.ensures.scans plate logic past shown represents fit before.scans before.values) (c.in_ok-put_row.ensures.values plate logic past shown represents fit before.scans before.values))
