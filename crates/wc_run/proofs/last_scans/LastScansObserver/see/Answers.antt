use Rattle.wc_run.proofs.Recording.{keeps_scan}
use Rattle.wc_run.proofs.ScaleRows.{on_ok}
use Rattle.wc_run.proofs.last_scans.LastScansObserver.see.Goals as goal

pub returns-clause-seen : goal.returns-clause-seen
returns-clause-seen g c =
    on_ok _ c.write_text.result
    (λ plate logic past shown stood holds.
    keeps_scan c.args.seen.now c.args.self.now.recorder c.keep_scan.new.recorder c.args.self.now.number plate logic past shown c.keep_scan.ensures holds)
