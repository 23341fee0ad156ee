use Rattle.std.proofs.Common.{ap}
use Rattle.wc_record.specs.Views.{head_data_view}
use Rattle.wc_run.specs.Observing.{row_of}
use Rattle.wc_view_watch.proofs.Rows.{changed}
use Rattle.wc_view_watch.proofs.watched_names.WatchedNames.turn.Goals as goal

pub returns-in-Change : goal.returns-in-Change
returns-in-Change c = λ list plate logic past fit.
    changed c.args.self.now c.change.new.self list plate logic past (row_of c.args.seen.now)
    (ap (λ kind. head_data_view c.args.seen.now.bytes.now kind) c.in-Change.is)
    (λ text next looked. c.change.ensures list text next looked) fit
