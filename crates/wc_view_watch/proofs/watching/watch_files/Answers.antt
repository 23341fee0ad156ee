use Rattle.std.proofs.Common.{◌≡◌, false, subst}
use Rattle.wc_controller.specs.{RunsAs, writer_of}
use Rattle.wc_record.specs.Reported.{fields_reported}
use Rattle.wc_view_watch.proofs.Observed.{found_name, observed_is, programs_more}
use Rattle.wc_view_watch.proofs.watching.watch_files.Goals as goal
use Rattle.wc_view_watch.specs.{IsFirstUnknown, begins_with, HasRefused}

pub returns-then-is_at_names-clause-unknown : goal.returns-then-is_at_names-clause-unknown
returns-then-is_at_names-clause-unknown g c =
    let names = c.args.choice.names.now in
    let list = c.in-Ok.watcher.list.now in
    let new = c.run_files-ending.new.observer in
    programs_more c.args.inputs.now.program c.args.inputs.now.next (λ logic. (begins_with list logic ≡ false) × HasRefused list new.names logic) (λ logic. IsFirstUnknown names logic c.within.result)
    (λ logic refused. found_name list names logic new.names.unknown c.unknown.result c.within.result c.in-Ok.ensures.watches.0 c.unknown.ensures c.within.ensures.same refused.1)
    (c.run_files-ending.ensures.refused (c.is_at_names.ensures.names c.if-is_at_names.true))

pub returns-clause-runs : goal.returns-clause-runs
returns-clause-runs g c =
    let writer = writer_of g.W.ByteOut.bytes_taken g.W.ByteOut.failure_count in
    subst (λ observed. RunsAs observed c.args.inputs.now c.run_files-ending.new.inputs (fields_reported c.run_files-ending.new.reported) c.run_files-ending.result
    (writer c.args.writer.now) (writer c.run_files-ending.new.writer))
    (observed_is c.in-Ok.watcher c.args.choice.names.now c.args.choice.changes c.args.choice.last c.in-Ok.ensures.watches.0 c.in-Ok.ensures.watches.1 c.in-Ok.ensures.watches.2) c.run_files-ending.ensures.runs
