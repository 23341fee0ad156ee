use Rattle.std.proofs.Common.{subst}
use Rattle.wc_controller.specs.{RunsAs, writer_of, EndsSaying}
use Rattle.wc_cut.proofs.CutAgain.{cut_again}
use Rattle.wc_cut.proofs.LogAgain.{is_log_again}
use Rattle.wc_cut.proofs.Plans.{observed_is}
use Rattle.wc_cut.proofs.ReadBack.{is_read_back}
use Rattle.wc_cut.proofs.TooMany.{counted, is_reported, reports}
use Rattle.wc_cut.proofs.cutting.cut_files.Goals as goal
use Rattle.wc_cut.specs.Cuts.{cut_observed}
use Rattle.wc_record.specs.Reported.{fields_reported}

pub returns-clause-runs : goal.returns-clause-runs
returns-clause-runs g c =
    let writer = writer_of g.W.ByteOut.bytes_taken g.W.ByteOut.failure_count in
    let run = c.run_files-ending in
    subst (λ ending. RunsAs (cut_observed c.args.count) c.args.inputs.now run.new.inputs (fields_reported run.new.reported) ending
    (writer c.args.writer.now) (writer run.new.writer))
    (is_reported run.result _ c.ending_or_too_many.result c.ending_or_too_many.ensures)
    (subst (λ observed. RunsAs observed c.args.inputs.now run.new.inputs (fields_reported run.new.reported) run.result
    (writer c.args.writer.now) (writer run.new.writer))
    (observed_is c.args.count c.new-cutter.result.count c.new-cutter.ensures.count) run.ensures.runs)

pub returns-clause-too_many : goal.returns-clause-too_many
returns-clause-too_many g c =
    let run = c.run_files-ending in
    let taken = g.W.ByteOut.bytes_taken in
    reports c.args.count run.new.observer c.args.inputs.now (taken c.args.writer.now) (taken run.new.writer) run.result c.ending_or_too_many.result
    c.ending_or_too_many.ensures
    (subst (λ n. EndsSaying (counted run.new.observer n) c.args.inputs.now run.result (taken c.args.writer.now) (taken run.new.writer)) c.new-cutter.ensures.count run.ensures.ended)

pub returns-clause-again : goal.returns-clause-again
returns-clause-again g c = cut_again

pub returns-clause-read : goal.returns-clause-read
returns-clause-read g c = is_read_back

pub returns-clause-log : goal.returns-clause-log
returns-clause-log g c = is_log_again
