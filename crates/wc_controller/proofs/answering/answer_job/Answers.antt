use Rattle.wc_controller.proofs.Allowing.{on_known}
use Rattle.wc_controller.proofs.BlamingParts.{blamed_part}
use Rattle.wc_controller.proofs.Givings.{ends, read_fault_reported}
use Rattle.wc_controller.proofs.answering.answer_job.Goals as goal
use Rattle.wc_controller.specs.Files.{Allows}
use Rattle.wc_record.specs.Reported.{fields_reported}
use Rattle.wc_model.specs.Run.JobSections.{sections_of}

pub returns-clause-ends : goal.returns-clause-ends
returns-clause-ends g c =
    let taken = g.W.ByteOut.bytes_taken in
    on_known (g.R.ByteIn.bytes_left c.args.reader.now) _ _
    (λ bytes upto. ends (Allows bytes) c.answer_input-answer.result c.end.result (taken c.args.writer.now) (taken c.answer_input-answer.new.writer) (taken c.end.new.writer)
    upto c.end.ensures.ends) c.answer_input-answer.ensures.writes

pub returns-clause-own : goal.returns-clause-own
returns-clause-own g c = λ input reported.
    let taken = g.W.ByteOut.bytes_taken in
    c.answer_input-answer.ensures.own input
    (read_fault_reported input c.answer_input-answer.result c.end.result (taken c.answer_input-answer.new.writer) (taken c.end.new.writer) c.end.ensures.ends reported)

pub returns-clause-blames : goal.returns-clause-blames
returns-clause-blames g c =
    let taken = g.W.ByteOut.bytes_taken in
    on_known (g.R.ByteIn.bytes_left c.args.reader.now) _ _
    (λ bytes reported. blamed_part (fields_reported c.answer_input-answer.new.reported) (sections_of bytes) c.answer_input-answer.result c.end.result (taken c.answer_input-answer.new.writer) (taken c.end.new.writer) c.end.ensures.ends reported)
    c.answer_input-answer.ensures.blames
