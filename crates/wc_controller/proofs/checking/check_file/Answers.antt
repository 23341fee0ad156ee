use Rattle.wc_controller.proofs.Allowing.{on_known}
use Rattle.wc_controller.proofs.Givings.{ends}
use Rattle.wc_controller.proofs.checking.check_file.Goals as goal
use Rattle.wc_controller.specs.Files.{AnswersCheckFile}

pub returns-clause-ends : goal.returns-clause-ends
returns-clause-ends g c =
    let taken = g.W.ByteOut.bytes_taken in
    on_known (g.T.ByteIn.bytes_left c.args.program.now) _ _
    (λ bytes upto. ends (AnswersCheckFile c.args.paths bytes) c.check_input-answer.result c.end.result (taken c.args.writer.now) (taken c.check_input-answer.new.writer)
    (taken c.end.new.writer) upto c.end.ensures.ends) c.check_input-answer.ensures.writes
