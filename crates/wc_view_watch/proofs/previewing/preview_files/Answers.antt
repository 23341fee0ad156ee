use Rattle.wc_controller.proofs.Allowing.{on_known}
use Rattle.wc_controller.proofs.Blaming.{blamed}
use Rattle.wc_controller.proofs.Givings.{ends}
use Rattle.wc_controller.specs.Blames.{RefusesProgram}
use Rattle.wc_job.specs.declared.input.Input.TheVariants as input
use Rattle.wc_view_watch.specs.Previews.{AnswersPreview}
use Rattle.wc_view_watch.proofs.previewing.preview_files.Goals as goal

pub returns-clause-ends : goal.returns-clause-ends
returns-clause-ends g c =
    let taken = g.W.ByteOut.bytes_taken in
    on_known (g.T.ByteIn.bytes_left c.args.program.now) _ _
    (λ text reported. on_known (g.N.ByteIn.bytes_left c.args.next.now) _ _
    (λ other upto. ends (AnswersPreview c.args.paths text other) c.preview_inputs-answer.result c.end.result (taken c.args.writer.now) (taken c.preview_inputs-answer.new.writer) (taken c.end.new.writer)
    upto c.end.ensures.ends) reported) c.preview_inputs-answer.ensures.writes

pub returns-clause-blames_program : goal.returns-clause-blames_program
returns-clause-blames_program g c =
    blamed input.Program RefusesProgram (g.T.ByteIn.bytes_left c.args.program.now) c.preview_inputs-answer.result c.end.result
    (g.W.ByteOut.bytes_taken c.preview_inputs-answer.new.writer) (g.W.ByteOut.bytes_taken c.end.new.writer) c.end.ensures.ends c.preview_inputs-answer.ensures.blames_program

pub returns-clause-blames_next : goal.returns-clause-blames_next
returns-clause-blames_next g c =
    blamed input.Next RefusesProgram (g.N.ByteIn.bytes_left c.args.next.now) c.preview_inputs-answer.result c.end.result
    (g.W.ByteOut.bytes_taken c.preview_inputs-answer.new.writer) (g.W.ByteOut.bytes_taken c.end.new.writer) c.end.ensures.ends c.preview_inputs-answer.ensures.blames_next
