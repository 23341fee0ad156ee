use Rattle.std.proofs.Common.{sym, subst}
use Rattle.wc_controller.proofs.Allowing.{on_known}
use Rattle.wc_controller.proofs.Givings.{gives, gives_more}
use Rattle.wc_controller.proofs.Frames.{answers_in_frames}
use Rattle.wc_controller.proofs.HeadlineRuns.{job_by_headline}
use Rattle.wc_controller.proofs.answering.job.Goals as goal
use Rattle.wc_controller.specs.{AnswersByTheHeadline, Allows, Gives}
use Rattle.wc_laws_loading.proofs.JobLaws.{one_answer}
use Rattle.wc_plate.specs.TomlTable.{table_read}
use Rattle.wc_record.specs.Reading.{records_of}

pub returns-clause-gives : goal.returns-clause-gives
returns-clause-gives g c =
    let old = g.W.ByteOut.bytes_taken c.args.writer.now in
    let new = g.W.ByteOut.bytes_taken c.answer_job.new.writer in
    on_known (g.R.ByteIn.bytes_left c.args.reader.now) _ _
    (λ bytes reported. subst (λ status. Gives (Allows bytes) status old new) (sym c.status.ensures) (gives (Allows bytes) c.answer_job.result old new reported)) c.answer_job.ensures.ends

pub returns-clause-replay : goal.returns-clause-replay
returns-clause-replay g c = one_answer table_read records_of

pub returns-clause-headline : goal.returns-clause-headline
returns-clause-headline g c =
    let old = g.W.ByteOut.bytes_taken c.args.writer.now in
    let new = g.W.ByteOut.bytes_taken c.answer_job.new.writer in
    on_known (g.R.ByteIn.bytes_left c.args.reader.now) _ _
    (λ bytes given. gives_more (Allows bytes) (AnswersByTheHeadline bytes) c.status.result old new (job_by_headline bytes) given) (returns-clause-gives g c)

pub returns-clause-frames : goal.returns-clause-frames
returns-clause-frames g c = answers_in_frames
