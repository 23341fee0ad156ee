use Rattle.std.proofs.Common.{◌≡◌, ap, refl, sym, subst, true}
use Rattle.std.specs.Prelude.{Option, Some, None, Ok, is_some}
use Rattle.wc_controller.proofs.Allowing.{sections_run}
use Rattle.wc_controller.proofs.BlamingParts.{plate_part, program_part, run_part}
use Rattle.wc_controller.proofs.Givings.{in_memory, logged, unloaded, upto_more}
use Rattle.wc_controller.proofs.RefusedNames.{none_refused}
use Rattle.wc_controller.proofs.answering.answer_sections.Goals as goal
use Rattle.wc_controller.specs.{RefusesLog, StopsAsPart, WritesUpTo, AnswersLog, AnswersPrinting, AllowsSections, log_alongside}
use Rattle.wc_job.specs.declared.input.Input.TheVariants as input
use Rattle.wc_job.specs.Views.{sections_view}
use Rattle.wc_model.specs.Definitions.{text_view, PlateData, Text, LogOf, log_of, AnswersNext, AnswersPrograms, JobAnswer, loads_program, run_answer}
use Rattle.wc_record.specs.{records_of, fields_reported}
use Rattle.wc_run.specs.{text_in_all, report_plan}
use Rattle.wc_run.specs.declared.fault.RunFault.TheVariants as fault

-- the answers to a log of an observer that prints its report
abbrev printing : PlateData → LogOf → Text → Option Text → JobAnswer → Type 0
printing plate log first = AnswersPrinting (record { written = text_in_all report_plan; begins = λ logic. true }) plate log first

pub returns-in-Err-load_input-clause-writes : goal.returns-in-Err-load_input-clause-writes
returns-in-Err-load_input-clause-writes g c =
    let old = g.W.ByteOut.bytes_taken c.args.writer.now in
    let sections = sections_view c.args.sections in
    let log = log_of (records_of c.args.sections.log.now) in
    let why = c.in-Err-load_input.stopped.fault in
    upto_more (AnswersPrograms (λ logic. run_answer c.in-Ok.plate logic log) c.args.sections.program.now sections.next) (AllowsSections sections) (Some why) old old
    (sections_run sections c.in-Ok.plate c.in-Ok.ensures.verdict)
    (unloaded c.args.sections.program.now (λ text. AnswersNext sections.next (AnswersLog c.in-Ok.plate log text)) why old c.in-Err-load_input.ensures.refused)

pub returns-in-Ok-run_loaded-clause-writes : goal.returns-in-Ok-run_loaded-clause-writes
returns-in-Ok-run_loaded-clause-writes g c =
    let old = g.W.ByteOut.bytes_taken c.args.writer.now in
    let new = g.W.ByteOut.bytes_taken c.run_loaded.new.writer in
    let sections = sections_view c.args.sections in
    let first = text_view c.in-Ok-load_input.loaded.source in
    upto_more (AnswersNext sections.next (AnswersLog c.in-Ok.plate (log_of (records_of c.args.sections.log.now)) first)) (AllowsSections sections) None old new
    (λ one h. sections_run sections c.in-Ok.plate c.in-Ok.ensures.verdict one (loads_program first c.in-Ok-load_input.ensures.loaded h))
    (logged sections.next c.in-Ok.plate (log_of (records_of c.args.sections.log.now)) first None old new
    (subst (λ log. WritesUpTo (AnswersNext sections.next (printing c.in-Ok.plate (log_of (records_of log)) first)) None old new) (ap (λ log. log.now) c.new-reader.ensures.inner) c.in-Ok-run_loaded.ensures.writes))

pub returns-clause-writes : goal.returns-clause-writes
returns-clause-writes g c =
    let old = g.W.ByteOut.bytes_taken c.args.writer.now in
    let new = g.W.ByteOut.bytes_taken c.run_loaded.new.writer in
    let sections = sections_view c.args.sections in
    let first = text_view c.in-Ok-load_input.loaded.source in
    let why = c.in-Err-run_loaded.stopped.fault in
    subst (λ fault. WritesUpTo (AllowsSections sections) (Some fault) old new) (sym c.stopped_in_memory.ensures.fault)
    (in_memory (AllowsSections sections) why old new
    (upto_more (AnswersNext sections.next (AnswersLog c.in-Ok.plate (log_of (records_of c.args.sections.log.now)) first)) (AllowsSections sections) (Some why) old new
    (λ one h. sections_run sections c.in-Ok.plate c.in-Ok.ensures.verdict one (loads_program first c.in-Ok-load_input.ensures.loaded h))
    (logged sections.next c.in-Ok.plate (log_of (records_of c.args.sections.log.now)) first (Some why) old new
    (subst (λ log. WritesUpTo (AnswersNext sections.next (printing c.in-Ok.plate (log_of (records_of log)) first)) (Some why) old new) (ap (λ log. log.now) c.new-reader.ensures.inner) c.in-Err-run_loaded.ensures.writes))))

pub returns-in-Err-clause-blames : goal.returns-in-Err-clause-blames
returns-in-Err-clause-blames g c =
    subst (λ why. StopsAsPart (fields_reported c.args.reported.now) (Ok (sections_view c.args.sections)) input.Plate why) (sym c.from.ensures)
    (plate_part (fields_reported c.args.reported.now) (sections_view c.args.sections) c.in-Err.fault c.in-Err.ensures.verdict)

pub returns-in-Err-load_input-clause-blames : goal.returns-in-Err-load_input-clause-blames
returns-in-Err-load_input-clause-blames g c =
    let reported = fields_reported c.args.reported.now in
    let sections = sections_view c.args.sections in
    let stopped = c.in-Err-load_input.stopped in
    subst (λ at. StopsAsPart reported (Ok sections) at stopped.fault) (sym c.in-Err-load_input.ensures.input) (program_part reported sections stopped.fault c.in-Err-load_input.ensures.refused)

pub returns-in-Err-load_input-clause-held : goal.returns-in-Err-load_input-clause-held
returns-in-Err-load_input-clause-held g c = λ e.
    let stopped = c.in-Err-load_input.stopped in
    let same : stopped.fault ≡ fault.Read = cc in
    c.in-Err-load_input.ensures.held stopped.input (refl, same)

pub returns-clause-blames : goal.returns-clause-blames
returns-clause-blames g c =
    let reported = fields_reported c.run_loaded.new.reported in
    let sections = sections_view c.args.sections in
    let first = text_view c.in-Ok-load_input.loaded.source in
    let stopped = c.in-Err-run_loaded.stopped in
    let said = c.in-Err-run_loaded.ensures in
    let blames_log = subst (λ log. stopped.input ≡ input.Log → RefusesLog (log_alongside (is_some sections.next)) reported log stopped.fault) (ap (λ log. log.now) c.new-reader.ensures.inner) said.blames_log in
    subst (λ at. StopsAsPart reported (Ok sections) at c.stopped_in_memory.result.fault) (sym c.stopped_in_memory.ensures.input)
    (subst (λ why. StopsAsPart reported (Ok sections) stopped.input why) (sym c.stopped_in_memory.ensures.fault)
    (run_part reported sections stopped.input stopped.fault said.blames_next blames_log said.later (λ at. none_refused first sections.next _ (said.refused at))))
