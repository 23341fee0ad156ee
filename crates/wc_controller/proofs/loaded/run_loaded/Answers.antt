use Rattle.std.proofs.Common.{◌≡◌, ◌∙◌, [], Some, refl, rules, subst, sym, true}
use Rattle.std.specs.Prelude.{IfSome, is_some, option_map}
use Rattle.wc_controller.proofs.Allowing.{on_each, on_known}
use Rattle.wc_controller.proofs.Blaming.{taken_alongside}
use Rattle.wc_controller.proofs.Givings.{answered_so, next_loaded, next_unloaded, not_started, written_by}
use Rattle.wc_controller.proofs.RefusedNames.{next_refused}
use Rattle.wc_controller.proofs.Unbegun.{elsewhere, not_by_reader, reader_kept, unblamed, writer_kept}
use Rattle.wc_controller.proofs.WrittenRuns.{end_more, next_logic, not_begun, run_ended, written_at_log}
use Rattle.wc_controller.proofs.loaded.run_loaded.Goals as goal
use Rattle.wc_controller.proofs.Blaming.{one_input}
use Rattle.wc_controller.specs.{log_alongside, log_by, observed_by, says_of, RefusesLog, StopsFor, WritesUpTo, raised, of_no_cause, of_unread_log, AnswersPrinting, answer_written}
use Rattle.wc_job.specs.declared.input.Input.TheVariants as input
use Rattle.wc_model.specs.Definitions.{text_view, log_of, first_logic}
use Rattle.wc_record.specs.{records_of, fields_reported}
use Rattle.wc_run.specs.{text_of_next, EndsWhole, WritesBy, RefusesToBegin, bytes_of, logic_of, said_by, start_with, text_in_all}

pub returns-in-Err-clause-writes : goal.returns-in-Err-clause-writes
returns-in-Err-clause-writes g c =
    let o = g.O.Observer in
    on_each (g.L.ByteIn.bytes_left c.args.log.now) _
    (λ bytes. next_unloaded (option_map (λ text. text.now) c.args.programs.next)
    (AnswersPrinting (observed_by o.plan o.begins c.args.observer.now) c.args.programs.plate (log_of (records_of bytes)) (text_view c.args.programs.loaded.source))
    c.in-Err.stopped.fault (said_by o.speaks g.W.ByteOut.bytes_taken c.args.writer.now) c.in-Err.ensures.refused)

pub returns-in-Err-begin-clause-writes : goal.returns-in-Err-begin-clause-writes
returns-in-Err-begin-clause-writes g c =
    let o = g.O.Observer in
    let observed = observed_by o.plan o.begins c.args.observer.now in
    let first = text_view c.args.programs.loaded.source in
    let held = option_map (λ text. text.now) c.args.programs.next in
    let old = said_by o.speaks g.W.ByteOut.bytes_taken c.args.writer.now in
    let why = c.in-Err-begin.stopped.fault in
    let logic = Some (first_logic first (text_of_next c.in-Ok.next)) in
    let refused = subst (λ next. RefusesToBegin (o.begins c.args.observer.now (logic_of (Some c.args.programs.loaded) next)) (o.has_refused c.args.observer.now c.begin.new.observer (logic_of (Some c.args.programs.loaded) next)) why)
    c.next_program.ensures.loaded c.in-Err-begin.ensures.refused in
    on_each (g.L.ByteIn.bytes_left c.args.log.now) _
    (λ bytes. next_loaded held c.in-Ok.next (AnswersPrinting observed c.args.programs.plate (log_of (records_of bytes)) first) (Some why) old old c.in-Ok.ensures.loaded
    (not_started observed c.args.programs.plate logic (log_of (records_of bytes)) (o.has_refused c.args.observer.now c.begin.new.observer logic) why old refused))

pub returns-in-Ok-scale_of-clause-writes : goal.returns-in-Ok-scale_of-clause-writes
returns-in-Ok-scale_of-clause-writes g c =
    let o = g.O.Observer in
    let first = text_view c.args.programs.loaded.source in
    let held = option_map (λ text. text.now) c.args.programs.next in
    let logic = first_logic first (text_of_next c.in-Ok.next) in
    let seen = subst (λ next. o.has_seen c.begin.new.observer c.args.programs.plate (logic_of (Some c.args.programs.loaded) next) []) c.next_program.ensures.loaded (c.in_default.ensures.seen c.args.programs.plate) in
    let bytes = g.W.ByteOut.bytes_taken c.args.writer.now in
    let start = start_with c.args.programs.text.now held bytes in
    let written = subst (λ known. o.has_written c.begin.new.observer (start_with c.args.programs.text.now known bytes) bytes c.args.programs.plate (logic_of (Some c.args.programs.loaded) c.in-Ok.next) []) c.next_program.ensures.text
    (subst (λ next. o.has_written c.begin.new.observer (start_with c.args.programs.text.now (bytes_of c.next_program.result) bytes) bytes c.args.programs.plate (logic_of (Some c.args.programs.loaded) next) []) c.next_program.ensures.loaded
    (c.in_default.ensures.written c.args.programs.plate bytes)) in
    let observed = observed_by o.plan o.begins c.args.observer.now in
    let plate = c.args.programs.plate in
    let plan = o.plan c.args.observer.now in
    let old = said_by o.speaks g.W.ByteOut.bytes_taken c.args.writer.now in
    let new = said_by o.speaks g.W.ByteOut.bytes_taken c.run.new.writer in
    let begins = subst (λ next. o.begins c.args.observer.now (logic_of (Some c.args.programs.loaded) next) ≡ true) c.next_program.ensures.loaded c.in_default.ensures.begins in
    on_known (g.L.ByteIn.bytes_left c.args.log.now) _ _
    (λ bytes reported. next_loaded held c.in-Ok.next (AnswersPrinting observed plate (log_of (records_of bytes)) first) (raised c.stopped_at_log.result) old new c.in-Ok.ensures.loaded
    (answered_so observed plate (Some logic) (log_of (records_of bytes)) (raised c.stopped_at_log.result) old new begins
    (subst (λ why. WritesUpTo (λ one. one ≡ answer_written (text_in_all plan) plate (Some logic) (log_of (records_of bytes))) why old new) (sym c.stopped_at_log.ensures.fault)
    (written_by plan plate (Some logic) (log_by (Some logic) bytes) old new c.run.result
    (subst (λ plan. WritesBy plan plate (Some logic) (log_by (Some logic) bytes) c.run.result old new) c.begin.ensures.plan
    (reported start plate (Some logic) c.in-Ok-scale_of.ensures.represents (seen, written)))))))
    c.run.ensures.writes

pub returns-in-Ok-scale_of-clause-blames_log : goal.returns-in-Ok-scale_of-clause-blames_log
returns-in-Ok-scale_of-clause-blames_log g c =
    let o = g.O.Observer in
    let first = text_view c.args.programs.loaded.source in
    let held = option_map (λ text. text.now) c.args.programs.next in
    let logic = first_logic first (text_of_next c.in-Ok.next) in
    let seen = subst (λ next. o.has_seen c.begin.new.observer c.args.programs.plate (logic_of (Some c.args.programs.loaded) next) []) c.next_program.ensures.loaded (c.in_default.ensures.seen c.args.programs.plate) in
    let bytes = g.W.ByteOut.bytes_taken c.args.writer.now in
    let start = start_with c.args.programs.text.now held bytes in
    let written = subst (λ known. o.has_written c.begin.new.observer (start_with c.args.programs.text.now known bytes) bytes c.args.programs.plate (logic_of (Some c.args.programs.loaded) c.in-Ok.next) []) c.next_program.ensures.text
    (subst (λ next. o.has_written c.begin.new.observer (start_with c.args.programs.text.now (bytes_of c.next_program.result) bytes) bytes c.args.programs.plate (logic_of (Some c.args.programs.loaded) next) []) c.next_program.ensures.loaded
    (c.in_default.ensures.written c.args.programs.plate bytes)) in
    let taken = said_by o.speaks g.W.ByteOut.bytes_taken in
    subst (λ taken. StopsFor input.Log (RefusesLog taken (fields_reported c.run.new.reported)) (g.L.ByteIn.bytes_left c.args.log.now) c.stopped_at_log.result)
    (λ i bytes. taken_alongside held c.in-Ok.next first bytes c.in-Ok.ensures.loaded i)
    (c.stopped_at_log.ensures.blames (o.plan c.begin.new.observer) c.args.programs.plate (Some logic) (fields_reported c.run.new.reported) (g.L.ByteIn.bytes_left c.args.log.now)
    (taken c.args.writer.now) (taken c.run.new.writer)
    (on_known (g.L.ByteIn.bytes_left c.args.log.now) _ _
    (λ bytes reported. reported start c.args.programs.plate (Some logic) c.in-Ok-scale_of.ensures.represents (seen, written)) c.run.ensures.writes)
    c.run.ensures.reported)

pub returns-in-Err-begin-clause-refused : goal.returns-in-Err-begin-clause-refused
returns-in-Err-begin-clause-refused g c = λ at.
    let o = g.O.Observer in
    let first = text_view c.args.programs.loaded.source in
    let held = option_map (λ text. text.now) c.args.programs.next in
    let why = c.in-Err-begin.stopped.fault in
    let refused = subst (λ next. RefusesToBegin (o.begins c.args.observer.now (logic_of (Some c.args.programs.loaded) next)) (o.has_refused c.args.observer.now c.begin.new.observer (logic_of (Some c.args.programs.loaded) next)) why)
    c.next_program.ensures.loaded c.in-Err-begin.ensures.refused in
    next_refused first held c.in-Ok.next (o.begins c.args.observer.now) (o.has_refused c.args.observer.now c.begin.new.observer) why c.in-Ok.ensures.loaded (sym c.in-Err-begin.ensures.input ∙ at) refused

pub returns-in-Err-clause-ended : goal.returns-in-Err-clause-ended
returns-in-Err-clause-ended g c = λ at. absurd (one_input input.Next input.Log c.in-Err.stopped.input c.in-Err.ensures.input at)

pub returns-in-Err-begin-clause-ended : goal.returns-in-Err-begin-clause-ended
returns-in-Err-begin-clause-ended g c = λ at.
    let stopped = c.in-Err-begin.stopped in
    not_begun stopped.fault _ _ _ c.in-Err-begin.ensures.refused (sym c.in-Err-begin.ensures.input ∙ at)

pub returns-in-Ok-scale_of-clause-ended : goal.returns-in-Ok-scale_of-clause-ended
returns-in-Ok-scale_of-clause-ended g c =
    let o = g.O.Observer in
    let first = text_view c.args.programs.loaded.source in
    let held = option_map (λ text. text.now) c.args.programs.next in
    let logic = first_logic first (text_of_next c.in-Ok.next) in
    let seen = subst (λ next. o.has_seen c.begin.new.observer c.args.programs.plate (logic_of (Some c.args.programs.loaded) next) []) c.next_program.ensures.loaded (c.in_default.ensures.seen c.args.programs.plate) in
    let bytes = g.W.ByteOut.bytes_taken c.args.writer.now in
    let start = start_with c.args.programs.text.now held bytes in
    let written = subst (λ known. o.has_written c.begin.new.observer (start_with c.args.programs.text.now known bytes) bytes c.args.programs.plate (logic_of (Some c.args.programs.loaded) c.in-Ok.next) []) c.next_program.ensures.text
    (subst (λ next. o.has_written c.begin.new.observer (start_with c.args.programs.text.now (bytes_of c.next_program.result) bytes) bytes c.args.programs.plate (logic_of (Some c.args.programs.loaded) next) []) c.next_program.ensures.loaded
    (c.in_default.ensures.written c.args.programs.plate bytes)) in
    let plate = c.args.programs.plate in
    let known = g.L.ByteIn.bytes_left c.args.log.now in
    let taken = g.W.ByteOut.bytes_taken c.run.new.writer in
    let ended = o.has_ended c.run.new.observer (o.settings c.args.observer.now) in
    end_more c.stopped_at_log.result _ _
    (λ says. next_logic first held c.in-Ok.next (λ logic. IfSome known (λ bytes. says_of ended taken start plate logic (log_by logic bytes))) c.in-Ok.ensures.loaded says)
    (run_ended ended start plate (Some logic) (log_by (Some logic)) c.run.result c.stopped_at_log.result known taken c.stopped_at_log.ensures.fault
    (on_known known _ _
    (λ bytes says. subst (λ settings. EndsWhole (o.has_ended c.run.new.observer settings) start plate (Some logic) (log_by (Some logic) bytes) c.run.result taken) c.begin.ensures.settings
    (says start plate (Some logic) c.in-Ok-scale_of.ensures.represents (seen, written)))
    c.run.ensures.ended))

pub returns-in-Err-clause-blames_next : goal.returns-in-Err-clause-blames_next
returns-in-Err-clause-blames_next g c = λ at. c.in-Err.ensures.refused

pub returns-in-Err-clause-blames_log : goal.returns-in-Err-clause-blames_log
returns-in-Err-clause-blames_log g c = λ at. absurd (one_input input.Next input.Log c.in-Err.stopped.input c.in-Err.ensures.input at)

pub returns-in-Err-clause-unread : goal.returns-in-Err-clause-unread
returns-in-Err-clause-unread g c = λ at. refl

pub returns-in-Err-clause-refused : goal.returns-in-Err-clause-refused
returns-in-Err-clause-refused g c = λ at. absurd (one_input input.Next input.Names c.in-Err.stopped.input c.in-Err.ensures.input at)

pub returns-in-Err-begin-clause-blames_next : goal.returns-in-Err-begin-clause-blames_next
returns-in-Err-begin-clause-blames_next g c = λ at.
    absurd (elsewhere c.in-Err-begin.stopped.fault input.Next (λ no. no) (λ no. no) (sym c.in-Err-begin.ensures.input ∙ at))

pub returns-in-Err-begin-clause-blames_log : goal.returns-in-Err-begin-clause-blames_log
returns-in-Err-begin-clause-blames_log g c = λ at.
    unblamed c.in-Err-begin.stopped.fault _ _ (log_alongside (is_some (option_map (λ text. text.now) c.args.programs.next))) (fields_reported c.args.reported.now) (g.L.ByteIn.bytes_left c.args.log.now)
    c.in-Err-begin.ensures.refused (sym c.in-Err-begin.ensures.input ∙ at)

pub returns-in-Err-begin-clause-unread : goal.returns-in-Err-begin-clause-unread
returns-in-Err-begin-clause-unread g c = λ at. refl

pub returns-in-Err-begin-clause-held : goal.returns-in-Err-begin-clause-held
returns-in-Err-begin-clause-held g c = λ at. not_by_reader c.in-Err-begin.stopped.fault _ _ c.in-Err-begin.ensures.refused at.1

pub returns-in-Err-clause-unwritten : goal.returns-in-Err-clause-unwritten
returns-in-Err-clause-unwritten g c = λ elsewhere. refl

pub returns-in-Err-begin-clause-unwritten : goal.returns-in-Err-begin-clause-unwritten
returns-in-Err-begin-clause-unwritten g c = λ elsewhere. refl

pub returns-in-Ok-scale_of-clause-unwritten : goal.returns-in-Ok-scale_of-clause-unwritten
returns-in-Ok-scale_of-clause-unwritten g c =
    written_at_log c.stopped_at_log.result (g.W.ByteOut.bytes_taken c.args.writer.now) (g.W.ByteOut.bytes_taken c.run.new.writer) c.stopped_at_log.ensures.input

pub returns-in-Err-clause-devices : goal.returns-in-Err-clause-devices
returns-in-Err-clause-devices g c = record {
  names = λ at. refl;
  read = λ at. absurd (one_input input.Next input.Log c.in-Err.stopped.input c.in-Err.ensures.input at.0);
  memory = λ e. of_unread_log refl;
  reader = λ at. absurd (one_input input.Next input.Log c.in-Err.stopped.input c.in-Err.ensures.input at);
  failures = c.in-Err.ensures.silent (g.W.ByteOut.failure_count c.args.writer.now);
}

pub returns-in-Err-begin-clause-devices : goal.returns-in-Err-begin-clause-devices
returns-in-Err-begin-clause-devices g c = record {
  names = λ at. refl;
  read = λ at. absurd (not_by_reader c.in-Err-begin.stopped.fault _ _ c.in-Err-begin.ensures.refused at.1);
  memory = λ e. of_unread_log refl;
  reader = λ at. reader_kept c.in-Err-begin.stopped.fault (g.L.ByteIn.failure_count c.args.log.now);
  failures = writer_kept c.in-Err-begin.stopped.fault _ _ c.in-Err-begin.ensures.refused (g.W.ByteOut.failure_count c.args.writer.now);
}

pub returns-in-Ok-scale_of-clause-devices : goal.returns-in-Ok-scale_of-clause-devices
returns-in-Ok-scale_of-clause-devices g c = record {
  names = search rules;
  read = λ at. c.run.ensures.faults.read (c.stopped_at_log.ensures.read at);
  memory = λ e. of_no_cause (c.run.ensures.faults.memory (c.stopped_at_log.ensures.memory e));
  reader = c.stopped_at_log.ensures.reader _ _ c.run.ensures.faults.reader;
  failures = c.stopped_at_log.ensures.failures _ _ c.run.ensures.faults.writer;
}
