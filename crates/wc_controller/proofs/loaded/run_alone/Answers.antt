use Rattle.std.proofs.Common.{◌≡◌, ◌∙◌, None, refl, rules, subst, sym}
use Rattle.wc_controller.proofs.Allowing.{on_each, on_known}
use Rattle.wc_controller.proofs.Givings.{answered_so, not_started, written_by}
use Rattle.wc_controller.proofs.RefusedNames.{refused_at_names}
use Rattle.wc_controller.proofs.WrittenRuns.{not_begun, run_ended, written_at_log}
use Rattle.wc_controller.proofs.loaded.run_alone.Goals as goal
use Rattle.wc_controller.specs.{WritesUpTo, of_no_cause, raised, answer_written, observed_by, log_by}
use Rattle.wc_model.specs.Run.Log.{log_of}
use Rattle.wc_record.specs.{records_of, fields_reported}
use Rattle.wc_run.specs.{EndsWhole, WritesBy, said_by, start_of, text_in_all}

pub returns-in-Err-clause-writes : goal.returns-in-Err-clause-writes
returns-in-Err-clause-writes g c =
    let o = g.O.Observer in
    let observed = observed_by o.plan o.begins c.args.observer.now in
    on_each (g.L.ByteIn.bytes_left c.args.log.now) _
    (λ bytes. not_started observed c.args.plate.now None (log_of (records_of bytes)) (o.has_refused c.args.observer.now c.begin.new.observer None) c.in-Err.stopped.fault (said_by o.speaks g.W.ByteOut.bytes_taken c.args.writer.now)
    c.in-Err.ensures.refused)

pub returns-in-Ok-clause-writes : goal.returns-in-Ok-clause-writes
returns-in-Ok-clause-writes g c =
    let o = g.O.Observer in
    let plan = o.plan c.args.observer.now in
    let old = said_by o.speaks g.W.ByteOut.bytes_taken c.args.writer.now in
    let new = said_by o.speaks g.W.ByteOut.bytes_taken c.run.new.writer in
    on_known (g.L.ByteIn.bytes_left c.args.log.now) _ _
    (λ bytes reported. answered_so (observed_by o.plan o.begins c.args.observer.now) c.args.plate.now None (log_of (records_of bytes)) (raised c.stopped_at_log.result) old new
    c.in_default.ensures.begins
    (subst (λ why. WritesUpTo (λ one. one ≡ answer_written (text_in_all plan) c.args.plate.now None (log_of (records_of bytes))) why old new) (sym c.stopped_at_log.ensures.fault)
    (written_by plan c.args.plate.now None (log_by None bytes) old new c.run.result
    (subst (λ plan. WritesBy plan c.args.plate.now None (log_by None bytes) c.run.result old new) c.begin.ensures.plan
    (reported (start_of None None (g.W.ByteOut.bytes_taken c.args.writer.now)) c.args.plate.now None (c.in-Ok.ensures.represents None tt)
    (c.in_default.ensures.seen c.args.plate.now, c.in_default.ensures.written c.args.plate.now (g.W.ByteOut.bytes_taken c.args.writer.now)))))))
    c.run.ensures.writes

pub returns-in-Ok-clause-blames : goal.returns-in-Ok-clause-blames
returns-in-Ok-clause-blames g c =
    let o = g.O.Observer in
    let taken = said_by o.speaks g.W.ByteOut.bytes_taken in
    c.stopped_at_log.ensures.blames (o.plan c.begin.new.observer) c.args.plate.now None (fields_reported c.run.new.reported) (g.L.ByteIn.bytes_left c.args.log.now)
    (taken c.args.writer.now) (taken c.run.new.writer)
    (on_known (g.L.ByteIn.bytes_left c.args.log.now) _ _
    (λ bytes reported. reported (start_of None None (g.W.ByteOut.bytes_taken c.args.writer.now)) c.args.plate.now None (c.in-Ok.ensures.represents None tt)
    (c.in_default.ensures.seen c.args.plate.now, c.in_default.ensures.written c.args.plate.now (g.W.ByteOut.bytes_taken c.args.writer.now)))
    c.run.ensures.writes)
    c.run.ensures.reported

pub returns-in-Err-clause-refused : goal.returns-in-Err-clause-refused
returns-in-Err-clause-refused g c = λ at.
    let o = g.O.Observer in
    refused_at_names (o.begins c.args.observer.now None) (o.has_refused c.args.observer.now c.begin.new.observer None) c.in-Err.stopped.fault (sym c.in-Err.ensures.input ∙ at) c.in-Err.ensures.refused

pub returns-in-Err-clause-ended : goal.returns-in-Err-clause-ended
returns-in-Err-clause-ended g c = λ at.
    let o = g.O.Observer in
    not_begun c.in-Err.stopped.fault (o.begins c.args.observer.now None) (o.has_refused c.args.observer.now c.begin.new.observer None) _ c.in-Err.ensures.refused (sym c.in-Err.ensures.input ∙ at)

pub returns-in-Ok-clause-ended : goal.returns-in-Ok-clause-ended
returns-in-Ok-clause-ended g c =
    let o = g.O.Observer in
    let known = g.L.ByteIn.bytes_left c.args.log.now in
    let taken = g.W.ByteOut.bytes_taken c.run.new.writer in
    run_ended (o.has_ended c.run.new.observer (o.settings c.args.observer.now)) (start_of None None (g.W.ByteOut.bytes_taken c.args.writer.now)) c.args.plate.now None (log_by None) c.run.result c.stopped_at_log.result known taken c.stopped_at_log.ensures.fault
    (on_known known _ _
    (λ bytes says. subst (λ settings. EndsWhole (o.has_ended c.run.new.observer settings) (start_of None None (g.W.ByteOut.bytes_taken c.args.writer.now)) c.args.plate.now None (log_by None bytes) c.run.result taken) c.begin.ensures.settings
    (says (start_of None None (g.W.ByteOut.bytes_taken c.args.writer.now)) c.args.plate.now None (c.in-Ok.ensures.represents None tt)
    (c.in_default.ensures.seen c.args.plate.now, c.in_default.ensures.written c.args.plate.now (g.W.ByteOut.bytes_taken c.args.writer.now))))
    c.run.ensures.ended)

pub returns-in-Err-clause-unwritten : goal.returns-in-Err-clause-unwritten
returns-in-Err-clause-unwritten g c = λ elsewhere. refl

pub returns-in-Ok-clause-unwritten : goal.returns-in-Ok-clause-unwritten
returns-in-Ok-clause-unwritten g c =
    written_at_log c.stopped_at_log.result (g.W.ByteOut.bytes_taken c.args.writer.now) (g.W.ByteOut.bytes_taken c.run.new.writer) c.stopped_at_log.ensures.input

pub returns-in-Ok-clause-devices : goal.returns-in-Ok-clause-devices
returns-in-Ok-clause-devices g c = record {
  names = search rules;
  read = λ at. c.run.ensures.faults.read (c.stopped_at_log.ensures.read at);
  memory = λ e. of_no_cause (c.run.ensures.faults.memory (c.stopped_at_log.ensures.memory e));
  reader = c.stopped_at_log.ensures.reader _ _ c.run.ensures.faults.reader;
  failures = c.stopped_at_log.ensures.failures _ _ c.run.ensures.faults.writer;
}
