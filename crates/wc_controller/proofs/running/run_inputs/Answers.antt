use Rattle.std.proofs.Common.{◌≡◌, List, ℕ, false, subst}
use Rattle.std.specs.Prelude.{IfErr, IfSome, Option, Some, is_some, option_map}
use Rattle.wc_controller.proofs.RefusedNames.{alone_read, programs_read}
use Rattle.wc_controller.proofs.Blaming.{one_input}
use Rattle.wc_controller.proofs.WrittenRuns.{end_more, run_read, start_alone, start_read, stopped_before, unwritten_still}
use Rattle.wc_controller.proofs.RunSteps.{at_line, at_log, at_next, at_plate, at_program, at_text}
use Rattle.wc_controller.proofs.running.run_inputs.Goals as goal
use Rattle.wc_controller.specs.{IsNextUnloaded, IsUnloaded, RefusesLog, StopsFor, ReportsMemory, WritesUpTo, raised, AnswersPrinting, RunsUpTo, InputStates, inputs_of, observed_by, optional_of, reader_of, writer_of, AreReadOf, OfLogic, OfPrograms, log_alongside, log_by, OfRun, OnEnd, says_of}
use Rattle.wc_job.specs.declared.input.Input.TheVariants as input
use Rattle.wc_model.specs.Definitions.{IsLoaded, text_view, log_of, AnswersNext, Logic}
use Rattle.wc_record.specs.{records_of, fields_reported}
use Rattle.wc_run.proofs.HandedOn.{propagated}
use Rattle.wc_run.specs.Observing.{Start, said_by, start_with}
use Rattle.wc_run.specs.declared.fault.RunFault.TheVariants as fault

pub returns-in_err-plate-clause-runs : goal.returns-in_err-plate-clause-runs
returns-in_err-plate-clause-runs g c =
    let plate = reader_of g.P.ByteIn.bytes_left g.P.ByteIn.failure_count g.P.ByteIn.spent_count in
    let program = optional_of g.T.ByteIn.bytes_left g.T.ByteIn.failure_count g.T.ByteIn.spent_count c.inputs.inside.program in
    let next = optional_of g.N.ByteIn.bytes_left g.N.ByteIn.failure_count g.N.ByteIn.spent_count c.inputs.inside.next in
    let log = reader_of g.L.ByteIn.bytes_left g.L.ByteIn.failure_count g.L.ByteIn.spent_count c.inputs.inside.log in
    let writer = writer_of (said_by g.O.Observer.speaks g.W.ByteOut.bytes_taken) g.W.ByteOut.failure_count c.args.writer.now in
    let observed = observed_by g.O.Observer.plan g.O.Observer.begins c.args.observer.now in
    let reported = fields_reported c.args.reported.now in
    let after = inputs_of (plate c.read_plate.new.reader) program next log in
    subst (λ before. RunsUpTo observed before after reported c.from_residual.result writer writer) c.inputs.view_is
    (propagated (λ r. RunsUpTo observed (inputs_of (plate c.inputs.inside.plate) program next log) after reported r writer writer) c.in_err-plate.field-0.0 c.from_residual.result c.from_residual.ensures
    (at_plate observed reported (plate c.inputs.inside.plate) (plate c.read_plate.new.reader) program program next next log c.in_err-plate.field-0.0 writer
    c.in_err-plate.ensures.input c.in_err-plate.ensures.plate c.in_err-plate.ensures.failures c.in_err-plate.ensures.taken (c.in_err-plate.ensures.silent (g.W.ByteOut.failure_count c.args.writer.now))))

pub returns-in_err-read-clause-runs : goal.returns-in_err-read-clause-runs
returns-in_err-read-clause-runs g c =
    let plate = reader_of g.P.ByteIn.bytes_left g.P.ByteIn.failure_count g.P.ByteIn.spent_count in
    let program = optional_of g.T.ByteIn.bytes_left g.T.ByteIn.failure_count g.T.ByteIn.spent_count in
    let next = optional_of g.N.ByteIn.bytes_left g.N.ByteIn.failure_count g.N.ByteIn.spent_count c.inputs.inside.next in
    let log = reader_of g.L.ByteIn.bytes_left g.L.ByteIn.failure_count g.L.ByteIn.spent_count c.inputs.inside.log in
    let writer = writer_of (said_by g.O.Observer.speaks g.W.ByteOut.bytes_taken) g.W.ByteOut.failure_count c.args.writer.now in
    let observed = observed_by g.O.Observer.plan g.O.Observer.begins c.args.observer.now in
    let reported = fields_reported c.args.reported.now in
    let after = inputs_of (plate c.read_plate.new.reader) (program c.read_optional.new.reader) next log in
    subst (λ before. RunsUpTo observed before after reported c.from_residual-in_err-read.result writer writer) c.inputs.view_is
    (propagated (λ r. RunsUpTo observed (inputs_of (plate c.inputs.inside.plate) (program c.inputs.inside.program) next log) after reported r writer writer) c.in_err-read.field-0.0 c.from_residual-in_err-read.result c.from_residual-in_err-read.ensures
    (at_program observed reported (plate c.inputs.inside.plate) (plate c.read_plate.new.reader) (program c.inputs.inside.program) (program c.read_optional.new.reader) next next log c.in_err-read.field-0.0 writer
    c.in_ok-plate.plate c.in_ok-plate.ensures.plate (c.in_ok-plate.ensures.failures.1 (λ none. none)) c.in_ok-plate.ensures.taken
    c.in_err-read.ensures.input c.in_err-read.ensures.too_long c.in_err-read.ensures.there c.in_err-read.ensures.failures c.in_err-read.ensures.taken))

pub returns-in-None-clause-runs : goal.returns-in-None-clause-runs
returns-in-None-clause-runs g c =
    let plate = reader_of g.P.ByteIn.bytes_left g.P.ByteIn.failure_count g.P.ByteIn.spent_count in
    let program = optional_of g.T.ByteIn.bytes_left g.T.ByteIn.failure_count g.T.ByteIn.spent_count in
    let next = optional_of g.N.ByteIn.bytes_left g.N.ByteIn.failure_count g.N.ByteIn.spent_count c.inputs.inside.next in
    let log = reader_of g.L.ByteIn.bytes_left g.L.ByteIn.failure_count g.L.ByteIn.spent_count in
    let writer = writer_of (said_by g.O.Observer.speaks g.W.ByteOut.bytes_taken) g.W.ByteOut.failure_count in
    let observed = observed_by g.O.Observer.plan g.O.Observer.begins c.args.observer.now in
    let reported = fields_reported c.run_alone.new.reported in
    let after = inputs_of (plate c.read_plate.new.reader) (program c.read_optional.new.reader) next (log c.run_alone.new.log) in
    let read = c.in_ok-read.ensures in
    let said = c.run_alone.ensures in
    subst (λ before. RunsUpTo observed before after reported c.run_alone.result (writer c.args.writer.now) (writer c.run_alone.new.writer)) c.inputs.view_is
    (at_line observed reported (plate c.inputs.inside.plate) (plate c.read_plate.new.reader) (program c.inputs.inside.program) (program c.read_optional.new.reader) next (log c.inputs.inside.log) (log c.run_alone.new.log)
    c.in_ok-plate.plate c.in_ok-plate.ensures.plate (c.in_ok-plate.ensures.failures.1 (λ none. none)) c.in_ok-plate.ensures.taken (read.failures.1 (λ none. none)) read.taken
    c.run_alone.result (writer c.args.writer.now) (writer c.run_alone.new.writer)
    (subst (λ (text : Option _). AreReadOf (program c.inputs.inside.program) (option_map (λ held. held.items) text)) c.in-None.is read.whole)
    said.writes said.later said.no_next said.devices.names said.blames said.devices.read said.devices.memory said.devices.reader said.devices.failures)

pub returns-in_err-loaded-clause-runs : goal.returns-in_err-loaded-clause-runs
returns-in_err-loaded-clause-runs g c =
    let plate = reader_of g.P.ByteIn.bytes_left g.P.ByteIn.failure_count g.P.ByteIn.spent_count in
    let program = optional_of g.T.ByteIn.bytes_left g.T.ByteIn.failure_count g.T.ByteIn.spent_count in
    let next = optional_of g.N.ByteIn.bytes_left g.N.ByteIn.failure_count g.N.ByteIn.spent_count c.inputs.inside.next in
    let log = reader_of g.L.ByteIn.bytes_left g.L.ByteIn.failure_count g.L.ByteIn.spent_count c.inputs.inside.log in
    let writer = writer_of (said_by g.O.Observer.speaks g.W.ByteOut.bytes_taken) g.W.ByteOut.failure_count c.args.writer.now in
    let observed = observed_by g.O.Observer.plan g.O.Observer.begins c.args.observer.now in
    let reported = fields_reported c.args.reported.now in
    let read = c.in_ok-read.ensures in
    let stopped = c.in_err-loaded.field-0.0 in
    let after = inputs_of (plate c.read_plate.new.reader) (program c.read_optional.new.reader) next log in
    subst (λ before. RunsUpTo observed before after reported c.from_residual-in_err-loaded.result writer writer) c.inputs.view_is
    (propagated (λ r. RunsUpTo observed (inputs_of (plate c.inputs.inside.plate) (program c.inputs.inside.program) next log) after reported r writer writer) stopped c.from_residual-in_err-loaded.result c.from_residual-in_err-loaded.ensures
    (at_text observed reported (plate c.inputs.inside.plate) (plate c.read_plate.new.reader) (program c.inputs.inside.program) (program c.read_optional.new.reader) next next log stopped writer
    c.in_ok-plate.plate c.in_ok-plate.ensures.plate (c.in_ok-plate.ensures.failures.1 (λ none. none)) c.in_ok-plate.ensures.taken (read.failures.1 (λ none. none)) read.taken
    c.in-Some.text.items (subst (λ (text : Option _). AreReadOf (program c.inputs.inside.program) (option_map (λ held. held.items) text)) c.in-Some.is read.whole)
    c.in_err-loaded.ensures.input (subst (λ text. IsUnloaded text stopped.fault) c.deref.ensures.value c.in_err-loaded.ensures.refused)
    (c.in_err-loaded.ensures.silent (g.W.ByteOut.failure_count c.args.writer.now))))

pub returns-in_err-other-clause-runs : goal.returns-in_err-other-clause-runs
returns-in_err-other-clause-runs g c =
    let plate = reader_of g.P.ByteIn.bytes_left g.P.ByteIn.failure_count g.P.ByteIn.spent_count in
    let program = optional_of g.T.ByteIn.bytes_left g.T.ByteIn.failure_count g.T.ByteIn.spent_count in
    let next = optional_of g.N.ByteIn.bytes_left g.N.ByteIn.failure_count g.N.ByteIn.spent_count in
    let log = reader_of g.L.ByteIn.bytes_left g.L.ByteIn.failure_count g.L.ByteIn.spent_count c.inputs.inside.log in
    let writer = writer_of (said_by g.O.Observer.speaks g.W.ByteOut.bytes_taken) g.W.ByteOut.failure_count c.args.writer.now in
    let observed = observed_by g.O.Observer.plan g.O.Observer.begins c.args.observer.now in
    let reported = fields_reported c.args.reported.now in
    let read = c.in_ok-read.ensures in
    let said = c.in_err-other.ensures in
    let stopped = c.in_err-other.field-0.0 in
    let first = text_view c.in_ok-loaded.loaded.source in
    let after = inputs_of (plate c.read_plate.new.reader) (program c.read_optional.new.reader) (next c.read_optional-2.new.reader) log in
    subst (λ before. RunsUpTo observed before after reported c.from_residual-in_err-other.result writer writer) c.inputs.view_is
    (propagated (λ r. RunsUpTo observed (inputs_of (plate c.inputs.inside.plate) (program c.inputs.inside.program) (next c.inputs.inside.next) log) after reported r writer writer) stopped c.from_residual-in_err-other.result c.from_residual-in_err-other.ensures
    (at_next observed reported (plate c.inputs.inside.plate) (plate c.read_plate.new.reader) (program c.inputs.inside.program) (program c.read_optional.new.reader) (next c.inputs.inside.next) (next c.read_optional-2.new.reader) log stopped writer
    c.in_ok-plate.plate c.in_ok-plate.ensures.plate (c.in_ok-plate.ensures.failures.1 (λ none. none)) c.in_ok-plate.ensures.taken (read.failures.1 (λ none. none)) read.taken
    c.in-Some.text.items (subst (λ (text : Option _). AreReadOf (program c.inputs.inside.program) (option_map (λ held. held.items) text)) c.in-Some.is read.whole)
    first (subst (λ text. IsLoaded text first) c.deref.ensures.value c.in_ok-loaded.ensures.loaded)
    said.input said.too_long said.there said.failures said.taken))

pub returns-clause-runs : goal.returns-clause-runs
returns-clause-runs g c =
    let plate = reader_of g.P.ByteIn.bytes_left g.P.ByteIn.failure_count g.P.ByteIn.spent_count in
    let program = optional_of g.T.ByteIn.bytes_left g.T.ByteIn.failure_count g.T.ByteIn.spent_count in
    let next = optional_of g.N.ByteIn.bytes_left g.N.ByteIn.failure_count g.N.ByteIn.spent_count in
    let log = reader_of g.L.ByteIn.bytes_left g.L.ByteIn.failure_count g.L.ByteIn.spent_count in
    let writer = writer_of (said_by g.O.Observer.speaks g.W.ByteOut.bytes_taken) g.W.ByteOut.failure_count in
    let observed = observed_by g.O.Observer.plan g.O.Observer.begins c.args.observer.now in
    let reported = fields_reported c.run_loaded.new.reported in
    let after = inputs_of (plate c.read_plate.new.reader) (program c.read_optional.new.reader) (next c.read_optional-2.new.reader) (log c.run_loaded.new.log) in
    let read = c.in_ok-read.ensures in
    let other = c.in_ok-other.ensures in
    let held = option_map (λ held. held.items) c.in_ok-other.other in
    let first = text_view c.in_ok-loaded.loaded.source in
    let old = log c.inputs.inside.log in
    let new = log c.run_loaded.new.log in
    let taken_before = said_by g.O.Observer.speaks g.W.ByteOut.bytes_taken c.args.writer.now in
    let taken_after = said_by g.O.Observer.speaks g.W.ByteOut.bytes_taken c.run_loaded.new.writer in
    let result = c.run_loaded.result in
    let said = c.run_loaded.ensures in
    subst (λ before. RunsUpTo observed before after reported result (writer c.args.writer.now) (writer c.run_loaded.new.writer)) c.inputs.view_is
    (at_log observed reported (plate c.inputs.inside.plate) (plate c.read_plate.new.reader) (program c.inputs.inside.program) (program c.read_optional.new.reader) (next c.inputs.inside.next) old new
    c.in_ok-plate.plate c.in_ok-plate.ensures.plate (c.in_ok-plate.ensures.failures.1 (λ none. none)) c.in_ok-plate.ensures.taken (read.failures.1 (λ none. none)) read.taken
    result (writer c.args.writer.now) (writer c.run_loaded.new.writer)
    c.in-Some.text.items (subst (λ (text : Option _). AreReadOf (program c.inputs.inside.program) (option_map (λ held. held.items) text)) c.in-Some.is read.whole)
    first (subst (λ text. IsLoaded text first) c.deref.ensures.value c.in_ok-loaded.ensures.loaded)
    (next c.read_optional-2.new.reader) held other.whole (other.failures.1 (λ none. none)) other.taken
    (subst (λ (known : Option (List ℕ)). IfSome old.bytes (λ bytes. WritesUpTo (AnswersNext known (AnswersPrinting observed c.in_ok-plate.plate (log_of (records_of bytes)) first)) (raised result) taken_before taken_after)) c.text_slice.ensures said.writes)
    (subst (λ (known : Option (List ℕ)). IfErr result (λ stopped. stopped.input ≡ input.Next → IsNextUnloaded known stopped.fault)) c.text_slice.ensures said.blames_next)
    (subst (λ (known : Option (List ℕ)). StopsFor input.Log (RefusesLog (log_alongside (is_some known)) reported) old.bytes result) c.text_slice.ensures said.blames_log)
    said.unread said.devices.names said.later said.held said.devices.read
    (subst (λ (known : Option (List ℕ)). raised result ≡ Some fault.Memory → ReportsMemory (log_alongside (is_some known)) old.bytes old.failures new.failures old.spent new.spent) c.text_slice.ensures said.devices.memory)
    said.devices.reader said.devices.failures)

pub returns-in-None-clause-refused : goal.returns-in-None-clause-refused
returns-in-None-clause-refused g c = λ at.
    let program = optional_of g.T.ByteIn.bytes_left g.T.ByteIn.failure_count g.T.ByteIn.spent_count in
    let next = optional_of g.N.ByteIn.bytes_left g.N.ByteIn.failure_count g.N.ByteIn.spent_count in
    let holds = λ (logic : Option Logic). (g.O.Observer.begins c.args.observer.now logic ≡ false) × g.O.Observer.has_refused c.args.observer.now c.run_alone.new.observer logic in
    subst (λ (before : InputStates). OfPrograms before.program before.next holds) c.inputs.view_is
    (alone_read (program c.inputs.inside.program) (next c.inputs.inside.next) holds
    (subst (λ (text : Option _). AreReadOf (program c.inputs.inside.program) (option_map (λ held. held.items) text)) c.in-None.is c.in_ok-read.ensures.whole)
    (c.run_alone.ensures.refused at))

pub returns-clause-refused : goal.returns-clause-refused
returns-clause-refused g c = λ at.
    let program = optional_of g.T.ByteIn.bytes_left g.T.ByteIn.failure_count g.T.ByteIn.spent_count in
    let next = optional_of g.N.ByteIn.bytes_left g.N.ByteIn.failure_count g.N.ByteIn.spent_count in
    let holds = λ (logic : Option Logic). (g.O.Observer.begins c.args.observer.now logic ≡ false) × g.O.Observer.has_refused c.args.observer.now c.run_loaded.new.observer logic in
    let held = option_map (λ held. held.items) c.in_ok-other.other in
    let first = text_view c.in_ok-loaded.loaded.source in
    subst (λ (before : InputStates). OfPrograms before.program before.next holds) c.inputs.view_is
    (programs_read (program c.inputs.inside.program) (next c.inputs.inside.next) c.in-Some.text.items held first holds
    (subst (λ (text : Option _). AreReadOf (program c.inputs.inside.program) (option_map (λ held. held.items) text)) c.in-Some.is c.in_ok-read.ensures.whole)
    c.in_ok-other.ensures.whole
    (subst (λ text. IsLoaded text first) c.deref.ensures.value c.in_ok-loaded.ensures.loaded)
    (subst (λ (known : Option (List ℕ)). OfLogic first known holds) c.text_slice.ensures (c.run_loaded.ensures.refused at)))

pub returns-in_err-plate-clause-ended : goal.returns-in_err-plate-clause-ended
returns-in_err-plate-clause-ended g c = stopped_before _ c.in_err-plate.field-0.0 c.from_residual.result c.from_residual.ensures (one_input input.Plate input.Log c.in_err-plate.field-0.0.input c.in_err-plate.ensures.input)

pub returns-in_err-read-clause-ended : goal.returns-in_err-read-clause-ended
returns-in_err-read-clause-ended g c = stopped_before _ c.in_err-read.field-0.0 c.from_residual-in_err-read.result c.from_residual-in_err-read.ensures (one_input input.Program input.Log c.in_err-read.field-0.0.input c.in_err-read.ensures.input)

pub returns-in_err-loaded-clause-ended : goal.returns-in_err-loaded-clause-ended
returns-in_err-loaded-clause-ended g c = stopped_before _ c.in_err-loaded.field-0.0 c.from_residual-in_err-loaded.result c.from_residual-in_err-loaded.ensures (one_input input.Program input.Log c.in_err-loaded.field-0.0.input c.in_err-loaded.ensures.input)

pub returns-in_err-other-clause-ended : goal.returns-in_err-other-clause-ended
returns-in_err-other-clause-ended g c = stopped_before _ c.in_err-other.field-0.0 c.from_residual-in_err-other.result c.from_residual-in_err-other.ensures (one_input input.Next input.Log c.in_err-other.field-0.0.input c.in_err-other.ensures.input)

pub returns-in-None-clause-ended : goal.returns-in-None-clause-ended
returns-in-None-clause-ended g c =
    let o = g.O.Observer in
    let plate = reader_of g.P.ByteIn.bytes_left g.P.ByteIn.failure_count g.P.ByteIn.spent_count c.inputs.inside.plate in
    let program = optional_of g.T.ByteIn.bytes_left g.T.ByteIn.failure_count g.T.ByteIn.spent_count c.inputs.inside.program in
    let next = optional_of g.N.ByteIn.bytes_left g.N.ByteIn.failure_count g.N.ByteIn.spent_count c.inputs.inside.next in
    let log = reader_of g.L.ByteIn.bytes_left g.L.ByteIn.failure_count g.L.ByteIn.spent_count c.inputs.inside.log in
    let taken = g.W.ByteOut.bytes_taken in
    let said = says_of (o.has_ended c.run_alone.new.observer (o.settings c.args.observer.now)) (taken c.run_alone.new.writer) in
    subst (λ (before : InputStates). OnEnd c.run_alone.result (OfRun before (taken c.args.writer.now) said)) c.inputs.view_is
    (end_more c.run_alone.result _ _
    (λ says. run_read (inputs_of plate program next log) (taken c.args.writer.now) c.in_ok-plate.plate said c.in_ok-plate.ensures.plate
    (start_alone program next (taken c.args.writer.now) (λ start logic. IfSome log.bytes (λ bytes. said start c.in_ok-plate.plate logic (log_by logic bytes)))
    (subst (λ (text : Option _). AreReadOf program (option_map (λ held. held.items) text)) c.in-None.is c.in_ok-read.ensures.whole) says))
    c.run_alone.ensures.ended)

pub returns-clause-ended : goal.returns-clause-ended
returns-clause-ended g c =
    let o = g.O.Observer in
    let plate = reader_of g.P.ByteIn.bytes_left g.P.ByteIn.failure_count g.P.ByteIn.spent_count c.inputs.inside.plate in
    let program = optional_of g.T.ByteIn.bytes_left g.T.ByteIn.failure_count g.T.ByteIn.spent_count c.inputs.inside.program in
    let next = optional_of g.N.ByteIn.bytes_left g.N.ByteIn.failure_count g.N.ByteIn.spent_count c.inputs.inside.next in
    let log = reader_of g.L.ByteIn.bytes_left g.L.ByteIn.failure_count g.L.ByteIn.spent_count c.inputs.inside.log in
    let taken = g.W.ByteOut.bytes_taken in
    let said = says_of (o.has_ended c.run_loaded.new.observer (o.settings c.args.observer.now)) (taken c.run_loaded.new.writer) in
    let held = option_map (λ held. held.items) c.in_ok-other.other in
    let text = c.in-Some.text.items in
    let first = text_view c.in_ok-loaded.loaded.source in
    let of_log = λ (start : Start) (logic : Option Logic). IfSome log.bytes (λ bytes. said start c.in_ok-plate.plate logic (log_by logic bytes)) in
    subst (λ (before : InputStates). OnEnd c.run_loaded.result (OfRun before (taken c.args.writer.now) said)) c.inputs.view_is
    (end_more c.run_loaded.result _ _
    (λ says. run_read (inputs_of plate program next log) (taken c.args.writer.now) c.in_ok-plate.plate said c.in_ok-plate.ensures.plate
    (start_read program next text held (taken c.args.writer.now) first of_log
    (subst (λ (text : Option _). AreReadOf program (option_map (λ held. held.items) text)) c.in-Some.is c.in_ok-read.ensures.whole)
    c.in_ok-other.ensures.whole
    (subst (λ text. IsLoaded text first) c.deref.ensures.value c.in_ok-loaded.ensures.loaded)
    (subst (λ (known : Option (List ℕ)). OfLogic first known (of_log (start_with text known (taken c.args.writer.now)))) c.text_slice.ensures
    (subst (λ all. OfLogic first (option_map (λ text. text.now) c.text_slice.result) (of_log (start_with all (option_map (λ text. text.now) c.text_slice.result) (taken c.args.writer.now)))) c.deref-2.ensures.value says))))
    c.run_loaded.ensures.ended)

pub returns-in_err-plate-clause-unwritten : goal.returns-in_err-plate-clause-unwritten
returns-in_err-plate-clause-unwritten g c = unwritten_still c.from_residual.result _

pub returns-in_err-read-clause-unwritten : goal.returns-in_err-read-clause-unwritten
returns-in_err-read-clause-unwritten g c = unwritten_still c.from_residual-in_err-read.result _

pub returns-in_err-loaded-clause-unwritten : goal.returns-in_err-loaded-clause-unwritten
returns-in_err-loaded-clause-unwritten g c = unwritten_still c.from_residual-in_err-loaded.result _

pub returns-in_err-other-clause-unwritten : goal.returns-in_err-other-clause-unwritten
returns-in_err-other-clause-unwritten g c = unwritten_still c.from_residual-in_err-other.result _

pub returns-in-None-clause-unwritten : goal.returns-in-None-clause-unwritten
returns-in-None-clause-unwritten g c = c.run_alone.ensures.unwritten

pub returns-clause-unwritten : goal.returns-clause-unwritten
returns-clause-unwritten g c = c.run_loaded.ensures.unwritten
