use Rattle.std.proofs.Common.{◌≡◌, Bor, List, None, Option, false, subst, sym}
use Rattle.std.specs.Prelude.{ℕ, option_map}
use Rattle.wc_controller.proofs.RefusedNames.{stopped_at_names}
use Rattle.wc_controller.proofs.WrittenRuns.{ends_unwritten, unwritten_at_names}
use Rattle.wc_controller.specs.{RunsAs, OfPrograms, EndsUnwritten, IsAt, ending_of}
use Rattle.wc_controller.specs.declared.ending.Ending.{Ending}
use Rattle.wc_job.specs.declared.input.Input.TheVariants as input
use Rattle.wc_record.specs.Reported.{fields_reported}
use Rattle.wc_view_picture.proofs.Unrefused.{run_unrefused, unknown_is, unwritten}
use Rattle.wc_view_picture.proofs.showing.show_files.Goals as goal
use Rattle.wc_view_picture.specs.Seen.{IsUnknownOf, drawn, unsaid, HasRefused, begins_with, list_of}
use Rattle.wc_view_watch.proofs.Observed.{programs_more}

pub returns-then-is_at_names-clause-unknown : goal.returns-then-is_at_names-clause-unknown
returns-then-is_at_names-clause-unknown g c =
    let answer = c.run_inputs-answer in
    let list = list_of c.new-picture.result in
    subst (λ (of : Option (List ℕ)). OfPrograms c.args.inputs.now.program c.args.inputs.now.next (λ logic. IsUnknownOf of logic c.unknown.result))
    c.new-picture.ensures.names
    (programs_more c.args.inputs.now.program c.args.inputs.now.next (λ logic. (begins_with list logic ≡ false) × HasRefused list answer.new.observer logic)
    (λ logic. IsUnknownOf list logic c.unknown.result) (λ logic refused. unknown_is list answer.new.observer logic c.unknown.result c.unknown.ensures refused.1)
    (answer.ensures.refused
    (stopped_at_names answer.result (ending_of answer.result) None None (unwritten answer.result)
    (subst (λ (ending : Ending). IsAt input.Names ending) c.of-ending.ensures (c.is_at_names.ensures.names c.if-is_at_names.true)))))

pub returns-clause-runs : goal.returns-clause-runs
returns-clause-runs g c =
    let failures = g.W.ByteOut.failure_count in
    let ran = c.run_inputs-answer in
    subst (λ (ending : Ending). RunsAs (drawn (option_map (λ (list : Bor (List ℕ)). list.now) c.args.names)) c.args.inputs.now ran.new.inputs (fields_reported ran.new.reported) ending (unsaid (failures c.args.writer.now)) (unsaid (failures ran.new.writer)))
    (sym c.of-ending.ensures)
    (subst (λ (of : Option (List ℕ)). RunsAs (drawn of) c.args.inputs.now ran.new.inputs (fields_reported ran.new.reported) (ending_of ran.result) (unsaid (failures c.args.writer.now))
    (unsaid (failures ran.new.writer)))
    c.new-picture.ensures.names
    (run_unrefused (drawn (list_of c.new-picture.result)) c.args.inputs.now ran.new.inputs (fields_reported ran.new.reported) ran.result (failures c.args.writer.now) (failures ran.new.writer) ran.ensures.runs))

pub returns-clause-silent : goal.returns-clause-silent
returns-clause-silent g c =
    let taken = g.W.ByteOut.bytes_taken in
    let ran = c.run_inputs-answer in
    subst (λ (ending : Ending). EndsUnwritten ending (taken c.args.writer.now) (taken ran.new.writer)) (sym c.of-ending.ensures)
    (ends_unwritten ran.result (taken c.args.writer.now) (taken ran.new.writer) ran.ensures.unwritten)

pub returns-then-is_at_names-clause-nothing : goal.returns-then-is_at_names-clause-nothing
returns-then-is_at_names-clause-nothing g c =
    let taken = g.W.ByteOut.bytes_taken in
    let ran = c.run_inputs-answer in
    unwritten_at_names c.of-ending.result (taken c.args.writer.now) (taken ran.new.writer) (c.is_at_names.ensures.names c.if-is_at_names.true)
    (subst (λ (ending : Ending). EndsUnwritten ending (taken c.args.writer.now) (taken ran.new.writer)) (sym c.of-ending.ensures)
    (ends_unwritten ran.result (taken c.args.writer.now) (taken ran.new.writer) ran.ensures.unwritten))
