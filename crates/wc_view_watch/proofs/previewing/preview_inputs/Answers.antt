use Rattle.wc_model.proofs.Common.{◌≡◌, [], Result, arith, refl, sym, subst, Consumes-nil}
use Rattle.std.specs.Prelude.{IfErr, IfSome, Some, Err}
use Rattle.wc_controller.proofs.Allowing.{file_not_read, file_read, of_known, on_each, too_long_file}
use Rattle.wc_controller.proofs.Blaming.{load_refused, program_read}
use Rattle.wc_controller.proofs.Givings.{not_loaded, upto_more}
use Rattle.wc_controller.specs.{RefusesText, WritesUpTo, raised, AnswersFile, IsRefusedLoad}
use Rattle.wc_job.specs.declared.input.Input.TheVariants as input
use Rattle.wc_controller.specs.declared.ending.InputFault.{InputFault}
use Rattle.wc_model.specs.Definitions.{IsLoaded, Text, text_view, AnswersProgram, JobAnswer, loads_program}
use Rattle.wc_run.proofs.HandedOn.{propagated}
use Rattle.wc_run.specs.Doing.{from_fault}
use Rattle.wc_view_watch.specs.Previews.{AnswersNew, AnswersPreview, AnswersTree}
use Rattle.wc_view_watch.proofs.previewing.preview_inputs.Goals as goal

-- an old program that is not read
pub returns-in_err-text-clause-writes : goal.returns-in_err-text-clause-writes
returns-in_err-text-clause-writes g c =
    let taken = g.W.ByteOut.bytes_taken c.args.writer.now in
    let known = g.T.ByteIn.bytes_left c.args.program.now in
    let following = g.N.ByteIn.bytes_left c.args.next.now in
    let stopped = c.in_err-text.field-0.0 in
    propagated (λ (r : Result (Unit {0}) InputFault). IfSome known (λ text. IfSome following (λ other. WritesUpTo (AnswersPreview c.args.paths text other) (raised r) taken taken)))
    stopped c.from_residual.result c.from_residual.ensures
    (file_not_read known _ stopped.fault
    (λ bytes longer. on_each following _
    (λ other. too_long_file bytes (AnswersProgram bytes (AnswersTree (λ source. AnswersFile other (AnswersNew c.args.paths source other)))) stopped.fault taken longer))
    c.in_err-text.ensures.too_long)

-- one that is not loaded
pub returns-in-Err-clause-writes : goal.returns-in-Err-clause-writes
returns-in-Err-clause-writes g c =
    let old = g.W.ByteOut.bytes_taken c.args.writer.now in
    let following = g.N.ByteIn.bytes_left c.args.next.now in
    let items = c.in_ok-text.text.items in
    let why = c.in-Err.fault in
    subst (λ one. IfSome (g.T.ByteIn.bytes_left c.args.program.now) (λ text. IfSome following (λ other. WritesUpTo (AnswersPreview c.args.paths text other) (Some one) old old))) (sym c.from.ensures)
    (of_known (g.T.ByteIn.bytes_left c.args.program.now) items (λ text. IfSome following (λ other. WritesUpTo (AnswersPreview c.args.paths text other) (Some (from_fault why)) old old)) c.in_ok-text.ensures.whole.1
    (on_each following _
    (λ other. let rest : Text → JobAnswer → Type 0 = AnswersTree (λ source. AnswersFile other (AnswersNew c.args.paths source other)) in
    file_read items (AnswersProgram items rest) (Some (from_fault why)) old old c.in_ok-text.ensures.whole.0
    (not_loaded items rest why old (subst (λ text. IsRefusedLoad text why) c.deref.ensures.value c.in-Err.ensures.refused)))))

pub returns-in-Err-clause-blames_program : goal.returns-in-Err-clause-blames_program
returns-in-Err-clause-blames_program g c =
    program_read {X = Unit {0}} input.Program (Err (record { input = input.Program; fault = c.from.result })) (g.T.ByteIn.bytes_left c.args.program.now) c.in_ok-text.text.items c.in_ok-text.ensures.whole
    (λ e. subst (λ one. RefusesText c.in_ok-text.text.items one) (sym c.from.ensures)
    (load_refused c.in_ok-text.text.items c.in-Err.fault (subst (λ text. IsRefusedLoad text c.in-Err.fault) c.deref.ensures.value c.in-Err.ensures.refused)))

-- of a new program that is not read nothing is taken
pub returns-in_err-text-clause-taken_next : goal.returns-in_err-text-clause-taken_next
returns-in_err-text-clause-taken_next g c = ([], Consumes-nil (g.N.ByteIn.bytes_left c.args.next.now), omega arith)

pub returns-in-Err-clause-taken_next : goal.returns-in-Err-clause-taken_next
returns-in-Err-clause-taken_next g c = ([], Consumes-nil (g.N.ByteIn.bytes_left c.args.next.now), omega arith)

-- both are read
pub returns-clause-writes : goal.returns-clause-writes
returns-clause-writes g c =
    let taken = g.W.ByteOut.bytes_taken in
    let following = g.N.ByteIn.bytes_left c.args.next.now in
    let items = c.in_ok-text.text.items in
    let others = c.in_ok-other.other.items in
    let first = c.in-Ok.loaded.source in
    let answer = raised c.preview_next.result in
    let old = taken c.args.writer.now in
    let new = taken c.preview_next.new.writer in
    let rest : Text → JobAnswer → Type 0 = AnswersTree (λ source. AnswersFile others (AnswersNew c.args.paths source others)) in
    of_known (g.T.ByteIn.bytes_left c.args.program.now) items (λ text. IfSome following (λ other. WritesUpTo (AnswersPreview c.args.paths text other) answer old new)) c.in_ok-text.ensures.whole.1
    (of_known following others (λ other. WritesUpTo (AnswersPreview c.args.paths items other) answer old new) c.in_ok-other.ensures.whole.1
    (file_read items (AnswersProgram items rest) answer old new c.in_ok-text.ensures.whole.0
    (upto_more (AnswersFile others (AnswersNew c.args.paths first others)) (AnswersProgram items rest) answer old new
    (λ one e. loads_program (text_view first) (subst (λ text. IsLoaded text (text_view first)) c.deref.ensures.value c.in-Ok.ensures.loaded) (first, refl, e))
    (file_read others (AnswersNew c.args.paths first others) answer old new c.in_ok-other.ensures.whole.0
    (subst (λ text. WritesUpTo (AnswersNew c.args.paths first text) answer old new) c.deref-2.ensures.value c.preview_next.ensures.writes)))))

pub returns-clause-blames_next : goal.returns-clause-blames_next
returns-clause-blames_next g c =
    program_read input.Next c.preview_next.result (g.N.ByteIn.bytes_left c.args.next.now) c.in_ok-other.other.items c.in_ok-other.ensures.whole
    (subst (λ text. IfErr c.preview_next.result (λ stopped. stopped.input ≡ input.Next → RefusesText text stopped.fault)) c.deref-2.ensures.value c.preview_next.ensures.blames)

-- a new program that is not read
pub returns-in_err-other-clause-writes : goal.returns-in_err-other-clause-writes
returns-in_err-other-clause-writes g c =
    let old = g.W.ByteOut.bytes_taken c.args.writer.now in
    let known = g.T.ByteIn.bytes_left c.args.program.now in
    let following = g.N.ByteIn.bytes_left c.args.next.now in
    let items = c.in_ok-text.text.items in
    let first = c.in-Ok.loaded.source in
    let stopped = c.in_err-other.field-0.0 in
    let why = stopped.fault in
    propagated (λ (r : Result (Unit {0}) InputFault). IfSome known (λ text. IfSome following (λ other. WritesUpTo (AnswersPreview c.args.paths text other) (raised r) old old)))
    stopped c.from_residual-in_err-other.result c.from_residual-in_err-other.ensures
    (of_known known items (λ text. IfSome following (λ other. WritesUpTo (AnswersPreview c.args.paths text other) (Some why) old old)) c.in_ok-text.ensures.whole.1
    (file_not_read following _ why
    (λ other longer.
    let rest : Text → JobAnswer → Type 0 = AnswersTree (λ source. AnswersFile other (AnswersNew c.args.paths source other)) in
    file_read items (AnswersProgram items rest) (Some why) old old c.in_ok-text.ensures.whole.0
    (upto_more (AnswersFile other (AnswersNew c.args.paths first other)) (AnswersProgram items rest) (Some why) old old
    (λ one e. loads_program (text_view first) (subst (λ text. IsLoaded text (text_view first)) c.deref.ensures.value c.in-Ok.ensures.loaded) (first, refl, e))
    (too_long_file other (AnswersNew c.args.paths first other) why old longer)))
    c.in_err-other.ensures.too_long))
