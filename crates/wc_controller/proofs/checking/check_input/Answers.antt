use Rattle.std.proofs.Common.{Result, subst, Ok, Err}
use Rattle.wc_controller.proofs.Allowing.{file_not_read, file_read, of_known, too_long_file}
use Rattle.wc_controller.proofs.Givings.{checked}
use Rattle.wc_controller.proofs.checking.check_input.Goals as goal
use Rattle.wc_controller.specs.{Checks, WritesUpTo, raised, AnswersCheck, AnswersCheckFile}
use Rattle.wc_controller.specs.declared.ending.InputFault.{InputFault}
use Rattle.wc_run.proofs.HandedOn.{propagated}
use Rattle.std.specs.Prelude.{IfSome, Some, None}

pub returns-in-Ok-clause-writes : goal.returns-in-Ok-clause-writes
returns-in-Ok-clause-writes g c =
    let old = g.W.ByteOut.bytes_taken c.args.writer.now in
    let new = g.W.ByteOut.bytes_taken c.check.new.writer in
    let items = c.in_ok-text.text.items in
    of_known (g.T.ByteIn.bytes_left c.args.program.now) items (λ text. WritesUpTo (AnswersCheckFile c.args.paths text) None old new) c.in_ok-text.ensures.whole.1
    (file_read items (AnswersCheck c.args.paths items) None old new c.in_ok-text.ensures.whole.0
    (checked {X = Unit {0}} c.args.paths items (Ok c.in-Ok.field-0) old new (subst (λ text. Checks {X = Unit {0}} c.args.paths text (Ok c.in-Ok.field-0) old new) c.deref.ensures.value c.in-Ok.ensures.checks)))

pub returns-clause-writes : goal.returns-clause-writes
returns-clause-writes g c =
    let old = g.W.ByteOut.bytes_taken c.args.writer.now in
    let new = g.W.ByteOut.bytes_taken c.check.new.writer in
    let items = c.in_ok-text.text.items in
    let why = c.in-Err.fault in
    of_known (g.T.ByteIn.bytes_left c.args.program.now) items (λ text. WritesUpTo (AnswersCheckFile c.args.paths text) (Some why) old new) c.in_ok-text.ensures.whole.1
    (file_read items (AnswersCheck c.args.paths items) (Some why) old new c.in_ok-text.ensures.whole.0
    (checked {X = Unit {0}} c.args.paths items (Err why) old new (subst (λ text. Checks {X = Unit {0}} c.args.paths text (Err why) old new) c.deref.ensures.value c.in-Err.ensures.checks)))

pub returns-in_err-text-clause-writes : goal.returns-in_err-text-clause-writes
returns-in_err-text-clause-writes g c =
    let taken = g.W.ByteOut.bytes_taken c.args.writer.now in
    let known = g.T.ByteIn.bytes_left c.args.program.now in
    let stopped = c.in_err-text.field-0.0 in
    propagated (λ (r : Result (Unit {0}) InputFault). IfSome known (λ bytes. WritesUpTo (AnswersCheckFile c.args.paths bytes) (raised r) taken taken)) stopped c.from_residual.result c.from_residual.ensures
    (file_not_read known _ stopped.fault (λ bytes longer. too_long_file bytes (AnswersCheck c.args.paths bytes) stopped.fault taken longer) c.in_err-text.ensures.too_long)
