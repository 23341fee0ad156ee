use Rattle.wc_controller.proofs.Settled.{written_alone}
use Rattle.wc_controller.proofs.Refusals.{checks_refused}
use Rattle.wc_controller.proofs.checking.check.Goals as goal
use Rattle.wc_controller.specs.Checking.{Checks, ChecksAlone}
use Rattle.wc_run.proofs.HandedOn.{propagated}
use Rattle.wc_run.specs.Doing.{from_fault}

pub returns-in_err-loaded-clause-checks : goal.returns-in_err-loaded-clause-checks
returns-in_err-loaded-clause-checks g c =
    let taken = g.W.ByteOut.bytes_taken c.args.writer.now in
    let raised = c.in_err-loaded.field-0.0 in
    propagated (λ r. Checks {X = Unit {0}} c.args.paths c.args.text.now r taken taken) (from_fault raised) c.from_residual.result c.from_residual.ensures
    (checks_refused c.args.paths c.args.text.now raised taken c.in_err-loaded.ensures.refused)

pub returns-in_err-loaded-clause-alone : goal.returns-in_err-loaded-clause-alone
returns-in_err-loaded-clause-alone g c =
    let taken = g.W.ByteOut.bytes_taken c.args.writer.now in
    propagated (λ r. ChecksAlone {X = Unit {0}} c.args.paths c.args.text.now r taken taken) (from_fault c.in_err-loaded.field-0.0) c.from_residual.result c.from_residual.ensures tt

pub returns-clause-alone : goal.returns-clause-alone
returns-clause-alone g c =
    let taken = g.W.ByteOut.bytes_taken in
    written_alone c.args.paths c.args.text.now _ c.write_units.result (taken c.args.writer.now) (taken c.write_units.new.writer)
    c.in_ok-loaded.ensures.loaded c.write_units.ensures.report
