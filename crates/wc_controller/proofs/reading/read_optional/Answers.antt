use Rattle.wc_model.proofs.Common.{[], arith, sym, subst, Consumes-nil}
use Rattle.std.specs.Prelude.{None, Some, Ok, Err}
use Rattle.wc_controller.proofs.reading.read_optional.Goals as goal
use Rattle.wc_controller.specs.{RefusesLength, TakesInput, ReportsReadFaults, optional_of, AreReadOf, failures_of, known_of}

pub returns-in-Ok-clause-whole : goal.returns-in-Ok-clause-whole
returns-in-Ok-clause-whole g c =
    subst (λ reader. AreReadOf (optional_of g.R.ByteIn.bytes_left g.R.ByteIn.failure_count g.R.ByteIn.spent_count reader) (Some c.in-Ok.text.items)) (sym c.in-Some.is) c.in-Ok.ensures.whole

pub returns-in-None-clause-whole : goal.returns-in-None-clause-whole
returns-in-None-clause-whole g c = subst (λ reader. AreReadOf (optional_of g.R.ByteIn.bytes_left g.R.ByteIn.failure_count g.R.ByteIn.spent_count reader) None) (sym c.in-None.is) tt

pub returns-in-Err-clause-too_long : goal.returns-in-Err-clause-too_long
returns-in-Err-clause-too_long g c =
    subst (λ reader. RefusesLength (known_of (optional_of g.R.ByteIn.bytes_left g.R.ByteIn.failure_count g.R.ByteIn.spent_count reader)) c.in-Err.stopped.fault) (sym c.in-Some.is) c.in-Err.ensures.too_long

pub returns-in-Ok-clause-failures : goal.returns-in-Ok-clause-failures
returns-in-Ok-clause-failures g c =
    subst (λ reader. ReportsReadFaults {X = Unit {0}} c.args.input (Ok tt) (failures_of (optional_of g.R.ByteIn.bytes_left g.R.ByteIn.failure_count g.R.ByteIn.spent_count reader)) (g.R.ByteIn.failure_count c.read_input.new.reader))
    (sym c.in-Some.is) c.in-Ok.ensures.failures

pub returns-in-Err-clause-failures : goal.returns-in-Err-clause-failures
returns-in-Err-clause-failures g c =
    subst (λ reader. ReportsReadFaults {X = Unit {0}} c.args.input (Err c.in-Err.stopped) (failures_of (optional_of g.R.ByteIn.bytes_left g.R.ByteIn.failure_count g.R.ByteIn.spent_count reader)) (g.R.ByteIn.failure_count c.read_input.new.reader))
    (sym c.in-Some.is) c.in-Err.ensures.failures

pub returns-in-Ok-clause-taken : goal.returns-in-Ok-clause-taken
returns-in-Ok-clause-taken g c =
    subst (λ reader. TakesInput (known_of (optional_of g.R.ByteIn.bytes_left g.R.ByteIn.failure_count g.R.ByteIn.spent_count reader)) (g.R.ByteIn.bytes_left c.read_input.new.reader)) (sym c.in-Some.is) c.in-Ok.ensures.taken

pub returns-in-Err-clause-taken : goal.returns-in-Err-clause-taken
returns-in-Err-clause-taken g c =
    subst (λ reader. TakesInput (known_of (optional_of g.R.ByteIn.bytes_left g.R.ByteIn.failure_count g.R.ByteIn.spent_count reader)) (g.R.ByteIn.bytes_left c.read_input.new.reader)) (sym c.in-Some.is) c.in-Err.ensures.taken

-- of an input that is not there nothing is taken
pub returns-in-None-clause-taken : goal.returns-in-None-clause-taken
returns-in-None-clause-taken g c =
    ([], Consumes-nil (known_of (optional_of g.R.ByteIn.bytes_left g.R.ByteIn.failure_count g.R.ByteIn.spent_count c.args.reader.now)), omega arith)
