use Rattle.std.proofs.Common.{arith}
use Rattle.wc_job.proofs.Faults.{not_too_long, taken_at_fault}
use Rattle.wc_job.proofs.reading.read_whole.Goals as goal

pub returns-in-Err-clause-too_long : goal.returns-in-Err-clause-too_long
returns-in-Err-clause-too_long g c =
    not_too_long (g.R.ByteIn.bytes_left c.args.reader.now) (g.R.ByteIn.bytes_left c.loop-reader.reader) (g.R.ByteIn.bytes_left c.read_more.new.reader) c.in-Err.fault c.loop-reader.bytes.items c.read_more.new.bytes.items c.in-Err.ensures.added

pub returns-in-Err-clause-taken : goal.returns-in-Err-clause-taken
returns-in-Err-clause-taken g c =
    taken_at_fault (g.R.ByteIn.bytes_left c.args.reader.now) (g.R.ByteIn.bytes_left c.loop-reader.reader) (g.R.ByteIn.bytes_left c.read_more.new.reader) c.in-Err.fault c.loop-reader.bytes.items c.read_more.new.bytes.items (omega (arith, c.len.ensures, c.loop-reader-test.true)) c.loop-reader.invariant.taken c.in-Err.ensures.added
