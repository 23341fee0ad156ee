use Rattle.wc_record.proofs.Passing.{reads_cut}
use Rattle.wc_record.proofs.bounded.LimitedReader.read_on.Goals as goal

pub returns-in-Ok-clause-bytes : goal.returns-in-Ok-clause-bytes
returns-in-Ok-clause-bytes g c =
    let w = c.walk-count.ensures in
    reads_cut (g.R.ByteIn.bytes_left c.args.self.now.reader.now) (g.R.ByteIn.bytes_left c.read.new.self) c.args.self.now.place c.walk-count.new.self c.read.new.buffer c.in-Ok.given c.walk-count.result w.cuts w.bound w.stops
    c.in-Ok.ensures.bound.1 c.in-Ok.ensures.bytes
