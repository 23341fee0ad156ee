use Rattle.std.proofs.Common.{refl, sym}
use Rattle.wc_record.proofs.Passing.{reads_none}
use Rattle.wc_record.proofs.bounded.LimitedReaderRead.read.Goals as goal

pub returns-then-is_cut-clause-bytes : goal.returns-then-is_cut-clause-bytes
returns-then-is_cut-clause-bytes g c = reads_none (g.R.ByteIn.bytes_left c.args.self.now.reader.now) c.args.self.now.place c.args.buffer.now 0 (sym c.if-is_cut.ensures) refl
