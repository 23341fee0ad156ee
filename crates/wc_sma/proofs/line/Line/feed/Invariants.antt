use Rattle.std.proofs.Common.{◌≡◌, false, take}
use Rattle.wc_sma.specs.Feeding.{Feeds}
use Rattle.wc_sma.proofs.line.Line.feed.Given as goal

-- what precedes the byte is taken
abbrev pub invariant-loop-byte : goal.invariant-loop-byte
invariant-loop-byte g l = record {
  feeds : Feeds l.initial.self l.initial.indicator (g.W.ByteOut.bytes_taken l.initial.writer) l.self l.indicator (g.W.ByteOut.bytes_taken l.writer) (take l.byte-index l.chunk);
  works : l.self.failed ≡ false;
  steady : g.W.ByteOut.failure_count l.writer ≡ g.W.ByteOut.failure_count l.initial.writer;
}
