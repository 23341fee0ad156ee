use Rattle.wc_model.proofs.Common.{◌≡◌, ◌≤◌, ◌-◌, length, take, Appends}
use Rattle.wc_model.proofs.writing.write_whole.Given as goal

-- a prefix of the text is taken, and no call has failed
abbrev pub invariant-loop-at : goal.invariant-loop-at
invariant-loop-at g l = record {
  within : l.at ≤ length l.text;
  taken : Appends (g.W.ByteOut.bytes_taken l.initial.writer) (g.W.ByteOut.bytes_taken l.writer) (take l.at l.text);
  steady : g.W.ByteOut.failure_count l.writer ≡ g.W.ByteOut.failure_count l.initial.writer;
}

abbrev pub decreases-loop-at : goal.decreases-loop-at
decreases-loop-at g l = length l.text - l.at
