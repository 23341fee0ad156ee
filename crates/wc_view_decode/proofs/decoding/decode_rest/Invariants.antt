use Rattle.std.proofs.Common.{◌≡◌, ◌-◌, ◌^◌}
use Rattle.wc_view_decode.specs.Running.{GoesOn}
use Rattle.wc_view_decode.proofs.decoding.decode_rest.Given as goal

-- what was read so far is decoded and written, and no call has failed
abbrev pub invariant-chunks : goal.invariant-chunks
invariant-chunks g l = record {
  format : l.decoder.format ≡ l.initial.decoder.format;
  goes : GoesOn l.initial.decoder l.decoder (g.R.ByteIn.bytes_left l.initial.input) (g.R.ByteIn.bytes_left l.input)
      (g.W.ByteOut.bytes_taken l.initial.output) (g.W.ByteOut.bytes_taken l.output);
  reads : g.R.ByteIn.failure_count l.input ≡ g.R.ByteIn.failure_count l.initial.input;
  writes : g.W.ByteOut.failure_count l.output ≡ g.W.ByteOut.failure_count l.initial.output;
}

abbrev pub decreases-chunks : goal.decreases-chunks
decreases-chunks g l = 2 ^ 64 - g.R.ByteIn.spent_count l.input
