use Rattle.wc_model.proofs.Common.{◌∙◌, Result, take, subst, arith, rules, Consumes}
use Rattle.wc_view_decode.proofs.Chunks.{goes_more, propagated, rest_ended, rest_unread, rest_unwritten}
use Rattle.wc_view_decode.specs.Running.{DecodesRest}
use Rattle.wc_view_decode.specs.declared.format.DecodeFault.{DecodeFault}
use Rattle.wc_view_decode.proofs.decoding.decode_rest.Goals as goal

pub returns-in_err-count-clause-rest : goal.returns-in_err-count-clause-rest
returns-in_err-count-clause-rest g c =
    let before = g.R.ByteIn.bytes_left c.args.input.now in
    let after = g.R.ByteIn.bytes_left c.read_chunk.new.input in
    let taken = g.W.ByteOut.bytes_taken in
    propagated (λ (r : Result Unit DecodeFault). DecodesRest c.args.decoder.now r before after (taken c.args.output.now) (taken c.chunks.output)) c.in_err-count.field-0.0
    c.from_residual.result c.from_residual.ensures
    (rest_unread c.args.decoder.now c.chunks.decoder
    before (g.R.ByteIn.bytes_left c.chunks.input) after
    (taken c.args.output.now) (taken c.chunks.output)
    c.chunks.invariant.format c.chunks.invariant.goes c.in_err-count.ensures.chunk)

pub returns-then-count-eq0-clause-rest : goal.returns-then-count-eq0-clause-rest
returns-then-count-eq0-clause-rest g c =
    let before = g.R.ByteIn.bytes_left c.chunks.input in
    let after = g.R.ByteIn.bytes_left c.read_chunk.new.input in
    rest_ended c.finish_report.result c.args.decoder.now c.chunks.decoder
    (g.R.ByteIn.bytes_left c.args.input.now) before after
    (g.W.ByteOut.bytes_taken c.args.output.now) (g.W.ByteOut.bytes_taken c.chunks.output) (g.W.ByteOut.bytes_taken c.finish_report.new.output)
    c.chunks.invariant.format c.chunks.invariant.goes
    (subst (λ n. Consumes before after (take n c.read_chunk.new.buffer)) c.if-count-eq0.true c.in_ok-count.ensures.chunk.1)
    (c.in_ok-count.ensures.chunk.2 c.if-count-eq0.true) c.finish_report.ensures.ends

pub returns-in_err-decode_chunk-clause-rest : goal.returns-in_err-decode_chunk-clause-rest
returns-in_err-decode_chunk-clause-rest g c =
    let before = g.R.ByteIn.bytes_left c.chunks.input in
    let after = g.R.ByteIn.bytes_left c.read_chunk.new.input in
    let taken = g.W.ByteOut.bytes_taken in
    propagated (λ (r : Result Unit DecodeFault). DecodesRest c.args.decoder.now r (g.R.ByteIn.bytes_left c.args.input.now) after (taken c.args.output.now) (taken c.decode_chunk.new.output))
    c.in_err-decode_chunk.field-0.0 c.from_residual-in_err-decode_chunk.result c.from_residual-in_err-decode_chunk.ensures
    (rest_unwritten c.args.decoder.now c.chunks.decoder (take c.in_ok-count.count c.read_chunk.new.buffer)
    (g.R.ByteIn.bytes_left c.args.input.now) before after
    (taken c.args.output.now) (taken c.chunks.output) (taken c.decode_chunk.new.output)
    c.chunks.invariant.format c.chunks.invariant.goes
    c.in_ok-count.ensures.chunk.1 c.in_err-decode_chunk.ensures.chunk)

pub chunks-smaller : goal.chunks-smaller
chunks-smaller g c = omega (arith, c.in_ok-count.ensures.spends.0, c.in_ok-count.ensures.spends.1)

pub chunks-preserved : goal.chunks-preserved
chunks-preserved g c =
    let before = g.R.ByteIn.bytes_left c.chunks.input in
    let after = g.R.ByteIn.bytes_left c.read_chunk.new.input in
    record {
      format = c.in_ok-decode_chunk.ensures.format ∙ c.chunks.invariant.format;
      goes = goes_more c.args.decoder.now c.chunks.decoder c.decode_chunk.new.decoder (take c.in_ok-count.count c.read_chunk.new.buffer)
          (g.R.ByteIn.bytes_left c.args.input.now) before after
          (g.W.ByteOut.bytes_taken c.args.output.now) (g.W.ByteOut.bytes_taken c.chunks.output) (g.W.ByteOut.bytes_taken c.decode_chunk.new.output)
          c.chunks.invariant.goes c.in_ok-count.ensures.chunk.1 c.in_ok-decode_chunk.ensures.chunk;
      reads = c.in_ok-count.ensures.steady ∙ c.chunks.invariant.reads;
      writes = c.in_ok-decode_chunk.ensures.faults.0.1 (λ err. search rules) ∙ c.chunks.invariant.writes;
    }
