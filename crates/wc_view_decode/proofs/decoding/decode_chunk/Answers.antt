use Rattle.wc_view_decode.proofs.Chunks.{chunk_refused, chunk_written}
use Rattle.wc_view_decode.proofs.decoding.decode_chunk.Goals as goal

pub returns-in-Ok-clause-chunk : goal.returns-in-Ok-clause-chunk
returns-in-Ok-clause-chunk g c =
    chunk_written c.write_text.result c.args.decoder.now c.take_bytes.new.decoder c.args.chunk.now c.new-text.result.items c.take_bytes.new.text.items _ _
    c.new-text.ensures.items c.in-Ok.ensures.0 c.in-Ok.ensures.2 (rw c.deref.ensures.value at c.write_text.ensures.text)

pub returns-clause-chunk : goal.returns-clause-chunk
returns-clause-chunk g c = chunk_refused c.args.decoder.now c.args.chunk.now (g.W.ByteOut.bytes_taken c.args.output.now)
