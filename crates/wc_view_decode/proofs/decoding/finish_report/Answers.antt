use Rattle.wc_view_decode.proofs.Chunks.{end_refused, end_written}
use Rattle.wc_view_decode.proofs.decoding.finish_report.Goals as goal

pub returns-in-Ok-clause-ends : goal.returns-in-Ok-clause-ends
returns-in-Ok-clause-ends g c =
    end_written c.write_text.result c.args.decoder.now c.new-text.result.items c.finish.new.text.items _ _
    c.new-text.ensures.items c.in-Ok.ensures.finishes (rw c.deref.ensures.value at c.write_text.ensures.text)

pub returns-clause-ends : goal.returns-clause-ends
returns-clause-ends g c = end_refused c.args.decoder.now (g.W.ByteOut.bytes_taken c.args.output.now)
