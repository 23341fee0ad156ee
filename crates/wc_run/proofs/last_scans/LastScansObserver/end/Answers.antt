use Rattle.std.proofs.Common.{subst}
use Rattle.wc_run.proofs.Recording.{writes_last}
use Rattle.wc_run.specs.Doing.{Writes}
use Rattle.wc_run.proofs.last_scans.LastScansObserver.end.Goals as goal

pub returns-clause-writes : goal.returns-clause-writes
returns-clause-writes g c = λ plate logic past holds.
    let old = g.W.ByteOut.bytes_taken c.args.writer.now in
    let new = g.W.ByteOut.bytes_taken c.write_text.new.writer in
    writes_last c.write_text.result c.args.self.now.recorder c.args.self.now.number plate logic past c.in_ok-text.text.items old new c.in_ok-text.ensures.text holds
    (subst (λ t. Writes t c.write_text.result old new) c.deref.ensures.value c.write_text.ensures.writes)
