use Rattle.wc_diag_messages.proofs.Statements.{quotes}
use Rattle.wc_diag_messages.proofs.parts.reported_of.Goals as goal

pub returns : goal.returns
returns c =
    quotes c.args.diagnostic.now.subject.items c.sentence-sentence.result.now c.if-is_empty.mark.now c.as_bytes.result.now _ _ _ _ _ c.in_ok-detail.ensures c.new-message.ensures.nothing
    (rw c.deref.ensures.value at c.in_ok-write_subject.ensures) c.in_ok-say.ensures.all c.in_ok-say_before.ensures
