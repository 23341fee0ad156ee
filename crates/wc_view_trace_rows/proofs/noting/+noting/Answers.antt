use Rattle.wc_view_trace_rows.proofs.NamesNoted.{known_added, seen_call}
use Rattle.wc_view_trace_rows.proofs.noting.+noting.Goals as goal

pub note_instruction-returns-in-Call : goal.note_instruction-returns-in-Call
note_instruction-returns-in-Call t c =
    let added = rw c.deref-in-Call.ensures.value at c.note_call.ensures in
    known_added c.note_call.result c.args.instr.now _ _ c.args.notes.now c.note_call.new.notes c.in-Call.is (seen_call _ _ _ _) added
