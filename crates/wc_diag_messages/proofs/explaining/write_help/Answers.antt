use Rattle.std.proofs.Common.{codes, decimal, ◌∷◌, []}
use Rattle.wc_diag_messages.proofs.Assembled.{six_after}
use Rattle.wc_diag_messages.proofs.explaining.write_help.Goals as goal
use Rattle.wc_diag_messages.specs.Explanations.{page_opening}
use Rattle.wc_diag_texts.specs.Plain.{shown_text}

pub returns : goal.returns
returns c =
    let parts = c.args.parts.now in
    six_after c.end_line.result c.args.message.now.bytes.items (shown_text (codes "help: ")) parts.advice.bytes.items
    (shown_text (page_opening parts.severity)) (shown_text (decimal parts.number)) (shown_text (codes "` for more)")) (10 ∷ [])
    c.say.new.self.bytes.items c.append.new.self.bytes.items c.say-2.new.self.bytes.items c.count.new.self.bytes.items c.say-3.new.self.bytes.items c.end_line.new.self.bytes.items
    c.in_ok-say.ensures.all c.in_ok-append.ensures (rw c.page_opening.ensures at c.in_ok-say-2.ensures.all) c.in_ok-count.ensures c.in_ok-say-3.ensures.all c.end_line.ensures
