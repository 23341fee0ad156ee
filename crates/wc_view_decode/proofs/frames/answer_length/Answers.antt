use Rattle.std.proofs.Common.{sym, subst}
use Rattle.wc_view_decode.proofs.Framed.{reading_length}
use Rattle.wc_view_decode.specs.AnswerBytes.{IsAnswer}
use Rattle.wc_view_decode.proofs.frames.answer_length.Goals as goal

pub returns-in-Weight : goal.returns-in-Weight
returns-in-Weight c given =
    let ok = subst IsAnswer c.in-Weight.is given in
    rw c.in-Weight.is (sym (reading_length c.in-Weight.field-0 ok.0))
