use Rattle.wc_model.proofs.Common.{◌≡◌, ◌∙◌, ap, arith, length, pos, replicate, sym, drop-replicate, drop-append-drop}
use Rattle.wc_scale.proofs.prelude_answer.sixteen_samples.Goals as goal

pub returns-clause-zeros : goal.returns-clause-zeros
returns-clause-zeros c =
    let n = c.len-count.result in
    let long : length c.copy_from_slice.new.self ≡ n = ap length (c.copy_from_slice.ensures.after ∙ c.deref.ensures.0) ∙ sym c.len-count.ensures.value in
    drop-append-drop n (replicate 16 (pos 0)) c.copy_from_slice.new.self n (omega arith) long ∙ drop-replicate n 16 (pos 0)
