use Rattle.wc_model.proofs.Common.{◌≡◌, ◌≤◌, ◌∙◌, ◌+◌, ◌-◌, ap, arith, drop, length, replicate, rules, sym, drop-drop, drop-replicate, length-take, drop-put_mid}
use Rattle.wc_scale.proofs.line.AnswerBufferByteOut.write.Goals as goal

-- what follows the bytes taken are the zeros that followed those taken before, but for as many as the chunk has
pub invariant_of-self-2-clause-zeros : goal.invariant_of-self-2-clause-zeros
invariant_of-self-2-clause-zeros c =
    let t = c.args.self.now.taken in
    let n = c.min-count.result in
    let bytes = c.args.self.now.bytes in
    let whole : length bytes ≡ 20 = search rules in
    let within : t ≤ 20 = search rules in
    let zeros : drop t bytes ≡ replicate (20 - t) 0 = search rules in
    let count = c.min-count.ensures in
    let long : length c.copy_from_slice.new.self ≡ (t + n) - t = omega (arith, whole, within, count, c.copy_from_slice.ensures.len, ap length c.copy_from_slice.ensures.after, length-take n c.args.chunk.now) in
    drop-put_mid t ((t + n) - t) bytes c.copy_from_slice.new.self (t + n) (omega arith) (omega (arith, whole, within)) long
    ∙ sym (drop-drop n t bytes) ∙ ap (drop n) zeros ∙ drop-replicate n (20 - t) 0
    ∙ ap (λ k. replicate k 0) (let a : (20 - t) - n ≡ 20 - (t + n) = omega arith in a)
