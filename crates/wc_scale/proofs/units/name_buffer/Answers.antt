use Rattle.wc_model.proofs.Common.{◌≡◌, ap, ◌∙◌, arith, length, min, replicate, take, drop-replicate, length-take, take_at, take_min, drop-append-drop}
use Rattle.wc_scale.proofs.units.name_buffer.Goals as goal

pub returns-clause-name : goal.returns-clause-name
returns-clause-name c =
    let n = c.args.name.now in
    let count : c.min-count.result ≡ min 32 (length n) = c.min-count.ensures in
    let is : c.copy_from_slice.new.self ≡ take c.min-count.result n = c.copy_from_slice.ensures.after in
    let long : length c.copy_from_slice.new.self ≡ min 32 (length n) = omega (arith, count, length-take c.min-count.result n, ap length is) in
    take_at c.copy_from_slice.new.self _ (min 32 (length n)) long ∙ is ∙ ap (λ k. take k n) count ∙ take_min 32 n

pub returns-clause-zeros : goal.returns-clause-zeros
returns-clause-zeros c =
    let n = c.args.name.now in
    let count : c.min-count.result ≡ min 32 (length n) = c.min-count.ensures in
    let is : c.copy_from_slice.new.self ≡ take c.min-count.result n = c.copy_from_slice.ensures.after in
    let long : length c.copy_from_slice.new.self ≡ c.min-count.result = omega (arith, count, length-take c.min-count.result n, ap length is) in
    drop-append-drop c.min-count.result (replicate 32 0) c.copy_from_slice.new.self (min 32 (length n)) (omega (arith, count)) long
    ∙ drop-replicate (min 32 (length n)) 32 0
