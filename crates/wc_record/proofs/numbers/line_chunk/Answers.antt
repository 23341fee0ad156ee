use Rattle.wc_model.proofs.Common.{◌≡◌, ◌/◌, length, ap, ◌∙◌, Some, arith, common_steps}
use Rattle.wc_record.proofs.HexDigits.{chunk_few, chunk_not_read, chunk_read, chunk_too_long, whole_buffer}
use Rattle.wc_record.proofs.numbers.line_chunk.Goals as goal

pub returns-then-text-gt8192-clause-chunk : goal.returns-then-text-gt8192-clause-chunk
returns-then-text-gt8192-clause-chunk c = chunk_too_long c.args.text.now c.if-text-gt8192.true

pub returns-in-Ok-clause-chunk : goal.returns-in-Ok-clause-chunk
returns-in-Ok-clause-chunk c =
    let out = c.decode_to_slice.new.out in
    let size : length c.as_mut_slice.result.now ≡ length c.args.text.now / 2 = grind (arith, common_steps) in
    let filled : length out ≡ length c.resize.new.self.items = grind (arith, common_steps) in
    let resized : c.resize.new.self.len ≡ length c.resize.new.self.items = grind (arith, common_steps) in
    ap Some (whole_buffer c.resize.new.self.items out c.resize.new.self.len filled resized)
    ∙ chunk_read c.args.text.now out (length c.as_mut_slice.result.now) c.decode_to_slice.result c.if-text-gt8192.false size c.decode_to_slice.ensures.value tt c.in-Ok.is

pub returns-in-Err-clause-chunk : goal.returns-in-Err-clause-chunk
returns-in-Err-clause-chunk c =
    let size : length c.as_mut_slice.result.now ≡ length c.args.text.now / 2 = grind (arith, common_steps) in
    chunk_not_read c.args.text.now c.decode_to_slice.new.out (length c.as_mut_slice.result.now) c.decode_to_slice.result size c.decode_to_slice.ensures.value c.in-Err.field-0 c.in-Err.is

pub returns-in-Ok-clause-few : goal.returns-in-Ok-clause-few
returns-in-Ok-clause-few c = λ found.
    let out = c.decode_to_slice.new.out in
    let size : length c.as_mut_slice.result.now ≡ length c.args.text.now / 2 = grind (arith, common_steps) in
    let filled : length out ≡ length c.resize.new.self.items = grind (arith, common_steps) in
    let resized : c.resize.new.self.len ≡ length c.resize.new.self.items = grind (arith, common_steps) in
    rw (whole_buffer c.resize.new.self.items out c.resize.new.self.len filled resized)
    (chunk_few c.args.text.now out (length c.as_mut_slice.result.now) c.decode_to_slice.result c.if-text-gt8192.false size c.decode_to_slice.ensures.value tt c.in-Ok.is)
