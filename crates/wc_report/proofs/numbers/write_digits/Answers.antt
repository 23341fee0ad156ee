use Rattle.std.proofs.Common.{arith}
use Rattle.wc_report.proofs.Digits.{all_bytes, one_byte_more}
use Rattle.wc_report.proofs.numbers.write_digits.Goals as goal

pub loop-index-preserved : goal.loop-index-preserved
loop-index-preserved c =
    one_byte_more c.args.bytes.now c.loop-index.digits c.loop-index.index _ _ (omega arith) (omega arith)
    c.digit.ensures c.digit-in-loop-index.ensures c.loop-index.invariant

pub returns : goal.returns
returns c = all_bytes c.args.bytes.now c.loop-index.digits c.loop-index.index (omega arith) (omega arith) c.loop-index.invariant
