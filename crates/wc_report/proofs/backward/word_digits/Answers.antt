use Rattle.std.proofs.Common.{◌≡◌, ◌*◌, length, refl}
use Rattle.wc_report.proofs.ScanText.{written_whole, word_written}
use Rattle.wc_report.proofs.backward.word_digits.Goals as goal

pub returns : goal.returns
returns c =
    let e = c.encode_to_slice-whole.ensures in
    let size : 4 ≡ 2 * length c.to_be_bytes.result = rw c.to_be_bytes.ensures refl in
    word_written c.args.word c.ranges.word.fits c.to_be_bytes.result c.encode_to_slice-whole.new.output c.to_be_bytes.ensures
    (written_whole c.encode_to_slice-whole.result 4 _ _ _ e.fits size e.written)
