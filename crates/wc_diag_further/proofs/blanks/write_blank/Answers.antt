use Rattle.wc_diag_further.proofs.Mended.{mended_slice}
use Rattle.wc_diag_further.proofs.blanks.write_blank.Goals as goal

pub returns : goal.returns
returns c =
    mended_slice c.args.text.now c.split_at_mut-rest.result.0.now c.split_at_mut-rest.result.1.now c.split_at_mut-slice.result.0.now c.split_at_mut-slice.result.1.now c.blank_all.new.text
    c.split_at_mut-rest.ensures.value c.split_at_mut-slice.ensures.value c.blank_all.ensures
