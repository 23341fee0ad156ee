use Rattle.wc_diag_further.proofs.Mended.{mended_as, mended_line, mended_not}
use Rattle.wc_diag_further.proofs.plates.mend.Goals as goal

pub returns-in_ok-extend_from_slice-in-Some-2 : goal.returns-in_ok-extend_from_slice-in-Some-2
returns-in_ok-extend_from_slice-in-Some-2 c =
    mended_line _ _ _ _ _ _ _ _ _ _ c.if-is_plate.true c.in_ok-push-in-Some.ensures.items c.in_ok-extend_from_slice-in-Some.ensures.items c.in_ok-extend_from_slice-in-Some-2.ensures.items
    c.extend_from_slice-in-Some-2.ensures.items

pub returns-in_default : goal.returns-in_default
returns-in_default c = mended_as _ _ _ (mended_not _)

pub returns-in_default-2 : goal.returns-in_default-2
returns-in_default-2 c = mended_as _ _ _ (mended_not _)
