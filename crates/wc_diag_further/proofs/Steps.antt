-- What holds of a text over several steps.
use Rattle.std.proofs.Common.{refl}
use Rattle.wc_diag_further.specs.declared.further.Further.{Further}
use Rattle.wc_diag_further.specs.Further.{IsMendedFrom}
use Rattle.wc_diag_further.proofs.Mended.{mended_as, mended_as_again, mended_not}

-- none
pub from_not : (further : Further) → IsMendedFrom further further
from_not further = record { kind = refl; text = mended_as _ _ _ (mended_not _) }

-- one more
pub from_again : (a b c : Further) → IsMendedFrom a b → IsMendedFrom b c → IsMendedFrom a c
from_again a b c x y = record { kind = rw x.kind at y.kind; text = mended_as_again a.is_plate _ _ _ x.text (rw x.kind at y.text) }
