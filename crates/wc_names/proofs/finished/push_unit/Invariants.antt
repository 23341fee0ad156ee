use Rattle.std.proofs.Common.{◌≡◌, List, drop, length}
use Rattle.wc_model.specs.Language.Tree.{ProgramUnit}
use Rattle.wc_names.specs.{AreFinished, EachHoldsFirst, HoldsFirst, Represents}
use Rattle.wc_names.proofs.Spread.{SpreadsOn}
use Rattle.wc_names.proofs.finished.push_unit.Given as goal

-- with the variables that are left the whole frame is added, and each slot may hold its number
pub record Grows (l : goal.Live-loop-row) : Type 0 where
  pub spread : (before : List ProgramUnit) (u : ProgramUnit) → Represents l.fn.units before u → l.fn.unit ≡ length before → AreFinished l.fn.units l.fn.unit l.fn.finished → SpreadsOn before u l.initial.frame l.frame (drop l.row-index l.row-items)
  pub first : EachHoldsFirst l.fn.finished → HoldsFirst l.initial.frame → HoldsFirst l.frame

abbrev pub invariant-loop-row : goal.invariant-loop-row
invariant-loop-row l = Grows l
