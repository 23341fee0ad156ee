use Rattle.wc_names.specs.Carrying.{AreFinished, EachHoldsFirst}
use Rattle.wc_names.proofs.finished.finish_before.Given as goal

-- the slots of the units before this one are finished
pub record Finishes (l : goal.Live-loop-number) : Type 0 where
  pub finished : AreFinished l.units l.number l.finished.items
  pub first : EachHoldsFirst l.finished.items

abbrev pub invariant-loop-number : goal.invariant-loop-number
invariant-loop-number l = Finishes l
