use Rattle.std.proofs.Common.{◌≡◌, ◌++◌, drop, length}
use Rattle.std.specs.Prelude.{pos, replicate}
use Rattle.wc_names.specs.Carrying.{HoldsFirst}
use Rattle.wc_names.proofs.frame.push_zeros.Given as goal

-- with the kinds that are left all are added, and each slot may hold its number
pub record Adds (l : goal.Live-loop-kind) : Type 0 where
  pub kinds : l.frame.kinds.items ++ drop l.kind-index l.kinds ≡ l.initial.frame.kinds.items ++ l.kinds
  pub initials : l.frame.initials.items ++ replicate (length (drop l.kind-index l.kinds)) (pos 0) ≡ l.initial.frame.initials.items ++ replicate (length l.kinds) (pos 0)
  pub first : HoldsFirst l.initial.frame → HoldsFirst l.frame

abbrev pub invariant-loop-kind : goal.invariant-loop-kind
invariant-loop-kind l = Adds l
