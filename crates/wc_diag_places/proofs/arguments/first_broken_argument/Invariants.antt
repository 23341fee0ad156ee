use Rattle.wc_diag_places.proofs.Breaking.{NoneBroken}
use Rattle.wc_diag_places.proofs.arguments.first_broken_argument.Given as goal

-- none of those so far breaks a rule
abbrev pub invariant-loop-number : goal.invariant-loop-number
invariant-loop-number l = NoneBroken l.tables l.unit l.declared l.tokens l.names l.item l._number
