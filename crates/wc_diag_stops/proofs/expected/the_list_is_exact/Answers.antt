use Rattle.wc_diag_stops.proofs.ListedTokens.{lists_all, lists_no_other}
use Rattle.wc_diag_stops.proofs.expected.the_list_is_exact.Goals as goal

pub returns-clause-all : goal.returns-clause-all
returns-clause-all c = lists_all

pub returns-clause-no_other : goal.returns-clause-no_other
returns-clause-no_other c = lists_no_other
