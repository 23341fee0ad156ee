use Rattle.wc_cost.proofs.WorstLengths.{call_way, jump_way, other_way, return_way}
use Rattle.wc_cost.proofs.path_lengths.lines_passed.Goals as goal

pub returns-in-Jump : goal.returns-in-Jump
returns-in-Jump c = λ bounds source rest are. jump_way bounds source rest c.args.line.now c.in-Jump.condition c.in-Jump.skip c.choose.result c.in-Jump.is (c.choose.ensures rest are)

pub returns-in-Return : goal.returns-in-Return
returns-in-Return c = λ bounds source rest are. return_way bounds source c.args.path_lengths.now c.args.next rest are c.args.line.now c.in-Return.condition c.choose-in-Return.result c.in-Return.is (c.choose-in-Return.ensures rest are)

pub returns-in-Call : goal.returns-in-Call
returns-in-Call c = λ bounds source rest are. call_way bounds source rest c.args.line.now c.in-Call.condition c.in-Call.skip c.choose-in-Call.result c.in-Call.is (c.choose-in-Call.ensures rest are)

pub returns-in_default : goal.returns-in_default
returns-in_default c = λ bounds source rest are. other_way bounds source rest c.args.line.now c.in_default.not-Jump c.in_default.not-Return c.in_default.not-Call
