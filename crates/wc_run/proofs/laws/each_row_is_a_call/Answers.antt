use Rattle.wc_run.proofs.RowCalls.{each_row_is_a_call}
use Rattle.wc_run.proofs.laws.each_row_is_a_call.Goals as goal

pub returns : goal.returns
returns c = each_row_is_a_call
