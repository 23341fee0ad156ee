use Rattle.wc_laws_instrument.proofs.LogRows.{rows_are_in_order}
use Rattle.wc_laws_instrument.proofs.laws.rows_are_in_order.Goals as goal

pub returns : goal.returns
returns c = rows_are_in_order
