use Rattle.wc_cut.proofs.RowsSoFar.{one_load_more}
use Rattle.wc_cut.proofs.rows.put_load.Goals as goal

pub loop-turn-preserved : goal.loop-turn-preserved
loop-turn-preserved c =
    one_load_more c.args.text.now.items c.loop-turn.text.items c.put_row.new.text.items c.args.ms _ c.loop-turn._turn
    c.loop-turn.invariant c.in_ok-put_row.ensures.text
