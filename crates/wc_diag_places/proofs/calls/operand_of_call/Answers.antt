use Rattle.std.proofs.Common.{arith, inr, sym, ◌∙◌}
use Rattle.wc_diag_places.proofs.calls.operand_of_call.Goals as goal

pub returns-clause-some : goal.returns-clause-some
returns-clause-some c =
    inr (record {
      from = c.args.call.from;
      count = c.args.call.count;
      within = omega arith;
      begins = sym c.begins_item.ensures ∙ c.if-not-begins_item.false;
      is = c.tokens_at.ensures;
    })
