use Rattle.std.proofs.Common.{sym, ◌∙◌}
use Rattle.wc_lexer.proofs.Colons.{assign_sight, colon_sight}
use Rattle.wc_lexer.proofs.element.colon.Goals as goal

pub returns-then-begins_with-clause-sight : goal.returns-then-begins_with-clause-sight
returns-then-begins_with-clause-sight c =
    (assign_sight c.args.text.now c.following_first-after.result.now c.requires c.following_first-after.ensures (sym c.begins_with.ensures ∙ c.if-begins_with.true)).0

pub returns-then-begins_with-clause-within : goal.returns-then-begins_with-clause-within
returns-then-begins_with-clause-within c =
    (assign_sight c.args.text.now c.following_first-after.result.now c.requires c.following_first-after.ensures (sym c.begins_with.ensures ∙ c.if-begins_with.true)).1

pub returns-else-begins_with-clause-sight : goal.returns-else-begins_with-clause-sight
returns-else-begins_with-clause-sight c =
    colon_sight c.args.text.now c.following_first-after.result.now c.requires c.following_first-after.ensures (sym c.begins_with.ensures ∙ c.if-begins_with.false)
