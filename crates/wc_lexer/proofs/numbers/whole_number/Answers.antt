use Rattle.wc_lexer.proofs.Widths.{whole_minus, whole_plus, whole_unsigned}
use Rattle.wc_lexer.proofs.numbers.whole_number.Goals as goal
use Rattle.std.proofs.Common.{sym, ◌∙◌}

pub returns-then-begins_with : goal.returns-then-begins_with
returns-then-begins_with c =
    whole_minus c.args.text.now c.following_first.result.now c.digits.result c.number_in_32_bits.result (sym c.begins_with.ensures ∙ c.if-begins_with.true) c.following_first.ensures c.digits.ensures c.number_in_32_bits.ensures

pub returns-then-begins_with-2 : goal.returns-then-begins_with-2
returns-then-begins_with-2 c =
    whole_plus c.args.text.now c.following_first-then-begins_with-2.result.now c.digits-then-begins_with-2.result c.number_in_32_bits-then-begins_with-2.result (sym c.begins_with.ensures ∙ c.if-begins_with.false) (sym c.begins_with-else-begins_with.ensures ∙ c.if-begins_with-2.true) c.following_first-then-begins_with-2.ensures c.digits-then-begins_with-2.ensures c.number_in_32_bits-then-begins_with-2.ensures

pub returns-else-begins_with-2 : goal.returns-else-begins_with-2
returns-else-begins_with-2 c =
    whole_unsigned c.args.text.now c.unsigned_number.result c.number_in_32_bits-else-begins_with-2.result (sym c.begins_with.ensures ∙ c.if-begins_with.false) (sym c.begins_with-else-begins_with.ensures ∙ c.if-begins_with-2.false) c.unsigned_number.ensures c.number_in_32_bits-else-begins_with-2.ensures
