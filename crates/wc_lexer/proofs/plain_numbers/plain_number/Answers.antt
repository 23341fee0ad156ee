use Rattle.wc_lexer.proofs.PlainNumbers.{decimal_read}
use Rattle.wc_lexer.proofs.plain_numbers.plain_number.Goals as goal

pub returns-in_default-clause-read : goal.returns-in_default-clause-read
returns-in_default-clause-read c = decimal_read c.args.text.now c.plain_digits.result c.requires c.plain_digits.ensures.plain
