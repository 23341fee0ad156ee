use Rattle.wc_lexer.proofs.PlainNumbers.{hexadecimal_unsigned}
use Rattle.wc_lexer.proofs.plain_numbers.hexadecimal.Goals as goal

pub returns-clause-read : goal.returns-clause-read
returns-clause-read c = hexadecimal_unsigned c.args.digits.now c.in-Some.count c.in-Some.size c.if-count-eq0.false c.in-Some.ensures.plain
