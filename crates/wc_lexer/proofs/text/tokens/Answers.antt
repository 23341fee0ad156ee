use Rattle.wc_lexer.proofs.Spans.{stop_names}
use Rattle.wc_lexer.proofs.text.tokens.Goals as goal

pub returns-in-Err-clause-refused : goal.returns-in-Err-clause-refused
returns-in-Err-clause-refused c = stop_names c.args.text.now c.in-Err.stop.fault c.in-Err.stop.start c.in-Err.stop.length c.in-Err.ensures.stopped
