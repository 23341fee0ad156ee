use Rattle.wc_diag_stops.proofs.Stopped.{lexer_stops, not_read}
use Rattle.wc_diag_stops.proofs.stops.stopped_at.Goals as goal

pub returns-in-Ok-clause-stopped : goal.returns-in-Ok-clause-stopped
returns-in-Ok-clause-stopped c = lexer_stops c.args.text.now c.args.span.fault c.args.span.start c.args.span.length c.args.span.expected c.requires.stops

pub returns-in-Err-Refused-clause-stopped : goal.returns-in-Err-Refused-clause-stopped
returns-in-Err-Refused-clause-stopped c = lexer_stops c.args.text.now c.args.span.fault c.args.span.start c.args.span.length c.args.span.expected c.requires.stops

pub returns-in-Ok-clause-those : goal.returns-in-Ok-clause-those
returns-in-Ok-clause-those c = not_read c.args.text.now c.args.span.fault c.args.span.start c.args.span.length c.args.span.expected c.in-Ok.tokens.items c.requires.stops

pub returns-in-Err-Refused-clause-those : goal.returns-in-Err-Refused-clause-those
returns-in-Err-Refused-clause-those c = not_read c.args.text.now c.args.span.fault c.args.span.start c.args.span.length c.args.span.expected c.new.result.items c.requires.stops
