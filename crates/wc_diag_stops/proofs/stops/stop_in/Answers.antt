use Rattle.std.proofs.Common.{◌∙◌, ap, map}
use Rattle.wc_text_lines.specs.Words.{marks_of}
use Rattle.wc_diag_stops.proofs.Stopped.{exchanged_marks, exchanged_twice, read_by_places, stop_expected, stops_raised}
use Rattle.wc_diag_stops.specs.Stopping.{exchanged}
use Rattle.wc_diag_stops.proofs.stops.stop_in.Goals as goal

pub returns-in-Some-clause-stopped : goal.returns-in-Some-clause-stopped
returns-in-Some-clause-stopped c =
    let stop = c.stop_at.result in
    stops_raised c.args.text.now c.args.tokens.now c.exchange.new.tokens c.exchange-2.new.tokens c.in-Some.raised.fault c.in-Some.raised.expected stop c.requires.short c.requires.cut
    (ap marks_of c.exchange.ensures ∙ exchanged_marks c.args.tokens.now) (c.exchange-2.ensures ∙ (ap (map exchanged) c.exchange.ensures ∙ exchanged_twice c.args.tokens.now))
    (rw c.reading_start.ensures.start at c.in-Some.ensures.stopped) c.in-Some.ensures.memory c.stop_at.ensures

pub returns-in-None-clause-read : goal.returns-in-None-clause-read
returns-in-None-clause-read c =
    read_by_places c.args.text.now c.args.tokens.now c.exchange.new.tokens c.requires.short c.requires.cut (ap marks_of c.exchange.ensures ∙ exchanged_marks c.args.tokens.now) (rw c.reading_start.ensures.start at c.in-None.ensures.read)

pub returns-in-Some-clause-allowed : goal.returns-in-Some-clause-allowed
returns-in-Some-clause-allowed c = stop_expected c.args.text.now c.exchange-2.new.tokens c.in-Some.raised.fault c.in-Some.raised.expected c.stop_at.result c.stop_at.ensures

pub returns-in-Some-clause-kept : goal.returns-in-Some-clause-kept
returns-in-Some-clause-kept c = c.exchange-2.ensures ∙ (ap (map exchanged) c.exchange.ensures ∙ exchanged_twice c.args.tokens.now)

pub returns-in-None-clause-kept : goal.returns-in-None-clause-kept
returns-in-None-clause-kept c = c.exchange-2.ensures ∙ (ap (map exchanged) c.exchange.ensures ∙ exchanged_twice c.args.tokens.now)
