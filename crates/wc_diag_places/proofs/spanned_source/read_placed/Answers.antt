use Rattle.std.proofs.Common.{◌∙◌, ap, map}
use Rattle.wc_text_lines.specs.Words.{marks_of}
use Rattle.wc_diag_stops.proofs.Stopped.{exchanged_marks, exchanged_twice, read_result}
use Rattle.wc_diag_stops.specs.Stopping.{exchanged}
use Rattle.wc_diag_places.proofs.spanned_source.read_placed.Goals as goal

pub returns : goal.returns
returns c =
    read_result c.args.text.now c.args.tokens.now c.exchange.new.tokens c.exchange-2.new.tokens c.read_tokens-read.result c.requires.short c.requires.cut
    (ap marks_of c.exchange.ensures ∙ exchanged_marks c.args.tokens.now) (c.exchange-2.ensures ∙ (ap (map exchanged) c.exchange.ensures ∙ exchanged_twice c.args.tokens.now))
    c.read_tokens-read.ensures.reported
