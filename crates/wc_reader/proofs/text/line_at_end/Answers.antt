use Rattle.wc_model.proofs.Common.{arith, ap, ◌∙◌, count_by, ◌==◌, ◌+◌, ◌≡◌, count_by-le-length}
use Rattle.wc_model.specs.Text.Reading.{last_line}
use Rattle.wc_reader.proofs.Units.{counted_on}
use Rattle.wc_reader.proofs.text.line_at_end.Goals as goal

-- the line of the last token and the line feeds from its start on
counted : (c : goal.After-line_feeds) → c.in-Some.last.now.line + c.line_feeds.result ≡ last_line c.args.text.now
counted c =
    let feeds = c.line_feeds.ensures.counted ∙ ap (count_by (λ byte. byte == 10)) c.following.ensures in
    omega (arith, feeds, counted_on c.args.text.now c.args.tokens.now c.in-Some.field-0-1.now c.in-Some.last.now c.requires.cut (c.in-Some.ensures.cases.0))

pub overflow_add-result : goal.overflow_add-result
overflow_add-result c =
    omega (arith, counted c, c.requires.short, count_by-le-length (λ byte. byte == 10) c.args.text.now)

pub returns-in-Some : goal.returns-in-Some
returns-in-Some c = counted c
