use Rattle.std.proofs.Common.{◌∙◌, ap, length}
use Rattle.memchr.proofs.lemmas.CallerLemmas.{length-places}
use Rattle.memchr.specs.Find.{is_byte}
use Rattle.wc_lexer.proofs.spaces.line_feeds.Goals as goal

pub returns-clause-counted : goal.returns-clause-counted
returns-clause-counted c = c.count.ensures ∙ ap length c.memchr_iter.ensures.value ∙ length-places (is_byte 10) c.args.text.now
