use Rattle.std.proofs.Common.{sym, ◌∙◌}
use Rattle.wc_lexer.proofs.WordSights.{name_sight}
use Rattle.wc_lexer.proofs.element.word.Goals as goal

pub returns-clause-sight : goal.returns-clause-sight
returns-clause-sight c =
    name_sight c.args.text.now c.split_at.result.1.now c.identifier_prefix-count.result.0 c.identifier_prefix-count.result.1 c.requires c.identifier_prefix-count.ensures.longest c.split_at.ensures.back (sym c.begins_with.ensures ∙ c.if-begins_with.false) c.identifier_prefix-count.ensures.single (sym c.is_name.ensures ∙ c.if-not-is_name.false)
