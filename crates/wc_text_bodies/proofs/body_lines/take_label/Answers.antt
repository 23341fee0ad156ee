use Rattle.std.proofs.Common.{refl, sym, ◌∙◌}
use Rattle.wc_model.specs.Language.Views.{word_view}
use Rattle.wc_text_bodies.proofs.ShortLines.{none_open, takes_label}
use Rattle.wc_text_bodies.specs.Views.{position_view}
use Rattle.wc_text_bodies.proofs.body_lines.take_label.Goals as goal

pub returns-clause-goes_on : goal.returns-clause-goes_on
returns-clause-goes_on c = λ units.
    takes_label (position_view units c.args.body.now) (position_view units c.add_label.new.body) c.args.tokens.now _ (word_view c.word.result) c.in-len3-up.len_at_least
    (none_open c.args.body.now.openings.items c.args.body.now.openings.len c.args.body.now.openings.ok.0 (sym c.is_empty.ensures ∙ c.if-not-is_empty.false))
    c.in-Identifier-Colon-LineEnd.is-0 c.in-Identifier-Colon-LineEnd.is-1 c.in-Identifier-Colon-LineEnd.is-2
    (rw (c.word.ensures.here, c.word.ensures.spelled) refl) (c.in_ok-add_label.ensures.following units)
