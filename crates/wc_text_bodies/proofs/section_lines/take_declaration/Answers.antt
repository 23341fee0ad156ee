use Rattle.wc_laws_grammar.specs.Moves.{Declaring, Undeclared}
use Rattle.wc_model.specs.Language.Views.{unit_view}
use Rattle.wc_text_bodies.proofs.ShortLines.{then_on}
use Rattle.wc_text_bodies.proofs.section_lines.take_declaration.Goals as goal

pub returns-clause-goes_on : goal.returns-clause-goes_on
returns-clause-goes_on c = λ units.
    then_on (Declaring units (unit_view c.args.unit.now) c.args.section Undeclared) (Declaring units (unit_view c.take_plain.new.unit) c.args.section Undeclared)
    (Declaring units (unit_view c.take_plain.new.unit) c.args.section Undeclared) c.args.tokens.now _ c.in_ok-taken.taken c.empty_line.result c.split_at.ensures.back
    (c.in_ok-taken.ensures.goes_on units) (c.empty_line.ensures.declaring units (unit_view c.take_plain.new.unit) c.args.section)
