use Rattle.std.proofs.Common.{◌≡◌, List, None, sym, ap, ◌∙◌}
use Rattle.wc_laws_grammar.specs.{section_of_word, found, operations}
use Rattle.wc_model.specs.Definitions.{name_of, ProgramUnit, lines_view}
use Rattle.wc_text_bodies.proofs.ShortLines.{begins_line, if_found, none_open}
use Rattle.wc_text_bodies.specs.Several.{Begins}
use Rattle.wc_text_bodies.specs.Views.{position_view}
use Rattle.wc_text_bodies.proofs.body_lines.operation_at.Goals as goal

pub returns-in-None : goal.returns-in-None
returns-in-None c =
    let none : section_of_word (lines_view c.args.body.now.done.items) (name_of c.args.text.now) ≡ None =
    ap (λ items. section_of_word (lines_view items) (name_of c.args.text.now)) (sym c.deref.ensures.value) ∙ (sym c.section_of_word.ensures ∙ c.in-None.is) in
    let opened = none_open c.args.body.now.openings.items c.args.body.now.openings.len c.args.body.now.openings.ok.0 (sym c.is_empty.ensures ∙ c.if-not-is_empty.false) in
    if_found (λ operation. (units : List ProgramUnit) → Begins (position_view units c.args.body.now) c.args.text.now operation) c.operation_named.result (found operations (name_of c.args.text.now)) c.operation_named.ensures
    (λ operation e units. begins_line (position_view units c.args.body.now) c.args.text.now operation opened (sym (c.is_full.ensures units) ∙ c.if-is_full.false)
    (sym c.ends_unit.ensures ∙ c.if-ends_unit.false) none e)
