use Rattle.std.proofs.Common.{[], option_map, refl, sym, ap, ◌∙◌}
use Rattle.wc_laws_grammar.specs.Moves.{fault_at_line}
use Rattle.wc_text_bodies.specs.Views.{fault_of, position_view, opening_view, openings_view}
use Rattle.wc_text_lines.specs.Words.{symbol_view}
use Rattle.wc_text_bodies.proofs.line_faults.line_fault.Goals as goal

pub returns-in-Some : goal.returns-in-Some
returns-in-Some c = λ units.
    let opened = ap (openings_view []) (sym c.deref.ensures.value) ∙ c.in-Some.ensures.1 in
    c.inside_fault.ensures units (opening_view c.in-Some.opening.now) c.in-Some.ensures.0 refl
    ∙ sym (ap (λ os. option_map fault_of (fault_at_line (position_view units c.args.body.now) os (symbol_view c.args.token) c.args.token.line c.args.colon)) opened)

pub returns-in-None : goal.returns-in-None
returns-in-None c = λ units.
    let opened = ap (openings_view []) (sym c.deref.ensures.value) ∙ c.in-None.ensures in
    c.operator_fault.ensures units
    ∙ sym (ap (λ os. option_map fault_of (fault_at_line (position_view units c.args.body.now) os (symbol_view c.args.token) c.args.token.line c.args.colon)) opened)
