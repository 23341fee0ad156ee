use Rattle.std.proofs.Common.{◌≡◌, [], ◌∷◌, Bool, Option, Some, None, true, false, if◌then◌else◌, option_map, refl, sym, ap, ◌∙◌}
use Rattle.wc_laws_grammar.specs.Moves.{fault_at_closing, has_content, is_full}
use Rattle.wc_model.specs.Definitions.{lines_view, term_view, TooMany}
use Rattle.wc_model.specs.declared.fault.Fault.{Fault}
use Rattle.wc_model.specs.declared.fault.Fault.TheVariants.{Refused}
use Rattle.wc_text_bodies.proofs.FaultIf.{reported-raised}
use Rattle.wc_text_bodies.specs.Views.{fault_of, opening_view, position_view, openings_view}
use Rattle.wc_text_bodies.proofs.line_faults.closing_fault.Goals as goal

pub returns-then-has_content : goal.returns-then-has_content
returns-then-has_content c = λ units.
    let opened = ap (openings_view []) (sym c.deref.ensures.value) ∙ c.in-Some.ensures.1 in
    let has : has_content (option_map term_view c.in-Some.opening.now.operand) (lines_view c.args.body.now.done.items) ≡ true =
    ap (λ items. has_content (option_map term_view c.in-Some.opening.now.operand) (lines_view items)) (sym c.deref-in-Some.ensures.value) ∙ (sym c.has_content.ensures ∙ c.if-has_content.true) in
    let full = c.refused_if.ensures ∙ (ap (λ (b : Bool). if◌then◌else◌ {A = Option Fault} b (Some (Refused 208 c.args.line)) None) (c.is_full.ensures units)
    ∙ reported-raised (is_full (position_view units c.args.body.now)) TooMany c.args.line) in
    let inside : c.refused_if.result ≡ option_map fault_of (fault_at_closing (position_view units c.args.body.now) (opening_view c.in-Some.opening.now ∷ c.in-Some.ensures.0) c.args.line) = rw has full in
    inside ∙ sym (ap (λ os. option_map fault_of (fault_at_closing (position_view units c.args.body.now) os c.args.line)) opened)

pub returns-else-has_content : goal.returns-else-has_content
returns-else-has_content c = λ units.
    let opened = ap (openings_view []) (sym c.deref.ensures.value) ∙ c.in-Some.ensures.1 in
    let has : has_content (option_map term_view c.in-Some.opening.now.operand) (lines_view c.args.body.now.done.items) ≡ false =
    ap (λ items. has_content (option_map term_view c.in-Some.opening.now.operand) (lines_view items)) (sym c.deref-in-Some.ensures.value) ∙ (sym c.has_content.ensures ∙ c.if-has_content.false) in
    let inside : Some c.refusal.result ≡ option_map fault_of (fault_at_closing (position_view units c.args.body.now) (opening_view c.in-Some.opening.now ∷ c.in-Some.ensures.0) c.args.line) = rw (has, c.refusal.ensures) refl in
    inside ∙ sym (ap (λ os. option_map fault_of (fault_at_closing (position_view units c.args.body.now) os c.args.line)) opened)
