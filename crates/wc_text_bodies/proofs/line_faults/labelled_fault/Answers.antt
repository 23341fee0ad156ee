use Rattle.std.proofs.Common.{◌≡◌, Bool, Option, Some, None, true, false, if◌then◌else◌, is_some, sym, ap, ◌∙◌}
use Rattle.wc_laws_grammar.specs.{is_full, operation_of}
use Rattle.wc_model.specs.declared.fault.Fault.{Fault}
use Rattle.wc_model.specs.declared.fault.Fault.TheVariants.{Refused}
use Rattle.wc_text_bodies.proofs.FaultIf.{full-meets, not-full-meets}
use Rattle.wc_text_bodies.specs.Views.{position_view}
use Rattle.wc_text_lines.specs.Words.{symbol_view}
use Rattle.wc_text_bodies.proofs.line_faults.labelled_fault.Goals as goal

pub returns-then-is_full : goal.returns-then-is_full
returns-then-is_full c = λ units.
    let full : is_full (position_view units c.args.body.now) ≡ true = sym (c.is_full.ensures units) ∙ c.if-is_full.true in
    c.refused_if.ensures ∙ (ap (λ (b : Bool). if◌then◌else◌ {A = Option Fault} b (Some (Refused 208 c.args.token.line)) None) c.is_operator.ensures
    ∙ full-meets (is_some (operation_of (symbol_view c.args.token))) (is_full (position_view units c.args.body.now)) c.args.token.line full)

pub returns-else-is_full : goal.returns-else-is_full
returns-else-is_full c = λ units.
    let not_full : is_full (position_view units c.args.body.now) ≡ false = sym (c.is_full.ensures units) ∙ c.if-is_full.false in
    not-full-meets (is_some (operation_of (symbol_view c.args.token))) (is_full (position_view units c.args.body.now)) c.args.token.line not_full
