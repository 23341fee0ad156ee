use Rattle.std.proofs.Common.{◌≡◌, ◌∙◌, true, List, ap, inr, subst, sym}
use Rattle.wc_diag_places.proofs.Placing.{offending_later}
use Rattle.wc_diag_places.specs.Arguments.{IsArgument}
use Rattle.wc_diag_places.specs.LaterSpans.{IsBodyFault, OfRefusal}
use Rattle.wc_diag_places.specs.OperandTokens.{is_listed, length_of_operand, start_of_operand}
use Rattle.wc_lexer.specs.declared.shape.Token.{Token}
use Rattle.wc_model.specs.Language.Views.{text_view}
use Rattle.wc_model.specs.declared.fault.Fault.{Fault}
use Rattle.wc_verify.specs.Seeing.{IsScope}
use Rattle.wc_diag_places.proofs.spans.span_of_instruction.Goals as goal

pub returns : goal.returns
returns c =
    λ bytes read are body.
    let source = c.args.spanned_source.now in
    let text = text_view source.source in
    let tokens = rw c.deref.ensures.value at c.tokens_from-tokens.ensures in
    let at = c.span_at.ensures in
    let start = at.start_is ∙ ap start_of_operand c.on_line.ensures in
    let length = at.length_is ∙ ap length_of_operand c.on_line.ensures in
    offending_later bytes source.tokens.items text c.args.tables.now c.in-Refused.number c.in-Refused.place c.span_at.result read are
    (subst (λ (fault : Fault). OfRefusal fault (IsBodyFault text)) c.in-Refused.is body)
    (inr (record {
      offending = c.in-Ok.found.0.now;
      means = rw tokens at c.in-Ok.ensures.operand_tokens;
      argument = λ scope known listed.
          subst (λ (list : List Token). is_listed list ≡ true → IsArgument scope c.in-Refused.number list c.in-Ok.found.0.now) tokens
          (c.in-Ok.ensures.argument scope (subst (λ unit. IsScope c.args.tables.now unit scope) (sym c.unit_at-unit.ensures) known)) listed;
      points =
          record {
            fault_is = rw tokens at at.fault_is;
            start_is = rw tokens at start;
            length_is = rw tokens at length;
          };
    }))
