use Rattle.std.proofs.Common.{◌≡◌, true, false, refl, sym, ◌∙◌}
use Rattle.std.specs.Prelude.{◌&&◌}
use Rattle.wc_laws_grammar.specs.{begins_transfer, has_name, is_identifier, operation_of}
use Rattle.wc_model.specs.Text.Keywords.{end_word}
use Rattle.wc_text_lines.specs.Words.{symbol_view}
use Rattle.wc_text_bodies.proofs.line_faults.inside_fault.Goals as goal

pub returns-then-begins_label : goal.returns-then-begins_label
returns-then-begins_label c = λ units opening outer e.
    let transfer : begins_transfer (operation_of (symbol_view c.args.token)) ≡ false = sym c.begins_transfer.ensures ∙ c.if-begins_transfer.false in
    let label : (is_identifier (symbol_view c.args.token) && c.args.colon) ≡ true = sym c.begins_label.ensures ∙ c.if-begins_label.true in
    rw (transfer, label, c.refusal-then-begins_label.ensures) refl

pub returns-then-is_end_word : goal.returns-then-is_end_word
returns-then-is_end_word c = λ units opening outer e.
    let transfer : begins_transfer (operation_of (symbol_view c.args.token)) ≡ false = sym c.begins_transfer.ensures ∙ c.if-begins_transfer.false in
    let label : (is_identifier (symbol_view c.args.token) && c.args.colon) ≡ false = sym c.begins_label.ensures ∙ c.if-begins_label.false in
    let end : has_name (symbol_view c.args.token) (end_word c.args.body.now.unit.kind) ≡ true = sym c.is_end_word.ensures ∙ c.if-is_end_word.true in
    rw (transfer, label, end, e, c.refusal-then-is_end_word.ensures) refl

pub returns-else-is_end_word : goal.returns-else-is_end_word
returns-else-is_end_word c = λ units opening outer e.
    let transfer : begins_transfer (operation_of (symbol_view c.args.token)) ≡ false = sym c.begins_transfer.ensures ∙ c.if-begins_transfer.false in
    let label : (is_identifier (symbol_view c.args.token) && c.args.colon) ≡ false = sym c.begins_label.ensures ∙ c.if-begins_label.false in
    let end : has_name (symbol_view c.args.token) (end_word c.args.body.now.unit.kind) ≡ false = sym c.is_end_word.ensures ∙ c.if-is_end_word.false in
    rw (transfer, label, end) (c.operator_fault.ensures units)
