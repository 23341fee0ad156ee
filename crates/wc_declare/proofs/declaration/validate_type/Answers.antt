use Rattle.std.proofs.Common.{◌∷◌, sym, ◌∙◌}
use Rattle.wc_model.specs.Definitions.{asks, is_usable_type, name_of}
use Rattle.wc_declare.proofs.Validation.{passed, broken}
use Rattle.wc_declare.proofs.Typing.{usable_type, unusable_type}
use Rattle.wc_declare.proofs.declaration.validate_type.Goals as goal

pub returns-in_default-clause-validated : goal.returns-in_default-clause-validated
returns-in_default-clause-validated c = λ text before rest h.
    let d = c.args.declaration.now in
    let name = name_of d.type_name.text.now in
    rw c.refusal-in_default.ensures (
    passed 308 d.type_name.line _ (asks 302 d.type_name.line (is_usable_type before d.section name) ∷ rest) (sym (c.is_closed_before.ensures text before h) ∙ c.if-not-is_closed_before.false)
    ∙ broken 302 d.type_name.line (is_usable_type before d.section name) rest (unusable_type before d.section name (sym (c.type_at.ensures.declared text before h) ∙ c.in_default.is)))

pub returns-then-is_allowed_in-clause-validated : goal.returns-then-is_allowed_in-clause-validated
returns-then-is_allowed_in-clause-validated c = λ text before rest h.
    let d = c.args.declaration.now in
    let name = name_of d.type_name.text.now in
    passed 308 d.type_name.line _ (asks 302 d.type_name.line (is_usable_type before d.section name) ∷ rest) (sym (c.is_closed_before.ensures text before h) ∙ c.if-not-is_closed_before.false)
    ∙ passed 302 d.type_name.line (is_usable_type before d.section name) rest (usable_type before d.section name c.in-Some.declared (sym (c.type_at.ensures.declared text before h) ∙ c.in-Some.is) ∙ sym c.is_allowed_in.ensures ∙ c.if-is_allowed_in.true)

pub returns-then-is_allowed_in-clause-declared : goal.returns-then-is_allowed_in-clause-declared
returns-then-is_allowed_in-clause-declared c = λ text before h. sym (c.type_at.ensures.declared text before h) ∙ c.in-Some.is

pub returns-else-is_allowed_in-clause-validated : goal.returns-else-is_allowed_in-clause-validated
returns-else-is_allowed_in-clause-validated c = λ text before rest h.
    let d = c.args.declaration.now in
    let name = name_of d.type_name.text.now in
    rw c.refusal-else-is_allowed_in.ensures (
    passed 308 d.type_name.line _ (asks 302 d.type_name.line (is_usable_type before d.section name) ∷ rest) (sym (c.is_closed_before.ensures text before h) ∙ c.if-not-is_closed_before.false)
    ∙ broken 302 d.type_name.line (is_usable_type before d.section name) rest (usable_type before d.section name c.in-Some.declared (sym (c.type_at.ensures.declared text before h) ∙ c.in-Some.is) ∙ sym c.is_allowed_in.ensures ∙ c.if-is_allowed_in.false))

pub returns-then-is_allowed_in-clause-allowed : goal.returns-then-is_allowed_in-clause-allowed
returns-then-is_allowed_in-clause-allowed c = sym c.is_allowed_in.ensures ∙ c.if-is_allowed_in.true
