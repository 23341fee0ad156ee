use Rattle.std.proofs.Common.{sym, ◌∙◌}
use Rattle.wc_model.specs.Language.Names.{name_of}
use Rattle.wc_names.proofs.Places.{type_at_found, type_at_none}
use Rattle.wc_declare.proofs.types.type_at.Goals as goal

pub returns-clause-declared : goal.returns-clause-declared
returns-clause-declared c = λ text before h.
    type_at_found before (name_of c.args.name.now) c.in_ok-number.number (sym c.elementary_type.ensures ∙ c.in_default.is) (sym c.standard_block.ensures ∙ c.in_default-standard_block.is)
    (sym c.in_ok-number.was ∙ c.block.ensures text before h)

pub returns-in_err-number-clause-declared : goal.returns-in_err-number-clause-declared
returns-in_err-number-clause-declared c = λ text before h.
    c.from_residual.ensures ∙ type_at_none before (name_of c.args.name.now) (sym c.elementary_type.ensures ∙ c.in_default.is) (sym c.standard_block.ensures ∙ c.in_default-standard_block.is) (sym c.in_err-number.was ∙ c.block.ensures text before h)
