use Rattle.std.proofs.Common.{[], ap}
use Rattle.wc_model.specs.Language.Checks.{first_broken}
use Rattle.wc_laws_language.proofs.RulesBefore.{same_units}
use Rattle.wc_laws_language.proofs.without_outputs.a_text_is_validated_as_it_was.Goals as goal

pub returns : goal.returns
returns c = λ text g. (same_units [] text g, ap first_broken (same_units [] text g))
