-- Terms that are whole numbers. (No rule of the language.)
use Rattle.std.specs.Prelude.{ℤ, Option, Some, None}
use Rattle.wc_model.specs.Language.Tree.{Term, Constant}
use Rattle.wc_model.specs.declared.value.Value.TheVariants.{Dint}

-- the whole number that a term is
abbrev pub whole_number : Term → Option ℤ
whole_number (Constant (Dint n)) = Some n
whole_number term = None
