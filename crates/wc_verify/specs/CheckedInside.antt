-- What a verified text holds in its fields. (No rule of the language.)
use Rattle.std.specs.Prelude.{◌≡◌, None}
use Rattle.wc_names.specs.RepresentsText.{AreTables}
use Rattle.wc_model.specs.Definitions.{body_fault, declaration_fault, text_view}
use Rattle.wc_verify.specs.CheckedTexts.{CheckedText, WasRead}
use Rattle.wc_verify.specs.declared.checked.Checked.TheInside.{Inside as CheckedFields}

-- the text and the tables
abbrev pub checked_view : CheckedFields → CheckedText
checked_view a = record { source = a.source; tables = a.tables }

-- the text was read, the tables are its own, and it breaks no rule on declarations and bodies
pub record IsCheckedSound (a : CheckedFields) : Type 0 where
  pub read : WasRead (text_view a.source)
  pub tables : AreTables a.tables (text_view a.source)
  pub declared : declaration_fault (text_view a.source) ≡ None
  pub sound : body_fault (text_view a.source) ≡ None
