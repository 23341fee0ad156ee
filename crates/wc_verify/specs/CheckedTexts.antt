-- A text that breaks no rule on bodies, with its tables. (No rule of the language.)
use Rattle.std.specs.Prelude.{◌≡◌, ℕ, List, None}
use Rattle.wc_names.specs.RepresentsText.{AreTables}
use Rattle.wc_model.specs.Definitions.{declaration_fault, Text, IsRead}
use Rattle.wc_model.specs.declared.source.Source.{Source}
use Rattle.wc_names.specs.declared.kept.Tables.{Tables}

-- what is verified: the text and its tables
pub record CheckedText : Type 0 where
  pub source : Source
  pub tables : Tables

-- some bytes are read as this text
abbrev pub WasRead : Text → Type 0
WasRead text = (bytes : List ℕ) × IsRead bytes text

-- the tables are those that declarations without a fault give: what `tables` of the declarations' pass promises of its answer
pub record AreGiven (tables : Tables) (text : Text) : Type 0 where
  pub occur : AreTables tables text
  pub declared : declaration_fault text ≡ None
