-- A text that every pass accepts, with its flat code, and what comes of its cost. (No rule of the language.)
use Rattle.std.specs.Prelude.{◌≡◌, ℕ, ◌-◌, List, length, None, Some, IfSome, slice_get, Result, Ok, Err}
use Rattle.wc_text_flat.specs.Lowered.{AreLowered}
use Rattle.wc_model.specs.Definitions.{body_fault, IsCostFault, scopes_of, Scope, Text, text_view, AreWorstLines}
use Rattle.wc_model.specs.declared.code.Code.{Code}
use Rattle.wc_model.specs.declared.source.Source.{Source}
use Rattle.wc_verify.specs.CheckedTexts.{WasRead}
use Rattle.wc_model.specs.declared.fault.Fault.{Fault}
use Rattle.wc_model.specs.declared.fault.Fault.TheVariants.{Refused, Memory}

-- the text, and the flat codes of its units in text order
pub record LoadedText : Type 0 where
  pub source : Source
  pub codes : List (List Code)

-- the text was read, it breaks no rule on bodies, and the codes are its lowered bodies
pub record IsLoadedSound (loaded : LoadedText) : Type 0 where
  pub read : WasRead (text_view loaded.source)
  pub sound : body_fault (text_view loaded.source) ≡ None
  pub lowered : AreLowered (text_view loaded.source) loaded.codes

-- these are the lines of the worst path of the unit of that number
abbrev pub AreWorstAt : Text → ℕ → List ℕ → Type 0
AreWorstAt text unit lines = IfSome (slice_get (scopes_of text) unit) (λ scope. AreWorstLines scope lines)

-- a text's program is the last of its units
abbrev pub IsProgramOf : Text → Scope → Type 0
IsProgramOf text scope = slice_get (scopes_of text) (length text - 1) ≡ Some scope

-- it is loaded, and no unit is too long; or the first that is too long is named
abbrev pub IsCosted : Text → Source → Result LoadedText Fault → Type 0
IsCosted text source (Ok loaded) = (loaded.source ≡ source) × IsCostFault text None
IsCosted text source (Err (Refused number place)) = IsCostFault text (Some (record { number = number; line = place }))
IsCosted text source (Err Memory) = Unit {0}
