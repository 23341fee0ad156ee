-- A text without some of its bytes, how it is refused, what it is after a step, and what is found of it. (No rule of the language: what
-- is listed after a refusal is the profile's own.)
use Rattle.wc_model.specs.declared.fault.Fault as fault
use Rattle.std.specs.Prelude.{◌≡◌, ℕ, Bool, true, false, List, [], ◌∷◌, Ok, Err, ◌==◌, if◌then◌else◌}
use Rattle.wc_model.specs.Definitions.{PlateData, IsRefused}
use Rattle.wc_plate.specs.Verdict.{IsVerdictOn}
use Rattle.wc_controller.specs.Loads.{IsNeverRefused}
use Rattle.wc_diag_further.specs.declared.further.Found.{Found}
use Rattle.wc_diag_further.specs.declared.further.Found.TheVariants.{Refused, Accepted, Hidden}
use Rattle.wc_diag_further.specs.declared.further.Further.{Further}

-- what is written over a byte that is taken out: a space, but a line feed stays
abbrev pub blank_of : ℕ → ℕ
blank_of byte = if byte == 10 then 10 else 32

-- a byte is as it was, or taken out
pub data IsByteMended (old : ℕ) : ℕ → Type 0 where
  kept : IsByteMended old old
  taken : IsByteMended old (blank_of old)

-- so is each byte of a text
unfoldable pub IsMended : List ℕ → List ℕ → Type 0
IsMended [] [] = Unit {0}
IsMended [] (new ∷ more) = ⊥
IsMended (old ∷ rest) [] = ⊥
IsMended (old ∷ rest) (new ∷ more) = IsByteMended old new × IsMended rest more

-- so is each byte of a plate, after which there may be more lines
unfoldable pub IsMendedPlate : List ℕ → List ℕ → Type 0
IsMendedPlate [] [] = Unit {0}
IsMendedPlate [] (new ∷ more) = new ≡ 10
IsMendedPlate (old ∷ rest) [] = ⊥
IsMendedPlate (old ∷ rest) (new ∷ more) = IsByteMended old new × IsMendedPlate rest more

-- what is done to a text, if it is a plate and if it is a program
abbrev pub IsMendedAs : Bool → List ℕ → List ℕ → Type 0
IsMendedAs true old new = IsMendedPlate old new
IsMendedAs false old new = IsMended old new

-- how a plate or a program is refused
abbrev pub IsRefusedAs : Bool → List ℕ → ℕ → ℕ → Type 0
IsRefusedAs true text number line = IsVerdictOn text (Err (fault.TheVariants.Refused number line))
IsRefusedAs false text number line = IsRefused text number line

-- a plate or a program is accepted
abbrev pub IsAcceptedAs : Bool → List ℕ → Type 0
IsAcceptedAs true text = (plate : PlateData) × IsVerdictOn text (Ok plate)
IsAcceptedAs false text = IsNeverRefused text

-- a fault that is found is the refusal of the text as it then is; if nothing else is wrong, that text is accepted
abbrev pub IsFound : Bool → List ℕ → Found → Type 0
IsFound is_plate text (Refused fault) = IsRefusedAs is_plate text fault.number fault.place
IsFound is_plate text Accepted = IsAcceptedAs is_plate text
IsFound is_plate text Hidden = Unit {0}

-- more of it is taken out, and it stays a plate or a program
pub record IsMendedFrom (old new : Further) : Type 0 where
  pub kind : new.is_plate ≡ old.is_plate
  pub text : IsMendedAs old.is_plate old.text.items new.text.items

-- what is found of the text as it then is
abbrev pub IsFoundOf : Further → Found → Type 0
IsFoundOf further found = IsFound further.is_plate further.text.items found
