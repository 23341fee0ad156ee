-- What is answered for a text that should be a plate.
use Rattle.std.specs.Prelude.{◌≡◌, ℕ, List, Option, Some, None, Result, Ok, Err}
use Rattle.wc_model.specs.declared.fault.Fault.{Fault}
use Rattle.wc_model.specs.declared.fault.Fault.TheVariants.{Refused, Memory}
use Rattle.wc_model.specs.Definitions.{PlateData, Table, plate_of, written_of}
use Rattle.wc_model.specs.Instrument.PlateTable as plate
use Rattle.wc_plate.specs.Broken.{Breaks, number_of}
use Rattle.wc_plate.specs.KeyFaults.{IsKeyFault}
use Rattle.wc_plate.specs.declared.broken.BrokenRule.{BrokenRule}
use Rattle.wc_plate.specs.TomlTable.{table_read}

-- an answer that agrees with what the rules say: their plate, or their number with place 0; out of memory says nothing
abbrev pub AgreesWith : Result PlateData ℕ → Result PlateData Fault → Type 0
AgreesWith said (Ok plate) = said ≡ Ok plate
AgreesWith said (Err (Refused number place)) = (said ≡ Err number) × (place ≡ 0)
AgreesWith said (Err Memory) = Unit {0}

-- the answer is the one of the rules for a plate over the table that the text gives
abbrev pub IsVerdictOn : List ℕ → Result PlateData Fault → Type 0
IsVerdictOn text answer = AgreesWith (plate_of (table_read text)) answer

-- a rule on the keys is broken, or, if they are the seven in their kinds, one on their values
abbrev pub BreaksIn : Table → Option plate.KeyValues → BrokenRule → Type 0
BreaksIn table None rule = IsKeyFault table rule
BreaksIn table (Some written) rule = Breaks written rule

-- the plate of a table, or the first rule that it breaks, with the key at fault
abbrev pub ValidatesTable : Table → Result PlateData BrokenRule → Type 0
ValidatesTable table (Ok plate) = plate_of (Some table) ≡ Ok plate
ValidatesTable table (Err rule) = (plate_of (Some table) ≡ Err (number_of rule)) × BreaksIn table (written_of table) rule
