-- What a check of a program text answers and writes: the lines of its units. (The profile's own.)
use Rattle.std.specs.Prelude.{◌≡◌, ℕ, ◌++◌, Bool, List, Some, IfSome, option_map, slice_get, Option, Result, Ok, Err, ⊤}
use Rattle.std.specs.Io.KnownBytes.{Appends, Keeps}
use Rattle.wc_model.specs.Definitions.{positions_of, Text, IsBoundAt, IsPathPart, unit_line, IsUnitReport, TakesPrefix, IsLoaded, IsRefused}
use Rattle.wc_run.specs.declared.fault.RunFault.{RunFault}
use Rattle.wc_run.specs.declared.fault.RunFault.TheVariants.{Refused, Read, Write, Memory}

-- the line of the worst path of the unit at this place, counted from 0, if paths are asked for
abbrev pub IsPathPartAt : Bool → Text → ℕ → List ℕ → Type 0
IsPathPartAt paths text place part = IfSome (slice_get (positions_of text) place) (λ position. IsPathPart paths position part)

-- the lines of the unit at this place: its name and its bound, and its path
pub record AreLinesAt (paths : Bool) (text : Text) (place : ℕ) (lines : List ℕ) : Type 0 where
  pub name : List ℕ
  pub bound : ℕ
  pub part : List ℕ
  pub spelled : option_map (λ unit. unit.spelled) (slice_get text place) ≡ Some name
  pub is_bound : IsBoundAt text place bound
  pub is_part : IsPathPartAt paths text place part
  pub lines_are : lines ≡ unit_line name bound ++ part

-- A text's report is written; at a write fault a prefix of it, and not all; when out of memory nothing. There is no other fault.
abbrev pub WritesReport : {X : Type 0} → Bool → Text → Result X RunFault → Option (List ℕ) → Option (List ℕ) → Type 0
WritesReport paths text (Ok done) old new = (report : List ℕ) × IsUnitReport paths text report × Appends old new report
WritesReport paths text (Err (Refused number place)) old new = ⊥
WritesReport paths text (Err Read) old new = ⊥
WritesReport paths text (Err Write) old new = (report : List ℕ) × IsUnitReport paths text report × TakesPrefix old new report
WritesReport paths text (Err Memory) old new = Keeps old new

-- The bytes are loaded, and the text's report is written, at a write fault a prefix of it; or
-- they are refused, and nothing is written, as when out of memory.
abbrev pub Checks : {X : Type 0} → Bool → List ℕ → Result X RunFault → Option (List ℕ) → Option (List ℕ) → Type 0
Checks paths bytes (Ok done) old new = (text : Text) × (report : List ℕ) × IsLoaded bytes text × IsUnitReport paths text report × Appends old new report
Checks paths bytes (Err (Refused number place)) old new = IsRefused bytes number place × Keeps old new
Checks paths bytes (Err Read) old new = ⊥
Checks paths bytes (Err Write) old new = (text : Text) × (report : List ℕ) × IsLoaded bytes text × IsUnitReport paths text report × TakesPrefix old new report
Checks paths bytes (Err Memory) old new = Keeps old new

-- What is written of bytes that are loaded is the one report of their text: no other satisfies what is said of it.
abbrev pub ChecksAlone : {X : Type 0} → Bool → List ℕ → Result X RunFault → Option (List ℕ) → Option (List ℕ) → Type 0
ChecksAlone paths bytes (Ok done) old new =
    (report : List ℕ) × Appends old new report × ((text : Text) (other : List ℕ) → IsLoaded bytes text → IsUnitReport paths text other → other ≡ report)
ChecksAlone paths bytes (Err fault) old new = ⊤
