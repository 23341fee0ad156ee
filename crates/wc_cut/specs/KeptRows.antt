-- What is kept of the rows before a cut. (The profile's own.)
use Rattle.std.specs.Prelude.{◌≡◌, ℕ, ◌+◌, ◌-◌, ◌<◌, Bool, true, false, List, [], length, Option, Some, None}
use Rattle.wc_cut.specs.CutAgain.{rows_of_cut}
use Rattle.wc_cut.specs.Cuts.{time_of}
use Rattle.wc_cut.specs.declared.cutter.Cutter.{Cutter}
use Rattle.wc_laws_instrument.specs.Preludes.{prelude_of, scale_state}
use Rattle.wc_model.specs.Definitions.{PlateData, LogRefusal, most_rows, LogRow, Past, RowData}
use Rattle.wc_run.specs.{state_view, onto}
use Rattle.wc_run.specs.declared.preludes.Prelude.{Prelude}

-- what the rows of what is kept bring, and nothing before any row
abbrev pub kept_rows : Option Prelude → List RowData
kept_rows None = []
kept_rows (Some prelude) = prelude_of prelude.window (state_view prelude)

-- before the cut: the number of rows still to come before it, and what is kept of those so far
pub record IsBefore (cutter : Cutter) (plate : PlateData) (past : Past) : Type 0 where
  pub left : cutter.left + length past ≡ cutter.count
  pub rows : kept_rows cutter.prelude ≡ prelude_of plate.window (scale_state plate past)
  pub time : cutter.time ≡ time_of past

-- the first number of further rows that are too many after those of a log that is cut after n of these
abbrev pub capacity_left : ℕ → PlateData → List LogRow → ℕ
capacity_left count plate rows = most_rows - length (rows_of_cut plate count rows)

-- after it
pub record IsAfter (cutter : Cutter) (plate : PlateData) (past : Past) : Type 0 where
  pub none_left : cutter.left ≡ 0
  pub more : cutter.count < length past
  pub capacity : cutter.capacity ≡ capacity_left cutter.count plate (onto past [])

-- the rows so far have been seen
abbrev pub HasSeenBy : Bool → Cutter → PlateData → Past → Type 0
HasSeenBy false cutter plate past = IsBefore cutter plate past
HasSeenBy true cutter plate past = IsAfter cutter plate past

abbrev pub HasSeen : Cutter → PlateData → Past → Type 0
HasSeen cutter plate past = HasSeenBy cutter.opened cutter plate past

-- none yet
pub record IsNew (cutter : Cutter) : Type 0 where
  pub left : cutter.left ≡ cutter.count
  pub shut : cutter.opened ≡ false
  pub nothing : cutter.prelude ≡ None
  pub time : cutter.time ≡ 0

-- once all rows have come, it is known how many more are a log
abbrev pub HasCounted : Cutter → ℕ → PlateData → List LogRow → Option LogRefusal → Type 0
HasCounted cutter count plate rows refusal = refusal ≡ None → cutter.capacity ≡ capacity_left count plate rows
