-- The columns of all rows so far. (The profile's own.)
use Rattle.std.specs.Prelude.{◌≡◌, ℕ, ◌<◌, ◌≤◌, ◌⊎◌, List, [], ◌∷◌, Option, Some, None, length, get_or}
use Rattle.wc_view_columns.specs.Held.{Held, IsStateOf}
use Rattle.wc_view_columns.specs.Rows.{AreFrom, IsColumnOf, Row, column_count, column_number, left_by}
use Rattle.wc_view_columns.specs.declared.line.Column.{Column}
use Rattle.wc_view_columns.specs.declared.line.TimeLine.{TimeLine}
use Rattle.wc_view_columns.specs.declared.state.State.{State}

-- a row at this time, after which this holds, with what happened in this column
abbrev pub row_at : ℕ → Held → Column → Row
row_at ms held column = record { ms = ms; held = held; events = column.events }

-- Each column is of its rows, and there are no more columns than up to the last row.
pub record AreColumns (rows : List Row) (line : TimeLine) : Type 0 where
  pub count : length line.columns.items ≡ column_count line.start line.power rows
  pub each : (i : ℕ) (other : Column) → i < length line.columns.items
      → IsColumnOf line.start line.power i rows (get_or line.columns.items i other)

-- the columns of some rows are theirs still
abbrev pub KeepsColumns : TimeLine → TimeLine → Type 0
KeepsColumns old new = (rows : List Row) → AreFrom old.start rows → AreColumns rows old → AreColumns rows new

-- columns are wider than before only as far as this time needs it
abbrev pub IsAsNarrow : ℕ → TimeLine → TimeLine → Type 0
IsAsNarrow ms old new = (power : ℕ) → power < new.power → (power < old.power) ⊎ (720 ≤ column_number old.start power ms)

-- the time of the first row, if there is one
abbrev pub IsStart : List Row → ℕ → Type 0
IsStart [] start = Unit {0}
IsStart (row ∷ rows) start = start ≡ row.ms

-- what holds after all rows; nothing is known before the first
abbrev pub IsLeft : List Row → Option State → Type 0
IsLeft rows None = rows ≡ []
IsLeft rows (Some state) = IsStateOf (left_by rows) state

-- The columns of these rows start at the first one, and are as narrow as they can be with at most 720 of them: at each smaller
-- power of 2 there would be more.
pub record IsTimeLineOf (rows : List Row) (line : TimeLine) : Type 0 where
  pub start : IsStart rows line.start
  pub columns : AreColumns rows line
  pub narrow : (power : ℕ) → power < line.power → 720 < column_count line.start power rows
  pub held : IsLeft rows line.held
