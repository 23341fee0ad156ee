-- What happened in some time, and which rows a column has. (The profile's own.)
use Rattle.std.specs.Prelude.{◌≡◌, ℕ, ◌+◌, ◌-◌, ◌^◌, min, max, ◌*◌, ◌/◌, ◌<◌, ◌≤◌, ◌==◌, nat_lt, List, [], ◌∷◌, ◌++◌, None, map, length, get_or, filter}
use Rattle.std.specs.Option.{option_or, option_to_list}
use Rattle.std.specs.List.{filter_map, fold, last_or, sum_by}
use Rattle.wc_view_columns.specs.declared.events.Events.{Events}
use Rattle.wc_view_columns.specs.Held.{Held, IsStateOf}
use Rattle.wc_view_columns.specs.declared.line.Column.{Column}
use Rattle.wc_view_columns.specs.declared.state.State.{State}

-- a count, up to the most that is kept
abbrev pub counted : ℕ → ℕ
counted n = min n (2 ^ 32 - 1)

-- What happened in two times, one after the other.
--     steps      those of the longest scan
--     marked     when the last zero, tare or change was: that of the later time, if it has one
--     last       the last request: that of the later time, if it has one
pub record AreBoth (earlier later both : Events) : Type 0 where
  pub zeros : both.zeros ≡ counted (earlier.zeros + later.zeros)
  pub zeros_refused : both.zeros_refused ≡ counted (earlier.zeros_refused + later.zeros_refused)
  pub tares : both.tares ≡ counted (earlier.tares + later.tares)
  pub tares_refused : both.tares_refused ≡ counted (earlier.tares_refused + later.tares_refused)
  pub clears : both.clears ≡ counted (earlier.clears + later.clears)
  pub changes : both.changes ≡ counted (earlier.changes + later.changes)
  pub marked : both.marked ≡ option_or later.marked earlier.marked
  pub scans : both.scans ≡ counted (earlier.scans + later.scans)
  pub steps : both.steps ≡ max earlier.steps later.steps
  pub requests : both.requests ≡ counted (earlier.requests + later.requests)
  pub last : both.last ≡ option_or later.last earlier.last

-- a row: its time in milliseconds, what holds after it, and what happened at it
pub record Row : Type 0 where
  pub ms : ℕ
  pub held : Held
  pub events : Events

-- rows in the order of time, none of which is before a time
abbrev pub AreFrom : ℕ → List Row → Type 0
AreFrom ms [] = Unit {0}
AreFrom ms (row ∷ rows) = (ms ≤ row.ms) × AreFrom row.ms rows

-- the number of a time's column: the first one starts at a time, and each has 2 to a power milliseconds
abbrev pub column_number : (start power ms : ℕ) → ℕ
column_number start power ms = (ms - start) / 2 ^ power

-- the rows of a column, in order
abbrev pub rows_of : (start power i : ℕ) → List Row → List Row
rows_of start power i rows = filter (λ row. column_number start power row.ms == i) rows

-- those of the columns before it
abbrev pub rows_before : (start power i : ℕ) → List Row → List Row
rows_before start power i rows = filter (λ row. nat_lt (column_number start power row.ms) i) rows

-- what holds after some rows, in order, and what happened at them
abbrev pub held_of : List Row → List Held
held_of rows = map (λ (row : Row). row.held) rows

abbrev pub events_of : List Row → List Events
events_of rows = map (λ (row : Row). row.events) rows

-- what some rows leave: what holds after the last of them, if there is one
abbrev pub left_by : List Row → List Held
left_by rows = option_to_list (last_or None (held_of rows))

-- What happened at some rows together.
pub record AreTogether (events : List Events) (all : Events) : Type 0 where
  pub zeros : all.zeros ≡ counted (sum_by (λ e. e.zeros) events)
  pub zeros_refused : all.zeros_refused ≡ counted (sum_by (λ e. e.zeros_refused) events)
  pub tares : all.tares ≡ counted (sum_by (λ e. e.tares) events)
  pub tares_refused : all.tares_refused ≡ counted (sum_by (λ e. e.tares_refused) events)
  pub clears : all.clears ≡ counted (sum_by (λ e. e.clears) events)
  pub changes : all.changes ≡ counted (sum_by (λ e. e.changes) events)
  pub marked : all.marked ≡ last_or None (filter_map (λ e. e.marked) events)
  pub scans : all.scans ≡ counted (sum_by (λ e. e.scans) events)
  pub steps : all.steps ≡ fold max 0 (map (λ e. e.steps) events)
  pub requests : all.requests ≡ counted (sum_by (λ e. e.requests) events)
  pub last : all.last ≡ last_or None (filter_map (λ e. e.last) events)

-- A column is of its rows: what the rows before it leave holds on in it, and then what its own rows bring; what happened is
-- that of its own rows.
pub record IsColumnOf (start power i : ℕ) (rows : List Row) (column : Column) : Type 0 where
  pub state : IsStateOf (left_by (rows_before start power i rows) ++ held_of (rows_of start power i rows)) column.state
  pub events : AreTogether (events_of (rows_of start power i rows)) column.events

-- the number of columns: up to that of the last row
abbrev pub column_count : (start power : ℕ) → List Row → ℕ
column_count start power [] = 0
column_count start power (row ∷ rows) = max (column_number start power row.ms + 1) (column_count start power rows)

-- nothing happened
abbrev pub nothing : Events
nothing = record { zeros = 0; zeros_refused = 0; tares = 0; tares_refused = 0; clears = 0; changes = 0; marked = None; scans = 0; steps = 0; requests = 0; last = None }

-- in this column this holds, and nothing happened
abbrev pub holding : State → Column
holding state = record { state = state; events = nothing }

-- One column of two.
pub record AreJoined (earlier later both : Column) : Type 0 where
  pub state : (held others : List Held) → IsStateOf held earlier.state → IsStateOf others later.state → IsStateOf (held ++ others) both.state
  pub events : AreBoth earlier.events later.events both.events

-- The column of that number and the next one as one; the last one alone.
pub record IsPairOf (columns : List Column) (i : ℕ) (pair : Column) : Type 0 where
  pub both : (other : Column) → i + 1 < length columns → AreJoined (get_or columns i other) (get_or columns (i + 1) other) pair
  pub single : (other : Column) → length columns ≤ i + 1 → pair ≡ get_or columns i other

-- Half as many columns, each of two.
pub record AreHalved (columns halves : List Column) : Type 0 where
  pub count : length halves ≡ (length columns + 1) / 2
  pub pairs : (i : ℕ) (other : Column) → i < length halves → IsPairOf columns (2 * i) (get_or halves i other)
