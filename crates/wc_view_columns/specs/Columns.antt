-- Columns, each of the rows of its time, and which lanes a picture has. (The profile's own.)
use Rattle.std.specs.Prelude.{◌≡◌, ℕ, ◌==◌, Bool, true, false, not, List, [], Option, Some, None, ◌∷◌, slice_get, is_some, int_lt}
use Rattle.std.specs.Int.{bit_at}
use Rattle.std.specs.List.{AllZip, flat_map}
use Rattle.std.specs.Option.{option_map_or}
use Rattle.wc_view_columns.specs.declared.bits.Bits.{Bits}
use Rattle.wc_view_columns.specs.declared.bits.Level.{Level}
use Rattle.wc_view_columns.specs.declared.bits.Level.TheVariants.{Low, Both, High}
use Rattle.wc_view_columns.specs.Held.{Held, IsStateOf}
use Rattle.wc_view_columns.specs.Rows.{AreTogether}
use Rattle.wc_view_columns.specs.declared.line.Column.{Column}
use Rattle.wc_view_columns.specs.declared.events.Events.{Events}
use Rattle.wc_view_columns.specs.declared.lanes.Lane.{Lane}
use Rattle.wc_view_columns.specs.declared.lanes.Lane.TheVariants.{Motion, Over, Under, Invalid, Input, Output, Requests, Word, Variable, Scans}

-- each column is of its own rows, of which these are what held, or what happened
abbrev pub AreOf : {X : Type 0} → (List X → Column → Type 0) → List (List X) → List Column → Type 0
AreOf R own columns = AllZip R own columns

-- one column is of the rows of all times, one after the other, and there is none if there is no time
abbrev pub IsOfAll : {X : Type 0} → (List X → Column → Type 0) → Option Column → List (List X) → Type 0
IsOfAll R None own = own ≡ []
IsOfAll R (Some column) own = R (flat_map (λ rows. rows) own) column

-- so of what held
abbrev pub HasHeld : List Held → Column → Type 0
HasHeld held column = IsStateOf held column.state

abbrev pub IsWholeOf : Option Column → List (List Held) → Type 0
IsWholeOf column held = IsOfAll HasHeld column held

-- and of what happened
abbrev pub HasHappened : List Events → Column → Type 0
HasHappened events column = AreTogether events column.events

-- how something stood that was so after one of the rows, or was not
abbrev pub level_of : (was was_not : Bool) → Level
level_of true true = Both
level_of true false = High
level_of false was_not = Low

-- so of the bit of that number
abbrev pub bit_level : Bits → ℕ → Level
bit_level bits i = level_of (bit_at bits.high i == 1) (bit_at bits.low i == 1)

-- A lane's level in a column: of a flag, that it was set after one of the rows; of a bit, whether it was 1, 0 or both. The
-- lanes of requests, words, variables and scans have none.
abbrev pub IsLevelOf : Lane → Column → Level → Type 0
IsLevelOf Motion column level = level ≡ level_of column.state.motion (not column.state.motion)
IsLevelOf Over column level = level ≡ level_of column.state.over (not column.state.over)
IsLevelOf Under column level = level ≡ level_of column.state.under (not column.state.under)
IsLevelOf Invalid column level = level ≡ level_of column.state.invalid (not column.state.invalid)
IsLevelOf (Input i) column level = level ≡ bit_level column.state.inputs i
IsLevelOf (Output i) column level = level ≡ bit_level column.state.outputs i
IsLevelOf lane column level = level ≡ Low

-- all lanes, from above
unfoldable pub all_lanes : List Lane
all_lanes =
    Motion ∷ Over ∷ Under ∷ Invalid ∷ Requests
    ∷ Input 0 ∷ Input 1 ∷ Input 2 ∷ Input 3 ∷ Input 4 ∷ Input 5 ∷ Input 6 ∷ Input 7
    ∷ Input 8 ∷ Input 9 ∷ Input 10 ∷ Input 11 ∷ Input 12 ∷ Input 13 ∷ Input 14 ∷ Input 15
    ∷ Output 0 ∷ Output 1 ∷ Output 2 ∷ Output 3 ∷ Output 4 ∷ Output 5 ∷ Output 6 ∷ Output 7
    ∷ Output 8 ∷ Output 9 ∷ Output 10 ∷ Output 11 ∷ Output 12 ∷ Output 13 ∷ Output 14 ∷ Output 15
    ∷ Word 0 ∷ Word 1 ∷ Word 2 ∷ Word 3 ∷ Variable 0 ∷ Variable 1 ∷ Variable 2 ∷ Variable 3 ∷ Scans ∷ []

-- whether something was both so and not so
abbrev pub is_both : Level → Bool
is_both Low = false
is_both Both = true
is_both High = false

-- Whether something is to be seen in a lane, of what all columns are as one: something held or happened, a value changed, or
-- a variable that is to be drawn had one.
abbrev pub is_shown : Column → Lane → Bool
is_shown all Motion = all.state.motion
is_shown all Over = all.state.over
is_shown all Under = all.state.under
is_shown all Invalid = all.state.invalid
is_shown all Requests = not (all.events.requests == 0)
is_shown all (Input i) = is_both (bit_level all.state.inputs i)
is_shown all (Output i) = is_both (bit_level all.state.outputs i)
is_shown all (Word i) = option_map_or (λ span. int_lt span.least span.greatest) (slice_get all.state.words i) false
is_shown all (Variable i) = option_map_or (λ span. is_some span) (slice_get all.state.variables i) false
is_shown all Scans = not (all.events.scans == 0)
