-- A log that is cut is a log.
use Rattle.std.proofs.Common.{ℕ, zero, suc, ◌+◌, ◌≤◌, List, [], ◌∷◌, ◌++◌, drop, length, map, refl, take, arith}
use Rattle.wc_cut.proofs.PreludeRanges.{ArePastRows, AreRanged, prelude_ranged}
use Rattle.wc_cut.proofs.ReadLogs.{read_again}
use Rattle.wc_cut.specs.{rows_of_cut, row_at_time, IsLogAgain, numbered, time_of}
use Rattle.wc_laws_instrument.specs.Logs.{AreInOrder, IsDataInRange}
use Rattle.wc_laws_instrument.specs.Preludes.{past_after, prelude_of, scale_state}
use Rattle.wc_model.specs.Definitions.{PlateData, IsPlate, greatest_moment, most_rows, LogRow, Past, RowData}

-- rows that are in order and in their ranges, whatever their numbers
abbrev AreTimed : ℕ → List LogRow → Type 0
AreTimed earliest [] = Unit {0}
AreTimed earliest (row ∷ rows) = (earliest ≤ row.ms) × (row.ms ≤ greatest_moment) × IsDataInRange row.brings × AreTimed row.ms rows

timed_of : (number earliest : ℕ) (rows : List LogRow) → AreInOrder number earliest rows → AreTimed earliest rows
timed_of number earliest [] h = tt
timed_of number earliest (row ∷ rows) (own, few, after, early, range, others) = (after, early, range, timed_of (suc number) row.ms rows others)

-- numbered they are in order, unless they are too many
in_order : (number earliest : ℕ) (rows : List LogRow) → AreTimed earliest rows → number + length rows ≤ most_rows + 1 → AreInOrder number earliest (numbered number rows)
in_order number earliest [] h few = tt
in_order number earliest (row ∷ rows) (after, early, range, others) few =
    (refl, omega (arith, few), after, early, range, in_order (suc number) row.ms rows others (omega (arith, few)))

-- after an earlier time
sooner : (earliest time : ℕ) (rows : List LogRow) → earliest ≤ time → AreTimed time rows → AreTimed earliest rows
sooner earliest time [] after h = tt
sooner earliest time (row ∷ rows) after (later, early, range, others) = (omega (arith, after, later), early, range, others)

-- rows of one time before them
at_one_time : (time earliest : ℕ) (brought : List RowData) (rows : List LogRow) → earliest ≤ time → time ≤ greatest_moment → AreRanged brought → AreTimed time rows →
    AreTimed earliest (map (row_at_time time) brought ++ rows)
at_one_time time earliest [] rows after early ranged h = sooner earliest time rows after h
at_one_time time earliest (row ∷ brought) rows after early ranged h =
    (after, early, ranged.0, at_one_time time time brought rows (omega arith) early ranged.1 h)

-- the first n rows, and those after them
left_timed : (n : ℕ) (past : Past) (rows : List LogRow) → AreTimed (time_of past) rows → AreTimed (time_of (past_after past (take n rows))) (drop n rows)
left_timed zero past rows h = h
left_timed (suc n) past [] h = tt
left_timed (suc n) past (row ∷ rows) (after, early, range, others) = left_timed n (row ∷ past) rows others

time_early : (n : ℕ) (past : Past) (rows : List LogRow) → time_of past ≤ greatest_moment → AreTimed (time_of past) rows → time_of (past_after past (take n rows)) ≤ greatest_moment
time_early zero past rows known h = known
time_early (suc n) past [] known h = known
time_early (suc n) past (row ∷ rows) known (after, early, range, others) = time_early n (row ∷ past) rows early others

first_rows : (n : ℕ) (past : Past) (rows : List LogRow) → ArePastRows past → AreTimed (time_of past) rows → ArePastRows (past_after past (take n rows))
first_rows zero past rows known h = known
first_rows (suc n) past [] known h = known
first_rows (suc n) past (row ∷ rows) known (after, early, range, others) = first_rows n (row ∷ past) rows (range, known) others

pub is_log_again : (plate : PlateData) → IsPlate plate → (count : ℕ) (rows : List LogRow) → IsLogAgain plate count rows
is_log_again plate is count rows = λ h few.
    let timed : AreTimed 0 rows = timed_of 2 0 rows h in
    let past : Past = past_after [] (take count rows) in
    let early : time_of past ≤ greatest_moment = time_early count [] rows (omega arith) timed in
    let whole : AreTimed 0 (rows_of_cut plate count rows) =
    at_one_time (time_of past) 0 (prelude_of plate.window (scale_state plate past)) (drop count rows) (omega arith) early
    (prelude_ranged plate is past (first_rows count [] rows tt timed)) (left_timed count [] rows timed) in
    read_again plate (omega (arith, is.window_in_range.0)) count rows (in_order 2 0 (rows_of_cut plate count rows) whole (omega (arith, few)))
