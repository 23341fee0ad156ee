-- What an observer that cuts a log has seen, row by row.
use Rattle.wc_model.proofs.Common.{◌≡◌, ℕ, ◌+◌, ◌-◌, ◌<◌, ◌≤◌, Bool, true, false, List, [], ◌∷◌, ◌++◌, append-nil, append_assoc, drop, length, length-append, refl, ap, sym, ◌∙◌, arith, le-leb, lt-leb, drop_all, drop-append-le, length-map, take_all, take-append-le}
use Rattle.std.specs.Prelude.{Err, Ok, OnOk, Option, Result, Some, None, is_some, if◌then◌else◌}
use Rattle.wc_cut.proofs.Plans.{written_after, written_at, written_before}
use Rattle.wc_cut.specs.{opening_rows, rows_of_cut, prelude_rows, row_at_time, end_written, opening_text, row_written, time_of, HasSeenBy, IsBefore, kept_rows, capacity_left, heading_text, lines_of, row_text}
use Rattle.wc_cut.specs.declared.cutter.Cutter.{Cutter}
use Rattle.wc_laws_instrument.specs.Preludes.{past_after, prelude_of, scale_state}
use Rattle.wc_model.specs.Definitions.{PlateData, LogRefusal, most_rows, LogRow, Past, Logic}
use Rattle.wc_run.specs.{state_view, onto, refusal_of}
use Rattle.wc_run.specs.declared.preludes.Prelude.{Prelude}

-- what is kept of the rows so far
is_kept : (prelude : Prelude) (plate : PlateData) (past : Past) → prelude.window ≡ plate.window → state_view prelude ≡ scale_state plate past →
    kept_rows (Some prelude) ≡ prelude_of plate.window (scale_state plate past)
is_kept prelude plate past wide same = λ i. prelude_of (wide i) (same i)

-- one row more before the cut
pub keeps : (opened : Bool) (old new : Cutter) (prelude : Prelude) (plate : PlateData) (past : Past) (row : LogRow) → HasSeenBy opened old plate past → 0 < old.left →
    new.count ≡ old.count → new.left ≡ old.left - 1 → new.time ≡ row.ms → new.prelude ≡ Some prelude →
    prelude.window ≡ plate.window → state_view prelude ≡ scale_state plate (row ∷ past) → HasSeenBy opened new plate (row ∷ past)
keeps false old new prelude plate past row seen some count left time kept wide same = record {
  left = omega (arith, seen.left, some, count, left);
  rows = ap kept_rows kept ∙ is_kept prelude plate (row ∷ past) wide same;
  time = time;
}
keeps true old new prelude plate past row seen some count left time kept wide same = absurd (omega (arith, some, seen.none_left))

-- nothing is written of it
pub writes_none : (opened : Bool) (old : Cutter) (plate : PlateData) (logic : Option Logic) (past : Past) (row : LogRow) → HasSeenBy opened old plate past → 0 < old.left →
    row_written old.count plate logic past row ≡ []
writes_none false old plate logic past row seen some = written_before old.count plate logic past row (omega (arith, seen.left, some))
writes_none true old plate logic past row seen some = absurd (omega (arith, some, seen.none_left))

-- the opening
opens : (old : Cutter) (plate : PlateData) (past : Past) → IsBefore old plate past → heading_text ++ lines_of old.time (kept_rows old.prelude) ≡ opening_text plate past
opens old plate past seen = λ i. heading_text ++ lines_of (seen.time i) (seen.rows i)

-- the first row after the cut
pub writes_first : (old : Cutter) (plate : PlateData) (logic : Option Logic) (past : Past) (row : LogRow) (opened : Bool) → opened ≡ false → HasSeenBy opened old plate past →
    (old.left ≡ 0) → (heading_text ++ lines_of old.time (kept_rows old.prelude)) ++ row_text row ≡ row_written old.count plate logic past row
writes_first old plate logic past row false e seen none =
    ap (λ text. text ++ row_text row) (opens old plate past seen) ∙ sym (written_at old.count plate logic past row (omega (arith, seen.left, none)))
writes_first old plate logic past row true e seen none = absurd (cc)

-- a further one
pub writes_more : (old : Cutter) (plate : PlateData) (logic : Option Logic) (past : Past) (row : LogRow) (opened : Bool) → opened ≡ true → HasSeenBy opened old plate past →
    row_text row ≡ row_written old.count plate logic past row
writes_more old plate logic past row true e seen = sym (written_after old.count plate logic past row seen.more)
writes_more old plate logic past row false e seen = absurd (cc)

-- rows put together again
again : (past : Past) (rows : List LogRow) → past_after [] (onto past rows) ≡ past_after past rows
again [] rows = refl
again (row ∷ past) rows = again past (row ∷ rows)

length_onto : (past : Past) (rows : List LogRow) → length (onto past rows) ≡ length past + length rows
length_onto [] rows = omega arith
length_onto (row ∷ past) rows = omega (arith, length_onto past (row ∷ rows))

-- rows one after another, and one more
onto_rows : (past : Past) (rows : List LogRow) → onto past rows ≡ onto past [] ++ rows
onto_rows [] rows = refl
onto_rows (row ∷ past) rows =
    onto_rows past (row ∷ rows) ∙ sym (append_assoc (onto past []) (row ∷ []) rows) ∙ ap (λ first. first ++ rows) (sym (onto_rows past (row ∷ [])))

-- the rows that are written of those so far and one after the cut are one more
one_row_more : (count : ℕ) (plate : PlateData) (past : Past) (row : LogRow) → count ≤ length past →
    length (rows_of_cut plate count (onto (row ∷ past) [])) ≡ length (rows_of_cut plate count (onto past [])) + 1
one_row_more count plate past row more =
    let rows : List LogRow = onto past [] in
    let within : count ≤ length rows = omega (arith, more, length_onto past []) in
    ap (λ all. length (rows_of_cut plate count all)) (onto_rows past (row ∷ []))
    ∙ (λ i. length (prelude_rows plate (past_after [] (take-append-le count rows (row ∷ []) within i)) ++ drop-append-le count rows (row ∷ []) within i))
    ∙ omega (
      arith,
      length-append (opening_rows plate count rows) (drop count rows ++ (row ∷ [])),
      length-append (opening_rows plate count rows) (drop count rows),
      length-append (drop count rows) (row ∷ []),
    )

-- those of the prelude, before any row after the cut
opening_length : (count : ℕ) (plate : PlateData) (past : Past) → length past ≤ count →
    length (rows_of_cut plate count (onto past [])) ≡ length (prelude_of plate.window (scale_state plate past))
opening_length count plate past few =
    let rows : List LogRow = onto past [] in
    let all : length rows ≤ count = omega (arith, few, length_onto past []) in
    (λ i. length (prelude_rows plate (past_after [] (take_all count rows all i)) ++ drop_all count rows all i))
    ∙ ap length (append-nil (prelude_rows plate (past_after [] rows)))
    ∙ ap (λ before. length (prelude_rows plate before)) (again past [])
    ∙ length-map (prelude_of plate.window (scale_state plate past)) (row_at_time (time_of past))

-- the capacity that is left after the opening
pub capacity_opened : (old : Cutter) (capacity : ℕ) (plate : PlateData) (past : Past) → IsBefore old plate past → capacity ≡ most_rows - length (kept_rows old.prelude) →
    capacity ≡ capacity_left old.count plate (onto past [])
capacity_opened old capacity plate past seen is =
    is ∙ ap (λ rows. most_rows - length rows) seen.rows ∙ ap (λ n. most_rows - n) (sym (opening_length old.count plate past (omega (arith, seen.left))))

-- and after a row
capacity_with : (count capacity : ℕ) (plate : PlateData) (past : Past) (row : LogRow) → count ≤ length past → capacity ≡ capacity_left count plate (onto past []) →
    capacity - 1 ≡ capacity_left count plate (onto (row ∷ past) [])
capacity_with count capacity plate past row more is = omega (arith, is, one_row_more count plate past row more)

-- the first row after the cut has come
pub has_opened : (old new : Cutter) (capacity : ℕ) (plate : PlateData) (past : Past) (row : LogRow) (opened : Bool) → opened ≡ false → HasSeenBy opened old plate past → old.left ≡ 0 →
    new.left ≡ old.left → new.count ≡ old.count → capacity ≡ most_rows - length (kept_rows old.prelude) → new.capacity ≡ capacity - 1 → HasSeenBy true new plate (row ∷ past)
has_opened old new capacity plate past row false e seen none left count is less = record {
  none_left = left ∙ none;
  more = omega (arith, seen.left, none, count);
  capacity = less ∙ capacity_with old.count capacity plate past row (omega (arith, seen.left)) (capacity_opened old capacity plate past seen is)
      ∙ ap (λ n. capacity_left n plate (onto (row ∷ past) [])) (sym count);
}
has_opened old new capacity plate past row true e seen none left count is less = absurd (cc)

-- a further one has
pub has_gone_on : (old new : Cutter) (plate : PlateData) (past : Past) (row : LogRow) (opened : Bool) → opened ≡ true → HasSeenBy opened old plate past → old.left ≡ 0 →
    new.left ≡ old.left → new.count ≡ old.count → new.capacity ≡ old.capacity - 1 → HasSeenBy true new plate (row ∷ past)
has_gone_on old new plate past row true e seen none left count less = record {
  none_left = left ∙ none;
  more = omega (arith, seen.more, count);
  capacity = less ∙ capacity_with old.count old.capacity plate past row (omega (arith, seen.more)) seen.capacity
      ∙ ap (λ n. capacity_left n plate (onto (row ∷ past) [])) (sym count);
}
has_gone_on old new plate past row false e seen none left count less = absurd (cc)

-- the capacity at the end, of a log with a row after the cut, and of one without
pub counted_after : (old : Cutter) (plate : PlateData) (past : Past) (opened : Bool) → opened ≡ true → HasSeenBy opened old plate past →
    old.capacity ≡ capacity_left old.count plate (onto past [])
counted_after old plate past true e seen = seen.capacity
counted_after old plate past false e seen = absurd (cc)

pub counted_before : (old : Cutter) (capacity : ℕ) (plate : PlateData) (past : Past) (opened : Bool) → opened ≡ false → HasSeenBy opened old plate past →
    capacity ≡ most_rows - length (kept_rows old.prelude) → capacity ≡ capacity_left old.count plate (onto past [])
counted_before old capacity plate past false e seen is = capacity_opened old capacity plate past seen is
counted_before old capacity plate past true e seen is = absurd (cc)

-- a refusal is one
pub some_refused : (refused : Option (ℕ × ℕ)) → is_some refused ≡ true → ¬ (refusal_of refused ≡ None)
some_refused None e = absurd (cc)
some_refused (Some at) e = λ none. cc

-- the end of a log with no row after the cut
pub ends_before : (old : Cutter) (plate : PlateData) (logic : Option Logic) (past : Past) (opened : Bool) → opened ≡ false → HasSeenBy opened old plate past →
    heading_text ++ lines_of old.time (kept_rows old.prelude) ≡ end_written old.count plate logic (onto past []) None
ends_before old plate logic past true e seen = absurd (cc)
ends_before old plate logic past false e seen =
    opens old plate past seen ∙ ap (opening_text plate) (sym (again past []))
    ∙ sym (ap (λ b. if b then opening_text plate (past_after [] (onto past [])) else [])
    (le-leb (length (onto past [])) old.count (omega (arith, seen.left, length_onto past []))))

-- and of one with such a row, or of a row that is refused
pub ends_after : (old : Cutter) (plate : PlateData) (logic : Option Logic) (past : Past) (opened : Bool) → opened ≡ true → HasSeenBy opened old plate past →
    (refusal : Option LogRefusal) → end_written old.count plate logic (onto past []) refusal ≡ []
ends_after old plate logic past false e seen refusal = absurd (cc)
ends_after old plate logic past true e seen None =
    ap (λ b. if b then opening_text plate (past_after [] (onto past [])) else [])
    (lt-leb (length (onto past [])) old.count (omega (arith, seen.more, length_onto past [])))
ends_after old plate logic past true e seen (Some refusal) = refl

-- a row that is refused
pub ends_refused : (count : ℕ) (plate : PlateData) (logic : Option Logic) (rows : List LogRow) (refused : Option (ℕ × ℕ)) → is_some refused ≡ true →
    end_written count plate logic rows (refusal_of refused) ≡ []
ends_refused count plate logic rows None e = absurd (cc)
ends_refused count plate logic rows (Some at) e = refl

pub none_refused : (refused : Option (ℕ × ℕ)) → is_some refused ≡ false → refusal_of refused ≡ None
none_refused None e = refl
none_refused (Some at) e = absurd (cc)

-- what holds whatever the answer
pub always : {T E P : Type 0} (r : Result T E) → P → OnOk r P
always (Ok x) holds = holds
always (Err e) holds = tt
