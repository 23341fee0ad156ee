-- Columns of rows: as wide again, and with one row more.
use Rattle.std.proofs.Common.{◌≡◌, ℕ, zero, suc, ◌+◌, ◌-◌, ◌*◌, ◌/◌, ◌^◌, ◌<◌, ◌≤◌, ◌⊎◌, inl, inr, Bool, true, false, cond, nat_lt, max, List, [], ◌∷◌, ◌++◌, Option, Some, None, filter, length, get_or, replicate, set, refl, sym, ap, ◌∙◌, subst, arith, append_assoc, append-nil, length-append, length-set, le_of_eq, le_trans}
use Rattle.wc_model.proofs.Common.{zero-div, cases_eq, cases_lt, eq-eqb, le-ltb, lt-ltb, ne_eqb, get_or-append_right, get_or-replicate, get_or-set_other, get_or-set_same, get_or_append_left, length-replicate, map-append, replicate_more, filter-append, last_or, option_to_list}
use Rattle.std.specs.Prelude.{◌==◌}
use Rattle.wc_view_columns.proofs.Parts.{before_next, before_two, later, of_two, wider}
use Rattle.wc_view_columns.proofs.Settled.{left_once, settled}
use Rattle.wc_view_columns.proofs.Totals.{both_together, last_or-append, none_together, one_together}
use Rattle.wc_view_columns.specs.Rows.{AreBoth, AreFrom, AreHalved, AreJoined, AreTogether, IsColumnOf, IsPairOf, Row, column_count, column_number, events_of, held_of, holding, left_by, rows_before, rows_of}
use Rattle.wc_view_columns.specs.Held.{Held, IsStateOf}
use Rattle.wc_view_columns.specs.declared.line.Column.{Column}
use Rattle.wc_view_columns.specs.declared.state.State.{State}

-- each column is of its rows
abbrev pub AreEach : (start power : ℕ) → List Row → List Column → Type 0
AreEach start power rows columns = (i : ℕ) (other : Column) → i < length columns → IsColumnOf start power i rows (get_or columns i other)

-- no row is in a column after the last, and all are before it
over : (n m k : ℕ) → max (n + 1) m ≤ k → ((n == k) ≡ false) × (nat_lt n k ≡ true) × (m ≤ k)
over n m k l = let below : n < k = omega (arith, l) in (ne_eqb n k (λ e. omega (arith, e, below)), lt-ltb n k below, omega (arith, l))

none_over : (start power i : ℕ) (rows : List Row) → column_count start power rows ≤ i → rows_of start power i rows ≡ []
none_over start power i [] within = refl
none_over start power i (row ∷ rows) within =
    let after = over (column_number start power row.ms) (column_count start power rows) i within in
    ap (λ t. cond t (row ∷ rows_of start power i rows) (rows_of start power i rows)) after.0 ∙ none_over start power i rows after.2

all_before : (start power i : ℕ) (rows : List Row) → column_count start power rows ≤ i → rows_before start power i rows ≡ rows
all_before start power i [] within = refl
all_before start power i (row ∷ rows) within =
    let after = over (column_number start power row.ms) (column_count start power rows) i within in
    ap (λ t. cond t (row ∷ rows_before start power i rows) (rows_before start power i rows)) after.1 ∙ ap (λ r. row ∷ r) (all_before start power i rows after.2)

-- what rows and later ones leave is what the first left, and then the later ones
last_of_left : (o : Option Held) (held : List Held) → last_or None (option_to_list o ++ held) ≡ last_or o held
last_of_left None held = refl
last_of_left (Some h) held = refl

left_on : (before own : List Row) → left_by (before ++ own) ≡ option_to_list (last_or None (left_by before ++ held_of own))
left_on before own =
    ap (λ held. option_to_list (last_or None held)) (map-append (λ (row : Row). row.held) before own)
    ∙ ap option_to_list (last_or-append None (held_of before) (held_of own) ∙ sym (last_of_left (last_or None (held_of before)) (held_of own)))

-- the same rows
column_state : {before own early rows_own : List Row} (state : State) → early ≡ before → rows_own ≡ own → IsStateOf (left_by before ++ held_of own) state
    → IsStateOf (left_by early ++ held_of rows_own) state
column_state state e f are = subst (λ held. IsStateOf held state) (sym (λ i. left_by (e i) ++ held_of (f i))) are

-- of two columns, one after the other
pair_state : (before own next : List Row) (a b c : State) → IsStateOf (left_by before ++ held_of own) a → IsStateOf (left_by (before ++ own) ++ held_of next) b
    → ((held others : List Held) → IsStateOf held a → IsStateOf others b → IsStateOf (held ++ others) c) → IsStateOf (left_by before ++ held_of (own ++ next)) c
pair_state before own next a b c first second both =
    let held : List Held = left_by before ++ held_of own in
    let joined : IsStateOf (held ++ (option_to_list (last_or None held) ++ held_of next)) c =
    both held (option_to_list (last_or None held) ++ held_of next) first (subst (λ left. IsStateOf (left ++ held_of next) b) (left_on before own) second) in
    subst (λ rows. IsStateOf rows c)
    (append_assoc (left_by before) (held_of own) (held_of next) ∙ ap (λ rows. left_by before ++ rows) (sym (map-append (λ (row : Row). row.held) own next)))
    (left_once held (held_of next) c joined)

column_of_two : (start power i : ℕ) (rows : List Row) (a b c : Column) → AreFrom start rows → IsColumnOf start power (2 * i) rows a → IsColumnOf start power (2 * i + 1) rows b
    → AreJoined a b c → IsColumnOf start (power + 1) i rows c
column_of_two start power i rows a b c from first second joined =
    let before : List Row = rows_before start power (2 * i) rows in
    let own : List Row = rows_of start power (2 * i) rows in
    let next : List Row = rows_of start power (2 * i + 1) rows in
    let both : rows_of start (power + 1) i rows ≡ own ++ next = of_two start power i rows from in
    record {
      state = column_state c.state (before_two start power i rows) both
          (pair_state before own next a.state b.state c.state first.state
          (subst (λ (x : List Row). IsStateOf (left_by x ++ held_of next) b.state) (before_next start power (2 * i) rows from) second.state) joined.state);
      events = subst (λ (y : List Row). AreTogether (events_of y) c.events) (sym both)
          (subst (λ es. AreTogether es c.events) (sym (map-append (λ (row : Row). row.events) own next))
          (both_together (events_of own) (events_of next) a.events b.events c.events first.events second.events joined.events));
    }

column_of_one : (start power i : ℕ) (rows : List Row) (a : Column) → AreFrom start rows → IsColumnOf start power (2 * i) rows a → column_count start power rows ≤ 2 * i + 1
    → IsColumnOf start (power + 1) i rows a
column_of_one start power i rows a from first within =
    let own : List Row = rows_of start power (2 * i) rows in
    let only : rows_of start (power + 1) i rows ≡ own =
    of_two start power i rows from ∙ ap (λ r. own ++ r) (none_over start power (2 * i + 1) rows within) ∙ append-nil own in
    record {
      state = column_state a.state (before_two start power i rows) only first.state;
      events = subst (λ (y : List Row). AreTogether (events_of y) a.events) (sym only) first.events;
    }

pub each_halved : (start power : ℕ) (rows : List Row) (columns half : List Column) → AreFrom start rows → length columns ≡ column_count start power rows
    → AreEach start power rows columns → AreHalved columns half → AreEach start (power + 1) rows half
each_halved start power rows columns half from count each halved i other within =
    let pair : IsPairOf columns (2 * i) (get_or half i other) = halved.pairs i other within in
    let first : 2 * i < length columns = omega (arith, within, halved.count) in
    by (cases_lt (2 * i + 1) (length columns)) pair first
  where
    by : ((2 * i + 1 < length columns) ⊎ (length columns ≤ 2 * i + 1)) → IsPairOf columns (2 * i) (get_or half i other) → 2 * i < length columns
        → IsColumnOf start (power + 1) i rows (get_or half i other)
    by (inl second) pair first =
        column_of_two start power i rows (get_or columns (2 * i) other) (get_or columns (2 * i + 1) other) (get_or half i other) from (each (2 * i) other first)
        (each (2 * i + 1) other second) (pair.both other second)
    by (inr last) pair first =
        subst (λ c. IsColumnOf start (power + 1) i rows c) (sym (pair.single other last))
        (column_of_one start power i rows (get_or columns (2 * i) other) from (each (2 * i) other first) (omega (arith, last, count)))

half_max : (m n c d : ℕ) → m ≡ n / 2 → d ≡ (c + 1) / 2 → max (m + 1) d ≡ (max (n + 1) c + 1) / 2
half_max m n c d e f = omega (arith, e, f)

pub count_halved : (start power : ℕ) (rows : List Row) → column_count start (power + 1) rows ≡ (column_count start power rows + 1) / 2
count_halved start power [] = refl
count_halved start power (row ∷ rows) =
    half_max (column_number start (power + 1) row.ms) (column_number start power row.ms) (column_count start power rows) (column_count start (power + 1) rows)
    (wider start power row.ms) (count_halved start power rows)

-- columns of which some are pairs already
pair_same : (old now : List Column) (i : ℕ) (c : Column) → length now ≡ length old → ((j : ℕ) (other : Column) → i ≤ j → get_or now j other ≡ get_or old j other)
    → IsPairOf now (2 * i) c → IsPairOf old (2 * i) c
pair_same old now i c count rest pair = record {
  both = λ other l.
      subst (λ a. AreJoined a (get_or old (2 * i + 1) other) c) (rest (2 * i) other (omega arith))
      (subst (λ b. AreJoined (get_or now (2 * i) other) b c) (rest (2 * i + 1) other (omega arith)) (pair.both other (omega (arith, l, count))));
  single = λ other l. pair.single other (omega (arith, l, count)) ∙ rest (2 * i) other (omega arith);
}

pub pairs_more : (old now : List Column) (k : ℕ) (c : Column) → length now ≡ length old → ((j : ℕ) (other : Column) → k ≤ j → get_or now j other ≡ get_or old j other)
    → k < length now → ((i : ℕ) (other : Column) → i < k → IsPairOf old (2 * i) (get_or now i other)) → IsPairOf now (2 * k) c
    → (i : ℕ) (other : Column) → i < k + 1 → IsPairOf old (2 * i) (get_or (set now k c) i other)
pairs_more old now k c count rest inside done pair i other l = by (cases_eq i k)
  where
    by : ((i ≡ k) ⊎ (i ≡ k → ⊥)) → IsPairOf old (2 * i) (get_or (set now k c) i other)
    by (inl here) =
        subst (λ j. IsPairOf old (2 * j) (get_or (set now k c) j other)) (sym here)
        (subst (λ d. IsPairOf old (2 * k) d) (sym (get_or-set_same now k c other inside)) (pair_same old now k c count rest pair))
    by (inr differs) = subst (λ d. IsPairOf old (2 * i) d) (sym (get_or-set_other now k i c other differs)) (done i other (omega (arith, differs, l)))

-- more columns in which this holds
pub filled_more : (old : List Column) (n : ℕ) (c : Column) → length old ≤ n → (old ++ replicate (n - length old) c) ++ c ∷ [] ≡ old ++ replicate (n + 1 - length old) c
filled_more old n c l =
    let one : n - length old + 1 ≡ n + 1 - length old = omega (arith, l) in
    append_assoc old (replicate (n - length old) c) (c ∷ []) ∙ ap (λ cs. old ++ cs) (replicate_more (n - length old) c ∙ ap (λ k. replicate k c) one)

-- a column more in which nothing happened
each_on : (P : ℕ → Column → Type 0) (columns : List Column) (n : ℕ) (more : Column) → ((i : ℕ) (other : Column) → i < length columns → P i (get_or columns i other))
    → ((i : ℕ) → length columns ≤ i → P i more)
    → (i : ℕ) (other : Column) → i < length (columns ++ replicate n more) → P i (get_or (columns ++ replicate n more) i other)
each_on P columns n more each here i other within = by (cases_lt i (length columns))
  where
    by : ((i < length columns) ⊎ (length columns ≤ i)) → P i (get_or (columns ++ replicate n more) i other)
    by (inl l) = rw (get_or_append_left columns (replicate n more) other i l) (each i other l)
    by (inr l) =
        let inside : i - length columns < n = omega (arith, within, length-append columns (replicate n more), length-replicate n more, l) in
        rw (
          get_or-append_right columns (replicate n more) (length columns) i other refl l,
          get_or-replicate n (i - length columns) more other inside,
        ) (here i l)

held_on : (start power i : ℕ) (rows : List Row) (state : State) → IsStateOf (left_by rows) state → column_count start power rows ≤ i
    → IsColumnOf start power i rows (holding state)
held_on start power i rows state held within = record {
  state = column_state state (all_before start power i rows within) (none_over start power i rows within)
      (subst (λ hs. IsStateOf hs state) (sym (append-nil (left_by rows))) held);
  events = subst (λ (y : List Row). AreTogether (events_of y) (holding state).events) (sym (none_over start power i rows within)) none_together;
}

pub each_filled : (start power n : ℕ) (rows : List Row) (columns : List Column) (state : State) → IsStateOf (left_by rows) state
    → column_count start power rows ≤ length columns → AreEach start power rows columns → AreEach start power rows (columns ++ replicate n (holding state))
each_filled start power n rows columns state held within each =
    each_on (λ i c. IsColumnOf start power i rows c) columns n (holding state) each
    (λ i l. held_on start power i rows state held (le_trans within l))

-- a row more
filter_one : (p : Row → Bool) (rows : List Row) (row : Row) (b : Bool) → p row ≡ b → filter p (rows ++ row ∷ []) ≡ filter p rows ++ cond b (row ∷ []) []
filter_one p rows row b e = filter-append p rows (row ∷ []) ∙ ap (λ t. filter p rows ++ cond t (row ∷ []) []) e

filter_none : (p : Row → Bool) (rows : List Row) (row : Row) → p row ≡ false → filter p (rows ++ row ∷ []) ≡ filter p rows
filter_none p rows row e = filter_one p rows row false e ∙ append-nil (filter p rows)

earlier_stays : (start power i : ℕ) (rows : List Row) (row : Row) (c : Column) → i < column_number start power row.ms → IsColumnOf start power i rows c
    → IsColumnOf start power i (rows ++ row ∷ []) c
earlier_stays start power i rows row c l are =
    let before : rows_before start power i (rows ++ row ∷ []) ≡ rows_before start power i rows =
    filter_none (λ r. nat_lt (column_number start power r.ms) i) rows row (le-ltb (column_number start power row.ms) i (omega (arith, l))) in
    let own : rows_of start power i (rows ++ row ∷ []) ≡ rows_of start power i rows =
    filter_none (λ r. column_number start power r.ms == i) rows row (ne_eqb (column_number start power row.ms) i (λ e. omega (arith, e, l))) in
    record {
      state = column_state c.state before own are.state;
      events = subst (λ (y : List Row). AreTogether (events_of y) c.events) (sym own) are.events;
    }

own_more : (start power : ℕ) (rows : List Row) (row : Row) (a one c : Column) → IsColumnOf start power (column_number start power row.ms) rows a
    → IsStateOf (row.held ∷ []) one.state → one.events ≡ row.events → AreJoined a one c → IsColumnOf start power (column_number start power row.ms) (rows ++ row ∷ []) c
own_more start power rows row a one c are held happened joined =
    let n : ℕ = column_number start power row.ms in
    let old_before : List Row = rows_before start power n rows in
    let old_own : List Row = rows_of start power n rows in
    let before : rows_before start power n (rows ++ row ∷ []) ≡ old_before =
    filter_none (λ r. nat_lt (column_number start power r.ms) n) rows row (le-ltb n n (omega arith)) in
    let own : rows_of start power n (rows ++ row ∷ []) ≡ old_own ++ row ∷ [] =
    filter_one (λ r. column_number start power r.ms == n) rows row true (eq-eqb n n refl) in
    record {
      state = column_state c.state before own
          (subst (λ hs. IsStateOf hs c.state)
          (append_assoc (left_by old_before) (held_of old_own) (row.held ∷ []) ∙ ap (λ hs. left_by old_before ++ hs) (sym (map-append (λ (r : Row). r.held) old_own (row ∷ []))))
          (joined.state (left_by old_before ++ held_of old_own) (row.held ∷ []) are.state held));
      events = subst (λ (y : List Row). AreTogether (events_of y) c.events) (sym own)
          (subst (λ es. AreTogether es c.events) (sym (map-append (λ (r : Row). r.events) old_own (row ∷ [])))
          (one_together (events_of old_own) a.events row.events c.events are.events (subst (λ e. AreBoth a.events e c.events) happened joined.events)));
    }

pub each_added : (start power : ℕ) (rows : List Row) (row : Row) (columns : List Column) (one c d : Column) → AreEach start power rows columns
    → length columns ≡ column_number start power row.ms + 1 → IsStateOf (row.held ∷ []) one.state → one.events ≡ row.events
    → AreJoined (get_or columns (column_number start power row.ms) d) one c
    → AreEach start power (rows ++ row ∷ []) (set columns (column_number start power row.ms) c)
each_added start power rows row columns one c d each count held happened joined i other within =
    by (cases_eq i (column_number start power row.ms))
  where
    inside : i < length columns
    inside = omega (arith, within, length-set columns (column_number start power row.ms) c)

    by : ((i ≡ column_number start power row.ms) ⊎ (i ≡ column_number start power row.ms → ⊥))
        → IsColumnOf start power i (rows ++ row ∷ []) (get_or (set columns (column_number start power row.ms) c) i other)
    by (inl here) =
        subst (λ k. IsColumnOf start power k (rows ++ row ∷ []) (get_or (set columns (column_number start power row.ms) c) k other)) (sym here)
        (subst (λ d. IsColumnOf start power (column_number start power row.ms) (rows ++ row ∷ []) d)
        (sym (get_or-set_same columns (column_number start power row.ms) c other (omega (arith, count))))
        (own_more start power rows row (get_or columns (column_number start power row.ms) d) one c
        (each (column_number start power row.ms) d (omega (arith, count))) held happened joined))
    by (inr else_where) =
        subst (λ d. IsColumnOf start power i (rows ++ row ∷ []) d) (sym (get_or-set_other columns (column_number start power row.ms) i c other else_where))
        (earlier_stays start power i rows row (get_or columns i other) (omega (arith, else_where, count, inside)) (each i other inside))

pub count_added : (start power : ℕ) (rows : List Row) (row : Row) → column_count start power (rows ++ row ∷ []) ≡ max (column_count start power rows) (column_number start power row.ms + 1)
count_added start power [] row = omega arith
count_added start power (r ∷ rows) row =
    again (column_number start power r.ms) (column_number start power row.ms) (column_count start power rows) (column_count start power (rows ++ row ∷ [])) (count_added start power rows row)
  where
    again : (n m c d : ℕ) → d ≡ max c (m + 1) → max (n + 1) d ≡ max (max (n + 1) c) (m + 1)
    again n m c d e = omega (arith, e)

-- the last row is the latest
latest : (ms : ℕ) (rows : List Row) (row : Row) → AreFrom ms (rows ++ row ∷ []) → ms ≤ row.ms
latest ms [] row from = from.0
latest ms (r ∷ rows) row from = le_trans from.0 (latest r.ms rows row from.1)

pub none_after : (start power ms : ℕ) (rows : List Row) (row : Row) → AreFrom ms (rows ++ row ∷ []) → column_count start power rows ≤ column_number start power row.ms + 1
none_after start power ms [] row from = omega arith
none_after start power ms (r ∷ rows) row from =
    up (column_number start power r.ms) (column_count start power rows) (column_number start power row.ms) (later start power r.ms row.ms (latest r.ms rows row from.1))
    (none_after start power r.ms rows row from.1)
  where
    up : (n c m : ℕ) → n ≤ m → c ≤ m + 1 → max (n + 1) c ≤ m + 1
    up n c m k l = omega (arith, k, l)

-- rows without the last one
pub without_last : (ms : ℕ) (rows : List Row) (row : Row) → AreFrom ms (rows ++ row ∷ []) → AreFrom ms rows
without_last ms [] row from = tt
without_last ms (r ∷ rows) row from = (from.0, without_last r.ms rows row from.1)

-- the first row
at_start : (power ms : ℕ) → column_number ms power ms ≡ 0
at_start power ms =
    let none : ms - ms ≡ 0 = omega arith in
    ap (λ n. n / 2 ^ power) none ∙ zero-div (2 ^ power)

pub count_first : (power ms : ℕ) (row : Row) → row.ms ≡ ms → 1 ≡ column_count ms power (row ∷ [])
count_first power ms row time =
    let here : column_number ms power row.ms ≡ 0 = ap (λ n. column_number ms power n) time ∙ at_start power ms in
    ap (λ n. max (n + 1) 0) (sym here)

first_column : (power ms : ℕ) (row : Row) (a one c : Column) → row.ms ≡ ms → a ≡ holding one.state → IsStateOf (row.held ∷ []) one.state → one.events ≡ row.events
    → AreJoined a one c → IsColumnOf ms power 0 (row ∷ []) c
first_column power ms row a one c time empty held happened joined =
    let here : column_number ms power row.ms ≡ 0 = ap (λ n. column_number ms power n) time ∙ at_start power ms in
    let before : rows_before ms power 0 (row ∷ []) ≡ [] = ap (λ n. cond (nat_lt n 0) (row ∷ []) []) here in
    let own : rows_of ms power 0 (row ∷ []) ≡ row ∷ [] = ap (λ n. cond (n == 0) (row ∷ []) []) here in
    let first : IsStateOf (row.held ∷ []) a.state = subst (λ d. IsStateOf (row.held ∷ []) d.state) (sym empty) held in
    let nothing_yet : AreTogether [] a.events = subst (λ d. AreTogether [] d.events) (sym empty) none_together in
    record {
      state = column_state c.state before own (settled [] [] row.held c.state (joined.state (row.held ∷ []) (row.held ∷ []) first held));
      events = subst (λ (y : List Row). AreTogether (events_of y) c.events) (sym own)
          (one_together [] a.events row.events c.events nothing_yet (subst (λ e. AreBoth a.events e c.events) happened joined.events));
    }

pub each_first : (power ms : ℕ) (row : Row) (a one c : Column) → row.ms ≡ ms → a ≡ holding one.state → IsStateOf (row.held ∷ []) one.state → one.events ≡ row.events
    → AreJoined a one c → AreEach ms power (row ∷ []) (c ∷ [])
each_first power ms row a one c time empty held happened joined zero other within = first_column power ms row a one c time empty held happened joined
each_first power ms row a one c time empty held happened joined (suc i) other within = absurd (omega (arith, within))

-- a row after which the columns are filled up to its own
pub followed : (start power first : ℕ) (rows : List Row) (row : Row) (columns filled : List Column) (state : State) (one c d : Column) (index : ℕ)
    → AreFrom first (rows ++ row ∷ []) → length columns ≡ column_count start power rows → AreEach start power rows columns → IsStateOf (left_by rows) state
    → index ≡ column_number start power row.ms → filled ≡ columns ++ replicate (index + 1 - length columns) (holding state)
    → IsStateOf (row.held ∷ []) one.state → one.events ≡ row.events → AreJoined (get_or filled index d) one c
    → (length (set filled index c) ≡ column_count start power (rows ++ row ∷ [])) × AreEach start power (rows ++ row ∷ []) (set filled index c)
followed start power first rows row columns filled state one c d index from count each held here fills is happened joined =
    let n : ℕ = column_number start power row.ms in
    let more : ℕ = index + 1 - length columns in
    let within : column_count start power rows ≤ n + 1 = none_after start power first rows row from in
    let each_of : AreEach start power rows filled =
    subst (λ cs. AreEach start power rows cs) (sym fills) (each_filled start power more rows columns state held (le_of_eq (sym count)) each) in
    let size : length filled ≡ n + 1 =
    ap length fills ∙ length-append columns (replicate more (holding state)) ∙ ap (λ k. length columns + k) (length-replicate more (holding state))
    ∙ omega (arith, here, count, within) in
    let all : n + 1 ≡ max (column_count start power rows) (n + 1) = omega (arith, within) in (
      length-set filled index c ∙ size ∙ all ∙ sym (count_added start power rows row),
      subst (λ k. AreEach start power (rows ++ row ∷ []) (set filled k c)) (sym here)
          (each_added start power rows row filled one c d each_of size is happened (subst (λ k. AreJoined (get_or filled k d) one c) here joined)),
    )

-- what holds after a last row
pub left_last : (rows : List Row) (row : Row) → left_by (rows ++ row ∷ []) ≡ row.held ∷ []
left_last rows row =
    ap (λ hs. option_to_list (last_or None hs)) (map-append (λ (r : Row). r.held) rows (row ∷ []))
    ∙ ap option_to_list (last_or-append None (held_of rows) (row.held ∷ []))

-- more rows have no fewer columns
pub still_narrow : (start power : ℕ) (rows : List Row) (row : Row) → ((720 < column_count start power rows) ⊎ (720 ≤ column_number start power row.ms))
    → 720 < column_count start power (rows ++ row ∷ [])
still_narrow start power rows row (inl before) = omega (arith, before, count_added start power rows row)
still_narrow start power rows row (inr far) = omega (arith, far, count_added start power rows row)
