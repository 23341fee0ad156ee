-- Reports over a change of the program.
use Rattle.wc_model.proofs.Common.{◌≡◌, refl, ap, sym, ◌∙◌, Bool, true, false, ℕ, List, [], ◌∷◌, ◌++◌, append_assoc, Option, None, is_some}
use Rattle.wc_laws_instrument.specs.Changes.{HasNoChange, IsNoChange, ReportsFromTheChange, ReportsUpToTheChange, RowsAreRun, lines_at, lines_from}
use Rattle.wc_model.specs.Definitions.{PlateData, Store, Text, LogOf, LogRefusal, image_after, RowData, Counts, Bytes, Inputs, Scan, Change, LogRow, Past, log_while, row_on, Logic, change_logic, logic_following, programs, Program, ReportLine, lines_with, report_lines, state_after, state_with}

module _ {State : Type 0} (plate : PlateData) (program : Program State) (start : State) where
  -- the lines of a row are those of the state that the rows before it left
  at_row : (brings : RowData) (past : Past) (row : LogRow) →
      lines_with plate program start brings past row ≡ lines_at plate program (state_after plate program start past) brings past row
  at_row (Counts counts) past row = refl
  at_row another past row = refl

  -- so are those of all rows that follow
  pub from_state : (past : Past) (rows : List LogRow) →
      report_lines plate program start past rows ≡ lines_from plate program (state_after plate program start past) past rows
  from_state past [] = refl
  from_state past (row ∷ rows) = λ i. at_row row.brings past row i ++ from_state (row ∷ past) rows i

-- logics that differ in the next text alone have the same lines for a row that is not a change
alike_at : (plate : PlateData) (text : Text) (store : Store) (next other : Option Text) (brings : RowData) (past : Past) (row : LogRow) → IsNoChange brings →
    lines_at plate programs (record { text = text; store = store; next = next }) brings past row ≡ lines_at plate programs (record { text = text; store = store; next = other }) brings past row
alike_at plate text store next other (Counts counts) past row none = refl
alike_at plate text store next other (Bytes bytes) past row none = refl
alike_at plate text store next other (Inputs inputs) past row none = refl
alike_at plate text store next other Scan past row none = refl
alike_at plate text store next other Change past row none = absurd none

-- the store after such a row
store_with : (plate : PlateData) (text : Text) (store : Store) (brings : RowData) (ms : ℕ) (past : Past) → IsNoChange brings →
    (left : Store) × ((next : Option Text) → state_with plate programs brings ms past (record { text = text; store = store; next = next }) ≡ record { text = text; store = left; next = next })
store_with plate text store (Counts counts) ms past none = (store, λ next. refl)
store_with plate text store (Bytes bytes) ms past none = (store, λ next. refl)
store_with plate text store (Inputs inputs) ms past none = (store, λ next. refl)
store_with plate text store Scan ms past none =
    ((programs.scan (record { text = text; store = store; next = None }) (image_after plate past) ms).after.store, λ next. refl)
store_with plate text store Change ms past none = absurd none

-- the lines of rows without a change precede those of the rows after them, whatever the next text
up_to : (plate : PlateData) (text : Text) (store : Store) (next other : Option Text) (past : Past) (first following : List LogRow) → HasNoChange first →
    (rest : List ReportLine)
    × (lines_from plate programs (record { text = text; store = store; next = next }) past (first ++ following)
    ≡ lines_from plate programs (record { text = text; store = store; next = other }) past first ++ rest)
up_to plate text store next other past [] following none = (lines_from plate programs (record { text = text; store = store; next = next }) past following, refl)
up_to plate text store next other past (row ∷ first) following none =
    let left = store_with plate text store row.brings row.ms past none.0 in
    let rest = up_to plate text left.0 next other (row ∷ past) first following none.1 in
    let here : List ReportLine = lines_at plate programs (record { text = text; store = store; next = other }) row.brings past row in (
      rest.0,
      (λ i. alike_at plate text store next other row.brings past row none.0 i ++ lines_from plate programs (left.1 next i) (row ∷ past) (first ++ following))
          ∙ ap (λ lines. here ++ lines) (rest.1 ∙ ap (λ logic. lines_from plate programs logic (row ∷ past) first ++ rest.0) (sym (left.1 other)))
          ∙ sym (append_assoc here (lines_from plate programs (state_with plate programs row.brings row.ms past (record { text = text; store = store; next = other })) (row ∷ past) first) rest.0),
    )

-- before the first change the report is that of the text alone
pub reports_up_to_the_change : ReportsUpToTheChange
reports_up_to_the_change plate text store next other first following none =
    let lines = up_to plate text store next other [] first following none in (
      lines.0,
      from_state plate programs (record { text = text; store = store; next = next }) [] (first ++ following) ∙ lines.1
          ∙ ap (λ l. l ++ lines.0) (sym (from_state plate programs (record { text = text; store = store; next = other }) [] first)),
    )

-- a change has no line, and goes on from what it makes of the logic
at_change : (plate : PlateData) (logic : Logic) (past : Past) (brings : RowData) (row : LogRow) (rows : List LogRow) → brings ≡ Change →
    lines_at plate programs logic brings past row ++ lines_from plate programs (state_with plate programs brings row.ms past logic) (row ∷ past) rows
    ≡ lines_from plate programs (change_logic logic) (row ∷ past) rows
at_change plate logic past (Counts counts) row rows e = absurd (cc)
at_change plate logic past (Bytes bytes) row rows e = absurd (cc)
at_change plate logic past (Inputs inputs) row rows e = absurd (cc)
at_change plate logic past Scan row rows e = absurd (cc)
at_change plate logic past Change row rows e = refl

-- from a change on the report is that of the next text
pub reports_from_the_change : ReportsFromTheChange
reports_from_the_change plate start past text new store row rows changes left =
    from_state plate programs start past (row ∷ rows) ∙ at_change plate (logic_following plate start past) past row.brings row rows changes
    ∙ ap (λ logic. lines_from plate programs (change_logic logic) (row ∷ past) rows) left

-- the rows that a run takes are run
taken_with : (left : Bool) (brings : RowData) (number ms : ℕ) (rest : Bool → LogOf) → ((more : Bool) → (log_while more (rest more).rows None).refusal ≡ None) →
    (log_while left (row_on left brings (record { number = number; ms = ms; brings = brings }) rest).rows None).refusal ≡ None
taken_with left (Counts counts) number ms rest known = known left
taken_with left (Bytes bytes) number ms rest known = known left
taken_with left (Inputs inputs) number ms rest known = known left
taken_with left Scan number ms rest known = known left
taken_with true Change number ms rest known = known false
taken_with false Change number ms rest known = refl

taken_run : (left : Bool) (rows : List LogRow) (refusal : Option LogRefusal) → (log_while left (log_while left rows refusal).rows None).refusal ≡ None
taken_run left [] refusal = refl
taken_run left (row ∷ rows) refusal = taken_with left row.brings row.number row.ms (λ more. log_while more rows refusal) (λ more. taken_run more rows refusal)

-- rows without a change are run
unchanged_with : (left : Bool) (brings : RowData) (row : LogRow) (rest : Bool → LogOf) → IsNoChange brings → ((more : Bool) → (rest more).refusal ≡ None) →
    (row_on left brings row rest).refusal ≡ None
unchanged_with left (Counts counts) row rest none known = known left
unchanged_with left (Bytes bytes) row rest none known = known left
unchanged_with left (Inputs inputs) row rest none known = known left
unchanged_with left Scan row rest none known = known left
unchanged_with left Change row rest none known = absurd none

unchanged_run : (left : Bool) (rows : List LogRow) → HasNoChange rows → (log_while left rows None).refusal ≡ None
unchanged_run left [] none = refl
unchanged_run left (row ∷ rows) none = unchanged_with left row.brings row (λ more. log_while more rows None) none.0 (λ more. unchanged_run more rows none.1)

-- of rows that are run the first are
first_with : (left : Bool) (brings : RowData) (row : LogRow) (all first : Bool → LogOf) → ((more : Bool) → (all more).refusal ≡ None → (first more).refusal ≡ None) →
    (row_on left brings row all).refusal ≡ None → (row_on left brings row first).refusal ≡ None
first_with left (Counts counts) row all first known run = known left run
first_with left (Bytes bytes) row all first known run = known left run
first_with left (Inputs inputs) row all first known run = known left run
first_with left Scan row all first known run = known left run
first_with true Change row all first known run = known false run
first_with false Change row all first known run = run

first_run : (left : Bool) (rows more : List LogRow) → (log_while left (rows ++ more) None).refusal ≡ None → (log_while left rows None).refusal ≡ None
first_run left [] more run = refl
first_run left (row ∷ rows) more run =
    first_with left row.brings row (λ next. log_while next (rows ++ more) None) (λ next. log_while next rows None) (λ next r. first_run next rows more r) run

pub rows_are_run : RowsAreRun
rows_are_run = record {
  taken = λ logic log. taken_run (is_some logic.next) log.rows log.refusal;
  unchanged = λ next rows none. unchanged_run (is_some next) rows none;
  first = λ next rows more run. first_run (is_some next) rows more run;
}
