-- The log as a run takes it: with a machine a row that changes the program wants a next one, and the first that finds none
-- left is refused. With no machine such rows are passed over. The refusal's number is the profile's own.
use Rattle.std.specs.Prelude.{◌≡◌, Bool, true, false, List, [], ◌∷◌, Option, Some, None, is_some}
use Rattle.wc_model.specs.Language.Tree.{Text}
use Rattle.wc_model.specs.Run.Log.{LogOf, LogRefusal, refused_at, with_row}
use Rattle.wc_model.specs.Run.Rows.{RowData, Counts, Bytes, Inputs, Scan, Change, LogRow}
use Rattle.wc_model.specs.Say.ProgramReport.{Logic}

-- a change before the rest, which is run only if a next program is left, and leaves none
abbrev pub change_on : Bool → LogRow → (Bool → LogOf) → LogOf
change_on true row rest = with_row row (rest false)
change_on false row rest = refused_at 609 row.number

-- a row before the rest, given whether a next program is left after it
abbrev pub row_on : Bool → RowData → LogRow → (Bool → LogOf) → LogOf
row_on left (Counts counts) row rest = with_row row (rest left)
row_on left (Bytes bytes) row rest = with_row row (rest left)
row_on left (Inputs inputs) row rest = with_row row (rest left)
row_on left Scan row rest = with_row row (rest left)
row_on left Change row rest = change_on left row rest

-- rows and the refusal after them, up to the first change that finds no next program left
abbrev pub log_while : Bool → List LogRow → Option LogRefusal → LogOf
log_while left [] refusal = record { rows = []; refusal = refusal }
log_while left (row ∷ rows) refusal = row_on left row.brings row (λ more. log_while more rows refusal)

-- the log as a run with this logic takes it, or with none
abbrev pub log_for : Option Logic → LogOf → LogOf
log_for None log = log
log_for (Some logic) log = log_while (is_some logic.next) log.rows log.refusal

-- all of these rows are run with a machine with this next program, or with none: no change among them is refused
abbrev pub AreRun : Option Text → List LogRow → Type 0
AreRun next rows = (log_while (is_some next) rows None).refusal ≡ None
