-- The lines of a report, and what of them is written at once and at the end.
use Rattle.wc_model.proofs.Common.{◌≡◌, refl, ap, sym, subst, ◌∙◌, ℕ, zero, suc, ◌-◌, List, [], ◌∷◌, ◌++◌, length, drop, Option, Some, None, Result, Err, append-nil, inl, inr, filter, flat_map-append, filter-append, Appends-nil, Appends}
use Rattle.std.proofs.lemmas.List.{append_assoc}
use Rattle.wc_laws_instrument.proofs.Independence.{is_free_of_programs}
use Rattle.wc_model.specs.Definitions.{PlateData, last_items, Logic, programs, ReportLine, answer_line, answer_lines, is_answer_line, is_scan_line, line_text, report_text, LogRow, Past, answer_of_row, LogOf, LogRefusal}
use Rattle.wc_run.specs.{IsClassified, WritesBy, lines_of_row, lines_of_rows, onto, text_coming, text_in_all, last_plan, lines_so_far, plan_of, report_plan}
use Rattle.wc_run.specs.Runs.{Reports, ReportsBy, report_coming, report_printing, report_written}
use Rattle.wc_run.specs.declared.fault.RunFault.{RunFault}
use Rattle.wc_run.specs.declared.fault.RunFault.TheVariants.{Memory}

-- the lines of a row precede those of the rows after it
one_row_more : (plate : PlateData) (logic : Option Logic) (past : Past) (row : LogRow) (rows : List LogRow)
    → lines_of_rows plate logic past (row ∷ rows) ≡ lines_of_row plate logic past row ++ lines_of_rows plate logic (row ∷ past) rows
one_row_more plate None past row rows = refl
one_row_more plate (Some logic) past row rows = refl

-- no rows have no lines
no_rows : (plate : PlateData) (logic : Option Logic) (past : Past) → lines_of_rows plate logic past [] ≡ []
no_rows plate None past = refl
no_rows plate (Some logic) past = refl

-- the lines of all rows are those so far, and those of the rows that follow
lines_of_all : (plate : PlateData) (logic : Option Logic) (past : Past) (rows : List LogRow)
    → lines_of_rows plate logic [] (onto past rows) ≡ lines_so_far plate logic past ++ lines_of_rows plate logic past rows
lines_of_all plate logic [] rows = refl
lines_of_all plate logic (row ∷ past) rows =
    lines_of_all plate logic past (row ∷ rows)
    ∙ ap (λ lines. lines_so_far plate logic past ++ lines) (one_row_more plate logic past row rows)
    ∙ sym (append_assoc (lines_so_far plate logic past) (lines_of_row plate logic past row) (lines_of_rows plate logic (row ∷ past) rows))

-- if no row follows, they are those so far
pub lines_at_last : (plate : PlateData) (logic : Option Logic) (past : Past) → lines_of_rows plate logic [] (onto past []) ≡ lines_so_far plate logic past
lines_at_last plate logic past =
    lines_of_all plate logic past [] ∙ ap (λ lines. lines_so_far plate logic past ++ lines) (no_rows plate logic past) ∙ append-nil (lines_so_far plate logic past)

-- the line of an answer is an answer's, and no scan's
pub answer_kept : (ms : ℕ) (bytes : List ℕ) → filter is_answer_line (answer_line ms bytes) ≡ answer_line ms bytes
answer_kept ms [] = refl
answer_kept ms (byte ∷ bytes) = refl

pub answer_dropped : (ms : ℕ) (bytes : List ℕ) → filter is_scan_line (answer_line ms bytes) ≡ []
answer_dropped ms [] = refl
answer_dropped ms (byte ∷ bytes) = refl

-- the lines with no program are answers, and no scans
answers_kept : (plate : PlateData) (past : Past) (rows : List LogRow) → filter is_answer_line (answer_lines plate past rows) ≡ answer_lines plate past rows
answers_kept plate past [] = refl
answers_kept plate past (row ∷ rows) =
    filter-append is_answer_line (answer_line row.ms (answer_of_row plate past row)) (answer_lines plate (row ∷ past) rows)
    ∙ λ i. answer_kept row.ms (answer_of_row plate past row) i ++ answers_kept plate (row ∷ past) rows i

answers_dropped : (plate : PlateData) (past : Past) (rows : List LogRow) → filter is_scan_line (answer_lines plate past rows) ≡ []
answers_dropped plate past [] = refl
answers_dropped plate past (row ∷ rows) =
    filter-append is_scan_line (answer_line row.ms (answer_of_row plate past row)) (answer_lines plate (row ∷ past) rows)
    ∙ λ i. answer_dropped row.ms (answer_of_row plate past row) i ++ answers_dropped plate (row ∷ past) rows i

-- what a report writes of rows as they come is the text of their lines
lines_coming : (plate : PlateData) (logic : Option Logic) (past : Past) (rows : List LogRow)
    → text_coming report_plan plate logic past rows ≡ report_text (lines_of_rows plate logic past rows)
lines_coming plate logic past [] = sym (ap report_text (no_rows plate logic past))
lines_coming plate logic past (row ∷ rows) =
    ap (λ text. report_text (lines_of_row plate logic past row) ++ text) (lines_coming plate logic (row ∷ past) rows)
    ∙ sym (flat_map-append line_text (lines_of_row plate logic past row) (lines_of_rows plate logic (row ∷ past) rows))
    ∙ ap report_text (sym (one_row_more plate logic past row rows))

-- if the last scans alone are asked for, the text of the answers
answers_coming : (number : ℕ) (plate : PlateData) (logic : Option Logic) (past : Past) (rows : List LogRow)
    → text_coming (last_plan number) plate logic past rows ≡ report_text (filter is_answer_line (lines_of_rows plate logic past rows))
answers_coming number plate logic past [] = sym (ap (λ lines. report_text (filter is_answer_line lines)) (no_rows plate logic past))
answers_coming number plate logic past (row ∷ rows) =
    let here : List ReportLine = lines_of_row plate logic past row in
    let following : List ReportLine = lines_of_rows plate logic (row ∷ past) rows in
    ap (λ text. report_text (filter is_answer_line here) ++ text) (answers_coming number plate logic (row ∷ past) rows)
    ∙ sym (flat_map-append line_text (filter is_answer_line here) (filter is_answer_line following))
    ∙ ap report_text (sym (filter-append is_answer_line here following))
    ∙ ap (λ lines. report_text (filter is_answer_line lines)) (sym (one_row_more plate logic past row rows))

-- what is written as the rows come
coming_text : (last : Option ℕ) (plate : PlateData) (logic : Option Logic) (rows : List LogRow) → text_coming (plan_of last) plate logic [] rows ≡ report_coming last plate logic rows
coming_text None plate None rows = lines_coming plate None [] rows
coming_text None plate (Some logic) rows = lines_coming plate (Some logic) [] rows
coming_text (Some number) plate None rows = answers_coming number plate None [] rows ∙ ap report_text (answers_kept plate [] rows)
coming_text (Some number) plate (Some logic) rows = answers_coming number plate (Some logic) [] rows ∙ (is_free_of_programs plate programs logic rows).bytes

-- nothing is left of no lines
drop-none : (n : ℕ) (lines : List ReportLine) → lines ≡ [] → drop n lines ≡ []
drop-none zero lines none = none
drop-none (suc n) [] none = refl
drop-none (suc n) (line ∷ lines) none = absurd (cc)

-- and all of it is the report
whole_text : (last : Option ℕ) (plate : PlateData) (logic : Option Logic) (refusal : Option LogRefusal) (rows : List LogRow)
    → text_in_all (plan_of last) plate logic refusal rows ≡ report_printing last plate logic rows
whole_text None plate logic refusal rows = append-nil (text_coming report_plan plate logic [] rows) ∙ coming_text None plate logic rows
whole_text (Some number) plate None refusal rows =
    let started : List ℕ = text_coming (last_plan number) plate None [] rows in
    let scans : List ReportLine = filter is_scan_line (answer_lines plate [] rows) in
    ap (λ lines. started ++ report_text lines) (drop-none (length scans - number) scans (answers_dropped plate [] rows))
    ∙ append-nil started ∙ coming_text (Some number) plate None rows
whole_text (Some number) plate (Some logic) refusal rows =
    ap (λ text. text ++ report_text (last_items number (filter is_scan_line (lines_of_rows plate (Some logic) [] rows)))) (answers_coming number plate (Some logic) [] rows)

pub whole_written : (last : Option ℕ) → text_in_all (plan_of last) ≡ report_written last
whole_written last = λ i plate logic refusal rows. whole_text last plate logic refusal rows i

-- what a report's observer writes is the report
pub writes_report : (last : Option ℕ) (plate : PlateData) (logic : Option Logic) (log : LogOf) (answer : Result ℕ RunFault) (old new : Option (List ℕ))
    → WritesBy (plan_of last) plate logic log answer old new → Reports last plate logic log answer old new
writes_report last plate logic log answer old new writes =
    subst (λ coming. ReportsBy (report_printing last plate logic) coming log answer old new) (λ i rows. coming_text last plate logic rows i)
    (subst (λ whole. ReportsBy whole (text_coming (plan_of last) plate logic []) log answer old new) (λ i rows. whole_text last plate logic log.refusal rows i) writes)

-- of no rows nothing is written
none_coming : (last : Option ℕ) (plate : PlateData) (logic : Option Logic) → report_coming last plate logic [] ≡ []
none_coming None plate None = refl
none_coming None plate (Some logic) = refl
none_coming (Some number) plate logic = refl

-- a run that does not begin has written the report of no rows
pub none_reported : (last : Option ℕ) (plate : PlateData) (logic : Option Logic) (log : LogOf) (fault : RunFault) (taken : Option (List ℕ)) → IsClassified Memory fault
    → Reports last plate logic log (Err fault) taken taken
none_reported last plate logic log fault taken (inl is) =
    subst (λ f. Reports last plate logic log (Err f) taken taken) (sym is)
    ([], log.rows, refl, subst (λ text. Appends taken taken text) (sym (none_coming last plate logic)) (Appends-nil taken))
none_reported last plate logic log fault taken (inr is) =
    subst (λ f. Reports last plate logic log (Err f) taken taken) (sym is)
    ([], log.rows, refl, subst (λ text. Appends taken taken text) (sym (none_coming last plate logic)) (Appends-nil taken))
