-- The lines of scans come out of what a run writes.
use Rattle.std.proofs.Common.{◌≡◌, ℕ, List, ap, sym, ◌∙◌}
use Rattle.std.specs.Prelude.{Option, Some, None, Result, Ok, Err}
use Rattle.wc_laws_instrument.proofs.WrittenLines.{line_stays, scan_lines_come_out}
use Rattle.wc_laws_instrument.specs.Logs.{without_scan_lines}
use Rattle.wc_model.specs.Definitions.{PlateData, LogOf, LogRow, Logic, programs, line_report}
use Rattle.wc_run.proofs.CutLines.{cut_lines_leave_a_prefix}
use Rattle.wc_run.specs.Runs.{AppendsFirst, AppendsLineOfFirst, AppendsLinePrefix, AppendsPrefix, LeavesLine, Reports, report_coming, report_printing}
use Rattle.wc_run.specs.declared.fault.RunFault.{RunFault}
use Rattle.wc_run.specs.declared.fault.RunFault.TheVariants.{Refused, Write}

-- a text of rows leaves the line's answers to them
abbrev LeavesAnswers : PlateData → (List LogRow → List ℕ) → Type 0
LeavesAnswers plate text = (rows : List LogRow) → without_scan_lines (text rows) ≡ line_report plate rows

-- so does what a run writes in all
whole_leaves : (last : Option ℕ) (plate : PlateData) (logic : Option Logic) → LeavesAnswers plate (report_printing last plate logic)
whole_leaves None plate None rows = line_stays plate rows
whole_leaves (Some number) plate None rows = line_stays plate rows
whole_leaves None plate (Some logic) rows = (scan_lines_come_out plate programs logic rows).whole
whole_leaves (Some number) plate (Some logic) rows = (scan_lines_come_out plate programs logic rows).last number

-- and as the rows come
coming_leaves : (last : Option ℕ) (plate : PlateData) (logic : Option Logic) → LeavesAnswers plate (report_coming last plate logic)
coming_leaves None plate logic = whole_leaves None plate logic
coming_leaves (Some number) plate logic = line_stays plate

-- of the first rows too
first_leaves : (plate : PlateData) (text : List LogRow → List ℕ) → LeavesAnswers plate text → (rows : List LogRow) (old new : Option (List ℕ)) →
    AppendsFirst text rows old new → AppendsLineOfFirst plate rows old new
first_leaves plate text leaves rows old new (first, left, joined, appends) = (first, left, joined, (text first, appends, leaves first))

-- a prefix of the text leaves a prefix of the answers
prefix_leaves : (plate : PlateData) (text : List LogRow → List ℕ) → LeavesAnswers plate text → (rows : List LogRow) (old new : Option (List ℕ)) →
    AppendsPrefix old new (text rows) → AppendsLinePrefix plate rows old new
prefix_leaves plate text leaves rows old new (prefix, more, joined, appends) =
    let cut = cut_lines_leave_a_prefix prefix more in
    (prefix, cut.0, appends, sym (leaves rows) ∙ ap without_scan_lines joined ∙ cut.1)

-- a run leaves the line, whatever it answers
pub run_leaves : (last : Option ℕ) (plate : PlateData) (logic : Option Logic) (log : LogOf) (answer : Result ℕ RunFault) (old new : Option (List ℕ))
    → Reports last plate logic log answer old new → LeavesLine plate log answer old new
run_leaves last plate logic log (Ok count) old new says = (report_printing last plate logic log.rows, says.2, whole_leaves last plate logic log.rows)
run_leaves last plate logic log (Err (Refused number place)) old new says = (report_printing last plate logic log.rows, says.1, whole_leaves last plate logic log.rows)
run_leaves last plate logic log (Err Write) old new says = prefix_leaves plate (report_printing last plate logic) (whole_leaves last plate logic) log.rows old new says
run_leaves last plate logic log (Err fault) old new says = first_leaves plate (report_coming last plate logic) (coming_leaves last plate logic) log.rows old new says
