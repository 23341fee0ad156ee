-- The lines of scans can be taken out of the bytes of a report, and those of the line are left.
use Rattle.std.proofs.Common.{◌≡◌, ℕ, zero, suc, ◌-◌, drop, length, ◌==◌, false, not, if◌then◌else◌, List, [], ◌∷◌, ◌++◌, refl, ap, sym, ◌∙◌, arith, append_assoc, append-nil}
use Rattle.wc_model.proofs.Common.{ne_eqb, filter-append, concat, flat_map-append}
use Rattle.std.specs.Prelude.{filter, map}
use Rattle.wc_model.specs.Definitions.{PlateData, onto_first_line, whole_lines, LogRow, Past, answer_of_row, ReportLine, ScanLine, AnswerLine, Program, answer_line, answer_lines, is_answer_line, is_scan_line, line_report, line_text, report_lines, report_text}
use Rattle.wc_laws_instrument.specs.Logs.{ScanLinesComeOut, begins_with_s, without_scan_lines}
use Rattle.wc_laws_instrument.proofs.Independence.{answers_kept, is_free_of_programs}
use Rattle.wc_laws_instrument.proofs.LineBytes.{AreAboveLineFeed, body_above, body_of, line_is}

-- a body, a line feed, and what comes after them
one_line : (body rest : List ℕ) → AreAboveLineFeed body → whole_lines (body ++ 10 ∷ rest) ≡ (body ++ 10 ∷ []) ∷ whole_lines rest
one_line [] rest h = refl
one_line (byte ∷ body) rest h =
    let other : (byte == 10) ≡ false = ne_eqb byte 10 (λ e. let above = h.0 in omega (arith, above, e)) in
    ap (λ b. if b then (10 ∷ []) ∷ whole_lines (body ++ 10 ∷ rest) else onto_first_line byte (whole_lines (body ++ 10 ∷ rest))) other
    ∙ ap (onto_first_line byte) (one_line body rest h.1)

-- the lines of a report's bytes are its lines
lines_of_text : (lines : List ReportLine) → whole_lines (report_text lines) ≡ map line_text lines
lines_of_text [] = refl
lines_of_text (line ∷ lines) =
    ap (λ text. whole_lines (text ++ report_text lines)) (line_is line)
    ∙ ap whole_lines (append_assoc (body_of line) (10 ∷ []) (report_text lines))
    ∙ one_line (body_of line) (report_text lines) (body_above line)
    ∙ (λ i. sym (line_is line) i ∷ lines_of_text lines i)

-- of lines those that don't begin with an S are the answers
answers_left : (lines : List ReportLine) →
    concat (filter (λ line. not (begins_with_s line)) (map line_text lines)) ≡ report_text (filter is_answer_line lines)
answers_left [] = refl
answers_left (ScanLine ms steps outputs ∷ lines) = answers_left lines
answers_left (AnswerLine ms bytes ∷ lines) = ap (λ left. line_text (AnswerLine ms bytes) ++ left) (answers_left lines)

-- so they are of the bytes
left_of_text : (lines : List ReportLine) → without_scan_lines (report_text lines) ≡ report_text (filter is_answer_line lines)
left_of_text lines = ap (λ ls. concat (filter (λ line. not (begins_with_s line)) ls)) (lines_of_text lines) ∙ answers_left lines

-- the answers are answers
all_answers : (p : PlateData) (before : Past) (rows : List LogRow) → filter is_answer_line (answer_lines p before rows) ≡ answer_lines p before rows
all_answers p before [] = refl
all_answers p before (row ∷ rows) =
    filter-append is_answer_line (answer_line row.ms (answer_of_row p before row)) (answer_lines p (row ∷ before) rows)
    ∙ λ i. answers_kept row.ms (answer_of_row p before row) i ++ all_answers p (row ∷ before) rows i

-- answers stay when they are asked for again, and of scans none is left
answers_again : (lines : List ReportLine) → filter is_answer_line (filter is_answer_line lines) ≡ filter is_answer_line lines
answers_again [] = refl
answers_again (ScanLine ms steps outputs ∷ lines) = answers_again lines
answers_again (AnswerLine ms bytes ∷ lines) = ap (λ left. AnswerLine ms bytes ∷ left) (answers_again lines)

-- of the last scans none is an answer
no_answers : (from : ℕ) (lines : List ReportLine) → filter is_answer_line (drop from (filter is_scan_line lines)) ≡ []
no_answers zero [] = refl
no_answers (suc from) [] = refl
no_answers from (AnswerLine ms bytes ∷ lines) = no_answers from lines
no_answers zero (ScanLine ms steps outputs ∷ lines) = no_answers zero lines
no_answers (suc from) (ScanLine ms steps outputs ∷ lines) = no_answers from lines

-- answers with scans after them
scans_after : (lines : List ReportLine) (from : ℕ) →
    without_scan_lines (report_text (filter is_answer_line lines) ++ report_text (drop from (filter is_scan_line lines)))
    ≡ report_text (filter is_answer_line lines)
scans_after lines from =
    let answers = filter is_answer_line lines in
    let scans = drop from (filter is_scan_line lines) in
    ap without_scan_lines (sym (flat_map-append line_text answers scans))
    ∙ left_of_text (answers ++ scans)
    ∙ ap report_text (filter-append is_answer_line answers scans ∙ (λ i. answers_again lines i ++ no_answers from lines i) ∙ append-nil answers)

-- with no program there is no line of a scan
pub line_stays : (p : PlateData) (rows : List LogRow) → without_scan_lines (line_report p rows) ≡ line_report p rows
line_stays p rows = left_of_text (answer_lines p [] rows) ∙ ap report_text (all_answers p [] rows)

-- the lines of scans come out of what a run writes
pub scan_lines_come_out : {State : Type 0} (p : PlateData) (program : Program State) (start : State) (rows : List LogRow) → ScanLinesComeOut p program start rows
scan_lines_come_out p program start rows =
    let lines = report_lines p program start [] rows in
    let free = is_free_of_programs p program start rows in
    record {
      whole = left_of_text lines ∙ free.bytes;
      last = λ n. scans_after lines (length (filter is_scan_line lines) - n) ∙ free.bytes;
      line = line_stays p rows;
    }
