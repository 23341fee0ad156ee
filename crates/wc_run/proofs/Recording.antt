-- The records of the last scans, and their lines.
use Rattle.wc_model.proofs.Common.{◌≡◌, refl, ap, sym, subst, ◌∙◌, ℕ, List, [], ◌∷◌, ◌++◌, length, drop, Option, Some, None, Result, append-nil, flat_map-append, drop-map, length-map, map-append, take_more, filter-append, get_or_from_slice_get, slice_get_within}
use Rattle.std.specs.Prelude.{◌+◌, ◌-◌, filter, slice_get, take}
use Rattle.wc_model.specs.Definitions.{PlateData, last_items, Past, Logic, ReportLine, answer_line, is_scan_line, line_text, report_text}
use Rattle.wc_record.specs.Recorders.{RecorderState, HoldsLast}
use Rattle.wc_record.specs.declared.last_scans.Record.{Record}
use Rattle.wc_run.proofs.Lines.{answer_dropped, lines_at_last}
use Rattle.wc_run.specs.{Writes, lines_of_row, lines_of_rows, IsShown, lines_of_scan, lines_of_seen, onto, row_of, line_of_record, lines_of_records, HoldsScans, KeepsScan, lines_so_far}
use Rattle.wc_run.specs.declared.fault.RunFault.{RunFault}
use Rattle.wc_run.specs.declared.row_seen.RowSeen.{RowSeen}
use Rattle.wc_run.specs.declared.row_seen.ScanSeen.{ScanSeen}

-- the scans of what is shown
scans_of_lines : (scan : Option ScanSeen) → filter is_scan_line (lines_of_scan scan) ≡ lines_of_scan scan
scans_of_lines None = refl
scans_of_lines (Some scan) = refl

scans_shown : (seen : RowSeen) → filter is_scan_line (lines_of_seen seen) ≡ lines_of_scan seen.scan
scans_shown seen =
    filter-append is_scan_line (answer_line seen.row.ms seen.answer.now) (lines_of_scan seen.scan)
    ∙ λ i. answer_dropped seen.row.ms seen.answer.now i ++ scans_of_lines seen.scan i

-- the scans of the rows so far, and of one more
scans_more : (seen : RowSeen) (plate : PlateData) (logic : Option Logic) (past : Past) → IsShown seen plate logic past
    → filter is_scan_line (lines_so_far plate logic (row_of seen ∷ past)) ≡ filter is_scan_line (lines_so_far plate logic past) ++ lines_of_scan seen.scan
scans_more seen plate logic past shown =
    filter-append is_scan_line (lines_so_far plate logic past) (lines_of_row plate logic past (row_of seen))
    ∙ ap (λ lines. filter is_scan_line (lines_so_far plate logic past) ++ lines) (ap (λ lines. filter is_scan_line lines) shown.lines ∙ scans_shown seen)

-- a recorder that keeps the record of a scan, or nothing, holds the last scans after the row
keeps_by : (seen : RowSeen) (scan : Option ScanSeen) (recorder kept : RecorderState) (number : ℕ) (plate : PlateData) (logic : Option Logic) (past : Past)
    → IsShown seen plate logic past → seen.scan ≡ scan → KeepsScan recorder kept scan
    → HoldsScans recorder number (lines_so_far plate logic past) → HoldsScans kept number (lines_so_far plate logic (row_of seen ∷ past))
keeps_by seen None recorder kept number plate logic past shown is keeps holds = (
  holds.0,
  subst (λ held. HoldsLast held number holds.0) (sym keeps) holds.1,
  holds.2 ∙ sym (scans_more seen plate logic past shown ∙ ap (λ s. filter is_scan_line (lines_so_far plate logic past) ++ lines_of_scan s) is
      ∙ append-nil (filter is_scan_line (lines_so_far plate logic past))),
)
keeps_by seen (Some scan) recorder kept number plate logic past shown is keeps holds =
    let all : List Record = holds.0 in
    let same : recorder.most ≡ number = holds.1.0 in (
      all ++ scan.record ∷ [],
      subst (λ n. HoldsLast kept n (all ++ scan.record ∷ [])) same (keeps all (subst (λ n. HoldsLast recorder n all) (sym same) holds.1)),
      map-append line_of_record all (scan.record ∷ []) ∙ ap (λ l. l ++ line_of_record scan.record ∷ []) holds.2
          ∙ sym (scans_more seen plate logic past shown ∙ ap (λ s. filter is_scan_line (lines_so_far plate logic past) ++ lines_of_scan s) is),
    )

pub keeps_scan : (seen : RowSeen) (recorder kept : RecorderState) (number : ℕ) (plate : PlateData) (logic : Option Logic) (past : Past)
    → IsShown seen plate logic past → KeepsScan recorder kept seen.scan
    → HoldsScans recorder number (lines_so_far plate logic past) → HoldsScans kept number (lines_so_far plate logic (row_of seen ∷ past))
keeps_scan seen recorder kept number plate logic past shown keeps holds = keeps_by seen seen.scan recorder kept number plate logic past shown refl keeps holds

-- the lines of the records that are kept are those of the last scans
last_lines : (recorder : RecorderState) (number : ℕ) (lines : List ReportLine) → HoldsScans recorder number lines
    → lines_of_records recorder.records ≡ last_items number (filter is_scan_line lines)
last_lines recorder number lines holds =
    let all : List Record = holds.0 in
    ap lines_of_records holds.1.1 ∙ sym (drop-map line_of_record (length all - number) all)
    ∙ ap (λ n. drop (n - number) (lines_of_records all)) (sym (length-map all line_of_record))
    ∙ ap (last_items number) holds.2

-- what is written at the end is the text of those records
pub writes_last : {X : Type 0} (answer : Result X RunFault) (recorder : RecorderState) (number : ℕ) (plate : PlateData) (logic : Option Logic) (past : Past) (text : List ℕ)
    (old new : Option (List ℕ)) → text ≡ report_text (lines_of_records recorder.records) → HoldsScans recorder number (lines_so_far plate logic past)
    → Writes text answer old new
    → Writes (report_text (last_items number (filter is_scan_line (lines_of_rows plate logic [] (onto past []))))) answer old new
writes_last answer recorder number plate logic past text old new same holds writes =
    subst (λ t. Writes t answer old new)
    (same ∙ ap report_text (last_lines recorder number (lines_so_far plate logic past) holds)
    ∙ ap (λ lines. report_text (last_items number (filter is_scan_line lines))) (sym (lines_at_last plate logic past)))
    writes

-- the text of the records up to one is that of those before it, and its line
pub one_record_more : (scans : List Record) (index : ℕ) (scan : Record) (text line : List ℕ) → slice_get scans index ≡ Some scan
    → text ≡ report_text (lines_of_records (take index scans)) → line ≡ line_text (line_of_record scan)
    → text ++ line ≡ report_text (lines_of_records (take (index + 1) scans))
one_record_more scans index scan text line there reported same =
    let next : take (index + 1) scans ≡ take index scans ++ scan ∷ [] =
    take_more scans index scan (slice_get_within scans index scan there) ∙ ap (λ r. take index scans ++ r ∷ []) (get_or_from_slice_get scans index scan scan there) in
    (λ i. reported i ++ same i)
    ∙ ap (λ t. report_text (lines_of_records (take index scans)) ++ t) (sym (append-nil (line_text (line_of_record scan))))
    ∙ sym (flat_map-append line_text (lines_of_records (take index scans)) (line_of_record scan ∷ []))
    ∙ ap report_text (sym (map-append line_of_record (take index scans) (scan ∷ [])))
    ∙ ap (λ r. report_text (lines_of_records r)) (sym next)
