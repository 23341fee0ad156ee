-- What is written of a row, and what is seen of it.
use Rattle.wc_model.proofs.Common.{◌≡◌, ℕ, Bool, true, ◌&&◌, List, [], ◌∷◌, ◌++◌, Option, Some, None, refl, sym, ap, subst, ◌∙◌, append-nil, flat_map, list_any}
use Rattle.std.proofs.lemmas.List.{append_assoc, reverse-append}
use Rattle.std.specs.Prelude.{filter, map, reverse, unwrap_or, if◌then◌else◌}
use Rattle.wc_machine.specs.Machines.{MachineState, RepresentsText}
use Rattle.wc_model.specs.Definitions.{PlateData, Store, Text, Change, LogRow, Past, RowData, Logic, change_to, logic_following, programs, ReportLine, answer_line, is_answer_line, is_scan_line, line_text, report_text, state_with}
use Rattle.wc_record.specs.declared.last_scans.Record.{Record}
use Rattle.wc_run.specs.{logic_after, IsShown, lines_of_scan, onto, row_of, line_of_record}
use Rattle.wc_run.specs.declared.row_seen.RowSeen.{RowSeen}
use Rattle.wc_run.specs.declared.row_seen.ScanSeen.{ScanSeen}
use Rattle.wc_view_watch.specs.{is_written, last_values, line_with_values, row_text, scans_of_row, scans_so_far, values_of, written_now, values_line, RingState, AreLookedUp, FitLogic, KeepsLast, RunsLogic}
use Rattle.wc_view_watch.specs.declared.watched_names.WatchedNames.{WatchedNames}

-- the line of a scan, and that of its values
pub scan_put : (list : List ℕ) (logic : Option Logic) (machine : MachineState) (names : WatchedNames) (record' : Record) (old first new : List ℕ)
    → FitLogic names list logic → RunsLogic (Some machine) logic → first ≡ old ++ line_text (line_of_record record')
    → ((text : Text) (next : Option Text) (store : Store) → AreLookedUp names list text next → RepresentsText machine text store → new ≡ first ++ values_line list text store record'.ms)
    → new ≡ old ++ line_with_values list logic (line_of_record record')
scan_put list None machine names record' old first new fit runs one two = absurd runs
scan_put list (Some logic) machine names record' old first new fit runs one two =
    two logic.text logic.next logic.store fit runs ∙ ap (λ l. l ++ values_line list logic.text logic.store record'.ms) one
    ∙ append_assoc old (line_text (line_of_record record')) (values_line list logic.text logic.store record'.ms)

-- at a change the next text runs, if there is one
changed_to : (names : WatchedNames) (list : List ℕ) (logic : Logic) (next : Option Text) → logic.next ≡ next → AreLookedUp names list (unwrap_or logic.next logic.text) None
    → AreLookedUp names list (change_to logic next).text (change_to logic next).next
changed_to names list logic None is looked =
    subst (λ other. AreLookedUp names list logic.text other) (sym is) (subst (λ other. AreLookedUp names list (unwrap_or other logic.text) None) is looked)
changed_to names list logic (Some other) is looked = subst (λ next. AreLookedUp names list (unwrap_or next logic.text) None) is looked

pub changed : (old new : WatchedNames) (list : List ℕ) (plate : PlateData) (logic : Option Logic) (past : Past) (row : LogRow) → row.brings ≡ Change
    → ((text : Text) (next : Option Text) → AreLookedUp old list text next → AreLookedUp new list (unwrap_or next text) None)
    → FitLogic old list (logic_after plate logic past) → FitLogic new list (logic_after plate logic (row ∷ past))
changed old new list plate None past row is change fit = tt
changed old new list plate (Some logic) past row is change fit =
    let state : Logic = logic_following plate logic past in
    subst (λ (brings : RowData). AreLookedUp new list (state_with plate programs brings row.ms past state).text (state_with plate programs brings row.ms past state).next) (sym is)
    (changed_to new list state state.next refl (change state.text state.next fit))

-- the rows from the newest, turned round twice
turned : (past : Past) (rows : List LogRow) → reverse (onto past rows) ≡ reverse rows ++ past
turned [] rows = sym (append-nil (reverse rows))
turned (row ∷ past) rows = turned past (row ∷ rows) ∙ ap (λ l. l ++ past) (reverse-append (row ∷ []) rows) ∙ append_assoc (reverse rows) (row ∷ []) past

pub past_again : (past : Past) → reverse (onto past []) ≡ past
past_again past = turned past []

-- at once nothing is written of no scans
nothing_now : (last : Option ℕ) → written_now last [] ≡ []
nothing_now None = refl
nothing_now (Some number) = refl

-- so what is put of a row is its text
module _ (list : List ℕ) (changes : Bool) (plate : PlateData) (logic : Option Logic) (past : Past) (seen : RowSeen) (shown : IsShown seen plate logic past) where
  abbrev pub after : Option Logic
  after = logic_after plate logic (row_of seen ∷ past)

  abbrev pub written_here : Bool
  written_here = is_written changes (last_values list plate logic past) (values_of list after)

  abbrev scans_in : List ReportLine → List (List ℕ)
  scans_in lines = map (line_with_values list after) (filter (λ line. is_scan_line line && written_here) lines)

  scans : scans_of_row list changes plate logic past (row_of seen) ≡ scans_in (lines_of_scan seen.scan)
  scans = ap scans_in shown.lines ∙ by seen.answer.now
    where
      by : (bytes : List ℕ) → scans_in (answer_line seen.row.ms bytes ++ lines_of_scan seen.scan) ≡ scans_in (lines_of_scan seen.scan)
      by [] = refl
      by (byte ∷ bytes) = refl

  answers : report_text (filter is_answer_line (answer_line seen.row.ms seen.answer.now ++ lines_of_scan seen.scan)) ≡ report_text (answer_line seen.row.ms seen.answer.now)
  answers = by seen.answer.now seen.scan
    where
      by : (bytes : List ℕ) (scan : Option ScanSeen) → report_text (filter is_answer_line (answer_line seen.row.ms bytes ++ lines_of_scan scan)) ≡ report_text (answer_line seen.row.ms bytes)
      by [] None = refl
      by [] (Some scan) = refl
      by (byte ∷ bytes) None = refl
      by (byte ∷ bytes) (Some scan) = refl

  -- the scans of the row, if it has none, and if its scan is written
  no_scans : seen.scan ≡ None → scans_of_row list changes plate logic past (row_of seen) ≡ []
  no_scans is = scans ∙ ap (λ scan. scans_in (lines_of_scan scan)) is

  one_scan : (scan : ScanSeen) (cleared text : List ℕ) → seen.scan ≡ Some scan → written_here ≡ true → cleared ≡ []
      → text ≡ cleared ++ line_with_values list after (line_of_record scan.record) → text ∷ [] ≡ scans_of_row list changes plate logic past (row_of seen)
  one_scan scan cleared text is written empty put =
      (λ i. (put ∙ ap (λ l. l ++ line_with_values list after (line_of_record scan.record)) empty) i ∷ [])
      ∙ ap (λ w. map (line_with_values list after) (filter (λ line. is_scan_line line && w) (line_of_record scan.record ∷ []))) (sym written)
      ∙ ap (λ one. scans_in (lines_of_scan one)) (sym is) ∙ sym scans

  pub row_put : (last : Option ℕ) (cleared text new : List ℕ) (all : List (List ℕ)) → cleared ≡ [] → text ≡ cleared ++ report_text (answer_line seen.row.ms seen.answer.now)
      → all ≡ scans_of_row list changes plate logic past (row_of seen)
      → new ≡ text ++ written_now last (flat_map (λ scan. scan) all) → new ≡ row_text list changes last plate logic past (row_of seen)
  row_put last cleared text new all empty put are more =
      more
      ∙ (λ i. (put ∙ ap (λ l. l ++ report_text (answer_line seen.row.ms seen.answer.now)) empty ∙ sym answers ∙ ap (λ lines. report_text (filter is_answer_line lines)) (sym shown.lines)) i
      ++ written_now last (flat_map (λ scan. scan) (are i)))

  pub row_without_scan : (last : Option ℕ) (cleared text : List ℕ) → seen.scan ≡ None → cleared ≡ []
      → text ≡ cleared ++ report_text (answer_line seen.row.ms seen.answer.now) → text ≡ row_text list changes last plate logic past (row_of seen)
  row_without_scan last cleared text is empty put =
      row_put last cleared text text [] empty put (sym (no_scans is)) (sym (append-nil text) ∙ ap (λ none. text ++ none) (sym (nothing_now last)))

  pub row_with_scan : (last : Option ℕ) (scan : ScanSeen) (cleared text scan_cleared scan_text new : List ℕ) → seen.scan ≡ Some scan → written_here ≡ true → cleared ≡ []
      → text ≡ cleared ++ report_text (answer_line seen.row.ms seen.answer.now) → scan_cleared ≡ [] → scan_text ≡ scan_cleared ++ line_with_values list after (line_of_record scan.record)
      → new ≡ text ++ written_now last scan_text → new ≡ row_text list changes last plate logic past (row_of seen)
  row_with_scan last scan cleared text scan_cleared scan_text new is written empty put scan_empty scan_put' more =
      row_put last cleared text new (scan_text ∷ []) empty put (one_scan scan scan_cleared scan_text is written scan_empty scan_put')
      (more ∙ ap (λ t. text ++ written_now last t) (sym (append-nil scan_text)))

  -- and what is kept of it
  pub kept_without_scan : (last : Option ℕ) (ring : Option RingState) → seen.scan ≡ None → KeepsLast ring last (scans_so_far list changes plate logic past)
      → KeepsLast ring last (scans_so_far list changes plate logic (row_of seen ∷ past))
  kept_without_scan last ring is keeps =
      subst (KeepsLast ring last) (sym (append-nil (scans_so_far list changes plate logic past)) ∙ ap (λ more. scans_so_far list changes plate logic past ++ more) (sym (no_scans is))) keeps

  pub kept_with_scan : (last : Option ℕ) (ring : Option RingState) (scan : ScanSeen) (scan_cleared scan_text : List ℕ) → seen.scan ≡ Some scan → written_here ≡ true → scan_cleared ≡ []
      → scan_text ≡ scan_cleared ++ line_with_values list after (line_of_record scan.record) → KeepsLast ring last (scans_so_far list changes plate logic past ++ scan_text ∷ [])
      → KeepsLast ring last (scans_so_far list changes plate logic (row_of seen ∷ past))
  kept_with_scan last ring scan scan_cleared scan_text is written scan_empty scan_put' keeps =
      subst (λ more. KeepsLast ring last (scans_so_far list changes plate logic past ++ more)) (one_scan scan scan_cleared scan_text is written scan_empty scan_put') keeps

  -- the values of the last scan
  pub values_left : last_values list plate logic (row_of seen ∷ past) ≡ (if list_any is_scan_line (lines_of_scan seen.scan) then values_of list after else last_values list plate logic past)
  values_left = ap (λ lines. if list_any is_scan_line lines then values_of list after else last_values list plate logic past) shown.lines ∙ by seen.answer.now
    where
      by : (bytes : List ℕ) → (if list_any is_scan_line (answer_line seen.row.ms bytes ++ lines_of_scan seen.scan) then values_of list after else last_values list plate logic past)
          ≡ (if list_any is_scan_line (lines_of_scan seen.scan) then values_of list after else last_values list plate logic past)
      by [] = refl
      by (byte ∷ bytes) = refl
