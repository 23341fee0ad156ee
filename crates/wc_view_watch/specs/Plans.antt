-- The names of variables that are watched, the line with their values, and which name of a list is unknown; what is written of a run
-- whose variables are watched: its report, with a line of values after that of each scan, or after those alone at which a value
-- has changed. (The profile's own.)
use Rattle.std.specs.Prelude.{ℕ, ℤ, ◌==◌, List, [], ◌∷◌, ◌++◌, Option, Some, None, codes, decimal, map, option_and_then, ◌≡◌, Bool, not, ◌||◌, length, take, MatchOption, option_map, is_some, slice_get, true, ◌&&◌, filter, reverse, if◌then◌else◌, is_none, bytes_eq}
use Rattle.std.specs.List.{flat_map, slice_split, position_from, list_any}
use Rattle.wc_view_changes.specs.ChangeReport.{content_text}
use Rattle.wc_model.specs.Definitions.{Location, Store, Text, Logic, PlateData, last_items, LogRow, Past, ReportLine, AnswerLine, ScanLine, is_answer_line, is_scan_line, line_text, report_text}
use Rattle.wc_text_flat.specs.Contents.{number_in}
use Rattle.wc_text_variables.specs.Names.{named_location}
use Rattle.wc_controller.specs.Files.{Observed}
use Rattle.wc_run.specs.{lines_of_row, logic_after, Plan, text_in_all}
use Rattle.wc_view_watch.specs.declared.names.UnknownName.{UnknownName}

-- the names of a list are between its commas
abbrev pub names_in : List ℕ → List (List ℕ)
names_in list = slice_split (λ byte. byte == 44) list

-- what the store holds at a place, as a literal of the language
abbrev pub text_at : Store → Location → List ℕ
text_at store place = elim (store place) [ Some content ↦ content_text content | None ↦ [] ]

-- a space, the name as the list spells it, `=` and the value; nothing of a name that means nothing in the text
abbrev pub value_text : Text → Store → List ℕ → List ℕ
value_text text store name = elim (named_location text name) [ Some place ↦ 32 ∷ (name ++ 61 ∷ text_at store place) | None ↦ [] ]

-- the names of the list in its order
abbrev pub values_in : List ℕ → Text → Store → List ℕ
values_in list text store = flat_map (value_text text store) (names_in list)

-- the number that a name's variable holds, if it has one in the text
abbrev pub number_named : Text → Store → List ℕ → Option ℤ
number_named text store name = option_and_then (number_in store) (named_location text name)

-- those of the names of a list
abbrev pub numbers_in : List ℕ → Text → Store → List (Option ℤ)
numbers_in list text store = map (number_named text store) (names_in list)

-- `V`, the milliseconds, and the names
abbrev pub values_line : List ℕ → Text → Store → ℕ → List ℕ
values_line list text store ms = codes "V " ++ (decimal ms ++ (values_in list text store ++ 10 ∷ []))

-- a name is unknown that means nothing in the first text nor in the next one
abbrev pub is_unknown : Text → Option Text → List ℕ → Bool
is_unknown first next name = not (is_some (named_location first name) || is_some (option_and_then (λ text. named_location text name) next))

-- the first unknown name of a list, counted from 0; with no program no name is looked up
abbrev pub unknown_in : List ℕ → Option Logic → Option ℕ
unknown_in list logic = option_and_then (λ running. position_from (is_unknown running.text running.next) 0 (names_in list)) logic

-- a run begins with this logic if no name is unknown
abbrev pub begins_with : List ℕ → Option Logic → Bool
begins_with list logic = is_none (unknown_in list logic)

-- names, each with the comma after it
abbrev pub with_commas : List (List ℕ) → List ℕ
with_commas names = flat_map (λ name. name ++ 44 ∷ []) names

-- this is the first unknown name of the list: its first byte is after the names before it, each with its comma
pub record IsFirstUnknown (list : List ℕ) (logic : Option Logic) (name : UnknownName) : Type 0 where
  pub index : ℕ
  pub is : unknown_in list logic ≡ Some index
  pub start : name.start ≡ length (with_commas (take index (names_in list)))
  pub count : option_map length (slice_get (names_in list) index) ≡ Some name.length

-- so of what a look for unknown names gives
abbrev pub IsUnknown : List ℕ → Option Logic → Option UnknownName → Type 0
IsUnknown list logic unknown = MatchOption unknown (unknown_in list logic ≡ None) (IsFirstUnknown list logic)

-- a line of the report, and after that of a scan the values in the store that it left, if a program runs
abbrev pub line_with_values : List ℕ → Option Logic → ReportLine → List ℕ
line_with_values list logic (AnswerLine ms bytes) = line_text (AnswerLine ms bytes)
line_with_values list logic (ScanLine ms steps outputs) = line_text (ScanLine ms steps outputs) ++ elim logic [ Some running ↦ values_line list running.text running.store ms | None ↦ [] ]

-- the values that a scan leaves, if a program runs
abbrev pub values_of : List ℕ → Option Logic → Option (List ℕ)
values_of list logic = option_map (λ running. values_in list running.text running.store) logic

-- the numbers of the variables, if a program runs
abbrev pub numbers_of : List ℕ → Option Logic → List (Option ℤ)
numbers_of list logic = elim logic [ Some running ↦ numbers_in list running.text running.store | None ↦ [] ]

-- the values are compared with those that the scan before has left; with no such scan, and with no program, they differ
abbrev pub differ : (before now : Option (List ℕ)) → Bool
differ (Some before) (Some now) = not (bytes_eq before now)
differ before now = true

-- those that the last scan so far has left
abbrev pub last_values : List ℕ → PlateData → Option Logic → Past → Option (List ℕ)
last_values list plate logic [] = None
last_values list plate logic (row ∷ past) =
    if list_any is_scan_line (lines_of_row plate logic past row) then values_of list (logic_after plate logic (row ∷ past)) else last_values list plate logic past

-- a scan is written, if all are or its values differ from those before
abbrev pub is_written : (changes : Bool) → (before now : Option (List ℕ)) → Bool
is_written changes before now = not changes || differ before now

-- the scans of a row, and of the rows so far, that are written, each with its values
abbrev pub scans_of_row : List ℕ → Bool → PlateData → Option Logic → Past → LogRow → List (List ℕ)
scans_of_row list changes plate logic past row =
    map (line_with_values list (logic_after plate logic (row ∷ past)))
    (filter (λ line. is_scan_line line && is_written changes (last_values list plate logic past) (values_of list (logic_after plate logic (row ∷ past))))
    (lines_of_row plate logic past row))

abbrev pub scans_so_far : List ℕ → Bool → PlateData → Option Logic → Past → List (List ℕ)
scans_so_far list changes plate logic [] = []
scans_so_far list changes plate logic (row ∷ past) = scans_so_far list changes plate logic past ++ scans_of_row list changes plate logic past row

-- what is written at once of scans: all of it, or nothing, if the last n are asked for
abbrev pub written_now : Option ℕ → List ℕ → List ℕ
written_now last text = elim last [ None ↦ text | Some number ↦ [] ]

-- what is written of a row: its answers, and after them its scans that are written, unless the last n are asked for
abbrev pub row_text : List ℕ → Bool → Option ℕ → PlateData → Option Logic → Past → LogRow → List ℕ
row_text list changes last plate logic past row =
    report_text (filter is_answer_line (lines_of_row plate logic past row)) ++ written_now last (flat_map (λ scan. scan) (scans_of_row list changes plate logic past row))

-- what is written after the rows: the last n of their scans, if these are asked for
abbrev pub end_text : Option ℕ → List (List ℕ) → List ℕ
end_text last scans = elim last [ None ↦ [] | Some number ↦ flat_map (λ scan. scan) (last_items number scans) ]

abbrev pub watch_plan : List ℕ → Bool → Option ℕ → Plan
watch_plan list changes last = record {
  at_row = row_text list changes last;
  at_end = λ plate logic rows refusal. end_text last (scans_so_far list changes plate logic (reverse rows));
}

-- what is written of the run, and that it begins if no name of the list is unknown
abbrev pub watch_observed : List ℕ → Bool → Option ℕ → Observed
watch_observed list changes last = record { written = text_in_all (watch_plan list changes last); begins = begins_with list }
