-- What the incoming paths of a line agree on, what is kept from line to line of a body next to its labels, and how far it is checked. (No rule of the language.)
use Rattle.std.specs.Prelude.{List, [], ◌∷◌, Option, Some, None, if◌then◌else◌, ℕ, zero, suc, ◌+◌, ◌-◌, Bool, true, false, map, ◌≡◌, ◌++◌, Result, Ok, Err}
use Rattle.std.specs.List.{list_all, list_any, flat_map}
use Rattle.wc_model.specs.Definitions.{same_result, BodyLine, kinds_from_jumps, known_kinds, label_of, kind_after, kinds_from_above, leaves, Word, named_in, same_name, carries, Name, Scope, line_rules, rules_at_position, Check, first_broken, positions_after}
use Rattle.wc_model.specs.declared.kind.Kind.{Kind}
use Rattle.wc_names.specs.Keys.{name_of_key}
use Rattle.wc_names.specs.declared.key.Key.{Key}
use Rattle.wc_model.specs.declared.fault.Fault.{Fault}
use Rattle.wc_model.specs.declared.fault.Fault.TheVariants.{Refused, Memory}
use Rattle.wc_verify.specs.declared.edges.Way.{Way}
use Rattle.wc_verify.specs.declared.edges.Way.TheVariants.{Unseen, Agreed, Different}
use Rattle.wc_verify.specs.declared.labels.LabelRow.{LabelRow}

-- the incoming paths, as they are kept
abbrev pub way_of : List (Option Kind) → Way
way_of [] = Unseen
way_of (way ∷ edges) = if list_all (same_result way) edges then Agreed way else Different

-- the kind that they bring
abbrev pub kind_of_way : Way → Option Kind
kind_of_way Unseen = None
kind_of_way (Agreed kind) = kind
kind_of_way Different = None

-- one more
abbrev pub with_way : Option Kind → Way → Way
with_way kind Unseen = Agreed kind
with_way kind (Agreed other) = if same_result kind other then Agreed kind else Different
with_way kind Different = Different

-- those of two lists
abbrev pub joined_edges : Way → Way → Way
joined_edges Unseen others = others
joined_edges (Agreed kind) others = with_way kind others
joined_edges Different others = Different

-- what a line with no instruction passes on: with no label it is not a line of the body
abbrev pub labelled_way : Option Word → Way → Option Kind → Way
labelled_way None above kind = above
labelled_way (Some word) above kind = Agreed kind

-- the rows by the names of their keys
abbrev pub named_rows : {X : Type 0} → List (Key × X) → List (Name × X)
named_rows entries = map (λ entry. (name_of_key entry.0, entry.1)) entries

-- a row; a label of which nothing is known has an empty one
abbrev pub row_of : Option LabelRow → LabelRow
row_of None = record { ahead = 0; given = false; way = Unseen }
row_of (Some row) = row

abbrev pub row_named : List (Name × LabelRow) → Name → LabelRow
row_named rows name = row_of (named_in rows name)

-- the number of the lines that carry the label
abbrev pub one_more : Bool → ℕ → ℕ
one_more true n = suc n
one_more false n = n

abbrev pub carriers : Name → List BodyLine → ℕ
carriers name [] = zero
carriers name (line ∷ lines) = one_more (carries (label_of line) name) (carriers name lines)

-- what is known of a label between the lines before, newest first, and those that are left
abbrev pub row_at : Scope → List BodyLine → List BodyLine → Name → LabelRow
row_at scope before left name = record {
  ahead = carriers name left;
  given = list_any (λ line. carries (label_of line) name) before;
  way = way_of (kinds_from_jumps name (known_kinds scope before));
}

-- a row once one more line is counted that may carry its label
abbrev pub counted_row : Bool → LabelRow → LabelRow
counted_row true row = record { ahead = row.ahead + 1; given = row.given; way = row.way }
counted_row false row = row

-- a row once a line is entered that may carry its label
abbrev pub entered_row : Bool → LabelRow → LabelRow
entered_row true row = record { ahead = row.ahead - 1; given = true; way = Unseen }
entered_row false row = row

-- a row once a line is left, with this kind of result, that may jump to its label
abbrev pub jumped_row : Bool → Option Kind → LabelRow → LabelRow
jumped_row true kind row = record { ahead = row.ahead; given = row.given; way = with_way kind row.way }
jumped_row false kind row = row

-- what the jumps to the label of a line agree on
abbrev pub way_to : Option Word → List (Name × LabelRow) → Way
way_to None rows = Unseen
way_to (Some word) rows = (row_named rows word.name).way

-- the name is the target of a jump
abbrev pub is_target : Option Name → Name → Bool
is_target None name = false
is_target (Some target) name = same_name target name

-- the rows count the lines that are left
abbrev pub CountsLines : List (Name × LabelRow) → List BodyLine → Type 0
CountsLines rows left = (name : Name) → (row_named rows name).ahead ≡ carriers name left

-- what a line passes on, from the kind before it
abbrev pub way_after : Scope → BodyLine → Option Kind → Way
way_after scope line kind = if leaves line then Unseen else Agreed (kind_after scope line kind)

-- an instruction is checked, from the kind before it; if nothing is broken, with what it passes on
abbrev pub HandsOn : Scope → BodyLine → List BodyLine → Option Kind → List Check → Result Way Fault → Type 0
HandsOn scope line following kind more (Ok way) = (first_broken (line_rules scope line following kind ++ more) ≡ first_broken more) × (way ≡ way_after scope line kind)
HandsOn scope line following kind more (Err (Refused number place)) = first_broken (line_rules scope line following kind ++ more) ≡ Some (record { number = number; line = place })
HandsOn scope line following kind more (Err Memory) = Unit {0}

-- between the lines before, newest first, and those that are left: what is kept of the labels, and of the line above
pub record IsAt (scope : Scope) (before left : List BodyLine) (rows : List (Name × LabelRow)) (above : Way) : Type 0 where
  pub labels : (name : Name) → row_named rows name ≡ row_at scope before left name
  pub handed : way_of (kinds_from_above scope (known_kinds scope before)) ≡ above

-- what is asked of lines after others
abbrev pub asked_of : Scope → List BodyLine → List BodyLine → List Check
asked_of scope before left = flat_map (rules_at_position scope) (positions_after before left)

-- from some lines on, nothing is broken before those that are left
pub record GetsTo (scope : Scope) (before all left : List BodyLine) (rows : List (Name × LabelRow)) (above : Way) : Type 0 where
  pub so_far : List BodyLine
  pub found : (more : List Check) → first_broken (asked_of scope before all ++ more) ≡ first_broken (asked_of scope so_far left ++ more)
  pub represents : IsAt scope so_far left rows above

-- lines are checked as far as those that are left
abbrev pub GoesTo : Scope → List BodyLine → List BodyLine → List BodyLine → List (Name × LabelRow) → Result Way Fault → Type 0
GoesTo scope before all left rows (Ok above) = GetsTo scope before all left rows above
GoesTo scope before all left rows (Err (Refused number place)) = (more : List Check) → first_broken (asked_of scope before all ++ more) ≡ Some (record { number = number; line = place })
GoesTo scope before all left rows (Err Memory) = Unit {0}
