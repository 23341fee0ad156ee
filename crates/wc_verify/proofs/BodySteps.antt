-- What is kept of a body after a line, from what is kept before it.
use Rattle.std.proofs.Common.{◌≡◌, ℕ, suc, ◌-◌, nat_lt, Bool, true, false, List, [], ◌∷◌, ◌++◌, Option, Some, None, Result, Ok, Err, option_map, arith, refl, sym, ap, ◌∙◌}
use Rattle.wc_model.proofs.Common.{lt-ltb, list_any}
use Rattle.std.specs.Prelude.{◌||◌, OnOk, if◌then◌else◌}
use Rattle.wc_model.specs.Definitions.{is_ahead, label_rules, line_rules, Check, first_broken, Validates, BodyLine, AloneLine, jumps_to, kind_after, kind_at, kinds_from_jumps, kinds_from_label, known_kinds, label_of, leaves, lines_of, carries, Name, Scope, Word, Lines, label_view, line_view, word_view}
use Rattle.wc_model.specs.declared.fault.Fault.{Fault}
use Rattle.wc_model.specs.declared.fault.Fault.TheVariants.{Refused, Memory}
use Rattle.wc_model.specs.declared.kind.Kind.{Kind}
use Rattle.wc_model.specs.declared.tree.Instr.{Instr}
use Rattle.wc_model.specs.declared.tree.Line.{Line}
use Rattle.wc_verify.specs.{CountsLines, GetsTo, GoesTo, HandsOn, IsAt, asked_of, way_after, carriers, entered_row, jumped_row, one_more, row_at, row_named, way_to, joined_edges, kind_of_way, labelled_way, way_of, with_way, GoesOn, instr_line}
use Rattle.wc_verify.specs.declared.labels.LabelRow.{LabelRow}
use Rattle.wc_verify.specs.declared.edges.Way.{Way}
use Rattle.wc_verify.specs.declared.edges.Way.TheVariants.{Unseen, Agreed}
use Rattle.wc_verify.proofs.BodyLines.{label_kept}
use Rattle.wc_verify.proofs.InstrLines.{lines_put, view_instr, view_none}
use Rattle.wc_verify.proofs.KindsAlong.{above_next, jumps_next, kind_here, line_asked}

-- a label is ahead if a line that is left carries it
or_ahead : (b : Bool) (n : ℕ) (a : Bool) → nat_lt 0 n ≡ a → nat_lt 0 (one_more b n) ≡ (b || a)
or_ahead true n a e = lt-ltb 0 (suc n) (omega arith)
or_ahead false n a e = e

pub ahead_counted : (name : Name) (lines : List BodyLine) → nat_lt 0 (carriers name lines) ≡ is_ahead lines name
ahead_counted name [] = refl
ahead_counted name (line ∷ lines) = or_ahead (carries (label_of line) name) (carriers name lines) (is_ahead lines name) (ahead_counted name lines)

-- a fault of an instruction
pub hands_fault : (scope : Scope) (line : BodyLine) (following : List BodyLine) (kind : Option Kind) (more : List Check) (fault : Fault) → GoesOn scope line following kind more (Err fault) → HandsOn scope line following kind more (Err fault)
hands_fault scope line following kind more (Refused number place) h = h
hands_fault scope line following kind more Memory h = tt

-- the first that is asked of a line is its label
abbrev pub AskedFirst : Scope → List BodyLine → Option Word → List BodyLine → List Check → Type 0
AskedFirst scope before label all more = (others : List Check) × (first_broken (asked_of scope before all ++ more) ≡ first_broken (label_rules before label ++ others))

body_first : (scope : Scope) (before : List BodyLine) (b : BodyLine) (label : Option Word) (all left : List BodyLine) (more : List Check) → all ≡ b ∷ left → label_of b ≡ label → AskedFirst scope before label all more
body_first scope before b label all left more is carried =
    let others = line_rules scope b left (kind_at scope before b) ++ (asked_of scope (b ∷ before) left ++ more) in
    (others, ap (λ ls. first_broken (asked_of scope before ls ++ more)) is ∙ line_asked scope before b left more ∙ ap (λ l. first_broken (label_rules before l ++ others)) carried)

label_first : (scope : Scope) (before : List BodyLine) (label : Option Word) (all : List BodyLine) (rest : Lines) (more : List Check) → all ≡ lines_of (label_view label rest) → AskedFirst scope before label all more
label_first scope before None all rest more is = (asked_of scope before (lines_of rest) ++ more, ap (λ ls. first_broken (asked_of scope before ls ++ more)) is)
label_first scope before (Some word) all rest more is = body_first scope before (AloneLine word) (Some word) all (lines_of rest) more is refl

first_by : (scope : Scope) (before : List BodyLine) (line : Line) (rest : Lines) (more : List Check) (o : Option Instr) → line.instr ≡ o → AskedFirst scope before (option_map word_view line.label) (lines_of (line_view line rest)) more
first_by scope before line rest more (Some instr) e =
    body_first scope before (instr_line instr (option_map word_view line.label)) (option_map word_view line.label) (lines_of (line_view line rest)) (lines_of rest) more
    (ap lines_of (view_instr line instr rest e) ∙ lines_put (instr_line instr (option_map word_view line.label)) rest) (label_kept instr (option_map word_view line.label))
first_by scope before line rest more None e = label_first scope before (option_map word_view line.label) (lines_of (line_view line rest)) rest more (ap lines_of (view_none line rest e))

-- a label that is refused
pub label_refused : (scope : Scope) (before : List BodyLine) (line : Line) (rest : Lines) (rows : List (Name × LabelRow)) (fault : Fault) →
    ((more : List Check) → Validates {X = Option Kind} (first_broken (label_rules before (option_map word_view line.label) ++ more)) (first_broken more) (Err fault)) →
    GoesTo scope before (lines_of (line_view line rest)) (lines_of rest) rows (Err fault)
label_refused scope before line rest rows (Refused number place) h = λ more. let asked = first_by scope before line rest more line.instr refl in asked.1 ∙ h asked.0
label_refused scope before line rest rows Memory h = tt

-- none of the labels before is given twice: what is kept says whether one is given
pub given_kept : (scope : Scope) (before left : List BodyLine) (rows : List (Name × LabelRow)) (above : Way) → IsAt scope before left rows above → (name : Name) →
    (row_named rows name).given ≡ list_any (λ line. carries (label_of line) name) before
given_kept scope before left rows above h name = ap (λ row. row.given) (h.labels name)

-- what the jumps to a line's label bring
way_kept : (scope : Scope) (before left : List BodyLine) (label : Option Word) (rows : List (Name × LabelRow)) (above : Way) → IsAt scope before left rows above → way_of (kinds_from_label label (known_kinds scope before)) ≡ way_to label rows
way_kept scope before left None rows above h = refl
way_kept scope before left (Some word) rows above h = sym (ap (λ row. row.way) (h.labels word.name))

-- a line of a body is entered: its labels, and the kind of the result
pub record IsEntered (scope : Scope) (before : List BodyLine) (b : BodyLine) (all left : List BodyLine) (label : Option Word) (rows entered : List (Name × LabelRow)) (above : Way) (kind : Option Kind) : Type 0 where
  pub is : all ≡ b ∷ left
  pub carried : label_of b ≡ label
  pub represents : IsAt scope before all rows above
  pub kind_is : kind ≡ kind_of_way (joined_edges above (way_to label rows))
  pub rows_are : (name : Name) → row_named entered name ≡ entered_row (carries label name) (row_named rows name)
  pub new : (more : List Check) → first_broken (label_rules before label ++ more) ≡ first_broken more

-- the kind of the result there
pub kind_entered : (scope : Scope) (before : List BodyLine) (b : BodyLine) (all left : List BodyLine) (label : Option Word) (rows entered : List (Name × LabelRow)) (above : Way) (kind : Option Kind) →
    IsEntered scope before b all left label rows entered above kind → kind_at scope before b ≡ kind
kind_entered scope before b all left label rows entered above kind h =
    kind_here scope before b above (way_to label rows) h.represents.handed (ap (λ l. way_of (kinds_from_label l (known_kinds scope before))) h.carried ∙ way_kept scope before all label rows above h.represents) ∙ sym h.kind_is

-- the row of a label after the line
one_less : (n : ℕ) → suc n - 1 ≡ n
one_less n = omega arith

row_step : (c j : Bool) (kind : Option Kind) (n : ℕ) (given : Bool) (way : Way) → jumped_row j kind (entered_row c (record { ahead = one_more c n; given = given; way = way }))
    ≡ record { ahead = n; given = c || given; way = if j then with_way kind (if c then Unseen else way) else (if c then Unseen else way) }
row_step true true kind n given way = λ i. record { ahead = one_less n i; given = true; way = with_way kind Unseen }
row_step true false kind n given way = λ i. record { ahead = one_less n i; given = true; way = Unseen }
row_step false true kind n given way = refl
row_step false false kind n given way = refl

-- what is entered counts the lines that are left
entered_ahead : (c : Bool) (n : ℕ) (given : Bool) (way : Way) → (entered_row c (record { ahead = one_more c n; given = given; way = way })).ahead ≡ n
entered_ahead true n given way = one_less n
entered_ahead false n given way = refl

row_entered : (scope : Scope) (before : List BodyLine) (b : BodyLine) (all left : List BodyLine) (label : Option Word) (rows entered : List (Name × LabelRow)) (above : Way) (kind : Option Kind) →
    IsEntered scope before b all left label rows entered above kind → (name : Name) → row_named entered name ≡ entered_row (carries (label_of b) name) (row_at scope before (b ∷ left) name)
row_entered scope before b all left label rows entered above kind h name =
    h.rows_are name ∙ ap (λ l. entered_row (carries l name) (row_named rows name)) (sym h.carried)
    ∙ ap (entered_row (carries (label_of b) name)) (h.represents.labels name ∙ ap (λ ls. row_at scope before ls name) h.is)

pub counts_entered : (scope : Scope) (before : List BodyLine) (b : BodyLine) (all left : List BodyLine) (label : Option Word) (rows entered : List (Name × LabelRow)) (above : Way) (kind : Option Kind) →
    IsEntered scope before b all left label rows entered above kind → CountsLines entered left
counts_entered scope before b all left label rows entered above kind h name =
    ap (λ row. row.ahead) (row_entered scope before b all left label rows entered above kind h name)
    ∙ entered_ahead (carries (label_of b) name) (carriers name left) (list_any (λ line. carries (label_of line) name) before) (way_of (kinds_from_jumps name (known_kinds scope before)))

-- what is kept after it
is_after : (scope : Scope) (before : List BodyLine) (b : BodyLine) (all left : List BodyLine) (label : Option Word) (rows entered new : List (Name × LabelRow)) (above next : Way) (kind : Option Kind) →
    IsEntered scope before b all left label rows entered above kind → ((name : Name) → row_named new name ≡ jumped_row (jumps_to b name) kind (row_named entered name)) → next ≡ way_after scope b kind →
    IsAt scope (b ∷ before) left new next
is_after scope before b all left label rows entered new above next kind h jumped handed =
    let k = kind_entered scope before b all left label rows entered above kind h in
    record {
      labels = λ name.
          let c = carries (label_of b) name in
          let j = jumps_to b name in
          let given = list_any (λ line. carries (label_of line) name) before in
          let way = way_of (kinds_from_jumps name (known_kinds scope before)) in
          let next_way = jumps_next scope before b name in
          let kept = ap (λ kind. if j then with_way kind (if c then Unseen else way) else (if c then Unseen else way)) k in
          jumped name ∙ ap (jumped_row j kind) (row_entered scope before b all left label rows entered above kind h name) ∙ row_step c j kind (carriers name left) given way
          ∙ ap (λ (w : Way). let row : LabelRow = record { ahead = carriers name left; given = c || given; way = w } in row) (sym kept ∙ sym next_way);
      handed = above_next scope before b ∙ ap (λ kind. if leaves b then Unseen else Agreed (kind_after scope b kind)) k ∙ sym handed;
    }

-- what is found of it, and then of those after it
found_after : (scope : Scope) (before : List BodyLine) (b : BodyLine) (all left : List BodyLine) (label : Option Word) (rows entered : List (Name × LabelRow)) (above : Way) (kind : Option Kind) (more : List Check) →
    IsEntered scope before b all left label rows entered above kind →
    first_broken (asked_of scope before all ++ more) ≡ first_broken (line_rules scope b left kind ++ (asked_of scope (b ∷ before) left ++ more))
found_after scope before b all left label rows entered above kind more h =
    let k = kind_entered scope before b all left label rows entered above kind h in
    let others : Option Kind → List Check = λ kind. line_rules scope b left kind ++ (asked_of scope (b ∷ before) left ++ more) in
    ap (λ ls. first_broken (asked_of scope before ls ++ more)) h.is ∙ line_asked scope before b left more
    ∙ (λ i. first_broken (label_rules before (h.carried i) ++ others (k i))) ∙ h.new (others kind)

-- a line is checked
pub line_validated : (scope : Scope) (before : List BodyLine) (b : BodyLine) (all left : List BodyLine) (label : Option Word) (rows entered new : List (Name × LabelRow)) (above : Way) (kind : Option Kind) (r : Result Way Fault) →
    IsEntered scope before b all left label rows entered above kind → OnOk r ((name : Name) → row_named new name ≡ jumped_row (jumps_to b name) kind (row_named entered name)) →
    ((more : List Check) → HandsOn scope b left kind more r) → GoesTo scope before all left new r
line_validated scope before b all left label rows entered new above kind (Ok next) h jumped validated = record {
  so_far = b ∷ before;
  found = λ more. found_after scope before b all left label rows entered above kind more h ∙ (validated (asked_of scope (b ∷ before) left ++ more)).0;
  represents = is_after scope before b all left label rows entered new above next kind h jumped (validated []).1;
}
line_validated scope before b all left label rows entered new above kind (Err (Refused number place)) h jumped validated = λ more.
    found_after scope before b all left label rows entered above kind more h ∙ validated (asked_of scope (b ∷ before) left ++ more)
line_validated scope before b all left label rows entered new above kind (Err Memory) h jumped validated = tt

-- a line with no instruction is
pub alone_validated : (scope : Scope) (before : List BodyLine) (all : List BodyLine) (label : Option Word) (rest : Lines) (rows entered : List (Name × LabelRow)) (above : Way) (kind : Option Kind) →
    all ≡ lines_of (label_view label rest) → IsAt scope before all rows above → kind ≡ kind_of_way (joined_edges above (way_to label rows)) →
    ((name : Name) → row_named entered name ≡ entered_row (carries label name) (row_named rows name)) → ((more : List Check) → first_broken (label_rules before label ++ more) ≡ first_broken more) →
    GetsTo scope before all (lines_of rest) entered (labelled_way label above kind)
alone_validated scope before all None rest rows entered above kind is represents kind_is rows_are new = record {
  so_far = before;
  found = λ more. ap (λ ls. first_broken (asked_of scope before ls ++ more)) is;
  represents = record { labels = λ name. rows_are name ∙ represents.labels name ∙ ap (λ ls. row_at scope before ls name) is; handed = represents.handed };
}
alone_validated scope before all (Some word) rest rows entered above kind is represents kind_is rows_are new =
    line_validated scope before (AloneLine word) all (lines_of rest) (Some word) rows entered entered above kind (Ok (Agreed kind))
    (record { is = is; carried = refl; represents = represents; kind_is = kind_is; rows_are = rows_are; new = new }) (λ name. refl) (λ more. (refl, refl))

-- lines that are checked, and others after them
pub goes_further : (scope : Scope) (before all middle left : List BodyLine) (rows new : List (Name × LabelRow)) (above : Way) (r : Result Way Fault) → (h : GetsTo scope before all middle rows above) →
    GoesTo scope h.so_far middle left new r → GoesTo scope before all left new r
goes_further scope before all middle left rows new above (Ok next) h g = record { so_far = g.so_far; found = λ more. h.found more ∙ g.found more; represents = g.represents }
goes_further scope before all middle left rows new above (Err (Refused number place)) h g = λ more. h.found more ∙ g more
goes_further scope before all middle left rows new above (Err Memory) h g = tt

-- a fault of some lines is a fault of the body
pub body_fault : (scope : Scope) (all left : List BodyLine) (rows : List (Name × LabelRow)) (more : List Check) (fault : Fault) → GoesTo scope [] all left rows (Err fault) →
    Validates {X = Unit {0}} (first_broken (asked_of scope [] all ++ more)) (first_broken more) (Err fault)
body_fault scope all left rows more (Refused number place) h = h more
body_fault scope all left rows more Memory h = tt

-- a fact of every label is one of this
pub at_label : {X Y : Type 0} {E : Type 0} (r : Result X E) (label : Option Word) (P : Option Word → Y → Type 0) → OnOk r ((label : Option Word) (y : Y) → P label y) → OnOk r ((y : Y) → P label y)
at_label (Ok x) label P h = h label
at_label (Err e) label P h = tt
