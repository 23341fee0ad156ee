-- What a row leaves in a scale, and what is printed of it, kind by kind: it does what a call of the open scale does.
use Rattle.std.proofs.Common.{Global, Vec, ◌≡◌, refl, ℕ, ℤ, true, false, List, [], ◌∷◌, ◌++◌, sym, ◌∙◌, ap, subst, append-nil, Option, Some, None, is_some, Result, Ok, Err, IfErr, IfOk, IfSome, IsOkUnless, OnOk}
use Rattle.wc_laws_instrument.specs.Changes.{IsNoChange}
use Rattle.wc_cost.specs.LoadedTexts.{LoadedText}
use Rattle.wc_machine.specs.Machines.{MachineState}
use Rattle.wc_model.specs.Definitions.{PlateData, Logic, logic_following, answer_line, RowData, Counts, Bytes, Inputs, Scan, Change, LogRow, Past, answer_of_row}
use Rattle.wc_run.proofs.RowCalls.{each_row_is_a_call}
use Rattle.wc_run.specs.{Answers, with_bytes, with_inputs, with_sample, came_by, IsNext, Represents, program_of, Scans, Sees, Came, Goes, IsRunning, Running, IsTaken, IsAt, lines_of_row, logic_after, AreItems, items_of, lines_of_scan, line_of_record, row_at, Gives, GivesItems, RunsRow, StopsAtRow, TakesRow}
use Rattle.wc_run.specs.OpenScales as open_scale
use Rattle.wc_run.specs.declared.open_scale.OpenScale.{OpenScale}
use Rattle.wc_machine.specs.declared.seen.SeenLine.{SeenLine}
use Rattle.wc_record.specs.Views.{head_data_view, head_view}
use Rattle.wc_record.specs.declared.last_scans.Record.{Record}
use Rattle.wc_record.specs.declared.row_head.RowHead.{RowHead}
use Rattle.wc_run.specs.declared.fault.RunFault.{RunFault}
use Rattle.wc_run.specs.declared.fault.RunFault.TheVariants.{Memory}
use Rattle.wc_run.specs.declared.row_seen.ScanSeen.{ScanSeen}
use Rattle.wc_run.specs.declared.log_scale.LogScale.{LogScale}

-- what holds at all holds of a success
pub on_ok : {T E : Type 0} (P : Type 0) (r : Result T E) → P → OnOk r P
on_ok P (Ok x) h = h
on_ok P (Err e) h = tt

-- what follows from what holds of a success holds of it
pub on_ok_of : {T E : Type 0} (P Q : Type 0) (r : Result T E) → (P → Q) → OnOk r P → OnOk r Q
on_ok_of P Q (Ok x) f h = f h
on_ok_of P Q (Err e) f h = tt

-- two things that hold of a success hold of it together
pub on_ok_both : {T E : Type 0} (P Q : Type 0) (r : Result T E) → OnOk r P → OnOk r Q → OnOk r (P × Q)
on_ok_both P Q (Ok x) p q = (p, q)
on_ok_both P Q (Err e) p q = tt

-- a machine that represents the logic runs its program
runs_program : (plate : PlateData) (machine : Option MachineState) (next : Option LoadedText) (logic : Option Logic) → IsAt machine next logic →
    IsRunning machine (program_of (logic_after plate logic []))
runs_program plate None next None represents = tt
runs_program plate None next (Some logic) represents = represents
runs_program plate (Some machine) next None represents = represents
runs_program plate (Some machine) next (Some logic) represents = represents.0

-- and what is loaded represents the next text
has_next : (plate : PlateData) (machine : Option MachineState) (next : Option LoadedText) (logic : Option Logic) → IsAt machine next logic →
    IsNext next (logic_after plate logic [])
has_next plate machine next None represents = tt
has_next plate None next (Some logic) represents = absurd represents
has_next plate (Some machine) next (Some logic) represents = represents.1

-- an open scale to which nothing has come represents no row
pub is_first : {S : Type 0} (alloc : Global) (opened : OpenScale S) (machine : Option MachineState) (next : Option LoadedText) (plate : PlateData) (logic : Option Logic) →
    ((program : Option Running) → IsRunning machine program → open_scale.Represents opened plate (open_scale.only_program program)) → IsAt machine next logic →
    Represents (record { alloc = alloc; opened = opened; next = next }) plate logic []
is_first alloc opened machine next plate logic begins represents =
    record {
      opened = begins (program_of (logic_after plate logic [])) (runs_program plate machine next logic represents);
      next = has_next plate machine next logic represents;
    }

-- a row that leaves any logic as it was leaves the logic with a scale as it was, if there is one
still : (ms : ℕ) (brings : RowData) → ((plate : PlateData) (logic : Logic) (past : Past) (number : ℕ) → logic_following plate logic (row_at number ms brings ∷ past) ≡ logic_following plate logic past) →
    (plate : PlateData) (logic : Option Logic) (past : Past) (number : ℕ) → logic_after plate logic (row_at number ms brings ∷ past) ≡ logic_after plate logic past
still ms brings leaves plate None past number = refl
still ms brings leaves plate (Some logic) past number = ap Some (leaves plate logic past number)

-- a call that does what such a row brings takes the row
takes_call : {S : Type 0} (old : LogScale S) (opened : OpenScale S) (step : Came → Came) (ms : ℕ) (brings : RowData) → Goes old.opened opened step →
    ((past : Past) (program : Option Running) (number : ℕ) → step (came_by past program) ≡ came_by (row_at number ms brings ∷ past) program) →
    ((plate : PlateData) (logic : Logic) (past : Past) (number : ℕ) → logic_following plate logic (row_at number ms brings ∷ past) ≡ logic_following plate logic past) →
    TakesRow old (record old { opened = opened }) ms brings
takes_call old opened step ms brings goes brought leaves plate logic past number represents =
    let after : Option Logic = logic_after plate logic past in
    let same : logic_after plate logic (row_at number ms brings ∷ past) ≡ after = still ms brings leaves plate logic past number in
    let went : open_scale.Represents opened plate (came_by (row_at number ms brings ∷ past) (program_of after)) =
    subst (λ came. open_scale.Represents opened plate came) (brought past (program_of after) number) (goes plate (came_by past (program_of after)) represents.opened) in
    record {
      opened = subst (λ logic. open_scale.Represents opened plate (came_by (row_at number ms brings ∷ past) (program_of logic))) (sym same) went;
      next = subst (λ logic. IsNext old.next logic) (sym same) represents.next;
    }

pub takes_sample : {S : Type 0} (old : LogScale S) (opened : OpenScale S) (counts : ℤ) → Goes old.opened opened (with_sample counts) → (ms : ℕ) →
    TakesRow old (record old { opened = opened }) ms (Counts counts)
takes_sample old opened counts goes ms =
    takes_call old opened (with_sample counts) ms (Counts counts) goes (λ past program number. each_row_is_a_call.sample past program number ms counts) (λ plate logic past number. refl)

pub takes_bytes : {S : Type 0} (old : LogScale S) (opened : OpenScale S) (bytes : List ℕ) → Goes old.opened opened (with_bytes bytes) → (ms : ℕ) →
    TakesRow old (record old { opened = opened }) ms (Bytes bytes)
takes_bytes old opened bytes goes ms =
    takes_call old opened (with_bytes bytes) ms (Bytes bytes) goes (λ past program number. each_row_is_a_call.bytes past program number ms bytes) (λ plate logic past number. refl)

pub takes_inputs : {S : Type 0} (old : LogScale S) (opened : OpenScale S) (inputs : ℕ) → Goes old.opened opened (with_inputs inputs) → (ms : ℕ) →
    TakesRow old (record old { opened = opened }) ms (Inputs inputs)
takes_inputs old opened inputs goes ms =
    takes_call old opened (with_inputs inputs) ms (Inputs inputs) goes (λ past program number. each_row_is_a_call.inputs past program number ms inputs) (λ plate logic past number. refl)

-- what is answered to bytes is what the report has, with a program or with none
pub gives_answer : {S : Type 0} (old : LogScale S) (bytes before answers : List ℕ) → before ≡ [] → Answers old.opened bytes (Some before) (Some answers) → (ms : ℕ) →
    Gives old ms (Bytes bytes) answers None
gives_answer old bytes before answers none answered ms plate None past number represents =
    ap (answer_line ms) (sym (answered plate _ represents.opened ∙ ap (λ b. b ++ answer_of_row plate past (row_at number ms (Bytes bytes))) none)) ∙ sym (append-nil (answer_line ms answers))
gives_answer old bytes before answers none answered ms plate (Some logic) past number represents =
    ap (answer_line ms) (sym (answered plate _ represents.opened ∙ ap (λ b. b ++ answer_of_row plate past (row_at number ms (Bytes bytes))) none)) ∙ sym (append-nil (answer_line ms answers))

-- a machine that is there runs a program
pub not_none : (machine : Option MachineState) → is_some machine ≡ true → IsRunning machine None → ⊥
not_none None there runs = absurd (cc)
not_none (Some machine) there runs = runs

-- a program is run by a machine
pub not_some : (machine : Option MachineState) (running : Running) → is_some machine ≡ false → IsRunning machine (Some running) → ⊥
not_some None running none runs = runs
not_some (Some machine) running none runs = absurd (cc)

-- with a machine the scan takes the row
pub takes_scan : {S : Type 0} (old : LogScale S) (opened : OpenScale S) (ms : ℕ) (scanned : Record) → is_some old.opened.machine ≡ true → Scans old.opened opened ms scanned →
    TakesRow old (record old { opened = opened }) ms Scan
takes_scan old opened ms scanned there scans plate None past number represents = absurd (not_none old.opened.machine there represents.opened.program)
takes_scan old opened ms scanned there scans plate (Some logic) past number represents =
    let before : Logic = logic_following plate logic past in
    record {
      opened = subst (λ came. open_scale.Represents opened plate came) (each_row_is_a_call.scan past (program_of (logic_after plate (Some logic) (row_at number ms Scan ∷ past))) number ms)
          (scans plate (came_by past (program_of (Some before))) (record { text = before.text; store = before.store }) refl represents.opened).represents;
      next = represents.next;
    }

-- and its record has the line of the report
pub gives_scan : {S : Type 0} (old : LogScale S) (opened : OpenScale S) (ms : ℕ) (scan : ScanSeen) → is_some old.opened.machine ≡ true → Scans old.opened opened ms scan.record →
    Gives old ms Scan [] (Some scan)
gives_scan old opened ms scan there scans plate None past number represents = absurd (not_none old.opened.machine there represents.opened.program)
gives_scan old opened ms scan there scans plate (Some logic) past number represents =
    let before : Logic = logic_following plate logic past in
    sym (ap (λ s. line_of_record s ∷ []) (scans plate (came_by past (program_of (Some before))) (record { text = before.text; store = before.store }) refl represents.opened).recorded)

-- if what it executes is looked at, these are its items
pub gives_items : {S : Type 0} (old : LogScale S) (ms : ℕ) (record' : Record) (lines : Vec SeenLine Global) → is_some old.opened.machine ≡ true → Sees old.opened ms (Ok lines) →
    GivesItems old ms Scan (Some (record { «record» = record'; lines = Some lines }))
gives_items old ms record' lines there sees plate None past number represents = tt
gives_items old ms record' lines there sees plate (Some logic) past number represents =
    let before : Logic = logic_following plate logic past in
    sees plate (came_by past (program_of (Some before))) (record { text = before.text; store = before.store }) refl represents.opened

-- if it is not, nothing is said
pub gives_none : {S : Type 0} (old : LogScale S) (ms : ℕ) (record' : Record) → GivesItems old ms Scan (Some (record { «record» = record'; lines = None }))
gives_none old ms record' plate logic past number represents = tt

-- with no machine a row that brings nothing else is passed over
passes : {S : Type 0} (old : LogScale S) (ms : ℕ) (brings : RowData) → is_some old.opened.machine ≡ false →
    ((past : Past) (program : Option Running) (number : ℕ) → came_by past program ≡ came_by (row_at number ms brings ∷ past) program) → TakesRow old old ms brings
passes old ms brings none brought plate None past number represents =
    record { opened = subst (λ came. open_scale.Represents old.opened plate came) (brought past None number) represents.opened; next = tt }
passes old ms brings none brought plate (Some logic) past number represents = absurd (not_some old.opened.machine _ none represents.opened.program)

-- if no machine is said to be, there is none
none_of : (machine : Option MachineState) → is_some machine ≡ false → machine ≡ None
none_of None none = refl
none_of (Some machine) none = absurd (cc)

pub passes_scan : {S : Type 0} (old : LogScale S) (opened : OpenScale S) (ms : ℕ) → is_some old.opened.machine ≡ false → (old.opened.machine ≡ None → opened ≡ old.opened) →
    TakesRow old (record old { opened = opened }) ms Scan
passes_scan old opened ms none same =
    subst (λ o. TakesRow old (record old { opened = o }) ms Scan) (sym (same (none_of old.opened.machine none)))
    (passes old ms Scan none (λ past program number. each_row_is_a_call.scan past program number ms))

pub passes_change : {S : Type 0} (old : LogScale S) (ms : ℕ) → is_some old.opened.machine ≡ false → TakesRow old old ms Change
passes_change old ms none = passes old ms Change none (λ past program number. each_row_is_a_call.change past program number ms)

-- and the report has no line of a scan
pub gives_no_scan : {S : Type 0} (old : LogScale S) (ms : ℕ) → is_some old.opened.machine ≡ false → Gives old ms Scan [] None
gives_no_scan old ms none plate None past number represents = refl
gives_no_scan old ms none plate (Some logic) past number represents = absurd (not_some old.opened.machine _ none represents.opened.program)

pub gives_no_items : {S : Type 0} (old : LogScale S) (ms : ℕ) → GivesItems old ms Scan None
gives_no_items old ms plate logic past number represents = tt

-- the scale is as after the row that brings this
pub takes_row : {S : Type 0} (old new : LogScale S) (bytes : List ℕ) (row : RowHead) (brings : RowData) → head_data_view bytes row.kind ≡ brings → TakesRow old new row.ms brings →
    (plate : PlateData) (logic : Option Logic) (past : Past) → Represents old plate logic past → Represents new plate logic (head_view bytes row ∷ past)
takes_row old new bytes row brings is takes plate logic past represents =
    subst (λ kind. Represents new plate logic (row_at row.number row.ms kind ∷ past)) (sym is) (takes plate logic past row.number represents)

-- a run with whatever logic takes a row that changes no program
taken_with : (plate : PlateData) (logic : Option Logic) (past : Past) (number ms : ℕ) (brings : RowData) → IsNoChange brings →
    IsTaken (logic_after plate logic past) (logic_after plate logic (row_at number ms brings ∷ past)) (row_at number ms brings)
taken_with plate None past number ms brings none rest = refl
taken_with plate (Some logic) past number ms (Counts counts) none rest = refl
taken_with plate (Some logic) past number ms (Bytes bytes) none rest = refl
taken_with plate (Some logic) past number ms (Inputs inputs) none rest = refl
taken_with plate (Some logic) past number ms Scan none rest = refl
taken_with plate (Some logic) past number ms Change none rest = absurd none

-- so of the row that brings this
pub runs_row : {S : Type 0} (old : LogScale S) (bytes : List ℕ) (row : RowHead) (brings : RowData) → head_data_view bytes row.kind ≡ brings → IsNoChange brings → RunsRow old (head_view bytes row)
runs_row old bytes row brings is none plate logic past represents =
    subst (λ kind. IsTaken (logic_after plate logic past) (logic_after plate logic (row_at row.number row.ms kind ∷ past)) (row_at row.number row.ms kind)) (sym is)
    (taken_with plate logic past row.number row.ms brings none)

-- out of memory keeps a scale from any row
pub stops_for_memory : {S : Type 0} {X : Type 0} (old : LogScale S) (row : LogRow) (answer : Result X RunFault) → IsOkUnless answer Memory → IfErr answer (λ fault. StopsAtRow old row fault)
stops_for_memory old row (Ok x) h = tt
stops_for_memory old row (Err fault) h = subst (λ f. StopsAtRow old row f) (sym h) tt

-- the row that brings this keeps a scale from it
pub stops_at : {S : Type 0} (old : LogScale S) (bytes : List ℕ) (row : RowHead) (brings : RowData) (fault : RunFault) → head_data_view bytes row.kind ≡ brings →
    StopsAtRow old (row_at row.number row.ms brings) fault → StopsAtRow old (head_view bytes row) fault
stops_at old bytes row brings fault is stops = subst (λ kind. StopsAtRow old (row_at row.number row.ms kind) fault) (sym is) stops

-- and takes it
pub runs_this : {S : Type 0} (old : LogScale S) (bytes : List ℕ) (row : RowHead) (brings : RowData) → head_data_view bytes row.kind ≡ brings →
    RunsRow old (row_at row.number row.ms brings) → RunsRow old (head_view bytes row)
runs_this old bytes row brings is runs = subst (λ kind. RunsRow old (row_at row.number row.ms kind)) (sym is) runs

-- the items of its scan
pub items_at : {S E : Type 0} (old : LogScale S) (bytes : List ℕ) (row : RowHead) (brings : RowData) (answer : Result (Option ScanSeen) E) → head_data_view bytes row.kind ≡ brings →
    IfOk answer (λ scan. GivesItems old row.ms brings scan) →
    IfOk answer (λ scan. (plate : PlateData) (logic : Option Logic) (past : Past) → Represents old plate logic past → IfSome scan (λ done. AreItems plate logic past (head_view bytes row) (items_of done)))
items_at old bytes row brings (Ok scan) is gives = λ plate logic past represents.
    subst (λ kind. IfSome scan (λ done. AreItems plate logic past (row_at row.number row.ms kind) (items_of done))) (sym is) (gives plate logic past row.number represents)
items_at old bytes row brings (Err fault) is gives = tt

-- its lines, which are none of a row that brings a sample, inputs or a change
pub lines_at : {S : Type 0} (old : LogScale S) (bytes : List ℕ) (row : RowHead) (brings : RowData) (answers given : List ℕ) (scan : Option ScanSeen) → head_data_view bytes row.kind ≡ brings → answers ≡ given → Gives old row.ms brings given scan →
    (plate : PlateData) (logic : Option Logic) (past : Past) → Represents old plate logic past → lines_of_row plate logic past (head_view bytes row) ≡ answer_line row.ms answers ++ lines_of_scan scan
lines_at old bytes row brings answers given scan is same gives plate logic past represents =
    ap (λ kind. lines_of_row plate logic past (row_at row.number row.ms kind)) is ∙ gives plate logic past row.number represents ∙ ap (λ a. answer_line row.ms a ++ lines_of_scan scan) (sym same)

pub gives_no_counts : {S : Type 0} (old : LogScale S) (ms : ℕ) (counts : ℤ) → Gives old ms (Counts counts) [] None
gives_no_counts old ms counts plate None past number represents = refl
gives_no_counts old ms counts plate (Some logic) past number represents = refl

pub gives_no_inputs : {S : Type 0} (old : LogScale S) (ms inputs : ℕ) → Gives old ms (Inputs inputs) [] None
gives_no_inputs old ms inputs plate None past number represents = refl
gives_no_inputs old ms inputs plate (Some logic) past number represents = refl

pub gives_no_change : {S : Type 0} (old : LogScale S) (ms : ℕ) → Gives old ms Change [] None
gives_no_change old ms plate None past number represents = refl
gives_no_change old ms plate (Some logic) past number represents = refl
