-- What a change of the program leaves in a scale: a change of the machine inside is a change of what the scale represents.
use Rattle.wc_run.specs.OpenScales as open_scale
use Rattle.std.proofs.Common.{◌≡◌, ◌≤◌, IfSome, sym, subst, Some, refl, ℕ, ◌∷◌, true, false, Option, None, is_some}
use Rattle.wc_cost.specs.LoadedTexts.{LoadedText}
use Rattle.wc_machine.specs.Machines.{MachineState, RepresentsText}
use Rattle.wc_model.specs.Definitions.{carried, Store, Text, text_view, PlateData, LogOf, refused_at, with_row, Change, LogRow, Past, change_on, log_for, log_while, Logic, change_to, logic_following}
use Rattle.wc_run.specs.{IsChangedTo, changed_program, IsRunning, Running, came_by, IsNext, Represents, program_of, text_of_next, row_at, RunsRow, StopsAtRow, TakesRow}
use Rattle.wc_run.specs.declared.open_scale.OpenScale.{OpenScale}
use Rattle.wc_run.specs.declared.fault.RunFault.TheVariants.{Refused}
use Rattle.wc_run.specs.declared.log_scale.LogScale.{LogScale}
use Rattle.wc_run.proofs.RowCalls.{each_row_is_a_call}
use Rattle.wc_run.proofs.ScaleRows.{not_none, not_some}

pub is_changed : {S : Type 0} (old : OpenScale S) (machine new : MachineState) (loaded : LoadedText) → old.machine ≡ Some machine →
    ((text : Text) (store : Store) → RepresentsText machine text store → RepresentsText new (text_view loaded.source) (carried text store (text_view loaded.source))) →
    new.last ≡ machine.last → IsChangedTo old (record old { machine = Some new }) (text_view loaded.source)
is_changed old machine new loaded is changes same =
    record {
      represents = λ plate came running runs represents. record {
        is_plate = represents.is_plate;
        indicator = represents.indicator;
        line = represents.line;
        inputs = represents.inputs;
        program = changes running.text running.store
            (subst (λ program. IsRunning (Some machine) program) runs (subst (λ held. IsRunning held came.program) is represents.program));
      };
      stays = λ ms late. subst (λ held. IfSome held (λ m. m.last ≤ ms)) (sym is) (subst (λ last. last ≤ ms) same late);
      last = λ ms early. subst (λ last. last ≤ ms) (sym same) (subst (λ held. IfSome held (λ m. m.last ≤ ms)) is early);
    }

-- what is loaded is the next text
next_text : (next : Option LoadedText) (loaded : LoadedText) (left : Option Text) → next ≡ Some loaded → text_of_next next ≡ left → Some (text_view loaded.source) ≡ left
next_text next loaded left is same = subst (λ n. text_of_next n ≡ left) is same

-- after a change an open scale represents the next text and what is carried over to it
changed_logic : {S : Type 0} (opened : OpenScale S) (plate : PlateData) (past : Past) (number ms : ℕ) (logic : Logic) (text : Text) (left : Option Text) → Some text ≡ left →
    open_scale.Represents opened plate (came_by past (Some (changed_program (record { text = logic.text; store = logic.store }) text))) →
    open_scale.Represents opened plate (came_by (row_at number ms Change ∷ past) (program_of (Some (change_to logic left)))) × IsNext None (Some (change_to logic left))
changed_logic opened plate past number ms logic text left is represents =
    let program : Running = changed_program (record { text = logic.text; store = logic.store }) text in
    subst (λ t. open_scale.Represents opened plate (came_by (row_at number ms Change ∷ past) (program_of (Some (change_to logic t)))) × IsNext None (Some (change_to logic t))) is
    (subst (λ came. open_scale.Represents opened plate came) (each_row_is_a_call.change past (Some program) number ms) represents, refl)

-- a scale whose program is changed takes the row
pub takes_change : {S : Type 0} (old : LogScale S) (opened : OpenScale S) (loaded : LoadedText) (ms : ℕ) → is_some old.opened.machine ≡ true → old.next ≡ Some loaded →
    IsChangedTo old.opened opened (text_view loaded.source) → TakesRow old (record old { opened = opened; next = None }) ms Change
takes_change old opened loaded ms there is changed plate None past number represents = absurd (not_none old.opened.machine there represents.opened.program)
takes_change old opened loaded ms there is changed plate (Some logic) past number represents =
    let before : Logic = logic_following plate logic past in
    let running : Running = record { text = before.text; store = before.store } in
    let both = changed_logic opened plate past number ms before (text_view loaded.source) before.next (next_text old.next loaded before.next is represents.next)
    (changed.represents plate (came_by past (Some running)) running refl represents.opened) in
    record { opened = both.0; next = both.1 }

-- if a next text is left, the log goes on after the row
goes_on : (logic : Logic) (text : Text) (left : Option Text) → Some text ≡ left → (row : LogRow) (rest : LogOf) →
    change_on (is_some left) row (λ more. log_while more rest.rows rest.refusal) ≡ with_row row (log_for (Some (change_to logic left)) rest)
goes_on logic text left is row rest =
    subst (λ t. change_on (is_some t) row (λ more. log_while more rest.rows rest.refusal) ≡ with_row row (log_for (Some (change_to logic t)) rest)) is refl

-- and a run with whatever logic it represents takes it
pub runs_change : {S : Type 0} (old : LogScale S) (loaded : LoadedText) (number ms : ℕ) → is_some old.opened.machine ≡ true → old.next ≡ Some loaded → RunsRow old (row_at number ms Change)
runs_change old loaded number ms there is plate None past represents = absurd (not_none old.opened.machine there represents.opened.program)
runs_change old loaded number ms there is plate (Some logic) past represents = λ rest.
    let before : Logic = logic_following plate logic past in
    goes_on before (text_view loaded.source) before.next (next_text old.next loaded before.next is represents.next) (row_at number ms Change) rest

-- with no program any log takes it
pub runs_past : {S : Type 0} (old : LogScale S) (number ms : ℕ) → is_some old.opened.machine ≡ false → RunsRow old (row_at number ms Change)
runs_past old number ms none plate None past represents = λ rest. refl
runs_past old number ms none plate (Some logic) past represents = absurd (not_some old.opened.machine _ none represents.opened.program)

-- if none is left, the row is refused
refused_at_row : (left : Option Text) → None ≡ left → (row : LogRow) (rest : LogOf) →
    change_on (is_some left) row (λ more. log_while more rest.rows rest.refusal) ≡ refused_at 609 row.number
refused_at_row left is row rest =
    subst (λ t. change_on (is_some t) row (λ more. log_while more rest.rows rest.refusal) ≡ refused_at 609 row.number) is refl

pub stops_change : {S : Type 0} (old : LogScale S) (number ms : ℕ) → is_some old.opened.machine ≡ true → old.next ≡ None → StopsAtRow old (row_at number ms Change) (Refused 609 number)
stops_change old number ms there is plate None past represents = absurd (not_none old.opened.machine there represents.opened.program)
stops_change old number ms there is plate (Some logic) past represents = λ rest.
    refused_at_row (logic_following plate logic past).next (subst (λ n. text_of_next n ≡ (logic_following plate logic past).next) is represents.next) (row_at number ms Change) rest
