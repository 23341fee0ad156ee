-- What a scan executes, item by item, with the result and the store after each: the trace with what can be seen at each of its
-- items. (The profile's own; what the lines do is IEC 61131-3:2003, 3.2.)
use Rattle.std.specs.Prelude.{ℕ, true, false, List, [], ◌∷◌, ◌++◌, map, reverse, Option, Some, None, Result, Ok, Err}
use Rattle.wc_model.specs.Definitions.{standard_called, VariableType, Elementary, Standard, Block, Member, same_name, members_of, Outcome, Done, Stuck, Mode, Running, Seeking, Returned, Effect, Goes, Fails, Context, arriving, value_of, acts, assigned_one, assigned, body_outcome, given_one, step_effect, line_effect, closed, nested_effect, means, called, Name, Reason, with_image, type_of, Store, Item, At, Argument, StandardBody, Called, GivenOut}
use Rattle.wc_model.specs.Language.Tree.{Term, Assignment, inputs_of, outputs_of, Step, Load, Store as StoreStep, Apply, Negate, Jump, Call, Return, Lines, End, Alone, Plain, Nested, ProgramUnit, Text}
use Rattle.wc_model.specs.declared.image.Image.{Image}
use Rattle.wc_model.specs.declared.operator.Operator.{Operator}
use Rattle.wc_model.specs.declared.value.Value.{Value}

-- an executed item, with the result and the store that follow it
pub record Seen : Type 0 where
  pub item : Item
  pub result : Option Value
  pub store : Store

abbrev pub seen_at : Item → Option Value → Store → Seen
seen_at item result store = record { item = item; result = result; store = store }

-- the same as an item of a block that is called
abbrev pub seen_called : Seen → Seen
seen_called seen = record { item = Called seen.item; result = seen.result; store = seen.store }

-- what is seen of a call of an instance of a block of the text
abbrev pub SeenCalls : Type 0
SeenCalls = Name → List Name → Store → List Seen

-- the result in a mode
abbrev pub result_in : Mode → Option Value
result_in (Running result) = result
result_in (Seeking label result) = result
result_in (Returned result) = result

-- one item at a line, after which comes what the line's effect leaves
abbrev pub seen_effect : ℕ → Effect → List Seen
seen_effect line (Goes mode store items) = seen_at (At line) (result_in mode) store ∷ []
seen_effect line (Fails reason) = []

-- what is seen from what an effect leaves
abbrev pub seen_from : Effect → (Mode → Store → List Seen) → List Seen
seen_from (Goes mode store items) go = go mode store
seen_from (Fails reason) go = []

-- what is seen of stores that follow one another, each from the one before, as long as there is one
abbrev pub seen_store : Item → Option Value → Result Store Reason → (Store → List Seen) → List Seen
seen_store item result (Ok store) go = seen_at item result store ∷ go store
seen_store item result (Err reason) go = []

-- the inputs that a call assigns; the caller's result stays
abbrev pub seen_inputs : Context → List Member → Name → Option Value → List Assignment → Store → List Seen
seen_inputs here members instance result [] store = []
seen_inputs here members instance result (input ∷ inputs) store =
    seen_store Argument result (assigned_one here store members instance input) (seen_inputs here members instance result inputs)

-- the outputs that a call gives out
abbrev pub seen_outputs : Context → Name → Option Value → List Assignment → Store → List Seen
seen_outputs here instance result [] store = []
seen_outputs here instance result (output ∷ outputs) store =
    seen_store GivenOut result (given_one here store instance output) (seen_outputs here instance result outputs)

-- the body of the block that is called
abbrev pub seen_block : Context → SeenCalls → Option Value → VariableType → Name → Store → List Seen
seen_block here calls result (Elementary kind) instance store = []
seen_block here calls result (Standard block) instance store =
    seen_store StandardBody result (standard_called block here.now store (here.instance ++ instance ∷ [])) (λ new. [])
seen_block here calls result (Block name) instance store = map seen_called (calls name (here.instance ++ instance ∷ []) store)

-- what follows an outcome's store
abbrev pub seen_after : Outcome → (Store → List Seen) → List Seen
seen_after (Done result store trace) go = go store
seen_after (Stuck reason) go = []

-- what follows the store that is left, if there is one
abbrev pub seen_with : Result Store Reason → (Store → List Seen) → List Seen
seen_with (Ok store) go = go store
seen_with (Err reason) go = []

-- a call that is made: its line, the inputs, its block's body, the outputs
abbrev pub seen_made : Context → SeenCalls → VariableType → ℕ → Name → List Assignment → Option Value → Store → List Seen
seen_made here calls type line instance arguments result store =
    seen_at (At line) result store ∷ seen_inputs here (members_of here.scope.before type) instance result (inputs_of arguments) store
    ++ seen_with (assigned here (members_of here.scope.before type) instance (inputs_of arguments) store) (λ new.
    seen_block here calls result type instance new
    ++ seen_after (body_outcome here type instance new) (seen_outputs here instance result (outputs_of arguments)))

abbrev pub seen_call : Context → SeenCalls → ℕ → Name → List Assignment → Option Value → Store → List Seen
seen_call here calls line instance arguments result store =
    elim (type_of here.scope instance) [ Some type ↦ seen_made here calls type line instance arguments result store | None ↦ [] ]

-- what is seen of a step that is executed; a call that is not made is its line alone
abbrev pub seen_step : Context → SeenCalls → ℕ → Step → Option Value → Store → List Seen
seen_step here calls line (Load negated operand) result store = seen_effect line (step_effect here line (Load negated operand) result store)
seen_step here calls line (StoreStep storing target) result store = seen_effect line (step_effect here line (StoreStep storing target) result store)
seen_step here calls line (Apply operator operand) result store = seen_effect line (step_effect here line (Apply operator operand) result store)
seen_step here calls line Negate result store = seen_effect line (step_effect here line Negate result store)
seen_step here calls line (Jump condition label) result store = seen_effect line (step_effect here line (Jump condition label) result store)
seen_step here calls line (Return condition) result store = seen_effect line (step_effect here line (Return condition) result store)
seen_step here calls line (Call condition instance arguments) result store =
    elim (acts condition result) [
      | Ok made ↦ elim made [ true ↦ seen_call here calls line instance arguments result store | false ↦ seen_at (At line) result store ∷ [] ]
      | Err reason ↦ []
    ]

-- nothing is seen of a line that is not executed
abbrev pub seen_line : Context → SeenCalls → ℕ → Step → Mode → Store → List Seen
seen_line here calls line step (Running result) store = seen_step here calls line step result store
seen_line here calls line step (Seeking label result) store = []
seen_line here calls line step (Returned result) store = []

-- a parenthesis: its opening line, after which comes what the lines inside start with; those lines; and the `)`
abbrev pub seen_inside : ℕ → Operator → ℕ → Value → (Mode → Store → List Seen) → (Mode → Store → Outcome) → Store → Option Value → List Seen
seen_inside line operator close outer seen inside store start =
    seen_at (At line) start store ∷ seen (Running start) store ++ seen_effect close (closed line operator close outer (inside (Running start) store))

abbrev pub seen_opened : Context → ℕ → Operator → Option Term → ℕ → Value → (Mode → Store → List Seen) → (Mode → Store → Outcome) → Store → List Seen
seen_opened here line operator None close outer seen inside store = seen_inside line operator close outer seen inside store None
seen_opened here line operator (Some operand) close outer seen inside store =
    elim (value_of here store operand) [ Ok value ↦ seen_inside line operator close outer seen inside store (Some value) | Err reason ↦ [] ]

abbrev pub seen_nested : Context → ℕ → Operator → Option Term → ℕ → (Mode → Store → List Seen) → (Mode → Store → Outcome) → Mode → Store → List Seen
seen_nested here line operator operand close seen inside (Running None) store = []
seen_nested here line operator operand close seen inside (Running (Some outer)) store = seen_opened here line operator operand close outer seen inside store
seen_nested here line operator operand close seen inside (Seeking label result) store = []
seen_nested here line operator operand close seen inside (Returned result) store = []

-- what is seen of the lines left, from a mode and a store
abbrev pub seen_lines : Context → SeenCalls → Lines → Mode → Store → List Seen
seen_lines here calls End mode store = []
seen_lines here calls (Alone word rest) mode store = seen_lines here calls rest (arriving (Some word) mode) store
seen_lines here calls (Plain word line step rest) mode store =
    seen_line here calls line step (arriving word mode) store ++ seen_from (line_effect here line step (arriving word mode) store) (seen_lines here calls rest)
seen_lines here calls (Nested word line operator operand inside close rest) mode store =
    seen_nested here line operator operand close (seen_lines here calls inside) (means here inside) (arriving word mode) store
    ++ seen_from (nested_effect here line operator operand close (means here inside) (arriving word mode) store) (seen_lines here calls rest)

-- where a body runs: a unit after these, as this instance, at a moment
abbrev pub context_of : List ProgramUnit → ProgramUnit → List Name → ℕ → Context
context_of before unit instance now = record { scope = record { before = before; unit = unit }; instance = instance; now = now; calls = called before now }

-- what is seen of a call of a block among these units at a moment
abbrev pub seen_of_calls : List ProgramUnit → ℕ → SeenCalls
seen_of_calls [] now name instance store = []
seen_of_calls (unit ∷ before) now name instance store =
    elim (same_name unit.name.name name) [
      | true ↦ seen_lines (context_of before unit instance now) (seen_of_calls before now) unit.body (Running None) store
      | false ↦ seen_of_calls before now name instance store
    ]

-- what is seen of the body of the last unit, in its own frame
abbrev pub seen_of_program : List ProgramUnit → ProgramUnit → ℕ → Store → List Seen
seen_of_program before program now store = seen_lines (context_of before program [] now) (seen_of_calls before now) program.body (Running None) store

-- the units of a text that precede the program, newest first
abbrev pub seen_of_reversed : List ProgramUnit → ℕ → Store → List Seen
seen_of_reversed [] now store = []
seen_of_reversed (program ∷ before) now store = seen_of_program before program now store

-- what is seen of a scan at a moment
abbrev pub seen_of_scan : Text → Store → Image → ℕ → List Seen
seen_of_scan text store image now = seen_of_reversed (reverse text) now (with_image image store)
