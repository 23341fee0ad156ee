-- The items that are seen are those of the trace.
use Rattle.wc_model.proofs.Common.{◌≡◌, ℕ, Bool, true, false, List, [], ◌∷◌, ◌++◌, map, Option, Some, None, Result, Ok, Err, refl, sym, ap, ◌∙◌, reverse, map-append}
use Rattle.wc_model.specs.Definitions.{standard_called, VariableType, Elementary, Standard, Block, Member, same_name, members_of, Outcome, Done, Stuck, Mode, Running, Seeking, Returned, Effect, Goes, Fails, Context, Calls, arriving, after, continued, alongside, given, from_value, from_store, chosen, acts, value_of, written_to, stored, set_where, store_effect, next, assigned_one, assigned, given_one, given_out, call_trace, body_outcome, made, called_type, call_effect, step_effect, line_effect, closed, nested_effect, means, called, Name, apply, negated, Reason, NoSuchPlace, first_of_reversed, with_image, type_of, Store, Item, At, Argument, StandardBody, Called, GivenOut}
use Rattle.wc_model.specs.Language.Tree.{Term, Assignment, inputs_of, outputs_of, Step, Load, Store as StoreStep, Apply, Negate, Jump, Call, Return, Lines, End, Alone, Plain, Nested, ProgramUnit, Text}
use Rattle.wc_model.specs.declared.image.Image.{Image}
use Rattle.wc_model.specs.declared.operator.Condition.{Condition}
use Rattle.wc_model.specs.declared.operator.Operator.{Operator}
use Rattle.wc_model.specs.declared.operator.StoreKind.{StoreKind}
use Rattle.wc_model.specs.declared.operator.StoreKind.TheVariants.{Result as StoreResult, Negation, Set, Reset}
use Rattle.wc_model.specs.declared.value.Value.{Value}
use Rattle.wc_model.specs.declared.value.Value.TheVariants.{Bool as Truth, Dint, Time}
use Rattle.wc_text_flat.specs.SeenLaws.{HasItems}
use Rattle.wc_text_flat.specs.Seen.{Seen, SeenCalls, seen_at, seen_called, seen_effect, seen_from, seen_store, seen_inputs, seen_outputs, seen_block, seen_after, seen_with, seen_made, seen_call, seen_step, seen_line, seen_inside, seen_nested, seen_lines, context_of, seen_of_calls, seen_of_reversed, seen_of_scan}

-- the items of what is seen
abbrev pub items_of : List Seen → List Item
items_of seen = map (λ s. s.item) seen

-- what is seen of an effect are its items
abbrev pub EffectItems : Effect → List Seen → Type 0
EffectItems (Goes mode store items) seen = items_of seen ≡ items
EffectItems (Fails reason) seen = Unit {0}

-- an effect of one item, at its line
abbrev pub IsOne : ℕ → Effect → Type 0
IsOne line (Goes mode store items) = items ≡ At line ∷ []
IsOne line (Fails reason) = Unit {0}

pub one_item : (line : ℕ) (effect : Effect) → IsOne line effect → EffectItems effect (seen_effect line effect)
one_item line (Goes mode store items) e = sym e
one_item line (Fails reason) e = tt

-- an effect goes on by one, whatever it is given
one_from_value : (line : ℕ) (r : Result Value Reason) (go : Value → Effect) → ((value : Value) → IsOne line (go value)) → IsOne line (from_value r go)
one_from_value line (Ok value) go h = h value
one_from_value line (Err reason) go h = tt

one_from_store : (line : ℕ) (r : Result Store Reason) (go : Store → Effect) → ((store : Store) → IsOne line (go store)) → IsOne line (from_store r go)
one_from_store line (Ok store) go h = h store
one_from_store line (Err reason) go h = tt

one_given : (line : ℕ) (o : Option Value) (go : Value → Effect) → ((value : Value) → IsOne line (go value)) → IsOne line (given o go)
one_given line (Some value) go h = h value
one_given line None go h = tt

one_chosen : (line : ℕ) (r : Result Bool Reason) (acting passing : Effect) → IsOne line acting → IsOne line passing → IsOne line (chosen r acting passing)
one_chosen line (Ok true) acting passing a p = a
one_chosen line (Ok false) acting passing a p = p
one_chosen line (Err reason) acting passing a p = tt

-- ST, STN, S, R
one_stored : (here : Context) (line : ℕ) (store : Store) (target : Term) (value result : Value) → IsOne line (stored here line store target value result)
one_stored here line store target value result = one_from_store line (written_to here store target value) _ (λ new. refl)

one_set : (here : Context) (line : ℕ) (store : Store) (target : Term) (b : Bool) (result : Value) → IsOne line (set_where here line store target b result)
one_set here line store target b (Truth true) = one_stored here line store target (Truth b) (Truth true)
one_set here line store target b (Truth false) = refl
one_set here line store target b (Dint n) = tt
one_set here line store target b (Time t) = tt

one_store : (here : Context) (line : ℕ) (store : Store) (storing : StoreKind) (target : Term) (result : Value) → IsOne line (store_effect here line store storing target result)
one_store here line store StoreResult target result = one_stored here line store target result result
one_store here line store Negation target result = one_from_value line (negated result) _ (λ value. one_stored here line store target value result)
one_store here line store Set target result = one_set here line store target true result
one_store here line store Reset target result = one_set here line store target false result

-- what is seen after items
after_items : (items : List Item) (seen more : List Seen) (o : Outcome) → items_of seen ≡ items → HasItems o more → HasItems (after items o) (seen ++ more)
after_items items seen more (Done result store trace) e h =
    map-append (λ (s : Seen). s.item) seen more ∙ (ap (λ (l : List Item). l ++ items_of more) e ∙ ap (λ (l : List Item). items ++ l) h)
after_items items seen more (Stuck reason) e h = tt

-- on from an effect
joined_items : (effect : Effect) (seen : List Seen) (go : Mode → Store → Outcome) (seen_go : Mode → Store → List Seen) → EffectItems effect seen → ((mode : Mode) (store : Store) → HasItems (go mode store) (seen_go mode store)) → HasItems (continued effect go) (seen ++ seen_from effect seen_go)
joined_items (Goes mode store items) seen go seen_go e h = after_items items seen (seen_go mode store) (go mode store) e (h mode store)
joined_items (Fails reason) seen go seen_go e h = tt

-- the items of a call's inputs, if all are assigned
abbrev pub InputItems : List Assignment → Result Store Reason → List Seen → Type 0
InputItems inputs (Ok store) seen = items_of seen ≡ map (λ input. Argument) inputs
InputItems inputs (Err reason) seen = Unit {0}

input_items : (here : Context) (members : List Member) (instance : Name) (result : Option Value) (inputs : List Assignment) (store : Store) → InputItems inputs (assigned here members instance inputs store) (seen_inputs here members instance result inputs store)
input_items here members instance result [] store = refl
input_items here members instance result (input ∷ inputs) store =
    one (assigned_one here store members instance input) (λ new. input_items here members instance result inputs new)
  where
    more : (new : Store) (r : Result Store Reason) (seen : List Seen) → InputItems inputs r seen → InputItems (input ∷ inputs) r (seen_at Argument result new ∷ seen)
    more new (Ok last) seen e = ap (λ (l : List Item). Argument ∷ l) e
    more new (Err reason) seen e = tt

    one : (r : Result Store Reason) → ((new : Store) → InputItems inputs (assigned here members instance inputs new) (seen_inputs here members instance result inputs new)) → InputItems (input ∷ inputs) (elim r as (λ x. Result Store Reason) [ Ok new ↦ assigned here members instance inputs new | Err reason ↦ Err reason ]) (seen_store Argument result r (seen_inputs here members instance result inputs))
    one (Ok new) h = more new (assigned here members instance inputs new) (seen_inputs here members instance result inputs new) (h new)
    one (Err reason) h = tt

-- and of its outputs
abbrev pub OutputItems : List Assignment → Result Store Reason → List Seen → Type 0
OutputItems outputs (Ok store) seen = items_of seen ≡ map (λ output. GivenOut) outputs
OutputItems outputs (Err reason) seen = Unit {0}

output_items : (here : Context) (instance : Name) (result : Option Value) (outputs : List Assignment) (store : Store) → OutputItems outputs (given_out here instance outputs store) (seen_outputs here instance result outputs store)
output_items here instance result [] store = refl
output_items here instance result (output ∷ outputs) store =
    one (given_one here store instance output) (λ new. output_items here instance result outputs new)
  where
    more : (new : Store) (r : Result Store Reason) (seen : List Seen) → OutputItems outputs r seen → OutputItems (output ∷ outputs) r (seen_at GivenOut result new ∷ seen)
    more new (Ok last) seen e = ap (λ (l : List Item). GivenOut ∷ l) e
    more new (Err reason) seen e = tt

    one : (r : Result Store Reason) → ((new : Store) → OutputItems outputs (given_out here instance outputs new) (seen_outputs here instance result outputs new)) → OutputItems (output ∷ outputs) (elim r as (λ x. Result Store Reason) [ Ok new ↦ given_out here instance outputs new | Err reason ↦ Err reason ]) (seen_store GivenOut result r (seen_outputs here instance result outputs))
    one (Ok new) h = more new (given_out here instance outputs new) (seen_outputs here instance result outputs new) (h new)
    one (Err reason) h = tt

-- the items of a block that is called are those of its trace
called_items : (seen : List Seen) → items_of (map seen_called seen) ≡ map Called (items_of seen)
called_items [] = refl
called_items (s ∷ seen) = ap (λ (l : List Item). Called s.item ∷ l) (called_items seen)

-- what is seen of calls are the items of their traces
abbrev pub CallsItems : Calls → SeenCalls → Type 0
CallsItems calls seen_calls = (name : Name) (names : List Name) (store : Store) → HasItems (calls name names store) (seen_calls name names store)

-- the body of the block that is called
block_items : (here : Context) (calls : SeenCalls) → CallsItems here.calls calls → (result : Option Value) (type : VariableType) (instance : Name) (store : Store) → HasItems (body_outcome here type instance store) (seen_block here calls result type instance store)
block_items here calls h result (Elementary kind) instance store = tt
block_items here calls h result (Standard block) instance store = step (standard_called block here.now store (here.instance ++ instance ∷ []))
  where
    step : (r : Result Store Reason) → HasItems (elim r as (λ x. Outcome) [ Ok new ↦ Done None new (StandardBody ∷ []) | Err reason ↦ Stuck reason ]) (seen_store StandardBody result r (λ new. []))
    step (Ok new) = refl
    step (Err reason) = tt
block_items here calls h result (Block name) instance store = step (here.calls name (here.instance ++ instance ∷ []) store) (calls name (here.instance ++ instance ∷ []) store) (h name (here.instance ++ instance ∷ []) store)
  where
    step : (o : Outcome) (seen : List Seen) → HasItems o seen → HasItems (elim o as (λ x. Outcome) [ Done last new trace ↦ Done None new (map Called trace) | Stuck reason ↦ Stuck reason ]) (map seen_called seen)
    step (Done last new trace) seen e = called_items seen ∙ ap (λ (l : List Item). map Called l) e
    step (Stuck reason) seen e = tt

-- a call that is made
made_items : (here : Context) (line : ℕ) (instance : Name) (arguments : List Assignment) (result : Option Value) (store : Store) (inputs block : List Seen) (o : Outcome) → items_of inputs ≡ map (λ input. Argument) (inputs_of arguments) → HasItems o block → EffectItems (made here instance o line arguments result) (seen_at (At line) result store ∷ inputs ++ (block ++ seen_after o (seen_outputs here instance result (outputs_of arguments))))
made_items here line instance arguments result store inputs block (Stuck reason) e h = tt
made_items here line instance arguments result store inputs block (Done inner new trace) e h = step (given_out here instance (outputs_of arguments) new) (seen_outputs here instance result (outputs_of arguments) new) (output_items here instance result (outputs_of arguments) new)
  where
    step : (r : Result Store Reason) (outputs : List Seen) → OutputItems (outputs_of arguments) r outputs → EffectItems (from_store r (λ last. Goes (Running result) last (call_trace line arguments trace))) (seen_at (At line) result store ∷ inputs ++ (block ++ outputs))
    step (Err reason) outputs f = tt
    step (Ok last) outputs f =
        ap (λ (l : List Item). At line ∷ l)
        (map-append (λ (s : Seen). s.item) inputs (block ++ outputs)
        ∙ (ap (λ (l : List Item). l ++ items_of (block ++ outputs)) e
        ∙ (ap (λ (l : List Item). map (λ input. Argument) (inputs_of arguments) ++ l) (map-append (λ (s : Seen). s.item) block outputs)
        ∙ (ap (λ (l : List Item). map (λ input. Argument) (inputs_of arguments) ++ (l ++ items_of outputs)) h
        ∙ (ap (λ (l : List Item). map (λ input. Argument) (inputs_of arguments) ++ (trace ++ l)) f
        ∙ sym (append_of (map (λ input. Argument) (inputs_of arguments)) trace (map (λ output. GivenOut) (outputs_of arguments))))))))
      where
        append_of : (a b c : List Item) → a ++ b ++ c ≡ a ++ (b ++ c)
        append_of = Rattle.std.proofs.Common.append_assoc

typed_items : (here : Context) (calls : SeenCalls) → CallsItems here.calls calls → (type : VariableType) (line : ℕ) (instance : Name) (arguments : List Assignment) (result : Option Value) (store : Store) → EffectItems (called_type here type line instance arguments result store) (seen_made here calls type line instance arguments result store)
typed_items here calls h type line instance arguments result store =
    step (assigned here (members_of here.scope.before type) instance (inputs_of arguments) store) (seen_inputs here (members_of here.scope.before type) instance result (inputs_of arguments) store)
    (input_items here (members_of here.scope.before type) instance result (inputs_of arguments) store)
  where
    step : (r : Result Store Reason) (inputs : List Seen) → InputItems (inputs_of arguments) r inputs → EffectItems (from_store r (λ new. made here instance (body_outcome here type instance new) line arguments result)) (seen_at (At line) result store ∷ inputs ++ seen_with r (λ new. seen_block here calls result type instance new ++ seen_after (body_outcome here type instance new) (seen_outputs here instance result (outputs_of arguments))))
    step (Err reason) inputs e = tt
    step (Ok new) inputs e = made_items here line instance arguments result store inputs (seen_block here calls result type instance new) (body_outcome here type instance new) e (block_items here calls h result type instance new)

call_items : (here : Context) (calls : SeenCalls) → CallsItems here.calls calls → (line : ℕ) (condition : Condition) (instance : Name) (arguments : List Assignment) (result : Option Value) (store : Store) → EffectItems (step_effect here line (Call condition instance arguments) result store) (seen_step here calls line (Call condition instance arguments) result store)
call_items here calls h line condition instance arguments result store = step (acts condition result)
  where
    by_type : (t : Option VariableType) → EffectItems (elim t as (λ x. Effect) [ Some type ↦ called_type here type line instance arguments result store | None ↦ Fails NoSuchPlace ]) (elim t as (λ x. List Seen) [ Some type ↦ seen_made here calls type line instance arguments result store | None ↦ [] ])
    by_type (Some type) = typed_items here calls h type line instance arguments result store
    by_type None = tt

    step : (r : Result Bool Reason) → EffectItems (chosen r (call_effect here line instance arguments result store) (Goes (Running result) store (At line ∷ []))) (elim r as (λ x. List Seen) [ Ok b ↦ elim b as (λ x. List Seen) [ true ↦ seen_call here calls line instance arguments result store | false ↦ seen_at (At line) result store ∷ [] ] | Err reason ↦ [] ])
    step (Ok true) = by_type (type_of here.scope instance)
    step (Ok false) = refl
    step (Err reason) = tt

-- each step that is executed
step_items : (here : Context) (calls : SeenCalls) → CallsItems here.calls calls → (line : ℕ) (step : Step) (result : Option Value) (store : Store) → EffectItems (step_effect here line step result store) (seen_step here calls line step result store)
step_items here calls h line (Load false operand) result store =
    one_item line (step_effect here line (Load false operand) result store) (one_from_value line (value_of here store operand) (next line store) (λ value. refl))
step_items here calls h line (Load true operand) result store =
    one_item line (step_effect here line (Load true operand) result store) (one_from_value line (value_of here store operand) _ (λ value. one_from_value line (negated value) (next line store) (λ other. refl)))
step_items here calls h line (StoreStep storing target) result store =
    one_item line (step_effect here line (StoreStep storing target) result store) (one_given line result (store_effect here line store storing target) (λ value. one_store here line store storing target value))
step_items here calls h line (Apply operator operand) result store =
    one_item line (step_effect here line (Apply operator operand) result store)
    (one_given line result _ (λ a. one_from_value line (value_of here store (alongside operator a operand)) _ (λ b. one_from_value line (apply operator a b) (next line store) (λ other. refl))))
step_items here calls h line Negate result store =
    one_item line (step_effect here line Negate result store) (one_given line result _ (λ value. one_from_value line (negated value) (next line store) (λ other. refl)))
step_items here calls h line (Jump condition label) result store =
    one_item line (step_effect here line (Jump condition label) result store) (one_chosen line (acts condition result) _ _ refl refl)
step_items here calls h line (Return condition) result store =
    one_item line (step_effect here line (Return condition) result store) (one_chosen line (acts condition result) _ _ refl refl)
step_items here calls h line (Call condition instance arguments) result store = call_items here calls h line condition instance arguments result store

line_items : (here : Context) (calls : SeenCalls) → CallsItems here.calls calls → (line : ℕ) (step : Step) (mode : Mode) (store : Store) → EffectItems (line_effect here line step mode store) (seen_line here calls line step mode store)
line_items here calls h line step (Running result) store = step_items here calls h line step result store
line_items here calls h line step (Seeking label result) store = refl
line_items here calls h line step (Returned result) store = refl

-- a parenthesis
closed_items : (line : ℕ) (operator : Operator) (close : ℕ) (outer : Value) (start : Option Value) (store : Store) (o : Outcome) (inner : List Seen) → HasItems o inner → EffectItems (closed line operator close outer o) (seen_at (At line) start store ∷ inner ++ seen_effect close (closed line operator close outer o))
closed_items line operator close outer start store (Stuck reason) inner e = tt
closed_items line operator close outer start store (Done None new trace) inner e = tt
closed_items line operator close outer start store (Done (Some value) new trace) inner e = step (apply operator outer value)
  where
    step : (r : Result Value Reason) → EffectItems (from_value r (λ result. Goes (Running (Some result)) new (At line ∷ trace ++ At close ∷ []))) (seen_at (At line) start store ∷ inner ++ seen_effect close (from_value r (λ result. Goes (Running (Some result)) new (At line ∷ trace ++ At close ∷ []))))
    step (Ok result) =
        ap (λ (l : List Item). At line ∷ l)
        (map-append (λ (s : Seen). s.item) inner (seen_at (At close) (Some result) new ∷ []) ∙ ap (λ (l : List Item). l ++ At close ∷ []) e)
    step (Err reason) = tt

nested_items : (here : Context) (line : ℕ) (operator : Operator) (operand : Option Term) (close : ℕ) (seen : Mode → Store → List Seen) (inside : Mode → Store → Outcome) → ((mode : Mode) (store : Store) → HasItems (inside mode store) (seen mode store)) → (mode : Mode) (store : Store) → EffectItems (nested_effect here line operator operand close inside mode store) (seen_nested here line operator operand close seen inside mode store)
nested_items here line operator operand close seen inside h (Seeking label result) store = refl
nested_items here line operator operand close seen inside h (Returned result) store = refl
nested_items here line operator operand close seen inside h (Running None) store = tt
nested_items here line operator None close seen inside h (Running (Some outer)) store =
    closed_items line operator close outer None store (inside (Running None) store) (seen (Running None) store) (h (Running None) store)
nested_items here line operator (Some operand) close seen inside h (Running (Some outer)) store = step (value_of here store operand)
  where
    step : (r : Result Value Reason) → EffectItems (closed line operator close outer (elim r as (λ x. Outcome) [ Ok value ↦ inside (Running (Some value)) store | Err reason ↦ Stuck reason ])) (elim r as (λ x. List Seen) [ Ok value ↦ seen_inside line operator close outer seen inside store (Some value) | Err reason ↦ [] ])
    step (Ok value) = closed_items line operator close outer (Some value) store (inside (Running (Some value)) store) (seen (Running (Some value)) store) (h (Running (Some value)) store)
    step (Err reason) = tt

-- the lines left
pub lines_items : (here : Context) (calls : SeenCalls) → CallsItems here.calls calls → (lines : Lines) (mode : Mode) (store : Store) → HasItems (means here lines mode store) (seen_lines here calls lines mode store)
lines_items here calls h End (Running result) store = refl
lines_items here calls h End (Returned result) store = refl
lines_items here calls h End (Seeking label result) store = tt
lines_items here calls h (Alone word rest) mode store = lines_items here calls h rest (arriving (Some word) mode) store
lines_items here calls h (Plain word line step rest) mode store =
    joined_items (line_effect here line step (arriving word mode) store) (seen_line here calls line step (arriving word mode) store) (means here rest) (seen_lines here calls rest)
    (line_items here calls h line step (arriving word mode) store) (λ onward new. lines_items here calls h rest onward new)
lines_items here calls h (Nested word line operator operand inside close rest) mode store =
    joined_items (nested_effect here line operator operand close (means here inside) (arriving word mode) store) (seen_nested here line operator operand close (seen_lines here calls inside) (means here inside) (arriving word mode) store) (means here rest) (seen_lines here calls rest)
    (nested_items here line operator operand close (seen_lines here calls inside) (means here inside) (λ onward new. lines_items here calls h inside onward new) (arriving word mode) store)
    (λ onward new. lines_items here calls h rest onward new)

-- calls of the blocks before
pub calls_items : (before : List ProgramUnit) (now : ℕ) → CallsItems (called before now) (seen_of_calls before now)
calls_items [] now name names store = tt
calls_items (unit ∷ before) now name names store = step (same_name unit.name.name name) (lines_items (context_of before unit names now) (seen_of_calls before now) (calls_items before now) unit.body (Running None) store) (calls_items before now name names store)
  where
    step : (b : Bool) → HasItems (means (context_of before unit names now) unit.body (Running None) store) (seen_lines (context_of before unit names now) (seen_of_calls before now) unit.body (Running None) store) → HasItems (called before now name names store) (seen_of_calls before now name names store) → HasItems (elim b as (λ x. Outcome) [ true ↦ means (context_of before unit names now) unit.body (Running None) store | false ↦ called before now name names store ]) (elim b as (λ x. List Seen) [ true ↦ seen_lines (context_of before unit names now) (seen_of_calls before now) unit.body (Running None) store | false ↦ seen_of_calls before now name names store ])
    step true this that = this
    step false this that = that

reversed_items : (units : List ProgramUnit) (now : ℕ) (store : Store) → HasItems (first_of_reversed units (λ before program. Rattle.wc_model.specs.Language.Meaning.program_means before program now store)) (seen_of_reversed units now store)
reversed_items [] now store = tt
reversed_items (program ∷ before) now store = lines_items (context_of before program [] now) (seen_of_calls before now) (calls_items before now) program.body (Running None) store

pub scan_items : (text : Text) (store : Store) (image : Image) (now : ℕ) → HasItems (Rattle.wc_model.specs.Language.Scans.scan_of text store image now) (seen_of_scan text store image now)
scan_items text store image now = reversed_items (reverse text) now (with_image image store)
