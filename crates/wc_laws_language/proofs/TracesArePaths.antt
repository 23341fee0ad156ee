-- The trace of a meaning is a path: what a run executes, some path through the conditionals executes.
use Rattle.std.proofs.Common.{◌≡◌, ℕ, Bool, true, false, List, [], ◌∷◌, ◌++◌, map, Option, Some, None, Result, Ok, Err, refl, sym, subst, ◌⊎◌, inl, inr}
use Rattle.wc_model.specs.Definitions.{VariableType, Elementary, Standard, Block, same_name, members_of, Outcome, Done, Stuck, Mode, Running, Seeking, Returned, Effect, Goes, Fails, Context, means, at_end, arriving, carries, after, continued, given, from_value, from_store, acts, chosen, stored, set_where, store_effect, next, call_trace, given_out, made, body_outcome, called_type, call_effect, step_effect, line_effect, closed, opened, nested_effect, assigned, value_of, written_to, alongside, called, body_means, program_means, standard_called, Name, apply, negated, Way, Onward, Toward, Back, arriving_way, EndsThere, IsBodyPath, IsCallPath, MayAct, GoesOn, MayStep, MayPass, Joined, IsNestedPath, IsPathFrom, IsBlockPath, IsPath, Reason, type_of, Store, Item, At, StandardBody, Called}
use Rattle.wc_model.specs.Language.Tree.{Word, Term, Assignment, inputs_of, outputs_of, Step, Load, Store as StoreStep, Apply, Negate, Jump, Call, Return, Lines, End, Alone, Plain, Nested, ProgramUnit}
use Rattle.wc_model.specs.declared.operator.Condition.{Condition}
use Rattle.wc_model.specs.declared.operator.Condition.TheVariants.{Always, IfTrue, IfFalse}
use Rattle.wc_model.specs.declared.operator.Operator.{Operator}
use Rattle.wc_model.specs.declared.operator.StoreKind.{StoreKind}
use Rattle.wc_model.specs.declared.operator.StoreKind.TheVariants.{Result as StoreResult, Negation, Set, Reset}
use Rattle.wc_model.specs.declared.value.Value.{Value}
use Rattle.wc_model.specs.declared.value.Value.TheVariants.{Bool as Truth, Dint, Time}

-- the path that a mode represents
abbrev pub way_of : Mode → Way
way_of (Running result) = Onward
way_of (Seeking label result) = Toward label
way_of (Returned result) = Back

-- if an effect goes on, the items are of this kind
abbrev pub EffectIs : (List Item → Way → Type 0) → Effect → Type 0
EffectIs P (Goes mode store items) = P items (way_of mode)
EffectIs P (Fails reason) = Unit {0}

-- if an outcome is done, its trace is one of these
abbrev pub TraceIs : (List Item → Type 0) → Outcome → Type 0
TraceIs P (Done result store trace) = P trace
TraceIs P (Stuck reason) = Unit {0}

-- each step on the path keeps it
pub given_is : (P : List Item → Way → Type 0) (result : Option Value) (go : Value → Effect) → ((value : Value) → EffectIs P (go value)) → EffectIs P (given result go)
given_is P (Some value) go h = h value
given_is P None go h = tt

pub from_value_is : (P : List Item → Way → Type 0) (r : Result Value Reason) (go : Value → Effect) → ((value : Value) → EffectIs P (go value)) → EffectIs P (from_value r go)
from_value_is P (Ok value) go h = h value
from_value_is P (Err reason) go h = tt

pub from_store_is : (P : List Item → Way → Type 0) (r : Result Store Reason) (go : Store → Effect) → ((store : Store) → EffectIs P (go store)) → EffectIs P (from_store r go)
from_store_is P (Ok store) go h = h store
from_store_is P (Err reason) go h = tt

-- one item, and the next line
abbrev pub OneLine : ℕ → List Item → Way → Type 0
OneLine line = GoesOn (At line ∷ []) Onward

pub stored_is : (here : Context) (line : ℕ) (store : Store) (target : Term) (value result : Value) → EffectIs (OneLine line) (stored here line store target value result)
stored_is here line store target value result = from_store_is (OneLine line) (written_to here store target value) (λ new. Goes (Running (Some result)) new (At line ∷ [])) (λ new. (refl, refl))

pub set_is : (here : Context) (line : ℕ) (store : Store) (target : Term) (value : Bool) (result : Value) → EffectIs (OneLine line) (set_where here line store target value result)
set_is here line store target value (Truth true) = stored_is here line store target (Truth value) (Truth true)
set_is here line store target value (Truth false) = (refl, refl)
set_is here line store target value (Dint n) = tt
set_is here line store target value (Time t) = tt

pub store_is : (here : Context) (line : ℕ) (store : Store) (storing : StoreKind) (target : Term) (result : Value) → EffectIs (OneLine line) (store_effect here line store storing target result)
store_is here line store StoreResult target result = stored_is here line store target result result
store_is here line store Negation target result = from_value_is (OneLine line) (negated result) (λ value. stored here line store target value result) (λ value. stored_is here line store target value result)
store_is here line store Set target result = set_is here line store target true result
store_is here line store Reset target result = set_is here line store target false result

-- a conditional does one or the other
pub chosen_is : (condition : Condition) (result : Option Value) (acting passing : Effect) (A B : List Item → Way → Type 0) → EffectIs A acting → EffectIs B passing → EffectIs (λ i n. MayAct condition (A i n) (B i n)) (chosen (acts condition result) acting passing)
chosen_is Always result acting passing A B a b = a
chosen_is IfTrue None acting passing A B a b = tt
chosen_is IfTrue (Some (Truth true)) acting passing A B a b = left acting a
  where
    left : (e : Effect) → EffectIs A e → EffectIs (λ i n. A i n ⊎ B i n) e
    left (Goes mode store items) h = inl h
    left (Fails reason) h = tt
chosen_is IfTrue (Some (Truth false)) acting passing A B a b = right passing b
  where
    right : (e : Effect) → EffectIs B e → EffectIs (λ i n. A i n ⊎ B i n) e
    right (Goes mode store items) h = inr h
    right (Fails reason) h = tt
chosen_is IfTrue (Some (Dint n)) acting passing A B a b = tt
chosen_is IfTrue (Some (Time t)) acting passing A B a b = tt
chosen_is IfFalse None acting passing A B a b = tt
chosen_is IfFalse (Some (Truth false)) acting passing A B a b = left acting a
  where
    left : (e : Effect) → EffectIs A e → EffectIs (λ i n. A i n ⊎ B i n) e
    left (Goes mode store items) h = inl h
    left (Fails reason) h = tt
chosen_is IfFalse (Some (Truth true)) acting passing A B a b = right passing b
  where
    right : (e : Effect) → EffectIs B e → EffectIs (λ i n. A i n ⊎ B i n) e
    right (Goes mode store items) h = inr h
    right (Fails reason) h = tt
chosen_is IfFalse (Some (Dint n)) acting passing A B a b = tt
chosen_is IfFalse (Some (Time t)) acting passing A B a b = tt

-- what calls do is a path of the block
abbrev pub CallsArePaths : (Name → List Item → Type 0) → Context → Type 0
CallsArePaths block_path here = (name : Name) (instance : List Name) (store : Store) → TraceIs (block_path name) (here.calls name instance store)

-- the body of a block
pub body_is : (block_path : Name → List Item → Type 0) (here : Context) → CallsArePaths block_path here → (type : VariableType) (instance : Name) (store : Store) → TraceIs (IsBodyPath block_path (Some type)) (body_outcome here type instance store)
body_is block_path here known (Elementary kind) instance store = tt
body_is block_path here known (Standard block) instance store = go (standard_called block here.now store (here.instance ++ instance ∷ []))
  where
    go : (r : Result Store Reason) → TraceIs (IsBodyPath block_path (Some (Standard block))) (elim r [ Ok new ↦ Done None new (StandardBody ∷ []) | Err reason ↦ Stuck reason ])
    go (Ok new) = refl
    go (Err reason) = tt
body_is block_path here known (Block name) instance store = go (here.calls name (here.instance ++ instance ∷ []) store) (known name (here.instance ++ instance ∷ []) store)
  where
    go : (o : Outcome) → TraceIs (block_path name) o → TraceIs (IsBodyPath block_path (Some (Block name))) (elim o [ Done inner new trace ↦ Done None new (map Called trace) | Stuck reason ↦ Stuck reason ])
    go (Done inner new trace) h = (trace, h, refl)
    go (Stuck reason) h = tt

-- a call that is made
pub made_is : (block_path : Name → List Item → Type 0) (here : Context) (line : ℕ) (instance : Name) (arguments : List Assignment) (result : Option Value) (type : VariableType) → type_of here.scope instance ≡ Some type → (o : Outcome) → TraceIs (IsBodyPath block_path (Some type)) o → EffectIs (λ i n. IsCallPath block_path here.scope line instance arguments i × (n ≡ Onward)) (made here instance o line arguments result)
made_is block_path here line instance arguments result type is (Done inner store trace) h =
    from_store_is (λ i n. IsCallPath block_path here.scope line instance arguments i × (n ≡ Onward)) (given_out here instance (outputs_of arguments) store) (λ new. Goes (Running result) new (call_trace line arguments trace))
    (λ new. ((trace, subst (λ (t : Option VariableType). IsBodyPath block_path t trace) (sym is) h, refl), refl))
made_is block_path here line instance arguments result type is (Stuck reason) h = tt

pub call_is : (block_path : Name → List Item → Type 0) (here : Context) → CallsArePaths block_path here → (line : ℕ) (instance : Name) (arguments : List Assignment) (result : Option Value) (store : Store) → EffectIs (λ i n. IsCallPath block_path here.scope line instance arguments i × (n ≡ Onward)) (call_effect here line instance arguments result store)
call_is block_path here known line instance arguments result store = go (type_of here.scope instance) refl
  where
    go : (t : Option VariableType) → type_of here.scope instance ≡ t → EffectIs (λ i n. IsCallPath block_path here.scope line instance arguments i × (n ≡ Onward)) (elim t [ Some type ↦ called_type here type line instance arguments result store | None ↦ Fails Rattle.wc_model.specs.Language.Reasons.NoSuchPlace ])
    go None e = tt
    go (Some type) e =
        from_store_is (λ i n. IsCallPath block_path here.scope line instance arguments i × (n ≡ Onward)) (assigned here (members_of here.scope.before type) instance (inputs_of arguments) store) (λ new. made here instance (body_outcome here type instance new) line arguments result)
        (λ new. made_is block_path here line instance arguments result type e (body_outcome here type instance new) (body_is block_path here known type instance new))

-- a step that is executed
pub step_is : (block_path : Name → List Item → Type 0) (here : Context) → CallsArePaths block_path here → (line : ℕ) (step : Step) (result : Option Value) (store : Store) → EffectIs (MayStep block_path here.scope line step) (step_effect here line step result store)
step_is block_path here known line (Load false operand) result store = from_value_is (OneLine line) (value_of here store operand) (next line store) (λ value. (refl, refl))
step_is block_path here known line (Load true operand) result store = from_value_is (OneLine line) (value_of here store operand) (λ value. from_value (negated value) (next line store)) (λ value. from_value_is (OneLine line) (negated value) (next line store) (λ v. (refl, refl)))
step_is block_path here known line (StoreStep storing target) result store = given_is (OneLine line) result (store_effect here line store storing target) (λ value. store_is here line store storing target value)
step_is block_path here known line (Apply operator operand) result store =
    given_is (OneLine line) result (λ a. from_value (value_of here store (alongside operator a operand)) (λ b. from_value (apply operator a b) (next line store)))
    (λ a. from_value_is (OneLine line) (value_of here store (alongside operator a operand)) (λ b. from_value (apply operator a b) (next line store)) (λ b. from_value_is (OneLine line) (apply operator a b) (next line store) (λ v. (refl, refl))))
step_is block_path here known line Negate result store = given_is (OneLine line) result (λ value. from_value (negated value) (next line store)) (λ value. from_value_is (OneLine line) (negated value) (next line store) (λ v. (refl, refl)))
step_is block_path here known line (Jump condition label) result store =
    chosen_is condition result (Goes (Seeking label result) store (At line ∷ [])) (Goes (Running result) store (At line ∷ [])) (GoesOn (At line ∷ []) (Toward label)) (OneLine line) (refl, refl) (refl, refl)
step_is block_path here known line (Call condition instance arguments) result store =
    chosen_is condition result (call_effect here line instance arguments result store) (Goes (Running result) store (At line ∷ [])) (λ i n. IsCallPath block_path here.scope line instance arguments i × (n ≡ Onward)) (OneLine line)
    (call_is block_path here known line instance arguments result store) (refl, refl)
step_is block_path here known line (Return condition) result store =
    chosen_is condition result (Goes (Returned result) store (At line ∷ [])) (Goes (Running result) store (At line ∷ [])) (GoesOn (At line ∷ []) Back) (OneLine line) (refl, refl) (refl, refl)

-- a line that is executed or passed over
pub line_is : (block_path : Name → List Item → Type 0) (here : Context) → CallsArePaths block_path here → (line : ℕ) (step : Step) (mode : Mode) (store : Store) → EffectIs (MayPass (MayStep block_path here.scope line step) (way_of mode)) (line_effect here line step mode store)
line_is block_path here known line step (Running result) store = step_is block_path here known line step result store
line_is block_path here known line step (Seeking label result) store = (refl, refl)
line_is block_path here known line step (Returned result) store = (refl, refl)

-- the path on where a label may be
pub arriving_is : (word : Option Word) (mode : Mode) → way_of (arriving word mode) ≡ arriving_way word (way_of mode)
arriving_is word (Running result) = refl
arriving_is word (Returned result) = refl
arriving_is word (Seeking label result) = go (carries word label)
  where
    go : (b : Bool) → way_of (Rattle.std.specs.Prelude.if◌then◌else◌ b (Running result) (Seeking label result)) ≡ elim b [ true ↦ Onward | false ↦ Toward label ]
    go true = refl
    go false = refl

-- this effect, and then that
pub continued_is : (first : List Item → Way → Type 0) (rest : Way → List Item → Type 0) (e : Effect) (go : Mode → Store → Outcome) → EffectIs first e → ((mode : Mode) (store : Store) → TraceIs (rest (way_of mode)) (go mode store)) → TraceIs (Joined first rest) (continued e go)
continued_is first rest (Fails reason) go h r = tt
continued_is first rest (Goes mode store items) go h r = then_do (go mode store) (r mode store)
  where
    then_do : (o : Outcome) → TraceIs (rest (way_of mode)) o → TraceIs (Joined first rest) (after items o)
    then_do (Done result new trace) t = (items, way_of mode, trace, h, t, refl)
    then_do (Stuck reason) t = tt

-- a parenthesis
pub closed_is : (line close : ℕ) (operator : Operator) (outer : Value) (inside : List Item → Type 0) (o : Outcome) → TraceIs inside o → EffectIs (IsNestedPath line close inside) (closed line operator close outer o)
closed_is line close operator outer inside (Stuck reason) h = tt
closed_is line close operator outer inside (Done inner store trace) h =
    given_is (IsNestedPath line close inside) inner (λ value. from_value (apply operator outer value) (λ result. Goes (Running (Some result)) store (At line ∷ trace ++ At close ∷ [])))
    (λ value. from_value_is (IsNestedPath line close inside) (apply operator outer value) (λ result. Goes (Running (Some result)) store (At line ∷ trace ++ At close ∷ [])) (λ result. (trace, h, refl, refl)))

pub opened_is : (here : Context) (operand : Option Term) (store : Store) (inside : Mode → Store → Outcome) (P : List Item → Type 0) → ((result : Option Value) (s : Store) → TraceIs P (inside (Running result) s)) → TraceIs P (opened here operand store inside)
opened_is here None store inside P h = h None store
opened_is here (Some operand) store inside P h = go (value_of here store operand)
  where
    go : (r : Result Value Reason) → TraceIs P (elim r [ Ok value ↦ inside (Running (Some value)) store | Err reason ↦ Stuck reason ])
    go (Ok value) = h (Some value) store
    go (Err reason) = tt

pub nested_is : (here : Context) (line close : ℕ) (operator : Operator) (operand : Option Term) (inside : Mode → Store → Outcome) (P : List Item → Type 0) → ((result : Option Value) (s : Store) → TraceIs P (inside (Running result) s)) → (mode : Mode) (store : Store) → EffectIs (MayPass (IsNestedPath line close P) (way_of mode)) (nested_effect here line operator operand close inside mode store)
nested_is here line close operator operand inside P h (Running result) store = given_is (IsNestedPath line close P) result (λ outer. closed line operator close outer (opened here operand store inside)) (λ outer. closed_is line close operator outer P (opened here operand store inside) (opened_is here operand store inside P h))
nested_is here line close operator operand inside P h (Seeking label result) store = (refl, refl)
nested_is here line close operator operand inside P h (Returned result) store = (refl, refl)

-- the end of a body
pub end_is : (mode : Mode) (store : Store) → TraceIs (EndsThere (way_of mode)) (at_end mode store)
end_is (Running result) store = refl
end_is (Returned result) store = refl
end_is (Seeking label result) store = tt

-- the trace of the lines left is a path through them
pub trace_is_path : (block_path : Name → List Item → Type 0) (here : Context) → CallsArePaths block_path here → (lines : Lines) (mode : Mode) (store : Store) → TraceIs (IsPathFrom block_path here.scope lines (way_of mode)) (means here lines mode store)
trace_is_path block_path here known End mode store = end_is mode store
trace_is_path block_path here known (Alone word rest) mode store =
    subst (λ (way : Way). TraceIs (IsPathFrom block_path here.scope rest way) (means here rest (arriving (Some word) mode) store)) (arriving_is (Some word) mode) (trace_is_path block_path here known rest (arriving (Some word) mode) store)
trace_is_path block_path here known (Plain word line step rest) mode store =
    continued_is (MayPass (MayStep block_path here.scope line step) (arriving_way word (way_of mode))) (IsPathFrom block_path here.scope rest) (line_effect here line step (arriving word mode) store) (means here rest)
    (subst (λ (way : Way). EffectIs (MayPass (MayStep block_path here.scope line step) way) (line_effect here line step (arriving word mode) store)) (arriving_is word mode) (line_is block_path here known line step (arriving word mode) store))
    (trace_is_path block_path here known rest)
trace_is_path block_path here known (Nested word line operator operand inside close rest) mode store =
    continued_is (MayPass (IsNestedPath line close (IsPathFrom block_path here.scope inside Onward)) (arriving_way word (way_of mode))) (IsPathFrom block_path here.scope rest) (nested_effect here line operator operand close (means here inside) (arriving word mode) store) (means here rest)
    (subst (λ (way : Way). EffectIs (MayPass (IsNestedPath line close (IsPathFrom block_path here.scope inside Onward)) way) (nested_effect here line operator operand close (means here inside) (arriving word mode) store)) (arriving_is word mode)
    (nested_is here line close operator operand (means here inside) (IsPathFrom block_path here.scope inside Onward) (λ result s. trace_is_path block_path here known inside (Running result) s) (arriving word mode) store))
    (trace_is_path block_path here known rest)

-- through all depths of calls
pub called_is_path : (before : List ProgramUnit) (now : ℕ) (name : Name) (instance : List Name) (store : Store) → TraceIs (IsBlockPath before name) (called before now name instance store)
called_is_path [] now name instance store = tt
called_is_path (unit ∷ before) now name instance store =
    elim (same_name unit.name.name name) as (λ b. TraceIs (λ path. elim b as (λ x. Type 0) [ true ↦ IsPathFrom (IsBlockPath before) (record { before = before; unit = unit }) unit.body Onward path | false ↦ IsBlockPath before name path ])
    (elim b [ true ↦ body_means (record { before = before; unit = unit }) instance now (called before now) store | false ↦ called before now name instance store ])) [
      | true ↦ trace_is_path (IsBlockPath before) (record { scope = record { before = before; unit = unit }; instance = instance; now = now; calls = called before now }) (called_is_path before now) unit.body (Running None) store
      | false ↦ called_is_path before now name instance store
    ]

-- the trace of a program's meaning is one of its paths
pub program_trace_is_path : (before : List ProgramUnit) (program : ProgramUnit) (now : ℕ) (store : Store) → TraceIs (IsPath (record { before = before; unit = program })) (program_means before program now store)
program_trace_is_path before program now store = trace_is_path (IsBlockPath before) (record { scope = record { before = before; unit = program }; instance = []; now = now; calls = called before now }) (called_is_path before now) program.body (Running None) store
