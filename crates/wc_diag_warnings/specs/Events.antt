-- What a body does, one event after the other in text order. (No rule of the language.)
use Rattle.std.specs.Prelude.{ℕ, List, [], ◌∷◌, ◌++◌, Option, Some, flat_map}
use Rattle.std.specs.Option.{option_map_or}
use Rattle.wc_model.specs.Definitions.{BodyLine, AloneLine, PlainLine, NestedLine, Name}
use Rattle.wc_model.specs.Language.Tree.{Word, Term, Assignment, Step, Load, Store, Apply, Negate, Jump, Call, Return, Lines, End, Alone, Plain, Nested}
use Rattle.wc_model.specs.declared.operator.Condition.{Condition}
use Rattle.wc_model.specs.declared.operator.Direction.TheVariants.{Into, OutOf}
use Rattle.wc_model.specs.declared.operator.StoreKind.{StoreKind}
use Rattle.wc_model.specs.declared.operator.StoreKind.TheVariants.{Result, Negation, Set, Reset}

-- An instruction begins; a label is there; LD, an operator or an input of a call reads; ST, STN or an output of a call
-- stores; S or R writes if the result is TRUE; an instance is called, or given an input; a jump or a return.
pub data Action : Type 0 where
  Begins : Action
  Labels : (name : Name) → Action
  Reads : (term : Term) → Action
  Stores : (term : Term) → Action
  Sets : (term : Term) → Action
  Calls : (instance : Name) → Action
  Gives : (instance input : Name) → Action
  Jumps : (condition : Condition) (label : Name) → Action
  Returns : (condition : Condition) → Action

-- what is done, and at which line
pub record BodyEvent : Type 0 where
  pub line : ℕ
  pub action : Action

abbrev pub at : ℕ → Action → BodyEvent
at line action = record { line = line; action = action }

abbrev pub label_events : Option Word → List BodyEvent
label_events label = option_map_or (λ word. at word.line (Labels word.name) ∷ []) label []

abbrev pub action_of_store : StoreKind → Term → Action
action_of_store Result target = Stores target
action_of_store Negation target = Stores target
action_of_store Set target = Sets target
action_of_store Reset target = Sets target

-- an item of a call's list: the value is read and given to the input, or the output is stored
abbrev pub argument_events : ℕ → Name → Assignment → List BodyEvent
argument_events line instance a =
    elim a.direction [ Into ↦ at line (Reads a.actual) ∷ at line (Gives instance a.formal) ∷ [] | OutOf ↦ at line (Stores a.actual) ∷ [] ]

abbrev pub call_events : ℕ → Name → List Assignment → List BodyEvent
call_events line instance arguments = at line (Calls instance) ∷ flat_map (argument_events line instance) arguments

abbrev pub step_events : ℕ → Step → List BodyEvent
step_events line (Load negated operand) = at line (Reads operand) ∷ []
step_events line (Store storing target) = at line (action_of_store storing target) ∷ []
step_events line (Apply operator operand) = at line (Reads operand) ∷ []
step_events line Negate = []
step_events line (Jump condition label) = at line (Jumps condition label) ∷ []
step_events line (Call condition instance arguments) = call_events line instance arguments
step_events line (Return condition) = at line (Returns condition) ∷ []

-- the operand of an opening line
abbrev pub opening_events : ℕ → Option Term → List BodyEvent
opening_events line operand = option_map_or (λ term. at line (Reads term) ∷ []) operand []

-- what lines do: each its label, and then its instruction with the lines in its parenthesis
abbrev pub events_of : Lines → List BodyEvent
events_of End = []
events_of (Alone label rest) = label_events (Some label) ++ events_of rest
events_of (Plain label line step rest) = label_events label ++ (at line Begins ∷ step_events line step) ++ events_of rest
events_of (Nested label line operator operand inside close rest) =
    label_events label ++ (at line Begins ∷ opening_events line operand ++ events_of inside) ++ events_of rest

-- the events of an instruction
abbrev pub line_events : BodyLine → List BodyEvent
line_events (AloneLine label) = []
line_events (PlainLine label line step) = at line Begins ∷ step_events line step
line_events (NestedLine label line operator operand inside close) = at line Begins ∷ opening_events line operand ++ events_of inside
