-- What a call was before outputs could be given out in its list, kept to be compared with, and that a call whose list gives no
-- output out is still that. (No rule of the language.)
use Rattle.std.specs.Prelude.{◌≡◌, ℕ, not, List, [], ◌∷◌, ◌++◌, map, Option, is_some, ◌↔◌}
use Rattle.std.specs.List.{list_any, flat_map}
use Rattle.wc_model.specs.Definitions.{input_named, reading_checks, suits_input, argument_checks, Member, VariableType, members_of, same_name, Context, Effect, Fails, Goes, Outcome, Done, Stuck, Running, assigned, body_outcome, from_store, called_type, Name, IsBodyPath, IsBlockPath, IsCallPath, Scope, type_of, Store, Item, At, Argument, Assignment, Term, outputs_of, identifier, operand, symbol, argument, Language, ◌then◌, Assign, Mark}
use Rattle.wc_model.specs.Language.Checks.{Check, Position, asks, positions_of}
use Rattle.wc_model.specs.declared.value.Value.{Value}
use Rattle.wc_model.specs.declared.operator.Direction.TheVariants.{Into}

-- what a call executed: its line, its arguments, its block's body
abbrev pub trace_before : ℕ → List Assignment → List Item → List Item
trace_before line arguments body = At line ∷ map (λ argument. Argument) arguments ++ body

-- a call that is made; the caller's result is kept
abbrev pub made_before : Outcome → ℕ → List Assignment → Option Value → Effect
made_before (Done inner store trace) line arguments result = Goes (Running result) store (trace_before line arguments trace)
made_before (Stuck reason) line arguments result = Fails reason

-- a call of an instance of this type: the arguments, and then the body
abbrev pub called_before : Context → VariableType → ℕ → Name → List Assignment → Option Value → Store → Effect
called_before here type line instance arguments result store =
    from_store (assigned here (members_of here.scope.before type) instance arguments store) (λ new. made_before (body_outcome here type instance new) line arguments result)

-- the paths of a call that is made
abbrev pub IsCallPathBefore : (Name → List Item → Type 0) → Scope → ℕ → Name → List Assignment → List Item → Type 0
IsCallPathBefore block_path scope line instance arguments items =
    (body : List Item) × IsBodyPath block_path (type_of scope instance) body × (items ≡ trace_before line arguments body)

-- the rules of an argument
abbrev pub argument_checks_before : Scope → ℕ → List Member → Position Assignment → List Check
argument_checks_before scope line members position =
    asks 409 line (is_some (input_named members position.item.formal)) ∷ asks 410 line (not (list_any (λ a. same_name a.formal position.item.formal) position.before)) ∷ reading_checks scope line position.item.actual
    ++ asks 402 line (suits_input scope (input_named members position.item.formal) position.item.actual) ∷ []

-- how an argument was spelled
abbrev pub argument_before : Name → Term → Language Mark
argument_before input value = identifier input then symbol Assign then operand value

-- it does what it did, with the same trace
abbrev pub ACallMeansWhatItDid : Type 0
ACallMeansWhatItDid = (here : Context) (type : VariableType) (line : ℕ) (instance : Name) (arguments : List Assignment) (result : Option Value) (store : Store) →
    outputs_of arguments ≡ [] → called_type here type line instance arguments result store ≡ called_before here type line instance arguments result store

-- it has the paths that it had
abbrev pub ACallHasThePathsItHad : Type 0
ACallHasThePathsItHad = (scope : Scope) (line : ℕ) (instance : Name) (arguments : List Assignment) (items : List Item) →
    outputs_of arguments ≡ [] → IsCallPath (IsBlockPath scope.before) scope line instance arguments items ↔ IsCallPathBefore (IsBlockPath scope.before) scope line instance arguments items

-- its list is checked by the rules by which it was
abbrev pub ACallIsValidatedAsItWas : Type 0
ACallIsValidatedAsItWas = (scope : Scope) (line : ℕ) (members : List Member) (arguments : List Assignment) →
    outputs_of arguments ≡ [] → flat_map (argument_checks scope line members) (positions_of arguments) ≡ flat_map (argument_checks_before scope line members) (positions_of arguments)

-- and an input in it is spelled as it was
abbrev pub AnInputIsSpelledAsItWas : Type 0
AnInputIsSpelledAsItWas = (input : Name) (value : Term) (tokens : List Mark) →
    argument (record { direction = Into; formal = input; actual = value }) tokens ↔ argument_before input value tokens
