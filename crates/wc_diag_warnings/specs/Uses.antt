-- Which events use a name or a directly represented variable. (No rule of the language.)
use Rattle.std.specs.Prelude.{ℕ, ◌+◌, nat_eq, Bool, true, false, List, map, filter, Option, ◌&&◌, codes}
use Rattle.std.specs.Option.{option_map_or}
use Rattle.std.specs.List.{list_any}
use Rattle.wc_model.specs.Definitions.{DirectVariable, InputBit, StatusBit, Weight, OutputBit, OutputWord, direct_variables, is_output, variable_at, same_name, Name}
use Rattle.wc_model.specs.Language.Tree.{Term, Address, Variable, Field}
use Rattle.wc_diag_warnings.specs.Events.{Action, Reads, Stores, BodyEvent, Sets, Calls, Gives}

-- the place of a variable in the order of all
abbrev pub number_of : DirectVariable → ℕ
number_of (InputBit bit) = bit
number_of (StatusBit bit) = 16 + bit
number_of (Weight number) = 22 + number
number_of (OutputBit bit) = 25 + bit
number_of (OutputWord number) = 41 + number

-- a weight; the status bit that says that there is an indication
abbrev pub is_weight : DirectVariable → Bool
is_weight (Weight number) = true
is_weight variable = false

abbrev pub is_valid_bit : DirectVariable → Bool
is_valid_bit (StatusBit bit) = nat_eq bit 5
is_valid_bit variable = false

-- a variable that there is, and that passes a test
abbrev pub is_such : (DirectVariable → Bool) → Option DirectVariable → Bool
is_such test variable = option_map_or test variable false

-- a term is a directly represented variable that passes a test
abbrev pub is_direct : (DirectVariable → Bool) → Term → Bool
is_direct test (Address word) = is_such test (variable_at word.name)
is_direct test term = false

abbrev pub action_stores : (DirectVariable → Bool) → Action → Bool
action_stores test (Stores term) = is_direct test term
action_stores test action = false

abbrev pub action_asks : (DirectVariable → Bool) → Action → Bool
action_asks test (Reads term) = is_direct test term
action_asks test action = false

-- the event stores the variable of that number; it reads a weight; it reads `%IX1.5`
abbrev pub stores : ℕ → BodyEvent → Bool
stores number e = action_stores (λ variable. nat_eq (number_of variable) number) e.action

abbrev pub reads_weight : BodyEvent → Bool
reads_weight e = action_asks is_weight e.action

abbrev pub reads_valid : BodyEvent → Bool
reads_valid e = action_asks is_valid_bit e.action

-- the numbers of the outputs
abbrev pub outputs : List ℕ
outputs = map number_of (filter is_output direct_variables)

-- a term is the variable of that name
abbrev pub is_variable : Term → Name → Bool
is_variable (Variable name) other = same_name name other
is_variable term other = false

abbrev pub action_reads : Action → Name → Bool
action_reads (Reads term) name = is_variable term name
action_reads action name = false

abbrev pub action_writes : Action → Name → Bool
action_writes (Stores term) name = is_variable term name
action_writes (Sets term) name = is_variable term name
action_writes action name = false

abbrev pub action_calls : Action → Name → Bool
action_calls (Calls instance) name = same_name instance name
action_calls action name = false

-- an input is given by a call's list, or stored as a field
abbrev pub action_gives : Action → Name → Name → Bool
action_gives (Gives instance given) name input = same_name instance name && same_name given input
action_gives (Stores (Field instance field)) name input = same_name instance name && same_name field input
action_gives action name input = false

-- some event reads or writes the variable, calls the instance, gives it that input
abbrev pub is_read : List BodyEvent → Name → Bool
is_read events name = list_any (λ e. action_reads e.action name) events

abbrev pub is_written : List BodyEvent → Name → Bool
is_written events name = list_any (λ e. action_writes e.action name) events

abbrev pub is_called : List BodyEvent → Name → Bool
is_called events name = list_any (λ e. action_calls e.action name) events

abbrev pub is_given : List BodyEvent → Name → Name → Bool
is_given events name input = list_any (λ e. action_gives e.action name input) events

-- it is that name, if there is one
abbrev pub is_this : Option Name → Name → Bool
is_this word name = option_map_or (λ this. same_name this name) word false

-- what is done with a name
pub record Used : Type 0 where
  pub read : Bool
  pub written : Bool
  pub called : Bool
  pub given : Bool

-- what events do with a name; what a timer is given is its PT
abbrev pub used_in : List BodyEvent → Name → Used
used_in events name = record {
  read = is_read events name;
  written = is_written events name;
  called = is_called events name;
  given = is_given events name (codes "pt");
}
