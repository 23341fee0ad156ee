-- What the code's values represent. (No rule of the language.)
use Rattle.std.specs.Prelude.{◌≡◌, ℕ, Bool, List, [], ◌∷◌, ◌++◌, map, Option, None, codes}
use Rattle.std.specs.Option.{option_map, option_map_or}
use Rattle.wc_model.specs.Definitions.{Variable, BodyLine, PlainLine, NestedLine, is_among, Name, name_of, assignment_view, lines_view, term_view}
use Rattle.wc_model.specs.declared.operand.Word.{Word as Spelled}
use Rattle.wc_model.specs.declared.source.Decl.{Decl}
use Rattle.wc_model.specs.Language.Tree.{Load, Store, Apply, Negate, Jump, Call, Return}
use Rattle.wc_model.specs.declared.tree.Instr.{Instr, out-Instr}
use Rattle.wc_model.specs.declared.tree.Instr.TheOpen.{Instr-F}
use Rattle.wc_model.specs.declared.tree.Line.{Line}
use Rattle.wc_diag_warnings.specs.Events.{Action, Begins, Labels, Reads, Stores, Sets, Calls, Gives, Jumps, Returns, BodyEvent, at}
use Rattle.wc_diag_warnings.specs.Uses.{Used, action_calls, action_gives, action_reads, action_writes}
use Rattle.wc_diag_warnings.specs.Warnings.{WarningAt}
use Rattle.wc_diag_warnings.specs.declared.events.Action.{Action as CodeAction}
use Rattle.wc_diag_warnings.specs.declared.events.Action.TheVariants as actions
use Rattle.wc_diag_warnings.specs.declared.events.Event.{Event}
use Rattle.wc_diag_warnings.specs.declared.used.Uses.{Uses}
use Rattle.wc_diag_warnings.specs.declared.used.Use.{Use}
use Rattle.wc_diag_warnings.specs.declared.used.Use.TheVariants.{Read, Written, Called, Given}
use Rattle.wc_diag_warnings.specs.declared.warning.Warning.{Warning}

abbrev pub action_view : CodeAction → Action
action_view actions.Begin = Begins
action_view (actions.Label name) = Labels (name_of name.now)
action_view (actions.Read operand) = Reads (term_view operand)
action_view (actions.Store target) = Stores (term_view target)
action_view (actions.Set target) = Sets (term_view target)
action_view (actions.Call instance) = Calls (name_of instance.now)
action_view (actions.Give instance input) = Gives (name_of instance.now) (name_of input.now)
action_view (actions.Jump condition label) = Jumps condition (name_of label.now)
action_view (actions.Return condition) = Returns condition

-- the event of a action, if there is one
abbrev pub action_events : ℕ → Option CodeAction → List BodyEvent
action_events line action = option_map_or (λ one. at line (action_view one) ∷ []) action []

abbrev pub event_view : Event → BodyEvent
event_view event = record { line = event.line; action = action_view event.action }

abbrev pub events_view : List Event → List BodyEvent
events_view events = map event_view events

-- these are added to the events
abbrev pub Adds : (old new : List Event) → List BodyEvent → Type 0
Adds old new added = events_view new ≡ events_view old ++ added

abbrev pub warning_view : Warning → WarningAt
warning_view warning = record { number = warning.number; line = warning.line; name = name_of warning.name.now }

abbrev pub warnings_view : List Warning → List WarningAt
warnings_view warnings = map warning_view warnings

-- these are added to the warnings
abbrev pub Warns : (old new : List Warning) → List WarningAt → Type 0
Warns old new added = warnings_view new ≡ warnings_view old ++ added

-- the event uses the name so
abbrev pub does : Use → Action → Name → Bool
does Read action name = action_reads action name
does Written action name = action_writes action name
does Called action name = action_calls action name
does Given action name = action_gives action name (codes "pt")

-- what is done with a name, by the names that are kept
abbrev pub uses_view : Uses → Name → Used
uses_view uses name = record {
  read = is_among uses.read name;
  written = is_among uses.written name;
  called = is_among uses.called name;
  given = is_among uses.given name;
}

-- an instruction as a line of a body that has no label
abbrev pub opened_view : Instr-F Instr Line → BodyLine
opened_view (Instr-F.Load negated operand line) = PlainLine None line (Load negated (term_view operand))
opened_view (Instr-F.Store storing target line) = PlainLine None line (Store storing (term_view target))
opened_view (Instr-F.Apply operator operand line) = PlainLine None line (Apply operator (term_view operand))
opened_view (Instr-F.Defer operator operand inside line close) = NestedLine None line operator (option_map term_view operand) (lines_view inside.items) close
opened_view (Instr-F.Not line) = PlainLine None line Negate
opened_view (Instr-F.Jump condition target line) = PlainLine None line (Jump condition (name_of target.now))
opened_view (Instr-F.Call condition instance arguments line) = PlainLine None line (Call condition (name_of instance.now) (map assignment_view arguments.items))
opened_view (Instr-F.Return condition line) = PlainLine None line (Return condition)

abbrev pub instr_view : Instr → BodyLine
instr_view instr = opened_view (out-Instr instr)

-- a name of a declaration as the variable that it declares
abbrev pub variable_view : Decl → Spelled → Variable
variable_view d word = record { name = name_of word.text.now; line = word.line; section = d.section; type_name = name_of d.type_name.text.now; initial = d.initial }
