-- What an instruction represents as a line of a body. (No rule of the language.)
use Rattle.std.specs.Prelude.{◌≡◌, ℕ, Bool, List, ◌++◌, map, Option, Some, None, option_map, Result, Ok, Err}
use Rattle.wc_model.specs.Definitions.{inside_rules, is_ahead, line_rules, Check, first_broken, BodyLine, AloneLine, PlainLine, NestedLine, kind_after, kind_following, Name, name_of, Scope, assignment_view, lines_view, term_view}
use Rattle.wc_model.specs.Language.Tree.{Word, Step, Load, Store, Apply, Negate, Jump, Call, Return, Lines, Alone, Plain, Nested}
use Rattle.wc_model.specs.declared.fault.Fault.{Fault}
use Rattle.wc_model.specs.declared.fault.Fault.TheVariants.{Refused, Memory}
use Rattle.wc_model.specs.declared.kind.Kind.{Kind}
use Rattle.wc_model.specs.declared.tree.Instr.{Instr, out-Instr}
use Rattle.wc_model.specs.declared.tree.Instr.TheOpen.{Instr-F}
use Rattle.wc_model.specs.declared.tree.Line.{Line}

-- an instruction after its label, opened
abbrev pub opened_line : Instr-F Instr Line → Option Word → BodyLine
opened_line (Instr-F.Load negated operand line) label = PlainLine label line (Load negated (term_view operand))
opened_line (Instr-F.Store storing target line) label = PlainLine label line (Store storing (term_view target))
opened_line (Instr-F.Apply operator operand line) label = PlainLine label line (Apply operator (term_view operand))
opened_line (Instr-F.Defer operator operand inside line close) label = NestedLine label line operator (option_map term_view operand) (lines_view inside.items) close
opened_line (Instr-F.Not line) label = PlainLine label line Negate
opened_line (Instr-F.Jump condition target line) label = PlainLine label line (Jump condition (name_of target.now))
opened_line (Instr-F.Call condition instance arguments line) label = PlainLine label line (Call condition (name_of instance.now) (map assignment_view arguments.items))
opened_line (Instr-F.Return condition line) label = PlainLine label line (Return condition)

abbrev pub instr_line : Instr → Option Word → BodyLine
instr_line instr label = opened_line (out-Instr instr) label

-- a line before others
abbrev pub put : BodyLine → Lines → Lines
put (AloneLine label) rest = Alone label rest
put (PlainLine label line step) rest = Plain label line step rest
put (NestedLine label line operator operand inside close) rest = Nested label line operator operand inside close rest

-- what a jump asks of the lines after it
abbrev pub step_ahead : Step → Bool → List BodyLine → Type 0
step_ahead (Load negated operand) ahead following = Unit {0}
step_ahead (Store storing target) ahead following = Unit {0}
step_ahead (Apply operator operand) ahead following = Unit {0}
step_ahead Negate ahead following = Unit {0}
step_ahead (Jump condition label) ahead following = ahead ≡ is_ahead following label
step_ahead (Call condition instance arguments) ahead following = Unit {0}
step_ahead (Return condition) ahead following = Unit {0}

abbrev pub SaysAhead : BodyLine → Bool → List BodyLine → Type 0
SaysAhead (AloneLine label) ahead following = Unit {0}
SaysAhead (PlainLine label line step) ahead following = step_ahead step ahead following
SaysAhead (NestedLine label line operator operand inside close) ahead following = Unit {0}

-- a line is checked, from the kind before it; if nothing is broken, with the kind after it
abbrev pub GoesOn : Scope → BodyLine → List BodyLine → Option Kind → List Check → Result (Option Kind) Fault → Type 0
GoesOn scope line following kind more (Ok after) = (first_broken (line_rules scope line following kind ++ more) ≡ first_broken more) × (after ≡ kind_after scope line kind)
GoesOn scope line following kind more (Err (Refused number place)) = first_broken (line_rules scope line following kind ++ more) ≡ Some (record { number = number; line = place })
GoesOn scope line following kind more (Err Memory) = Unit {0}

-- a plain line with this step is, whatever its label and the lines after it
abbrev pub StepGoesOn : Scope → ℕ → Step → Option Kind → Result (Option Kind) Fault → Type 0
StepGoesOn scope line step kind result = (label : Option Word) (following : List BodyLine) (more : List Check) → GoesOn scope (PlainLine label line step) following kind more result

-- lines inside a parenthesis are checked as far as the rest
abbrev pub GoesInside : Scope → Lines → Option Kind → Lines → List Check → Result (Option Kind) Fault → Type 0
GoesInside scope lines kind rest more (Ok after) =
    (first_broken (inside_rules scope lines kind ++ more) ≡ first_broken (inside_rules scope rest after ++ more)) × (kind_following scope lines kind ≡ kind_following scope rest after)
GoesInside scope lines kind rest more (Err (Refused number place)) = first_broken (inside_rules scope lines kind ++ more) ≡ Some (record { number = number; line = place })
GoesInside scope lines kind rest more (Err Memory) = Unit {0}

-- what is said of the lines after, if there is a jump
abbrev pub AsksAhead : Option Name → Bool → List BodyLine → Type 0
AsksAhead None ahead following = Unit {0}
AsksAhead (Some label) ahead following = ahead ≡ is_ahead following label
