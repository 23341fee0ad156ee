-- What the reader's states on a line represent.
use Rattle.std.specs.Prelude.{◌≡◌, Bool, Option, Some, None, true, false, map, option_map}
use Rattle.wc_laws_grammar.specs.LineMoves as lines
use Rattle.wc_laws_grammar.specs.Words.{step_of}
use Rattle.wc_lexer.specs.declared.shape.Token.{Token}
use Rattle.wc_model.specs.Language.Tree as tree
use Rattle.wc_model.specs.Definitions.{assignment_view, name_view, term_view, word_view, Setting}
use Rattle.wc_text_lines.specs.Words.{operating_view, symbol_view}
use Rattle.wc_text_lines.specs.declared.line_state.StartedLine.{StartedLine}
use Rattle.wc_text_lines.specs.declared.line_state.Formal.{Formal}
use Rattle.wc_text_lines.specs.declared.line_state.InList.{InList}
use Rattle.wc_text_lines.specs.declared.line_state.InList.TheVariants.{AtFirst, AtNext, AtAssign, AtValue, AtEnd}
use Rattle.wc_text_lines.specs.declared.line_state.InLine.{InLine}
use Rattle.wc_text_lines.specs.declared.line_state.InLine.TheVariants.{Operated, Jumped, Called, Instanced, Listing, Named, Formed}
use Rattle.wc_text_lines.specs.declared.line_state.LineShape.{LineShape}
use Rattle.wc_text_lines.specs.declared.line_state.LineShape.TheVariants.{Instructs, Opens}
use Rattle.wc_text_lines.specs.declared.line_state.LineState.{LineState}
use Rattle.wc_text_lines.specs.declared.line_state.LineState.TheVariants.{Worded, Labelled, LabelAlone, Instructing}
use Rattle.wc_text_lines.specs.declared.line_state.OpenCall.{OpenCall}
use Rattle.wc_text_lines.specs.declared.line_state.OperandOf.{OperandOf}
use Rattle.wc_text_lines.specs.declared.line_state.OperandOf.TheVariants.{OfStep, OfOpening, OfArgument}
use Rattle.wc_text_lines.specs.declared.line_state.Step.{Step}
use Rattle.wc_text_lines.specs.declared.line_state.Step.TheVariants.{Operate, Negate, Jump, Call, Return}

-- an instruction that has started
abbrev pub started_view : StartedLine → lines.StartedLine
started_view started = record { label = option_map word_view started.label; line = started.line }

-- a call whose list has started
abbrev pub listed_view : OpenCall → lines.OpenCall
listed_view call = record { condition = call.condition; instance = name_view call.instance; arguments = map assignment_view call.arguments.items }

-- an instruction
abbrev pub step_view : Step → tree.Step
step_view (Operate operating operand) = step_of (operating_view operating) (term_view operand)
step_view Negate = tree.Negate
step_view (Jump condition label) = tree.Jump condition (name_view label)
step_view (Call call) = tree.Call call.condition (name_view call.instance) (map assignment_view call.arguments.items)
step_view (Return condition) = tree.Return condition

-- the input or output that one of a call's list names
abbrev pub formal_view : Formal → lines.Formal
formal_view formal = record { direction = formal.direction; name = name_view formal.word }

-- whose operand is here
abbrev pub owner_view : OperandOf → lines.OperandOf
owner_view (OfStep operating) = lines.OfStep (operating_view operating)
owner_view (OfOpening operator) = lines.OfOpening operator
owner_view (OfArgument call formal) = lines.OfArgument (listed_view call) (formal_view formal)

-- where a call's list is
abbrev pub item_view : InList → lines.InList
item_view AtFirst = lines.AtFirst
item_view AtNext = lines.AtNext
item_view (AtAssign name) = lines.AtAssign (name_view name)
item_view (AtValue formal) = lines.AtValue (formal_view formal)
item_view AtEnd = lines.AtEnd

-- what a whole line with an instruction is
abbrev pub shape_view : lines.StartedLine → LineShape → lines.LineShape
shape_view started (Instructs step) = lines.Instructs started.label started.line (step_view step)
shape_view started (Opens operator operand) = lines.Opens started.label started.line operator (option_map term_view operand)

-- what may be a whole line, before its end
abbrev pub whole_view : lines.StartedLine → LineShape → lines.LineState
whole_view started (Instructs step) = lines.Stepped started (step_view step)
whole_view started (Opens operator None) = lines.Bracketed started operator
whole_view started (Opens operator (Some operand)) = lines.BracketedWith started operator (term_view operand)

-- how far an instruction has been read that has started
abbrev pub in_line_view : lines.StartedLine → InLine → lines.LineState
in_line_view started (Operated operating) = lines.Operated started (operating_view operating)
in_line_view started (Jumped condition) = lines.Jumped started condition
in_line_view started (Called condition) = lines.Called started condition
in_line_view started (Instanced condition instance) = lines.Instanced started condition (name_view instance)
in_line_view started (Listing call item) = lines.Listing started (listed_view call) (item_view item)
in_line_view started (Named owner name false) = lines.Named started (owner_view owner) (name_view name)
in_line_view started (Named owner name true) = lines.Pointed started (owner_view owner) (name_view name)
in_line_view started (Formed line_shape false) = whole_view started line_shape
in_line_view started (Formed line_shape true) = lines.Ended (shape_view started line_shape)

-- how far a line has been read
abbrev pub line_state_view : LineState → lines.LineState
line_state_view (Worded label) = lines.Worded (word_view label)
line_state_view (Labelled label) = lines.Labelled (word_view label)
line_state_view (LabelAlone label) = lines.Ended (lines.LabelAlone (word_view label))
line_state_view (Instructing started at) = in_line_view (started_view started) at

-- where the token leads on the line of an instruction, with whatever it has started
abbrev pub LeadsTo : InLine → Token → Option InLine → Type 0
LeadsTo state token next = (started : lines.StartedLine) (setting : Setting) (colon : Bool)
    → option_map (in_line_view started) next ≡ lines.line_move setting (in_line_view started state) (symbol_view token) token.line colon
