-- What completes a line that has started: for each state of the walk on a line, the token lists that go on from there to a shape.
use Rattle.std.specs.Prelude.{◌≡◌, List, [], ◌∷◌, ◌++◌, Option, Some, ◌⊎◌}
use Rattle.wc_laws_grammar.specs.{formal_of, with_actual, LineShape, LabelAlone, Instructs, Opens, StartedLine, OpenCall, OperandOf, OfStep, OfOpening, OfArgument, InList, AtFirst, AtNext, AtAssign, AtValue, AtEnd, LineState, Start, Worded, Labelled, Operated, Jumped, Called, Instanced, Listing, Bracketed, Named, Pointed, Stepped, BracketedWith, Ended, Applies, step_of}
use Rattle.wc_model.specs.Definitions.{sign_of, symbol, identifier, operand, argument, call_list, instruction, opening, Setting, MayOccur, label_in, Language, nothing, empty, ◌then◌, ◌given◌, optional, each, separated, skipping, Mark, OpeningBracket, ClosingBracket, Comma, Colon, Point, LineEnd, is_line_end, Name}
use Rattle.wc_model.specs.Language.Tree.{Word, Term, Constant, Address, Variable, Field, Assignment, Jump, Call}
use Rattle.wc_model.specs.declared.operator.Operator.{Operator}

-- a whole line of this shape
abbrev pub line_of : Setting → LineShape → Language Mark
line_of setting (LabelAlone label) = label_in setting (Some label) then symbol LineEnd
line_of setting (Instructs label line step) = label_in setting label then instruction line step then symbol LineEnd given MayOccur setting step
line_of setting (Opens label line operator operand) = label_in setting label then opening line operator operand

-- what completes an operand after its first name
abbrev pub after_its_name : Name → Term → Language Mark
after_its_name name (Constant value) = nothing
after_its_name name (Address word) = nothing
after_its_name name (Variable other) = empty given (name ≡ other)
after_its_name name (Field instance field) = symbol Point then identifier field given (name ≡ instance)

-- what completes it after the point
abbrev pub after_its_point : Name → Term → Language Mark
after_its_point name (Field instance field) = identifier field given (name ≡ instance)
after_its_point name _ = nothing

-- further arguments
abbrev pub more_arguments : List Assignment → Language Mark
more_arguments arguments = each (λ next. symbol Comma then argument next) arguments

-- the arguments that a list still has from here, the first of them in part
abbrev pub list_rest : InList → List Assignment → Language Mark
list_rest AtFirst arguments = separated (symbol Comma) argument arguments
list_rest AtNext [] = nothing
list_rest AtNext (first ∷ others) = separated (symbol Comma) argument (first ∷ others)
list_rest (AtAssign name) [] = nothing
list_rest (AtAssign name) (first ∷ others) = symbol (sign_of first.direction) then operand first.actual then more_arguments others given (name ≡ first.formal)
list_rest (AtValue formal) [] = nothing
list_rest (AtValue formal) (first ∷ others) = operand first.actual then more_arguments others given (formal ≡ formal_of first)
list_rest AtEnd arguments = more_arguments arguments

-- the end of a call's list and of its line
abbrev pub list_end : Language Mark
list_end = symbol ClosingBracket then symbol LineEnd

-- the shape of a call with these arguments too
abbrev pub call_shape : StartedLine → OpenCall → List Assignment → LineShape
call_shape started call more = Instructs started.label started.line (Call call.condition call.instance (call.arguments ++ more))

-- what completes a line after a part of an operand, if the operand's own rest is this
abbrev pub operand_rest : StartedLine → OperandOf → (Term → Language Mark) → LineShape → Language Mark
operand_rest started (OfStep operating) left line_shape tokens =
    (x : Term) × (line_shape ≡ Instructs started.label started.line (step_of operating x)) × (left x then symbol LineEnd) tokens
operand_rest started (OfOpening operator) left line_shape tokens =
    (x : Term) × (line_shape ≡ Opens started.label started.line operator (Some x)) × (left x then symbol LineEnd) tokens
operand_rest started (OfArgument call input) left line_shape tokens =
    (x : Term) × (more : List Assignment) × (line_shape ≡ call_shape started call (with_actual input x ∷ more))
    × (skipping is_line_end (left x then more_arguments more) then list_end) tokens

-- what completes a line after its label's colon
abbrev pub labelled_rest : Word → LineShape → Language Mark
labelled_rest label (LabelAlone other) = symbol LineEnd given (other ≡ label)
labelled_rest label (Instructs other line step) = instruction line step then symbol LineEnd given (other ≡ Some label)
labelled_rest label (Opens other line operator operand) = opening line operator operand given (other ≡ Some label)

-- what completes a line that has started to this shape
abbrev pub rest_of : LineState → LineShape → Language Mark
rest_of Start line_shape tokens = nothing tokens
rest_of (Worded label) line_shape tokens = (symbol Colon then labelled_rest label line_shape) tokens
rest_of (Labelled label) line_shape tokens = labelled_rest label line_shape tokens
rest_of (Operated started operating) line_shape tokens =
    operand_rest started (OfStep operating) operand line_shape tokens
    ⊎ ((operator : Operator) × (x : Option Term) × (operating ≡ Applies operator) × (line_shape ≡ Opens started.label started.line operator x)
    × (symbol OpeningBracket then optional operand x then symbol LineEnd) tokens)
rest_of (Jumped started condition) line_shape tokens =
    (label : Name) × (line_shape ≡ Instructs started.label started.line (Jump condition label)) × (identifier label then symbol LineEnd) tokens
rest_of (Called started condition) line_shape tokens =
    (instance : Name) × (arguments : List Assignment) × (line_shape ≡ Instructs started.label started.line (Call condition instance arguments))
    × (identifier instance then call_list arguments then symbol LineEnd) tokens
rest_of (Instanced started condition instance) line_shape tokens =
    (arguments : List Assignment) × (line_shape ≡ Instructs started.label started.line (Call condition instance arguments)) × (call_list arguments then symbol LineEnd) tokens
rest_of (Listing started call item) line_shape tokens =
    (more : List Assignment) × (line_shape ≡ call_shape started call more) × (skipping is_line_end (list_rest item more) then list_end) tokens
rest_of (Bracketed started operator) line_shape tokens =
    (x : Option Term) × (line_shape ≡ Opens started.label started.line operator x) × (optional operand x then symbol LineEnd) tokens
rest_of (Named started place name) line_shape tokens = operand_rest started place (after_its_name name) line_shape tokens
rest_of (Pointed started place name) line_shape tokens = operand_rest started place (after_its_point name) line_shape tokens
rest_of (Stepped started step) line_shape tokens = (line_shape ≡ Instructs started.label started.line step) × symbol LineEnd tokens
rest_of (BracketedWith started operator x) line_shape tokens = (line_shape ≡ Opens started.label started.line operator (Some x)) × symbol LineEnd tokens
rest_of (Ended ended) line_shape tokens = (line_shape ≡ ended) × empty tokens
