-- What could come where a text can't go on: what the walk moves on with from its state. (The
-- profile's own.)
use Rattle.std.specs.Prelude.{◌==◌, ℕ, List, [], ◌∷◌, if◌then◌else◌}
use Rattle.wc_laws_grammar.specs.{OperandOf, OfArgument, InList, AtFirst, AtNext, AtAssign, AtValue, AtEnd, LineState, Start, Worded, Labelled, Operated, Jumped, Called, Instanced, Listing, Bracketed, Named, Pointed, InDeclaration, Undeclared, AfterNames, AfterComma, AfterColon, AfterType, AfterAssign, AfterValue, State, Outside, Unnamed, Declaring, AtLine, OnLine, Closed, has_program, OperandOperator, Applies}
use Rattle.wc_model.specs.Text.Positions.{Opening}
use Rattle.wc_diag_texts.specs.declared.expected.Expected.{Expected}
use Rattle.wc_diag_texts.specs.declared.expected.Expected.TheVariants as expected

-- in a section of declarations
abbrev pub allowed_in_declaration : InDeclaration → Expected
allowed_in_declaration Undeclared = expected.NameOrEndVar
allowed_in_declaration (AfterNames names) = expected.CommaOrColon
allowed_in_declaration (AfterComma names) = expected.Name
allowed_in_declaration (AfterColon names) = expected.TypeName
allowed_in_declaration (AfterType names type_name) = expected.AssignOrSemicolon
allowed_in_declaration (AfterAssign names type_name) = expected.Literal
allowed_in_declaration (AfterValue names type_name initial) = expected.Semicolon

-- in the list of a call
abbrev pub allowed_in_list : InList → Expected
allowed_in_list AtFirst = expected.FormalOrClosing
allowed_in_list AtNext = expected.Formal
allowed_in_list (AtAssign name) = expected.AssignOrArrow
allowed_in_list (AtValue formal) = expected.Operand
allowed_in_list AtEnd = expected.CommaOrClosing

-- after an operator that takes an operand
abbrev pub allowed_after_operator : OperandOperator → Expected
allowed_after_operator (Applies operator) = expected.OperandOrOpening
allowed_after_operator _ = expected.Operand

-- after a name in the place of an operand
abbrev pub allowed_after_name : OperandOf → Expected
allowed_after_name (OfArgument call input) = expected.CommaPointOrClosing
allowed_after_name _ = expected.PointOrLineEnd

-- on a line
abbrev pub allowed_on_line : LineState → Expected
allowed_on_line Start = expected.Instruction
allowed_on_line (Worded label) = expected.LabelColon
allowed_on_line (Labelled label) = expected.InstructionOrLineEnd
allowed_on_line (Operated started operating) = allowed_after_operator operating
allowed_on_line (Jumped started condition) = expected.Label
allowed_on_line (Called started condition) = expected.Instance
allowed_on_line (Instanced started condition instance) = expected.OpeningOrLineEnd
allowed_on_line (Listing started call item) = allowed_in_list item
allowed_on_line (Bracketed started operator) = expected.OperandOrLineEnd
allowed_on_line (Named started place name) = allowed_after_name place
allowed_on_line (Pointed started place name) = expected.Field
allowed_on_line _ = expected.LineEnd

-- at the start of a line of a body, in these parentheses
abbrev pub allowed_at_line : List Opening → Expected
allowed_at_line [] = expected.Instruction
allowed_at_line (o ∷ outer) = expected.InstructionOrClosing

-- at a state of the walk
abbrev pub allowed : State → Expected
allowed (Outside units) = if has_program units then expected.Nothing else expected.UnitWord
allowed (Unnamed units kind line) = expected.UnitName
allowed (Declaring units unit section place) = allowed_in_declaration place
allowed (AtLine p) = allowed_at_line p.openings
allowed (OnLine p line) = allowed_on_line line
allowed (Closed p) = expected.LineEnd

-- what is reported with a fault: what could be there if a token is unexpected, else nothing
abbrev pub allowed_with : (number : ℕ) → Expected → Expected
allowed_with number there = if number == 201 then there else expected.Nothing
