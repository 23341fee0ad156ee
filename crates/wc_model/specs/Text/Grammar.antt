-- The grammar of the Instruction List profile (IEC 61131-3:2003, annex B.1 and 3.2.1, tables 51 and 52): for each part of
-- the tree of a text, the token lists that spell it. Where line ends are skipped is the profile's own.
use Rattle.std.specs.Prelude.{◌≡◌, ◌≢◌, ℕ, Bool, List, [], ◌∷◌, flat_map, Option, Some, None, ◌⊎◌, ⊤}
use Rattle.wc_model.specs.Language.Names.{Name, name_of}
use Rattle.wc_model.specs.Language.Tree.{Word, Term, Constant, Address, Variable, Field, Assignment, Step, Load, Store, Apply, Negate, Jump, Call, Return, Lines, End, Alone, Plain, Nested, Declaration, ProgramUnit, Text}
use Rattle.wc_model.specs.Text.Marks.{Symbol, Identifier, Whole, Duration, Truth, Ampersand, AmpersandN, OpeningBracket, ClosingBracket, Comma, Colon, Semicolon, Point, Assign, Arrow, LineEnd, Mark, is_line_end, IsSymbol, IsNamed, IsWord, IsAddress}
use Rattle.wc_model.specs.Text.Languages.{Language, nothing, empty, one, many, ◌then◌, ◌or◌, ◌given◌, optional, each, separated, skipping, prefix_of}
use Rattle.wc_model.specs.Text.Keywords.{unit_word, end_word, section_word, end_var, truth_word, load_word, store_word, operator_word, not_word, jump_word, call_word, return_word}
use Rattle.wc_model.specs.declared.operator.Direction.{Direction}
use Rattle.wc_model.specs.declared.operator.Direction.TheVariants.{Into, OutOf}
use Rattle.wc_model.specs.declared.operator.Operator.{Operator}
use Rattle.wc_model.specs.declared.operator.Operator.TheVariants.{And, Andn}
use Rattle.wc_model.specs.declared.source.Initial.{Initial}
use Rattle.wc_model.specs.declared.source.Section.{Section}
use Rattle.wc_model.specs.declared.source.UnitKind.TheVariants.{FunctionBlock, Program}
use Rattle.wc_model.specs.declared.value.Value.{Value}
use Rattle.wc_model.specs.declared.value.Value.TheVariants.{Bool as BoolValue, Dint, Time}

-- this symbol
abbrev pub symbol : Symbol → Language Mark
symbol s = one (IsSymbol s)

-- an identifier of this name
abbrev pub identifier : Name → Language Mark
identifier name = one (IsNamed name)

-- any number of line ends
abbrev pub line_ends : Language Mark
line_ends = many (IsSymbol LineEnd)

-- The token is a literal of this value: also TRUE and FALSE.
abbrev pub IsLiteral : Value → Mark → Type 0
IsLiteral (BoolValue value) mark = IsSymbol (Truth value) mark ⊎ IsNamed (truth_word value) mark
IsLiteral (Dint number) mark = IsSymbol (Whole number) mark
IsLiteral (Time milliseconds) mark = IsSymbol (Duration milliseconds) mark

-- Where a value is read or written, TRUE and FALSE are literals and not names.
abbrev pub variable : Name → Language Mark
variable name = identifier name given ((value : Bool) → name ≢ truth_word value)

-- an operand, or the value of an argument: a literal, an address, a name, or a name and a field
abbrev pub operand : Term → Language Mark
operand (Constant value) = one (IsLiteral value)
operand (Address word) = one (IsAddress word)
operand (Variable name) = variable name
operand (Field instance field) = variable instance then symbol Point then identifier field

-- the sign between a formal and an actual parameter
abbrev pub sign_of : Direction → Symbol
sign_of Into = Assign
sign_of OutOf = Arrow

-- `input := value` or `output => target`
abbrev pub argument : Assignment → Language Mark
argument a = identifier a.formal then symbol (sign_of a.direction) then operand a.actual

-- the list of a call, on one line or on several
abbrev pub bracketed : List Assignment → Language Mark
bracketed arguments = symbol OpeningBracket then skipping is_line_end (separated (symbol Comma) argument arguments) then symbol ClosingBracket

-- the arguments of a call; if there are none, the list may be left out
abbrev pub call_list : List Assignment → Language Mark
call_list [] = empty or bracketed []
call_list (first ∷ others) = bracketed (first ∷ others)

-- the token is this operator; `&` is AND, and `&N` is ANDN
abbrev pub IsOperator : Operator → Mark → Type 0
IsOperator And mark = IsNamed (operator_word And) mark ⊎ IsSymbol Ampersand mark
IsOperator Andn mark = IsNamed (operator_word Andn) mark ⊎ IsSymbol AmpersandN mark
IsOperator operator mark = IsNamed (operator_word operator) mark

-- the token is the operator with which the instruction begins
abbrev pub IsOperatorOf : Step → Mark → Type 0
IsOperatorOf (Load negated x) = IsNamed (load_word negated)
IsOperatorOf (Store storing x) = IsNamed (store_word storing)
IsOperatorOf (Apply operator x) = IsOperator operator
IsOperatorOf Negate = IsNamed not_word
IsOperatorOf (Jump condition label) = IsNamed (jump_word condition)
IsOperatorOf (Call condition instance arguments) = IsNamed (call_word condition)
IsOperatorOf (Return condition) = IsNamed (return_word condition)

-- what follows the operator on its line
abbrev pub operands_of : Step → Language Mark
operands_of (Load negated x) = operand x
operands_of (Store storing x) = operand x
operands_of (Apply operator x) = operand x
operands_of Negate = empty
operands_of (Jump condition label) = identifier label
operands_of (Call condition instance arguments) = identifier instance then call_list arguments
operands_of (Return condition) = empty

-- a token on this line
abbrev pub IsOn : ℕ → (Mark → Type 0) → Mark → Type 0
IsOn line IsSort mark = IsSort mark × (mark.line ≡ line)

-- an instruction that opens no parenthesis
abbrev pub instruction : ℕ → Step → Language Mark
instruction line step = one (IsOn line (IsOperatorOf step)) then operands_of step

-- where lines are: in a body, or inside parentheses
pub data Setting : Type 0 where
  InBody InParentheses : Setting

-- jumps, calls and returns
abbrev pub IsTransfer : Step → Type 0
IsTransfer (Jump condition label) = ⊤
IsTransfer (Call condition instance arguments) = ⊤
IsTransfer (Return condition) = ⊤
IsTransfer _ = ⊥

-- inside parentheses there is no jump, no call and no return
abbrev pub MayOccur : Setting → Step → Type 0
MayOccur InBody step = ⊤
MayOccur InParentheses step = ¬ (IsTransfer step)

-- a label and its colon; inside parentheses there is none
abbrev pub label_in : Setting → Option Word → Language Mark
label_in setting None = empty
label_in InBody (Some label) = one (IsWord label) then symbol Colon
label_in InParentheses (Some label) = nothing

-- an operator and its bracket
abbrev pub bracket : ℕ → Operator → Language Mark
bracket line operator = one (IsOn line (IsOperator operator)) then symbol OpeningBracket

-- the line that opens a parenthesis, in the short form with an operand
abbrev pub opening : ℕ → Operator → Option Term → Language Mark
opening line operator x = bracket line operator then optional operand x then symbol LineEnd

-- parentheses hold something: an operand on the opening line, or an instruction
abbrev pub HasContent : Option Term → Lines → Type 0
HasContent None End = ⊥
HasContent _ _ = ⊤

-- The lines of a body, or those inside parentheses. Line ends alone are not lines.
abbrev pub lines : Setting → Lines → Language Mark
lines setting End = line_ends
lines setting (Alone label rest) = line_ends then label_in setting (Some label) then symbol LineEnd then lines setting rest
lines setting (Plain label line step rest) =
    line_ends then label_in setting label then instruction line step then symbol LineEnd then lines setting rest
    given MayOccur setting step
lines setting (Nested label line operator x inside close rest) =
    line_ends then label_in setting label then opening line operator x then lines InParentheses inside
    then one (IsOn close (IsSymbol ClosingBracket)) then symbol LineEnd then lines setting rest
    given HasContent x inside

-- the names of a declaration; END_VAR in the place of the first ends the section
abbrev pub declared_names : List Word → Language Mark
declared_names [] = nothing
declared_names (first ∷ others) = separated (symbol Comma) (λ word. one (IsWord word)) (first ∷ others) given (first.name ≢ end_var)

-- a value in a declaration
abbrev pub initial_value : Initial → Language Mark
initial_value initial = symbol Assign then one (IsOn initial.line (IsLiteral initial.value))

-- `a, b : type := value;`
abbrev pub declaration : Section → Declaration → Language Mark
declaration section d =
    declared_names d.names then symbol Colon then one (IsWord d.type_name) then optional initial_value d.initial then symbol Semicolon
    given (d.section ≡ section)

-- the declarations from a section's first word to its END_VAR
pub record Group : Type 0 where
  pub section : Section
  pub declarations : List Declaration

-- a section, whose line ends are skipped
abbrev pub section_of : Group → Language Mark
section_of group =
    identifier (section_word group.section) then skipping is_line_end (each (declaration group.section) group.declarations) then identifier end_var

-- sections that make these declarations
abbrev pub sections : List Declaration → Language Mark
sections declarations tokens =
    (groups : List Group) × (declarations ≡ flat_map (λ group. group.declarations) groups) × each (λ group. line_ends then section_of group) groups tokens

-- the token is the unit's name, as it is written
abbrev pub IsNameOf : ProgramUnit → Mark → Type 0
IsNameOf unit mark = IsSymbol (Identifier unit.spelled) mark × (unit.name.name ≡ name_of unit.spelled) × (mark.line ≡ unit.name.line)

-- what precedes a unit's body
abbrev pub head : ProgramUnit → Language Mark
head unit = one (IsOn unit.line (IsNamed (unit_word unit.kind))) then one (IsNameOf unit) then sections unit.declarations

-- a program organisation unit
abbrev pub unit_of : ProgramUnit → Language Mark
unit_of unit = head unit then lines InBody unit.body then identifier (end_word unit.kind)

-- whole units, with line ends before, between and after them
abbrev pub units : List ProgramUnit → Language Mark
units us = each (λ unit. line_ends then unit_of unit) us then line_ends

-- function blocks, and then one program
abbrev pub IsProgramLast : Text → Type 0
IsProgramLast [] = ⊥
IsProgramLast (last ∷ []) = last.kind ≡ Program
IsProgramLast (first ∷ next ∷ more) = (first.kind ≡ FunctionBlock) × IsProgramLast (next ∷ more)

-- the tokens spell the text
pub record Spells (tokens : List Mark) (text : Text) : Type 0 where
  pub spelled : units text tokens
  pub order : IsProgramLast text

-- some further tokens complete these to a text, limits apart
abbrev pub IsPrefix : List Mark → Type 0
IsPrefix = prefix_of (λ tokens. (text : Text) × Spells tokens text)
