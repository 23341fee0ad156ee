-- Token lists of short texts, and the trees that they spell.
use Rattle.std.specs.Prelude.{ℕ, true, false, List, [], ◌∷◌, ◌++◌, codes, Some, None, pos}
use Rattle.wc_model.specs.Language.Tree.{Word, Constant, Address, Variable, Field, Assignment, Load, Store, Apply, Jump, Call, Lines, End, Alone, Plain, Nested, ProgramUnit}
use Rattle.wc_model.specs.Text.Marks.{Mark, Symbol, Identifier, Whole, Duration, Direct, Ampersand, AmpersandN, OpeningBracket, ClosingBracket, Comma, Colon, Semicolon, Point, Assign, Arrow, LineEnd}
use Rattle.wc_model.specs.Definitions.{Language, ◌then◌, empty, end_word, Group, InBody, lines, identifier, line_ends}
use Rattle.wc_model.specs.declared.operator.Condition.TheVariants.{Always, IfTrue}
use Rattle.wc_model.specs.declared.operator.Direction.TheVariants.{Into, OutOf}
use Rattle.wc_model.specs.declared.operator.Operator.TheVariants.{And, Andn, Or}
use Rattle.wc_model.specs.declared.operator.StoreKind.TheVariants.{Result}
use Rattle.wc_model.specs.declared.source.Section.TheVariants.{Own}
use Rattle.wc_model.specs.declared.source.UnitKind.TheVariants.{FunctionBlock, Program}
use Rattle.wc_model.specs.declared.value.Value.TheVariants.{Bool as BoolValue, Dint, Time}

-- a symbol on a line
abbrev pub mark : Symbol → ℕ → Mark
mark symbol line = record { symbol = symbol; line = line }

-- an identifier on a line
abbrev pub ident : List ℕ → ℕ → Mark
ident bytes line = mark (Identifier bytes) line

-- an address on a line
abbrev pub address : List ℕ → ℕ → Mark
address bytes line = mark (Direct bytes) line

-- the end of a line
abbrev pub end_of : ℕ → Mark
end_of line = mark LineEnd line

-- the word of a name on a line
abbrev pub word : List ℕ → ℕ → Word
word name line = record { line = line; name = name }

-- `PROGRAM P`
abbrev pub program_p : List Mark
program_p = ident (codes "PROGRAM") 1 ∷ ident (codes "P") 1 ∷ end_of 1 ∷ []

-- a program P on line 1, with this body
abbrev pub program_of : Lines → ProgramUnit
program_of body = record { kind = Program; line = 1; name = word (codes "p") 1; spelled = codes "P"; declarations = []; body = body }

-- `PROGRAM P / LD %IX0.0 / ST %QX0.0 / END_PROGRAM`
abbrev pub copy_tokens : List Mark
copy_tokens =
    ident (codes "PROGRAM") 1 ∷ ident (codes "P") 1 ∷ end_of 1
    ∷ ident (codes "LD") 2 ∷ address (codes "%IX0.0") 2 ∷ end_of 2
    ∷ ident (codes "ST") 3 ∷ address (codes "%QX0.0") 3 ∷ end_of 3
    ∷ ident (codes "END_PROGRAM") 4 ∷ []

-- its lines
abbrev pub copy_lines : Lines
copy_lines = Plain None 2 (Load false (Address (word (codes "%ix0.0") 2))) (Plain None 3 (Store Result (Address (word (codes "%qx0.0") 3))) End)

-- a body in a program P, whose last word is on this line
abbrev pub program_text : List Mark → ℕ → List Mark
program_text body last_line = program_p ++ body ++ ident (codes "END_PROGRAM") last_line ∷ []

-- `LD %IX0.0 / JMPC done / AND( / LD %IX0.1 / OR %IX0.2 / ) / and( %IX0.3 / ) / done: ST %QX0.0 / last:`, from line 2
abbrev pub jump_tokens : List Mark
jump_tokens =
    ident (codes "LD") 2 ∷ address (codes "%IX0.0") 2 ∷ end_of 2
    ∷ ident (codes "JMPC") 3 ∷ ident (codes "done") 3 ∷ end_of 3
    ∷ ident (codes "AND") 4 ∷ mark OpeningBracket 4 ∷ end_of 4
    ∷ ident (codes "LD") 5 ∷ address (codes "%IX0.1") 5 ∷ end_of 5
    ∷ ident (codes "OR") 6 ∷ address (codes "%IX0.2") 6 ∷ end_of 6
    ∷ mark ClosingBracket 7 ∷ end_of 7
    ∷ ident (codes "and") 8 ∷ mark OpeningBracket 8 ∷ address (codes "%IX0.3") 8 ∷ end_of 8
    ∷ mark ClosingBracket 9 ∷ end_of 9
    ∷ ident (codes "done") 10 ∷ mark Colon 10 ∷ ident (codes "ST") 10 ∷ address (codes "%QX0.0") 10 ∷ end_of 10
    ∷ ident (codes "last") 11 ∷ mark Colon 11 ∷ end_of 11 ∷ []

-- their tree from line 10 on
abbrev pub jump_lines_from_10 : Lines
jump_lines_from_10 = Plain (Some (word (codes "done") 10)) 10 (Store Result (Address (word (codes "%qx0.0") 10))) (Alone (word (codes "last") 11) End)

-- from line 8 on
abbrev pub jump_lines_from_8 : Lines
jump_lines_from_8 = Nested None 8 And (Some (Address (word (codes "%ix0.3") 8))) End 9 jump_lines_from_10

-- from line 4 on
abbrev pub jump_lines_from_4 : Lines
jump_lines_from_4 =
    Nested None 4 And None
    (Plain None 5 (Load false (Address (word (codes "%ix0.1") 5)))
    (Plain None 6 (Apply Or (Address (word (codes "%ix0.2") 6))) End)) 7
    jump_lines_from_8

-- their tree
abbrev pub jump_lines : Lines
jump_lines = Plain None 2 (Load false (Address (word (codes "%ix0.0") 2))) (Plain None 3 (Jump IfTrue (codes "done")) jump_lines_from_4)

-- `VAR a, b : DINT := 5; END_VAR`, with a line end after the comma
abbrev pub declaration_tokens : List Mark
declaration_tokens =
    ident (codes "VAR") 2 ∷ ident (codes "a") 2 ∷ mark Comma 2 ∷ end_of 2
    ∷ ident (codes "b") 3 ∷ mark Colon 3 ∷ ident (codes "DINT") 3 ∷ mark Assign 3 ∷ mark (Whole (pos 5)) 3 ∷ mark Semicolon 3
    ∷ ident (codes "END_VAR") 3 ∷ end_of 3 ∷ []

-- the section that it is
abbrev pub declared_group : Group
declared_group = record {
  section = Own;
  declarations = record {
    section = Own;
    names = word (codes "a") 2 ∷ word (codes "b") 3 ∷ [];
    type_name = word (codes "dint") 3;
    initial = Some (record { value = Dint (pos 5); line = 3 });
  } ∷ [];
}

-- the program with this declaration and no line
abbrev pub declaring_program : ProgramUnit
declaring_program = record (program_of End) { declarations = declared_group.declarations }

-- `CAL t(IN := t.Q, / Q => %QX0.0, PT := T#1s)`
abbrev pub call_tokens : List Mark
call_tokens =
    ident (codes "CAL") 2 ∷ ident (codes "t") 2 ∷ mark OpeningBracket 2
    ∷ ident (codes "IN") 2 ∷ mark Assign 2 ∷ ident (codes "t") 2 ∷ mark Point 2 ∷ ident (codes "Q") 2 ∷ mark Comma 2 ∷ end_of 2
    ∷ ident (codes "Q") 3 ∷ mark Arrow 3 ∷ mark (Direct (codes "%QX0.0")) 3 ∷ mark Comma 3
    ∷ ident (codes "PT") 3 ∷ mark Assign 3 ∷ mark (Duration (pos 1000)) 3 ∷ mark ClosingBracket 3 ∷ end_of 3 ∷ []

-- its arguments
abbrev pub call_arguments : List Assignment
call_arguments =
    record { direction = Into; formal = codes "in"; actual = Field (codes "t") (codes "q") }
    ∷ record { direction = OutOf; formal = codes "q"; actual = Address (record { line = 3; name = codes "%qx0.0" }) }
    ∷ record { direction = Into; formal = codes "pt"; actual = Constant (Time (pos 1000)) } ∷ []

-- its lines
abbrev pub call_lines : Lines
call_lines = Plain None 2 (Call Always (codes "t") call_arguments) End

-- `LD TRUE / &N x / & Nx / & N`
abbrev pub ampersand_tokens : List Mark
ampersand_tokens =
    ident (codes "LD") 2 ∷ ident (codes "TRUE") 2 ∷ end_of 2
    ∷ mark AmpersandN 3 ∷ ident (codes "x") 3 ∷ end_of 3
    ∷ mark Ampersand 4 ∷ ident (codes "Nx") 4 ∷ end_of 4
    ∷ mark Ampersand 5 ∷ ident (codes "N") 5 ∷ end_of 5 ∷ []

-- AND with Nx and with N
abbrev pub ampersand_lines_from_4 : Lines
ampersand_lines_from_4 = Plain None 4 (Apply And (Variable (codes "nx"))) (Plain None 5 (Apply And (Variable (codes "n"))) End)

-- AND with a negated x, with Nx and with N
abbrev pub ampersand_lines : Lines
ampersand_lines = Plain None 2 (Load false (Constant (BoolValue true))) (Plain None 3 (Apply Andn (Variable (codes "x"))) ampersand_lines_from_4)

-- the tokens of a body and of what follows
abbrev pub body_then_end : Lines → Language Mark
body_then_end body = lines InBody body then identifier (end_word Program) then empty then line_ends

-- a function block B on line 1, with no declaration and no line
abbrev pub block_b : ProgramUnit
block_b = record { kind = FunctionBlock; line = 1; name = word (codes "b") 1; spelled = codes "B"; declarations = []; body = End }

-- `FUNCTION_BLOCK B END_FUNCTION_BLOCK`
abbrev pub block_tokens : List Mark
block_tokens = ident (codes "FUNCTION_BLOCK") 1 ∷ ident (codes "B") 1 ∷ ident (codes "END_FUNCTION_BLOCK") 1 ∷ []

-- `CAL t / CAL t()`, with an empty line between them
abbrev pub bare_call_tokens : List Mark
bare_call_tokens =
    ident (codes "CAL") 2 ∷ ident (codes "t") 2 ∷ end_of 2 ∷ end_of 3
    ∷ ident (codes "CAL") 4 ∷ ident (codes "t") 4 ∷ mark OpeningBracket 4 ∷ mark ClosingBracket 4 ∷ end_of 4 ∷ []

-- the second call
abbrev pub bare_call_lines_from_4 : Lines
bare_call_lines_from_4 = Plain None 4 (Call Always (codes "t") []) End

-- two calls without arguments
abbrev pub bare_call_lines : Lines
bare_call_lines = Plain None 2 (Call Always (codes "t") []) bare_call_lines_from_4
