-- What a `Source` represents: the text as a tree, its names in one letter case. (No rule of the language.)
use Rattle.std.specs.Prelude.{List, [], ◌∷◌, map, Option, Some, None, option_map}
use Rattle.wc_model.specs.Language.Names.{Name, name_of}
use Rattle.wc_model.specs.Language.Tree.{Word, Term, Constant, Address, Variable, Field, Assignment, Load, Store, Apply, Negate, Jump, Call, Return, Lines, End, Alone, Plain, Nested, Declaration, ProgramUnit, Text}
use Rattle.wc_model.specs.declared.operand.Operand.{Operand}
use Rattle.wc_model.specs.declared.operand.Operand.TheVariants as operands
use Rattle.wc_model.specs.declared.operand.Word.{Word as Spelled}
use Rattle.wc_model.specs.declared.source.Decl.{Decl}
use Rattle.wc_model.specs.declared.source.Source.{Source}
use Rattle.wc_model.specs.declared.source.Unit.{Unit as CodeUnit}
use Rattle.wc_model.specs.declared.tree.Argument.{Argument}
use Rattle.wc_model.specs.declared.tree.Instr.TheOpen.{Instr-F, Line-F}
use Rattle.wc_model.specs.declared.tree.Line.{Line, fold-Line}

-- a word of the text, in small letters
abbrev pub word_view : Spelled → Word
word_view word = record { line = word.line; name = name_of word.text.now }

abbrev pub name_view : Spelled → Name
name_view word = name_of word.text.now

-- an operand
abbrev pub term_view : Operand → Term
term_view (operands.Literal value) = Constant value
term_view (operands.Address word) = Address (word_view word)
term_view (operands.Name text) = Variable (name_of text.now)
term_view (operands.Field instance field) = Field (name_of instance.now) (name_of field.now)

-- an argument
abbrev pub assignment_view : Argument → Assignment
assignment_view argument = record { direction = argument.direction; formal = name_of argument.name.now; actual = term_view argument.value }

-- lines, each of which precedes the rest
abbrev pub joined : List (Lines → Lines) → Lines
joined [] = End
joined (line ∷ lines) = line (joined lines)

-- an instruction after its label, whose lines inside are seen already
abbrev pub instruction_view : Instr-F (Option Word → Lines → Lines) (Lines → Lines) → Option Word → Lines → Lines
instruction_view (Instr-F.Load negated operand line) label rest = Plain label line (Load negated (term_view operand)) rest
instruction_view (Instr-F.Store storing target line) label rest = Plain label line (Store storing (term_view target)) rest
instruction_view (Instr-F.Apply operator operand line) label rest = Plain label line (Apply operator (term_view operand)) rest
instruction_view (Instr-F.Defer operator operand inside line close) label rest = Nested label line operator (option_map term_view operand) (joined inside.items) close rest
instruction_view (Instr-F.Not line) label rest = Plain label line Negate rest
instruction_view (Instr-F.Jump condition target line) label rest = Plain label line (Jump condition (name_of target.now)) rest
instruction_view (Instr-F.Call condition instance arguments line) label rest = Plain label line (Call condition (name_of instance.now) (map assignment_view arguments.items)) rest
instruction_view (Instr-F.Return condition line) label rest = Plain label line (Return condition) rest

-- a label with no instruction
abbrev pub label_view : Option Word → Lines → Lines
label_view (Some word) rest = Alone word rest
label_view None rest = rest

-- a line, whose instruction is seen already
abbrev pub line_step_view : Line-F (Option Word → Lines → Lines) (Lines → Lines) → Lines → Lines
line_step_view l rest = elim l.instr [ Some instr ↦ instr (option_map word_view l.label) rest | None ↦ label_view (option_map word_view l.label) rest ]

-- a line before the rest
abbrev pub line_view : Line → Lines → Lines
line_view = fold-Line (Option Word → Lines → Lines) (Lines → Lines) instruction_view line_step_view

-- a list of lines
abbrev pub lines_view : List Line → Lines
lines_view lines = joined (map line_view lines)

-- a declaration
abbrev pub declaration_view : Decl → Declaration
declaration_view d = record { section = d.section; names = map word_view d.names.items; type_name = word_view d.type_name; initial = d.initial }

-- a unit
abbrev pub unit_view : CodeUnit → ProgramUnit
unit_view unit = record {
  kind = unit.kind;
  line = unit.line;
  name = word_view unit.name;
  spelled = unit.name.text.now;
  declarations = map declaration_view unit.declarations.items;
  body = lines_view unit.body.items;
}

-- the text that a source represents
abbrev pub text_view : Source → Text
text_view source = map unit_view source.units.items
