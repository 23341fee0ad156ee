-- What the lines of a program name, in text order: the literal that is loaded, the target of a store, the instance of a call, and after it
-- the items of its list, the inputs first. (The profile's own.)
use Rattle.std.specs.Prelude.{◌≡◌, ℕ, List, [], ◌∷◌, ◌++◌, map, Option, Some, None, Result, OnOk, IsOkUnless}
use Rattle.std.specs.List.{flat_map}
use Rattle.std.specs.Option.{option_map_or}
use Rattle.wc_model.specs.Definitions.{BodyLine, AloneLine, PlainLine, NestedLine, Name, name_of, kind_of}
use Rattle.wc_model.specs.Language.Tree.{Term, Constant, Address, Variable, Field, Assignment, Step, Load, Store, Call, Lines, End, Alone, Plain, Nested, ProgramUnit, Text}
use Rattle.wc_model.specs.declared.fault.Fault.{Fault}
use Rattle.wc_model.specs.declared.fault.Fault.TheVariants as fault
use Rattle.wc_model.specs.declared.kind.Kind.{Kind}
use Rattle.wc_model.specs.declared.operator.Direction.{Direction}
use Rattle.wc_model.specs.declared.operator.Direction.TheVariants.{Into, OutOf}
use Rattle.wc_view_trace_rows.specs.Notes.{AreWithin, part_of}
use Rattle.wc_view_trace_rows.specs.declared.notes.Note.{Note}
use Rattle.wc_view_trace_rows.specs.declared.notes.Notes.{Notes}

-- what is named: the kind of a literal, or a name, in which letter case is not significant
pub record Named : Type 0 where
  pub kind : Option Kind
  pub name : Name

-- a field after its instance and a point; with no field the name alone
abbrev pub dotted : List ℕ → List ℕ → List ℕ
dotted name [] = name
dotted name (letter ∷ field) = name ++ 46 ∷ letter ∷ field

abbrev pub named_as : Option Kind → Name → Name → Named
named_as kind name field = record { kind = kind; name = dotted name field }

-- an operand
abbrev pub operand_named : Term → Named
operand_named (Constant value) = named_as (Some (kind_of value)) [] []
operand_named (Address word) = named_as None word.name []
operand_named (Variable name) = named_as None name []
operand_named (Field instance field) = named_as None instance field

-- an item of a call's list, if it has that direction: an input of the instance, or where an output is written
abbrev pub passed_named : Direction → Direction → Name → Name → Term → List Named
passed_named Into Into instance formal actual = named_as None instance formal ∷ []
passed_named OutOf OutOf instance formal actual = operand_named actual ∷ []
passed_named direction other instance formal actual = []

abbrev pub item_named : Direction → Name → Assignment → List Named
item_named direction instance a = passed_named direction a.direction instance a.formal a.actual

abbrev pub items_named : Direction → Name → List Assignment → List Named
items_named direction instance arguments = flat_map (item_named direction instance) arguments

abbrev pub call_named : Name → List Assignment → List Named
call_named instance arguments =
    (named_as None instance [] ∷ items_named Into instance arguments) ++ items_named OutOf instance arguments

abbrev pub step_named : Step → List Named
step_named (Load negated operand) = operand_named operand ∷ []
step_named (Store storing target) = operand_named target ∷ []
step_named (Call condition instance arguments) = call_named instance arguments
step_named step = []

-- the operand of a line that opens a parenthesis
abbrev pub opening_named : Option Term → List Named
opening_named operand = option_map_or (λ term. operand_named term ∷ []) operand []

-- lines, each with those in its parenthesis
abbrev pub lines_named : Lines → List Named
lines_named End = []
lines_named (Alone label rest) = lines_named rest
lines_named (Plain label line step rest) = step_named step ++ lines_named rest
lines_named (Nested label line operator operand inside close rest) = (opening_named operand ++ lines_named inside) ++ lines_named rest

abbrev pub line_named : BodyLine → List Named
line_named (AloneLine label) = []
line_named (PlainLine label line step) = step_named step
line_named (NestedLine label line operator operand inside close) = opening_named operand ++ lines_named inside

-- a text, unit by unit
abbrev pub text_named : Text → List Named
text_named text = flat_map (λ (unit : ProgramUnit). lines_named unit.body) text

-- what notes name, in their order
abbrev pub note_named : List ℕ → Note → Named
note_named names note = record { kind = note.kind; name = name_of (part_of names note.start note.end) }

abbrev pub notes_named : Notes → List Named
notes_named notes = map (note_named notes.names.items) notes.notes.items

-- the names of all its notes are there
abbrev pub IsWhole : Notes → Type 0
IsWhole notes = AreWithin notes.notes.items notes.names.items

-- these are noted after what was noted before, or memory for it is refused
abbrev pub Adds : {A : Type 0} → Notes → Notes → Result A Fault → List Named → Type 0
Adds old new result named =
    OnOk result ((notes_named new ≡ notes_named old ++ named) × IsWhole new) × IsOkUnless result fault.Memory
