-- What outputs of a call are to the pass on declarations, whose refusals are 301 to 308: operands whose addresses it checks, as
-- those of inputs, and nothing else. The first three laws are of any text, with any outputs. (No rule of the language.)
use Rattle.std.specs.Prelude.{◌≡◌, List, [], ◌∷◌, ◌++◌, map, ◌⊎◌, ℕ, None, codes, ◌==◌, true, ◌||◌}
use Rattle.std.specs.List.{flat_map, list_all}
use Rattle.wc_model.specs.Definitions.{Check, first_broken, term_checks, text_declaration_checks, Name, declaration_fault}
use Rattle.wc_model.specs.Language.Tree.{Alone, Apply, Assignment, Call, End, Jump, Lines, Load, Negate, Nested, Plain, ProgramUnit, Return, Step, Store, Text, inputs_of, outputs_of, Address, Word}
use Rattle.wc_model.specs.declared.operator.Direction.TheVariants.{Into, OutOf}
use Rattle.wc_model.specs.declared.operator.Condition.TheVariants.{Always}
use Rattle.wc_model.specs.declared.source.Section.TheVariants.{Own}
use Rattle.wc_model.specs.declared.source.UnitKind.TheVariants.{Program}
use Rattle.wc_laws_language.specs.TextLaws.{UnitsGiveNothingOut}

-- a change of the lists of calls
abbrev pub ListChange : Type 0
ListChange = List Assignment → List Assignment

-- a step, a body, a unit and a text with the list of each call changed, and all else as it is
abbrev pub step_with : ListChange → Step → Step
step_with change (Load negated operand) = Load negated operand
step_with change (Store storing target) = Store storing target
step_with change (Apply operator operand) = Apply operator operand
step_with change Negate = Negate
step_with change (Jump condition label) = Jump condition label
step_with change (Call condition instance arguments) = Call condition instance (change arguments)
step_with change (Return condition) = Return condition

abbrev pub body_with : ListChange → Lines → Lines
body_with change End = End
body_with change (Alone label rest) = Alone label (body_with change rest)
body_with change (Plain label line step rest) = Plain label line (step_with change step) (body_with change rest)
body_with change (Nested label line operator operand inside close rest) = Nested label line operator operand (body_with change inside) close (body_with change rest)

abbrev pub unit_with : ListChange → ProgramUnit → ProgramUnit
unit_with change unit = record unit { body = body_with change unit.body }

abbrev pub text_with : ListChange → Text → Text
text_with change text = map (unit_with change) text

-- the text with every output taken out of every call
abbrev pub without_outputs : Text → Text
without_outputs text = text_with inputs_of text

-- the text with every output written as an input: `:=` in place of `=>`, at the same place of the list
abbrev pub as_input : Assignment → Assignment
as_input assignment = record { direction = Into; formal = assignment.formal; actual = assignment.actual }

abbrev pub outputs_as_inputs : Text → Text
outputs_as_inputs text = text_with (map as_input) text

-- the rules, 304 or 305, that the pass on declarations asks of the addresses to which the outputs of a step, a body and a text
-- go, in text order
abbrev pub step_output_checks : ProgramUnit → Step → List Check
step_output_checks unit (Load negated operand) = []
step_output_checks unit (Store storing target) = []
step_output_checks unit (Apply operator operand) = []
step_output_checks unit Negate = []
step_output_checks unit (Jump condition label) = []
step_output_checks unit (Call condition instance arguments) = flat_map (λ output. term_checks unit output.actual) (outputs_of arguments)
step_output_checks unit (Return condition) = []

abbrev pub body_output_checks : ProgramUnit → Lines → List Check
body_output_checks unit End = []
body_output_checks unit (Alone label rest) = body_output_checks unit rest
body_output_checks unit (Plain label line step rest) = step_output_checks unit step ++ body_output_checks unit rest
body_output_checks unit (Nested label line operator operand inside close rest) = body_output_checks unit inside ++ body_output_checks unit rest

abbrev pub text_output_checks : Text → List Check
text_output_checks text = flat_map (λ unit. body_output_checks unit unit.body) text

-- two lists merged into one: each item of it is the next of the one or of the other, and each list is taken whole, in its order
abbrev pub AreMerged : List Check → List Check → List Check → Type 0
AreMerged one other [] = (one ≡ []) × (other ≡ [])
AreMerged one other (check ∷ merged) =
    ((rest : List Check) × (one ≡ check ∷ rest) × AreMerged rest other merged) ⊎ ((rest : List Check) × (other ≡ check ∷ rest) × AreMerged one rest merged)

-- a name at a line
abbrev pub word : ℕ → Name → Word
word line name = record { line = line; name = name }

-- CU := %IX0.0, Q => %QX9.0
abbrev pub counted : Assignment
counted = record { direction = Into; formal = codes "cu"; actual = Address (word 3 (codes "%ix0.0")) }

abbrev pub given_nowhere : Assignment
given_nowhere = record { direction = OutOf; formal = codes "q"; actual = Address (word 3 (codes "%qx9.0")) }

-- PROGRAM P / VAR c : CTU; END_VAR / CAL c(CU := %IX0.0, Q => %QX9.0) / END_PROGRAM
abbrev pub gives_nowhere : Text
gives_nowhere =
    record {
      kind = Program;
      line = 1;
      name = word 1 (codes "p");
      spelled = codes "P";
      declarations = record { section = Own; names = word 2 (codes "c") ∷ []; type_name = word 2 (codes "ctu"); initial = None } ∷ [];
      body = Plain None 3 (Call Always (codes "c") (counted ∷ given_nowhere ∷ [])) End;
    }
    ∷ []

-- The pass asks of a text the rules, at the same lines and in the same order, that it asks of the text in which every output is
-- written as an input; so it finds the same first fault. That text gives no output out.
abbrev pub DeclarationsIgnoreDirections : Type 0
DeclarationsIgnoreDirections = (text : Text) →
    UnitsGiveNothingOut (outputs_as_inputs text) × (text_declaration_checks text ≡ text_declaration_checks (outputs_as_inputs text)) × (declaration_fault text ≡ declaration_fault (outputs_as_inputs text))

-- The rules that the pass asks of a text are those of the text without its outputs, in the same order, with those on the
-- addresses to which outputs go among them, and no others; each of those is 304 or 305. The text without its outputs gives none
-- out.
abbrev pub OutputsAddOnlyTheirAddresses : Type 0
OutputsAddOnlyTheirAddresses = (text : Text) →
    UnitsGiveNothingOut (without_outputs text) × AreMerged (text_output_checks text) (text_declaration_checks (without_outputs text)) (text_declaration_checks text)
    × (list_all (λ check. check.number == 304 || check.number == 305) (text_output_checks text) ≡ true)

-- So the first fault of the pass is that of the text without its outputs, or else the first that the addresses of outputs bring;
-- and it is the former if each of these addresses is allowed where it is.
abbrev pub OutputsFailOnlyByTheirAddresses : Type 0
OutputsFailOnlyByTheirAddresses = (text : Text) →
    ((declaration_fault text ≡ declaration_fault (without_outputs text)) ⊎ (declaration_fault text ≡ first_broken (text_output_checks text)))
    × (list_all (λ check. check.holds) (text_output_checks text) ≡ true → declaration_fault text ≡ declaration_fault (without_outputs text))

-- The two changes of a text by which these laws speak do nothing to a text that gives no output out.
abbrev pub AnOldTextStaysAsItIs : Type 0
AnOldTextStaysAsItIs = (text : Text) → UnitsGiveNothingOut text → (without_outputs text ≡ text) × (outputs_as_inputs text ≡ text)
