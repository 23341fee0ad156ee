-- What outputs are to the pass on declarations.
use Rattle.wc_model.proofs.Common.{◌≡◌, Bool, true, false, not, List, [], ◌∷◌, ◌++◌, map, Option, Some, None, refl, sym, ap, subst, ◌∙◌, inr, list_all-append, both_true, flat_map, list_all}
use Rattle.std.specs.Prelude.{◌==◌, ◌||◌, if◌then◌else◌, is_some}
use Rattle.wc_model.specs.Language.Checks.{Check, Position, asks, first_broken, positions_after}
use Rattle.wc_model.specs.Definitions.{body_name_checks, label_checks, not_reserved, operand_checks, step_checks, term_checks, text_declaration_checks, unit_checks, is_block, variable_at}
use Rattle.wc_model.specs.Language.Tree.{Address, Alone, Apply, Assignment, Call, Constant, End, Field, Jump, Lines, Load, Negate, Nested, Plain, ProgramUnit, Return, Step, Store, Term, Text, Variable, Word, goes_in, inputs_of, outputs_of}
use Rattle.wc_model.specs.declared.operator.Direction.{Direction}
use Rattle.wc_model.specs.declared.operator.Direction.TheVariants.{Into, OutOf}
use Rattle.wc_laws_language.proofs.BodiesBefore.{head_checks, same_head}
use Rattle.wc_laws_language.proofs.Merging.{first_of_merged, first_of_other, merged_then, one_alone, other_alone}
use Rattle.wc_laws_language.proofs.Unchanged.{all_go_in, first_goes_in}
use Rattle.wc_laws_language.specs.{AnOldTextStaysAsItIs, DeclarationsIgnoreDirections, OutputsAddOnlyTheirAddresses, OutputsFailOnlyByTheirAddresses, AreMerged, ListChange, as_input, body_output_checks, body_with, outputs_as_inputs, step_output_checks, step_with, text_output_checks, text_with, unit_with, without_outputs, GivesNothingOut, StepGivesNothingOut, UnitsGiveNothingOut}

-- a change that leaves no output leaves a text that gives nothing out
abbrev LeavesNone : ListChange → Type 0
LeavesNone change = (arguments : List Assignment) → outputs_of (change arguments) ≡ []

step_left : (change : ListChange) (none : LeavesNone change) (step : Step) → StepGivesNothingOut (step_with change step)
step_left change none (Load negated operand) = tt
step_left change none (Store storing target) = tt
step_left change none (Apply operator operand) = tt
step_left change none Negate = tt
step_left change none (Jump condition label) = tt
step_left change none (Call condition instance arguments) = none arguments
step_left change none (Return condition) = tt

body_left : (change : ListChange) (none : LeavesNone change) (body : Lines) → GivesNothingOut (body_with change body)
body_left change none End = tt
body_left change none (Alone label rest) = body_left change none rest
body_left change none (Plain label line step rest) = (step_left change none step, body_left change none rest)
body_left change none (Nested label line operator operand inside close rest) = (body_left change none inside, body_left change none rest)

text_left : (change : ListChange) (none : LeavesNone change) (text : Text) → UnitsGiveNothingOut (text_with change text)
text_left change none [] = tt
text_left change none (unit ∷ text) = (body_left change none unit.body, text_left change none text)

none_of_inputs : LeavesNone (map as_input)
none_of_inputs [] = refl
none_of_inputs (a ∷ arguments) = none_of_inputs arguments

with_first : (b : Bool) (a : Assignment) (rest : List Assignment) → goes_in a ≡ b → outputs_of rest ≡ [] → outputs_of (if b then a ∷ rest else rest) ≡ []
with_first true a rest e h = ap (λ (b : Bool). if not b then a ∷ outputs_of rest else outputs_of rest) e ∙ h
with_first false a rest e h = h

none_left : LeavesNone inputs_of
none_left [] = refl
none_left (a ∷ arguments) = with_first (goes_in a) a (inputs_of arguments) refl (none_left arguments)

-- a unit's body does not matter to the rule on a term
same_term : (unit : ProgramUnit) (body : Lines) (term : Term) → term_checks (record unit { body = body }) term ≡ term_checks unit term
same_term unit body (Address word) = refl
same_term unit body (Constant value) = refl
same_term unit body (Variable name) = refl
same_term unit body (Field instance field) = refl

same_operand : (unit : ProgramUnit) (body : Lines) (operand : Option Term) → operand_checks (record unit { body = body }) operand ≡ operand_checks unit operand
same_operand unit body None = refl
same_operand unit body (Some term) = same_term unit body term

-- the rules on the operands of a call whose outputs are written as inputs
same_operands : (unit : ProgramUnit) (body : Lines) (arguments : List Assignment) →
    flat_map (λ (a : Assignment). term_checks unit a.actual) arguments ≡ flat_map (λ (a : Assignment). term_checks (record unit { body = body }) a.actual) (map as_input arguments)
same_operands unit body [] = refl
same_operands unit body (a ∷ arguments) = λ i. sym (same_term unit body a.actual) i ++ same_operands unit body arguments i

-- of a step, a body, a unit
same_step : (unit : ProgramUnit) (body : Lines) (step : Step) → step_checks unit step ≡ step_checks (record unit { body = body }) (step_with (map as_input) step)
same_step unit body (Load negated operand) = sym (same_term unit body operand)
same_step unit body (Store storing target) = sym (same_term unit body target)
same_step unit body (Apply operator operand) = sym (same_term unit body operand)
same_step unit body Negate = refl
same_step unit body (Jump condition label) = refl
same_step unit body (Call condition instance arguments) = same_operands unit body arguments
same_step unit body (Return condition) = refl

same_body : (unit : ProgramUnit) (whole body : Lines) → body_name_checks unit body ≡ body_name_checks (record unit { body = whole }) (body_with (map as_input) body)
same_body unit whole End = refl
same_body unit whole (Alone label rest) = λ i. not_reserved label ∷ same_body unit whole rest i
same_body unit whole (Plain label line step rest) = λ i. label_checks label ++ same_step unit whole step i ++ same_body unit whole rest i
same_body unit whole (Nested label line operator operand inside close rest) =
    λ i. label_checks label ++ sym (same_operand unit whole operand) i ++ same_body unit whole inside i ++ same_body unit whole rest i

same_unit : (text : Text) (before : List ProgramUnit) (unit : ProgramUnit) →
    unit_checks text before unit ≡ unit_checks (outputs_as_inputs text) (outputs_as_inputs before) (unit_with (map as_input) unit)
same_unit text before unit = λ i. sym (same_head (map as_input) text before unit) i ++ same_body unit (body_with (map as_input) unit.body) unit.body i

same_units : (text : Text) (before units : List ProgramUnit) →
    flat_map (λ (position : Position ProgramUnit). unit_checks text position.before position.item) (positions_after before units)
    ≡ flat_map (λ (position : Position ProgramUnit). unit_checks (outputs_as_inputs text) position.before position.item) (positions_after (outputs_as_inputs before) (outputs_as_inputs units))
same_units text before [] = refl
same_units text before (unit ∷ units) = λ i. same_unit text before unit i ++ same_units text (unit ∷ before) units i

pub ignore_directions : DeclarationsIgnoreDirections
ignore_directions text = (text_left (map as_input) none_of_inputs text, same_units text [] text, ap first_broken (same_units text [] text))

-- the operands of a call, of which the outputs are taken out
other_same : (one other : List Check) → one ≡ other → AreMerged [] one other
other_same one other e = subst (λ (checks : List Check). AreMerged [] checks other) (sym e) (other_alone other)

abbrev operand_rules : ProgramUnit → List Assignment → List Check
operand_rules unit arguments = flat_map (λ (a : Assignment). term_checks unit a.actual) arguments

merged_first : (unit : ProgramUnit) (body : Lines) (b : Bool) (a : Assignment) (arguments : List Assignment)
    → AreMerged (operand_rules unit (outputs_of arguments)) (operand_rules (record unit { body = body }) (inputs_of arguments)) (operand_rules unit arguments)
    → AreMerged (operand_rules unit (if not b then a ∷ outputs_of arguments else outputs_of arguments))
    (operand_rules (record unit { body = body }) (if b then a ∷ inputs_of arguments else inputs_of arguments)) (operand_rules unit (a ∷ arguments))
merged_first unit body true a arguments h =
    merged_then [] (term_checks (record unit { body = body }) a.actual) (term_checks unit a.actual) (operand_rules unit (outputs_of arguments))
    (operand_rules (record unit { body = body }) (inputs_of arguments)) (operand_rules unit arguments)
    (other_same (term_checks (record unit { body = body }) a.actual) (term_checks unit a.actual) (same_term unit body a.actual)) h
merged_first unit body false a arguments h =
    merged_then (term_checks unit a.actual) [] (term_checks unit a.actual) (operand_rules unit (outputs_of arguments))
    (operand_rules (record unit { body = body }) (inputs_of arguments)) (operand_rules unit arguments) (one_alone (term_checks unit a.actual)) h

merged_operands : (unit : ProgramUnit) (body : Lines) (arguments : List Assignment)
    → AreMerged (operand_rules unit (outputs_of arguments)) (operand_rules (record unit { body = body }) (inputs_of arguments)) (operand_rules unit arguments)
merged_operands unit body [] = (refl, refl)
merged_operands unit body (a ∷ arguments) = merged_first unit body (goes_in a) a arguments (merged_operands unit body arguments)

-- a step, a body, a unit, the units of a text
merged_step : (unit : ProgramUnit) (body : Lines) (step : Step) → AreMerged (step_output_checks unit step) (step_checks (record unit { body = body }) (step_with inputs_of step)) (step_checks unit step)
merged_step unit body (Load negated operand) = other_same (term_checks (record unit { body = body }) operand) (term_checks unit operand) (same_term unit body operand)
merged_step unit body (Store storing target) = other_same (term_checks (record unit { body = body }) target) (term_checks unit target) (same_term unit body target)
merged_step unit body (Apply operator operand) = other_same (term_checks (record unit { body = body }) operand) (term_checks unit operand) (same_term unit body operand)
merged_step unit body Negate = (refl, refl)
merged_step unit body (Jump condition label) = (refl, refl)
merged_step unit body (Call condition instance arguments) = merged_operands unit body arguments
merged_step unit body (Return condition) = (refl, refl)

merged_body : (unit : ProgramUnit) (whole body : Lines) → AreMerged (body_output_checks unit body) (body_name_checks (record unit { body = whole }) (body_with inputs_of body)) (body_name_checks unit body)
merged_body unit whole End = (refl, refl)
merged_body unit whole (Alone label rest) = inr (body_name_checks (record unit { body = whole }) (body_with inputs_of rest), refl, merged_body unit whole rest)
merged_body unit whole (Plain label line step rest) =
    let other = record unit { body = whole } in
    merged_then (step_output_checks unit step) (label_checks label ++ step_checks other (step_with inputs_of step)) (label_checks label ++ step_checks unit step) (body_output_checks unit rest)
    (body_name_checks other (body_with inputs_of rest)) (body_name_checks unit rest)
    (merged_then [] (label_checks label) (label_checks label) (step_output_checks unit step) (step_checks other (step_with inputs_of step)) (step_checks unit step) (other_alone (label_checks label)) (merged_step unit whole step))
    (merged_body unit whole rest)
merged_body unit whole (Nested label line operator operand inside close rest) =
    let other = record unit { body = whole } in
    let before = label_checks label ++ operand_checks other operand in
    let after = label_checks label ++ operand_checks unit operand in
    merged_then (body_output_checks unit inside) (before ++ body_name_checks other (body_with inputs_of inside)) (after ++ body_name_checks unit inside) (body_output_checks unit rest)
    (body_name_checks other (body_with inputs_of rest)) (body_name_checks unit rest)
    (merged_then [] before after (body_output_checks unit inside) (body_name_checks other (body_with inputs_of inside)) (body_name_checks unit inside)
    (other_same before after (λ i. label_checks label ++ same_operand unit whole operand i)) (merged_body unit whole inside))
    (merged_body unit whole rest)

merged_unit : (text : Text) (before : List ProgramUnit) (unit : ProgramUnit)
    → AreMerged (body_output_checks unit unit.body) (unit_checks (without_outputs text) (without_outputs before) (unit_with inputs_of unit)) (unit_checks text before unit)
merged_unit text before unit =
    merged_then [] (head_checks (without_outputs text) (without_outputs before) (unit_with inputs_of unit)) (head_checks text before unit) (body_output_checks unit unit.body)
    (body_name_checks (unit_with inputs_of unit) (body_with inputs_of unit.body)) (body_name_checks unit unit.body)
    (other_same (head_checks (without_outputs text) (without_outputs before) (unit_with inputs_of unit)) (head_checks text before unit) (same_head inputs_of text before unit))
    (merged_body unit (body_with inputs_of unit.body) unit.body)

abbrev rules_of : Text → List ProgramUnit → List ProgramUnit → List Check
rules_of text before units = flat_map (λ (position : Position ProgramUnit). unit_checks text position.before position.item) (positions_after before units)

merged_units : (text : Text) (before units : List ProgramUnit) → AreMerged (text_output_checks units) (rules_of (without_outputs text) (without_outputs before) (without_outputs units)) (rules_of text before units)
merged_units text before [] = (refl, refl)
merged_units text before (unit ∷ units) =
    merged_then (body_output_checks unit unit.body) (unit_checks (without_outputs text) (without_outputs before) (unit_with inputs_of unit)) (unit_checks text before unit) (text_output_checks units)
    (rules_of (without_outputs text) (without_outputs (unit ∷ before)) (without_outputs units)) (rules_of text (unit ∷ before) units) (merged_unit text before unit) (merged_units text (unit ∷ before) units)

-- the rules on addresses are 304 and 305
abbrev of_addresses : List Check → Bool
of_addresses checks = list_all (λ (check : Check). check.number == 304 || check.number == 305) checks

of_both : (one other : List Check) → of_addresses one ≡ true → of_addresses other ≡ true → of_addresses (one ++ other) ≡ true
of_both one other e f = list_all-append (λ (check : Check). check.number == 304 || check.number == 305) one other ∙ both_true e f

address_numbers : (block : Bool) (word : Word) → of_addresses ((if block then asks 305 word.line false else asks 304 word.line (is_some (variable_at word.name))) ∷ []) ≡ true
address_numbers true word = refl
address_numbers false word = refl

term_numbers : (unit : ProgramUnit) (term : Term) → of_addresses (term_checks unit term) ≡ true
term_numbers unit (Address word) = address_numbers (is_block unit) word
term_numbers unit (Constant value) = refl
term_numbers unit (Variable name) = refl
term_numbers unit (Field instance field) = refl

operand_numbers : (unit : ProgramUnit) (arguments : List Assignment) → of_addresses (operand_rules unit arguments) ≡ true
operand_numbers unit [] = refl
operand_numbers unit (a ∷ arguments) = of_both (term_checks unit a.actual) (operand_rules unit arguments) (term_numbers unit a.actual) (operand_numbers unit arguments)

step_numbers : (unit : ProgramUnit) (step : Step) → of_addresses (step_output_checks unit step) ≡ true
step_numbers unit (Load negated operand) = refl
step_numbers unit (Store storing target) = refl
step_numbers unit (Apply operator operand) = refl
step_numbers unit Negate = refl
step_numbers unit (Jump condition label) = refl
step_numbers unit (Call condition instance arguments) = operand_numbers unit (outputs_of arguments)
step_numbers unit (Return condition) = refl

body_numbers : (unit : ProgramUnit) (body : Lines) → of_addresses (body_output_checks unit body) ≡ true
body_numbers unit End = refl
body_numbers unit (Alone label rest) = body_numbers unit rest
body_numbers unit (Plain label line step rest) = of_both (step_output_checks unit step) (body_output_checks unit rest) (step_numbers unit step) (body_numbers unit rest)
body_numbers unit (Nested label line operator operand inside close rest) =
    of_both (body_output_checks unit inside) (body_output_checks unit rest) (body_numbers unit inside) (body_numbers unit rest)

text_numbers : (text : Text) → of_addresses (text_output_checks text) ≡ true
text_numbers [] = refl
text_numbers (unit ∷ text) = of_both (body_output_checks unit unit.body) (text_output_checks text) (body_numbers unit unit.body) (text_numbers text)

pub only_addresses : OutputsAddOnlyTheirAddresses
only_addresses text = (text_left inputs_of none_left text, merged_units text [] text, text_numbers text)

-- the first fault
pub fail_only_by_addresses : OutputsFailOnlyByTheirAddresses
fail_only_by_addresses text = (
  first_of_merged (text_output_checks text) (text_declaration_checks (without_outputs text)) (text_declaration_checks text) (merged_units text [] text),
  λ allowed. first_of_other (text_output_checks text) (text_declaration_checks (without_outputs text)) (text_declaration_checks text) (merged_units text [] text) allowed,
)

-- a change that leaves a list that gives no output out leaves a text that gives none out
abbrev Leaves : ListChange → Type 0
Leaves change = (arguments : List Assignment) → outputs_of arguments ≡ [] → change arguments ≡ arguments

old_step : (change : ListChange) (leaves : Leaves change) (step : Step) → StepGivesNothingOut step → step_with change step ≡ step
old_step change leaves (Load negated operand) g = refl
old_step change leaves (Store storing target) g = refl
old_step change leaves (Apply operator operand) g = refl
old_step change leaves Negate g = refl
old_step change leaves (Jump condition label) g = refl
old_step change leaves (Call condition instance arguments) g = ap (λ (list : List Assignment). Call condition instance list) (leaves arguments g)
old_step change leaves (Return condition) g = refl

old_body : (change : ListChange) (leaves : Leaves change) (body : Lines) → GivesNothingOut body → body_with change body ≡ body
old_body change leaves End g = refl
old_body change leaves (Alone label rest) g = λ i. Alone label (old_body change leaves rest g i)
old_body change leaves (Plain label line step rest) g = λ i. Plain label line (old_step change leaves step g.0 i) (old_body change leaves rest g.1 i)
old_body change leaves (Nested label line operator operand inside close rest) g =
    λ i. Nested label line operator operand (old_body change leaves inside g.0 i) close (old_body change leaves rest g.1 i)

old_text : (change : ListChange) (leaves : Leaves change) (text : Text) → UnitsGiveNothingOut text → text_with change text ≡ text
old_text change leaves [] g = refl
old_text change leaves (unit ∷ text) g = λ i. record unit { body = old_body change leaves unit.body g.0 i } ∷ old_text change leaves text g.1 i

-- an input that is written as an input
old_input : (a : Assignment) → goes_in a ≡ true → as_input a ≡ a
old_input a e = ap (λ (way : Direction). record { direction = way; formal = a.formal; actual = a.actual }) (sym (into a.direction e))
  where
    into : (way : Direction) → (elim way as (λ x. Bool) [ Into ↦ true | OutOf ↦ false ]) ≡ true → way ≡ Into
    into Into f = refl
    into OutOf f = cc

old_inputs : Leaves (map as_input)
old_inputs [] e = refl
old_inputs (a ∷ arguments) e =
    let both = first_goes_in (goes_in a) a (outputs_of arguments) e in
    λ i. old_input a both.0 i ∷ old_inputs arguments both.1 i

pub old_text_stays : AnOldTextStaysAsItIs
old_text_stays text g = (old_text inputs_of all_go_in text g, old_text (map as_input) old_inputs text g)
