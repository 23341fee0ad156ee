-- Texts that give no output out are spelled as they were.
use Rattle.wc_model.proofs.Common.{◌≡◌, Bool, true, false, List, [], ◌∷◌, Some, refl, sym, ap, subst, ◌↔◌}
use Rattle.wc_model.specs.Language.Tree.{Alone, Apply, Assignment, Call, End, Jump, Lines, Load, Negate, Nested, Plain, ProgramUnit, Return, Step, Store, Text, goes_in, outputs_of}
use Rattle.wc_model.specs.Definitions.{HasContent, InBody, InParentheses, IsOn, IsOperatorOf, MayOccur, Setting, Spells, argument, call_list, head, identifier, label_in, line_ends, lines, opening, operand, operands_of, sign_of, symbol, unit_of, units, end_word, each, one, skipping, ◌given◌, ◌then◌, ClosingBracket, Comma, IsSymbol, LineEnd, Mark, OpeningBracket, is_line_end}
use Rattle.wc_model.specs.declared.operator.Direction.{Direction}
use Rattle.wc_model.specs.declared.operator.Direction.TheVariants.{Into, OutOf}
use Rattle.wc_laws_language.proofs.Unchanged.{first_goes_in}
use Rattle.wc_laws_language.specs.SpelledBefore.{SpelledBefore, call_list_before, input_before, lines_before, operands_before, unit_before, units_before}
use Rattle.wc_laws_language.specs.TextLaws.{GivesNothingOut, StepGivesNothingOut, UnitsGiveNothingOut}

-- one that goes in
into : (way : Direction) → (elim way as (λ x. Bool) [ Into ↦ true | OutOf ↦ false ]) ≡ true → way ≡ Into
into Into e = refl
into OutOf e = cc

same_argument : (a : Assignment) → goes_in a ≡ true → argument a ≡ input_before a
same_argument a e = ap (λ (way : Direction). identifier a.formal then symbol (sign_of way) then operand a.actual) (into a.direction e)

-- those after the first
same_others : (arguments : List Assignment) → outputs_of arguments ≡ [] → each (λ next. symbol Comma then argument next) arguments ≡ each (λ next. symbol Comma then input_before next) arguments
same_others [] e = refl
same_others (a ∷ arguments) e =
    let both = first_goes_in (goes_in a) a (outputs_of arguments) e in
    λ i. (symbol Comma then same_argument a both.0 i) then same_others arguments both.1 i

-- the list of a call
same_list : (arguments : List Assignment) → outputs_of arguments ≡ [] → call_list arguments ≡ call_list_before arguments
same_list [] e = refl
same_list (a ∷ arguments) e =
    let both = first_goes_in (goes_in a) a (outputs_of arguments) e in
    λ i. symbol OpeningBracket then skipping is_line_end (same_argument a both.0 i then same_others arguments both.1 i) then symbol ClosingBracket

-- an instruction
same_operands : (step : Step) → StepGivesNothingOut step → operands_of step ≡ operands_before step
same_operands (Load negated x) g = refl
same_operands (Store storing x) g = refl
same_operands (Apply operator x) g = refl
same_operands Negate g = refl
same_operands (Jump condition label) g = refl
same_operands (Call condition instance arguments) g = λ i. identifier instance then same_list arguments g i
same_operands (Return condition) g = refl

-- the lines left
same_lines : (setting : Setting) (body : Lines) → GivesNothingOut body → lines setting body ≡ lines_before setting body
same_lines setting End g = refl
same_lines setting (Alone label rest) g = λ i. line_ends then label_in setting (Some label) then symbol LineEnd then same_lines setting rest g i
same_lines setting (Plain label line step rest) g =
    λ i. line_ends then label_in setting label then (one (IsOn line (IsOperatorOf step)) then same_operands step g.0 i) then symbol LineEnd then same_lines setting rest g.1 i
    given MayOccur setting step
same_lines setting (Nested label line operator x inside close rest) g =
    λ i. line_ends then label_in setting label then opening line operator x then same_lines InParentheses inside g.0 i
    then one (IsOn close (IsSymbol ClosingBracket)) then symbol LineEnd then same_lines setting rest g.1 i
    given HasContent x inside

-- units
same_each : (us : List ProgramUnit) → UnitsGiveNothingOut us → each (λ unit. line_ends then unit_of unit) us ≡ each (λ unit. line_ends then unit_before unit) us
same_each [] g = refl
same_each (unit ∷ us) g =
    λ i. (line_ends then (head unit then same_lines InBody unit.body g.0 i then identifier (end_word unit.kind))) then same_each us g.1 i

same_units : (us : List ProgramUnit) → UnitsGiveNothingOut us → units us ≡ units_before us
same_units us g = λ i. same_each us g i then line_ends

-- a text
pub same_spelling : (text : Text) → UnitsGiveNothingOut text → (tokens : List Mark) → Spells tokens text ↔ SpelledBefore tokens text
same_spelling text g tokens = (
  λ h. record { spelled = subst (λ (spelling : List Mark → Type 0). spelling tokens) (same_units text g) h.spelled; order = h.order },
  λ h. record { spelled = subst (λ (spelling : List Mark → Type 0). spelling tokens) (sym (same_units text g)) h.spelled; order = h.order },
)
