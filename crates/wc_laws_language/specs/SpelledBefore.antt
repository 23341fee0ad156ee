-- How texts were spelled before a call's list could give outputs out, kept to be compared with: an argument is the one of
-- `Before`; all around it is as it is. (No rule of the language.)
use Rattle.std.specs.Prelude.{ℕ, List, [], ◌∷◌, Some}
use Rattle.wc_model.specs.Language.Tree.{Alone, Apply, Assignment, Call, End, Jump, Lines, Load, Negate, Nested, Plain, ProgramUnit, Return, Step, Store, Text}
use Rattle.wc_model.specs.Definitions.{HasContent, InBody, InParentheses, IsOn, IsOperatorOf, IsProgramLast, MayOccur, Setting, head, identifier, label_in, line_ends, opening, operands_of, symbol, end_word, Language, each, empty, one, separated, skipping, ◌given◌, ◌or◌, ◌then◌, ClosingBracket, Comma, IsSymbol, LineEnd, Mark, OpeningBracket, is_line_end}
use Rattle.wc_laws_language.specs.CallLaws.{argument_before}

-- the list of a call, what follows an operator, an instruction, the lines left, a unit, units, a text
abbrev pub input_before : Assignment → Language Mark
input_before a = argument_before a.formal a.actual

abbrev pub bracketed_before : List Assignment → Language Mark
bracketed_before arguments = symbol OpeningBracket then skipping is_line_end (separated (symbol Comma) input_before arguments) then symbol ClosingBracket

abbrev pub call_list_before : List Assignment → Language Mark
call_list_before [] = empty or bracketed_before []
call_list_before (first ∷ others) = bracketed_before (first ∷ others)

abbrev pub operands_before : Step → Language Mark
operands_before (Load negated x) = operands_of (Load negated x)
operands_before (Store storing x) = operands_of (Store storing x)
operands_before (Apply operator x) = operands_of (Apply operator x)
operands_before Negate = operands_of Negate
operands_before (Jump condition label) = operands_of (Jump condition label)
operands_before (Call condition instance arguments) = identifier instance then call_list_before arguments
operands_before (Return condition) = operands_of (Return condition)

abbrev pub instruction_before : ℕ → Step → Language Mark
instruction_before line step = one (IsOn line (IsOperatorOf step)) then operands_before step

abbrev pub lines_before : Setting → Lines → Language Mark
lines_before setting End = line_ends
lines_before setting (Alone label rest) = line_ends then label_in setting (Some label) then symbol LineEnd then lines_before setting rest
lines_before setting (Plain label line step rest) =
    line_ends then label_in setting label then instruction_before line step then symbol LineEnd then lines_before setting rest
    given MayOccur setting step
lines_before setting (Nested label line operator x inside close rest) =
    line_ends then label_in setting label then opening line operator x then lines_before InParentheses inside
    then one (IsOn close (IsSymbol ClosingBracket)) then symbol LineEnd then lines_before setting rest
    given HasContent x inside

abbrev pub unit_before : ProgramUnit → Language Mark
unit_before unit = head unit then lines_before InBody unit.body then identifier (end_word unit.kind)

abbrev pub units_before : List ProgramUnit → Language Mark
units_before us = each (λ unit. line_ends then unit_before unit) us then line_ends

pub record SpelledBefore (tokens : List Mark) (text : Text) : Type 0 where
  pub spelled : units_before text tokens
  pub order : IsProgramLast text
