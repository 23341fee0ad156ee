-- Short programs that break one rule each, with PROGRAM P on line 1, and a block of the text that counts edges, with a program that has
-- two instances of it.
use Rattle.std.specs.Prelude.{[], ◌∷◌, codes, None, pos, ℕ, List, Option, Some}
use Rattle.wc_model.specs.Language.Tree.{Text, End, Plain, Return, ProgramUnit, Lines, Store as StoreStep, Declaration}
use Rattle.wc_model.specs.declared.operator.Condition.TheVariants.{IfFalse, IfTrue}
use Rattle.wc_model.specs.declared.operator.Operator.TheVariants.{Add}
use Rattle.wc_model.specs.declared.source.Section.TheVariants.{Input, Output, Own}
use Rattle.wc_model.specs.declared.source.UnitKind.TheVariants.{FunctionBlock, Program}
use Rattle.wc_model.specs.Language.Checks.{Refusal}
use Rattle.wc_model.specs.declared.operator.StoreKind.TheVariants.{Result}
use Rattle.wc_model.specs.declared.value.Value.TheVariants.{Dint}
use Rattle.wc_examples_language.specs.Writing.{word, at, var, dot, ld, st, op, call, arg, declares, num, jump, labelled, program}

-- FUNCTION_BLOCK Cnt / VAR_INPUT IN : BOOL; END_VAR / VAR_OUTPUT N : DINT; END_VAR / VAR e : R_TRIG; END_VAR /
-- CAL e(CLK := IN) / LD e.Q / RETCN / LD N / ADD 1 / ST N / END_FUNCTION_BLOCK
abbrev pub counting_block : ProgramUnit
counting_block = record {
  kind = FunctionBlock;
  line = 1;
  name = word 1 "cnt";
  spelled = codes "Cnt";
  declarations = declares Input 2 "in" "bool" ∷ declares Output 3 "n" "dint" ∷ declares Own 4 "e" "r_trig" ∷ [];
  body = call 5 "e" (arg "clk" (var "in") ∷ []) (ld 6 (dot "e" "q") (Plain None 7 (Return IfFalse) (ld 8 (var "n") (op 9 Add (num (pos 1)) (st 10 (var "n") End)))));
}

-- PROGRAM P / VAR a, b : Cnt; END_VAR / CAL a(IN := %IX0.0) / CAL b(IN := %IX0.1) / LD a.N / ST %QD0 / LD b.N / ST %QD1
abbrev pub two_counters_program : ProgramUnit
two_counters_program = record {
  kind = Program;
  line = 12;
  name = word 12 "p";
  spelled = codes "P";
  declarations = record { section = Own; names = word 13 "a" ∷ word 13 "b" ∷ []; type_name = word 13 "cnt"; initial = None } ∷ [];
  body = call 14 "a" (arg "in" (at 14 "%ix0.0") ∷ []) (call 15 "b" (arg "in" (at 15 "%ix0.1") ∷ []) (ld 16 (dot "a" "n") (st 17 (at 17 "%qd0") (ld 18 (dot "b" "n") (st 19 (at 19 "%qd1") End)))));
}

abbrev pub two_counters : Text
two_counters = counting_block ∷ two_counters_program ∷ []

-- refused with this number at this line
abbrev pub refused : ℕ → ℕ → Option Refusal
refused number line = Some (record { number = number; line = line })

-- a program with nothing but declarations, and with nothing but a body
abbrev pub declaring : List Declaration → Text
declaring declarations = program declarations End ∷ []

abbrev pub doing : Lines → Text
doing body = program [] body ∷ []

-- a program with a timer t, and with a DINT d
abbrev pub with_timer : Lines → Text
with_timer body = program (declares Own 2 "t" "ton" ∷ []) body ∷ []

abbrev pub with_number : Lines → Text
with_number body = program (declares Own 2 "d" "dint" ∷ []) body ∷ []

-- a program with an instance a of the counting block, PROGRAM on line 12
abbrev pub with_counter : Lines → Text
with_counter body =
    counting_block
    ∷ record { kind = Program; line = 12; name = word 12 "p"; spelled = codes "P"; declarations = declares Own 13 "a" "cnt" ∷ []; body = body }
    ∷ []

-- VAR d : BOOL := 2; END_VAR
abbrev pub starts_at_two : Declaration
starts_at_two = record { section = Own; names = word 2 "d" ∷ []; type_name = word 2 "bool"; initial = Some (record { value = Dint (pos 2); line = 2 }) }

-- the row with a label that one way in reaches with a BOOL and another with a DINT: LD %IX0.0 / JMPC L / LD 5 / L: ST d
abbrev pub two_kinds_at_a_label : Text
two_kinds_at_a_label = with_number (ld 3 (at 3 "%ix0.0") (jump 4 IfTrue "l" (ld 5 (num (pos 5)) (labelled 6 "l" (StoreStep Result (var "d")) End))))
