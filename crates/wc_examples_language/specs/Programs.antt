-- Programs of BOOL logic, with DINT and TIME, with jumps that act or do not, with an operator that is deferred, with a CTU, with the
-- bistable with dominant reset, and with all standard blocks.
use Rattle.std.specs.Prelude.{[], ◌∷◌, None, pos, negsuc, false, Some, Bool, true, List}
use Rattle.wc_model.specs.Language.Tree.{ProgramUnit, Text, End, Constant, Load, Store as StoreStep, Nested}
use Rattle.wc_model.specs.declared.operator.Operator.TheVariants.{And, Or, Add, Div, Mod, Eq, Gt}
use Rattle.wc_model.specs.declared.source.Section.TheVariants.{Own}
use Rattle.wc_model.specs.declared.value.Value.TheVariants.{Time}
use Rattle.wc_model.specs.declared.operator.Condition.TheVariants.{Always, IfTrue}
use Rattle.wc_model.specs.declared.operator.StoreKind.TheVariants.{Result}
use Rattle.wc_model.specs.Definitions.{RsFields, RsCall}
use Rattle.wc_model.specs.declared.block.StandardBlock.{StandardBlock}
use Rattle.wc_model.specs.declared.block.StandardBlock.TheVariants.{RTrig, Sr, Rs, Ctu, Ton, Tof, Tp}
use Rattle.wc_examples_language.specs.Writing.{word, at, ld, ldn, st, stn, op, program, var, num, ms, jump, labelled, yes', dot, call, arg, declares}

-- PROGRAM P / LD %IX0.0 / ST %QX0.0 / END_PROGRAM
abbrev pub first_unit : ProgramUnit
first_unit = program [] (ld 2 (at 2 "%ix0.0") (st 3 (at 3 "%qx0.0") End))

abbrev pub copies_an_input : Text
copies_an_input = first_unit ∷ []

-- PROGRAM P / END_PROGRAM
abbrev pub does_nothing : Text
does_nothing = program [] End ∷ []

-- VAR a, b : BOOL; END_VAR / LD %IX0.0 / AND %IX0.1 / ST a / LDN a / OR b / STN %QX0.1
abbrev pub keeps_a_conjunction : Text
keeps_a_conjunction =
    program
    (record { section = Own; names = word 2 "a" ∷ word 2 "b" ∷ []; type_name = word 2 "bool"; initial = None } ∷ [])
    (ld 3 (at 3 "%ix0.0") (op 4 And (at 4 "%ix0.1") (st 5 (var "a") (ldn 6 (var "a") (op 7 Or (var "b") (stn 8 (at 8 "%qx0.1") End))))))
    ∷ []

-- LD -7 / DIV 2 / ST %QD0 / LD -7 / MOD 2 / ST %QD1
abbrev pub divides_minus_seven : Text
divides_minus_seven =
    program [] (ld 2 (num (negsuc 6)) (op 3 Div (num (pos 2)) (st 4 (at 4 "%qd0") (ld 5 (num (negsuc 6)) (op 6 Mod (num (pos 2)) (st 7 (at 7 "%qd1") End))))))
    ∷ []

-- LD 2147483647 / ADD 1 / ST %QD0 / LD -2147483648 / DIV -1 / ST %QD1
abbrev pub passes_the_greatest : Text
passes_the_greatest =
    program []
    (ld 2 (num (pos 2147483647)) (op 3 Add (num (pos 1)) (st 4 (at 4 "%qd0") (ld 5 (num (negsuc 2147483647)) (op 6 Div (num (negsuc 0)) (st 7 (at 7 "%qd1") End))))))
    ∷ []

-- LD T#24d20h31m23s647ms / ADD T#1ms / EQ T#-24d20h31m23s648ms / ST %QX0.0
abbrev pub passes_the_longest_time : Text
passes_the_longest_time =
    program [] (ld 2 (ms 2147483647) (op 3 Add (ms 1) (op 4 Eq (Constant (Time (negsuc 2147483647))) (st 5 (at 5 "%qx0.0") End)))) ∷ []

-- LD %IX0.0 / JMPC L / LD 5 / GT 3 / L: ST %QX0.0
abbrev pub may_jump : Text
may_jump =
    program [] (ld 2 (at 2 "%ix0.0") (jump 3 IfTrue "l" (ld 4 (num (pos 5)) (op 5 Gt (num (pos 3)) (labelled 6 "l" (StoreStep Result (at 6 "%qx0.0")) End))))) ∷ []

-- JMP L / LD 1 / L: LD 2 / ST %QD0
abbrev pub always_jumps : Text
always_jumps =
    program [] (jump 2 Always "l" (ld 3 (num (pos 1)) (labelled 4 "l" (Load false (num (pos 2))) (st 5 (at 5 "%qd0") End)))) ∷ []

-- LD %IX0.0 / JMPC A / JMP B / A: LD TRUE / JMP C / B: ST %QX0.0 / C: ST %QX0.1
abbrev pub two_paths_program : ProgramUnit
two_paths_program =
    program []
    (ld 2 (at 2 "%ix0.0") (jump 3 IfTrue "a" (jump 4 Always "b" (labelled 5 "a" (Load false yes') (jump 6 Always "c"
    (labelled 7 "b" (StoreStep Result (at 7 "%qx0.0")) (labelled 8 "c" (StoreStep Result (at 8 "%qx0.1")) End)))))))

-- LD %IX0.0 / AND( / LD %IX0.1 / OR %IX0.2 / ) / ST %QX0.0
abbrev pub long_format : Text
long_format =
    program [] (ld 2 (at 2 "%ix0.0") (Nested None 3 And None (ld 4 (at 4 "%ix0.1") (op 5 Or (at 5 "%ix0.2") End)) 6 (st 7 (at 7 "%qx0.0") End))) ∷ []

-- LD %IX0.0 / AND( %IX0.1 / OR %IX0.2 / ) / ST %QX0.0
abbrev pub short_format : Text
short_format =
    program [] (ld 2 (at 2 "%ix0.0") (Nested None 3 And (Some (at 3 "%ix0.1")) (op 4 Or (at 4 "%ix0.2") End) 5 (st 6 (at 6 "%qx0.0") End))) ∷ []

-- VAR c : CTU; END_VAR / CAL c(CU := %IX0.0, R := %IX0.1, PV := 2) / LD c.Q / ST %QX0.0 / LD c.CV / ST %QD0
abbrev pub counts_to_two : Text
counts_to_two =
    program (declares Own 2 "c" "ctu" ∷ [])
    (call 3 "c" (arg "cu" (at 3 "%ix0.0") ∷ arg "r" (at 3 "%ix0.1") ∷ arg "pv" (num (pos 2)) ∷ []) (ld 4 (dot "c" "q") (st 5 (at 5 "%qx0.0") (ld 6 (dot "c" "cv") (st 7 (at 7 "%qd0") End)))))
    ∷ []

-- an RS with these fields, and all of them
abbrev pub rs : Bool → Bool → Bool → RsFields
rs s r1 q1 = record { s = s; r1 = r1; q1 = q1 }

abbrev pub all_rs : List RsFields
all_rs = rs false false false ∷ rs false false true ∷ rs false true false ∷ rs false true true ∷ rs true false false ∷ rs true false true ∷ rs true true false ∷ rs true true true ∷ []

-- a call of RS
abbrev pub rs_call : Bool → Bool → RsCall
rs_call s r1 = record { s = s; r1 = r1 }

-- the standard blocks
abbrev pub each_block : List StandardBlock
each_block = RTrig ∷ Sr ∷ Rs ∷ Ctu ∷ Ton ∷ Tof ∷ Tp ∷ []
