-- Programs whose calls give outputs out.
use Rattle.std.specs.Prelude.{[], ◌∷◌, None, true, pos}
use Rattle.wc_examples_language.specs.Writing.{at, dot, var, ld, st, call, arg, out, declares, program, num}
use Rattle.wc_model.specs.Language.Tree.{Text, End, Load, Plain}
use Rattle.wc_model.specs.declared.source.Section.TheVariants.{Own}

-- VAR c : CTU; END_VAR / CAL c(Q => %QX0.0, CU := %IX0.0, CV => %QD0, R := %IX0.1, PV := 2)
abbrev pub counts_given_out : Text
counts_given_out =
    program (declares Own 2 "c" "ctu" ∷ [])
    (call 3 "c" (out "q" (at 3 "%qx0.0") ∷ arg "cu" (at 3 "%ix0.0") ∷ out "cv" (at 3 "%qd0") ∷ arg "r" (at 3 "%ix0.1") ∷ arg "pv" (num (pos 2)) ∷ []) End) ∷ []

-- VAR c : CTU; END_VAR / CAL c(CU := %IX0.0, PV := 1, Q => c.R) / LD c.Q / ST %QX0.0
abbrev pub resets_itself : Text
resets_itself =
    program (declares Own 2 "c" "ctu" ∷ [])
    (call 3 "c" (arg "cu" (at 3 "%ix0.0") ∷ arg "pv" (num (pos 1)) ∷ out "q" (dot "c" "r") ∷ []) (ld 4 (dot "c" "q") (st 5 (at 5 "%qx0.0") End))) ∷ []

-- VAR e : R_TRIG; c : CTU; END_VAR / CAL e(CLK := %IX0.0, Q => c.CU) / CAL c(PV := 2, CV => %QD0)
abbrev pub feeds_a_counter : Text
feeds_a_counter =
    program (declares Own 2 "e" "r_trig" ∷ declares Own 3 "c" "ctu" ∷ [])
    (call 4 "e" (arg "clk" (at 4 "%ix0.0") ∷ out "q" (dot "c" "cu") ∷ []) (call 5 "c" (arg "pv" (num (pos 2)) ∷ out "cv" (at 5 "%qd0") ∷ []) End)) ∷ []

-- VAR e : R_TRIG; a : BOOL; END_VAR / CAL e(CLK := a, Q => a) / LDN a / ST a / ST %QX0.0
abbrev pub goes_where_it_came_from : Text
goes_where_it_came_from =
    program (declares Own 2 "e" "r_trig" ∷ declares Own 3 "a" "bool" ∷ [])
    (call 4 "e" (arg "clk" (var "a") ∷ out "q" (var "a") ∷ []) (Plain None 5 (Load true (var "a")) (st 6 (var "a") (st 7 (at 7 "%qx0.0") End)))) ∷ []
