-- The timers: programs with a TON and with a TP, the calls of a TOF and of a TP, and programs that take the place of one.
use Rattle.std.specs.Prelude.{ℕ, Bool, true, false, List, [], ◌∷◌, pos, Some, map, ℤ, negsuc, codes}
use Rattle.wc_model.specs.Definitions.{TofFields, tof_step, TpFields, tp_step, TimerCall, Text, ProgramUnit, End, Call, Declaration, Lines, Content, Location, Path, Store}
use Rattle.wc_model.specs.declared.operator.Condition.TheVariants.{Always, IfFalse}
use Rattle.wc_model.specs.declared.source.Section.TheVariants.{Own}
use Rattle.wc_model.specs.declared.value.Value.TheVariants.{Time}
use Prim.Native.String.{String}
use Rattle.wc_examples_language.specs.Writing.{word, at, var, dot, ld, st, jump, arg, labelled, declares, program, ms, call}

-- VAR t : TON; p : TIME := T#500ms; END_VAR
abbrev pub timer_declarations : List Declaration
timer_declarations =
    declares Own 2 "t" "ton"
    ∷ record { section = Own; names = word 2 "p" ∷ []; type_name = word 2 "time"; initial = Some (record { value = Time (pos 500); line = 2 }) }
    ∷ []

-- LD %IX0.1 / JMPCN L / LD T#1s / ST p / L: CAL t(IN := %IX0.0, PT := p) / LD t.Q / ST %QX0.0
abbrev pub on_delay_program : ProgramUnit
on_delay_program =
    program timer_declarations
    (ld 3 (at 3 "%ix0.1") (jump 4 IfFalse "l" (ld 5 (ms 1000) (st 6 (var "p")
    (labelled 7 "l" (Call Always (word 7 "t").name (arg "in" (at 7 "%ix0.0") ∷ arg "pt" (var "p") ∷ [])) (ld 8 (dot "t" "q") (st 9 (at 9 "%qx0.0") End)))))))

abbrev pub on_delay : Text
on_delay = on_delay_program ∷ []

-- a TOF before any call, with a preset time of 100 ms
abbrev pub new_tof : TofFields
new_tof = record { input = false; pt = pos 100; q = false; et = pos 0; phase = 0; start = 0 }

-- a call with this input
abbrev pub tof_call : ℕ → Bool → TofFields → TofFields
tof_call now input f = tof_step now (record { input = input; pt = f.pt; q = f.q; et = f.et; phase = f.phase; start = f.start })

-- the fields after each of these calls
abbrev pub tof_run : TofFields → List (ℕ × Bool) → List TofFields
tof_run f [] = []
tof_run f (c ∷ calls) = tof_call c.0 c.1 f ∷ tof_run (tof_call c.0 c.1 f) calls

-- (0, FALSE), (10, TRUE), (20, FALSE), (119, FALSE), (120, FALSE)
abbrev pub five_calls : List (ℕ × Bool)
five_calls = (0, false) ∷ (10, true) ∷ (20, false) ∷ (119, false) ∷ (120, false) ∷ []

-- the same as a history, the newest first
abbrev pub timer_call : ℕ → Bool → TimerCall
timer_call moment input = record { moment = moment; input = input; pt = pos 100 }

abbrev pub five_reported : List TimerCall
five_reported = timer_call 120 false ∷ timer_call 119 false ∷ timer_call 20 false ∷ timer_call 10 true ∷ timer_call 0 false ∷ []

-- a TP before any call
abbrev pub new_tp : TpFields
new_tp = record { input = false; pt = pos 0; q = false; et = pos 0; phase = 0; start = 0 }

-- a call with this input and preset time
abbrev pub pulse_call : ℕ → Bool → ℤ → TimerCall
pulse_call moment input pt = record { moment = moment; input = input; pt = pt }

abbrev pub tp_called_by : TimerCall → TpFields → TpFields
tp_called_by c f = tp_step c.moment (record { input = c.input; pt = c.pt; q = f.q; et = f.et; phase = f.phase; start = f.start })

-- the fields after each of these calls
abbrev pub tp_run : TpFields → List TimerCall → List TpFields
tp_run f [] = []
tp_run f (c ∷ calls) = tp_called_by c f ∷ tp_run (tp_called_by c f) calls

-- Q, ET and the phase after each of these calls of a new TP
abbrev pub outputs : List TimerCall → List Bool
outputs calls = map (λ f. f.q) (tp_run new_tp calls)

abbrev pub times : List TimerCall → List ℤ
times calls = map (λ f. f.et) (tp_run new_tp calls)

abbrev pub phases : List TimerCall → List ℕ
phases calls = map (λ f. f.phase) (tp_run new_tp calls)

-- IN is released within the pulse, comes again at its end, is released, and comes once more
abbrev pub pulse_calls : List TimerCall
pulse_calls = pulse_call 0 true (pos 100) ∷ pulse_call 50 false (pos 100) ∷ pulse_call 100 true (pos 100) ∷ pulse_call 120 false (pos 100) ∷ pulse_call 130 true (pos 100) ∷ []

-- a pulse that a lower PT ends at once, and that a higher one does not take up again
abbrev pub lowered_calls : List TimerCall
lowered_calls = pulse_call 0 true (pos 100) ∷ pulse_call 50 true (pos 40) ∷ pulse_call 60 true (pos 200) ∷ pulse_call 70 false (pos 200) ∷ []

-- a pulse that a higher PT draws out
abbrev pub raised_calls : List TimerCall
raised_calls = pulse_call 0 true (pos 100) ∷ pulse_call 99 false (pos 300) ∷ pulse_call 299 false (pos 300) ∷ pulse_call 300 false (pos 300) ∷ pulse_call 301 true (pos 300) ∷ []

-- a PT that is negative
abbrev pub negative_calls : List TimerCall
negative_calls = pulse_call 5 true (negsuc 4) ∷ pulse_call 6 true (negsuc 4) ∷ pulse_call 7 false (negsuc 4) ∷ pulse_call 8 true (pos 10) ∷ []

-- CAL t(IN := %IX0.0, PT := T#100ms) / LD t.Q / ST %QX0.0
abbrev pub pulse_lines : Lines
pulse_lines = call 3 "t" (arg "in" (at 3 "%ix0.0") ∷ arg "pt" (ms 100) ∷ []) (ld 4 (dot "t" "q") (st 5 (at 5 "%qx0.0") End))

abbrev pub pulses : Text
pulses = program (declares Own 2 "t" "tp" ∷ []) pulse_lines ∷ []

-- a text that begins with another variable, and one whose timer is not a pulse timer
abbrev pub pulses_moved : Text
pulses_moved = program (declares Own 2 "n" "dint" ∷ declares Own 3 "t" "tp" ∷ []) pulse_lines ∷ []

abbrev pub pulses_no_more : Text
pulses_no_more = program (declares Own 2 "t" "tof" ∷ []) pulse_lines ∷ []

-- a field of the timer, and a store that holds one content everywhere
abbrev pub field : String → Location
field name = Path (codes "t" ∷ codes name ∷ [])

abbrev pub all_hold : Content → Store
all_hold content = λ place. Some content
