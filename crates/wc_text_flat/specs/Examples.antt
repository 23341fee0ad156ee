-- Flat codes, with what they leave, and a body with those to which it is lowered.
use Rattle.wc_model.specs.declared.kind.SlotKind.TheVariants as slots
use Rattle.std.specs.Prelude.{ℕ, false, List, [], ◌∷◌, Option, Some, None, pos, true, codes}
use Rattle.wc_model.specs.declared.block.StandardBlock.TheVariants.{Ton}
use Rattle.wc_model.specs.declared.code.Code.{Code}
use Rattle.wc_model.specs.declared.code.Code.TheVariants.{LoadNumber, LoadPlace, Store, ApplyNumber, Open, OpenNumber, Close, Jump, Call, ArgumentNumber, Standard, Body, ArgumentPlace}
use Rattle.wc_model.specs.declared.kind.SlotKind.{SlotKind}
use Rattle.wc_model.specs.declared.operator.Condition.TheVariants.{Always, IfTrue}
use Rattle.wc_model.specs.declared.operator.Operator.TheVariants.{And, Or, Orn}
use Rattle.wc_model.specs.declared.operator.StoreKind.TheVariants.{Result, Negation}
use Rattle.wc_model.specs.declared.place.Place.{Place}
use Rattle.wc_model.specs.Definitions.{Name, Scope}
use Rattle.wc_model.specs.Language.Tree.{Assignment, Word, Constant, Variable, Load, Store as StoreStep, Jump as JumpStep, Call as CallStep, Lines, End, Plain, Nested}
use Rattle.wc_model.specs.declared.operator.Direction.TheVariants.{Into, OutOf}
use Rattle.wc_model.specs.declared.source.Section.TheVariants.{Own}
use Rattle.wc_model.specs.declared.source.UnitKind.TheVariants.{Program}
use Rattle.wc_model.specs.declared.value.Value.TheVariants.{Bool as Truth, Time}
use Rattle.wc_text_flat.specs.FlatMeaning.{Ran, program_runs}

-- a place by its number
abbrev pub place : ℕ → Place
place n = record { 0 = n }

-- a jump over one line
abbrev pub jump_code : List Code
jump_code = LoadNumber (pos 1) ∷ Jump IfTrue 1 ∷ LoadNumber (pos 0) ∷ Store Result (place 0) ∷ []

abbrev pub jump_runs : Option Ran
jump_runs = program_runs (slots.Dint ∷ []) (jump_code ∷ []) 0 (pos 5 ∷ [])

abbrev pub jump_ran : Ran
jump_ran = record { result = Some (pos 1); numbers = pos 1 ∷ []; steps = 3 }

-- `1 AND( 0 OR 1 ) ORN( LD 1 )`, with an operand on the opening line and without
abbrev pub parenthesis_code : List Code
parenthesis_code = LoadNumber (pos 1) ∷ OpenNumber (pos 0) ∷ ApplyNumber Or (pos 1) ∷ Close And ∷ Open ∷ LoadNumber (pos 1) ∷ Close Orn ∷ []

abbrev pub parenthesis_runs : Option Ran
parenthesis_runs = program_runs [] (parenthesis_code ∷ []) 0 []

abbrev pub parenthesis_ran : Ran
parenthesis_ran = record { result = Some (pos 1); numbers = []; steps = 7 }

-- a call of a TON with two arguments at the moment 50
abbrev pub timer_code : List Code
timer_code = Call Always 3 ∷ ArgumentNumber (place 0) (pos 1) ∷ ArgumentNumber (place 1) (pos 100) ∷ Standard Ton (place 0) ∷ []

abbrev pub timer_slots : List SlotKind
timer_slots = slots.Bool ∷ slots.Time ∷ slots.Bool ∷ slots.Time ∷ slots.Bool ∷ slots.Moment ∷ []

abbrev pub timer_runs : Option Ran
timer_runs = program_runs timer_slots (timer_code ∷ []) 50 (pos 0 ∷ pos 0 ∷ pos 0 ∷ pos 0 ∷ pos 0 ∷ pos 0 ∷ [])

abbrev pub timer_ran : Ran
timer_ran = record { result = None; numbers = pos 1 ∷ pos 100 ∷ pos 0 ∷ pos 0 ∷ pos 1 ∷ pos 50 ∷ []; steps = 4 }

-- a call of a block that negates its first place into its second, whose instance begins at place 3
abbrev pub negating_code : List Code
negating_code = LoadPlace false (place 0) ∷ Store Negation (place 1) ∷ []

abbrev pub calling_code : List Code
calling_code = Call Always 2 ∷ ArgumentNumber (place 3) (pos 1) ∷ Body 0 (place 3) ∷ LoadPlace false (place 4) ∷ []

abbrev pub call_slots : List SlotKind
call_slots = slots.Dint ∷ slots.Dint ∷ slots.Dint ∷ slots.Bool ∷ slots.Bool ∷ []

abbrev pub call_runs : Option Ran
call_runs = program_runs call_slots (negating_code ∷ calling_code ∷ []) 0 (pos 7 ∷ pos 7 ∷ pos 7 ∷ pos 0 ∷ pos 1 ∷ [])

abbrev pub call_ran : Ran
call_ran = record { result = Some (pos 0); numbers = pos 7 ∷ pos 7 ∷ pos 7 ∷ pos 1 ∷ pos 0 ∷ []; steps = 5 }

-- what a machine may do as it likes has no meaning: a place that is not there, a BOOL that is 2, a moment that is loaded, and a `)`
-- with nothing put by
abbrev pub stray_runs : Option Ran
stray_runs = program_runs (slots.Bool ∷ []) ((LoadPlace false (place 1) ∷ []) ∷ []) 0 (pos 0 ∷ [])

abbrev pub double_runs : Option Ran
double_runs = program_runs (slots.Bool ∷ []) ((LoadNumber (pos 2) ∷ Store Result (place 0) ∷ []) ∷ []) 0 (pos 0 ∷ [])

abbrev pub moment_runs : Option Ran
moment_runs = program_runs (slots.Moment ∷ []) ((LoadPlace false (place 0) ∷ []) ∷ []) 0 (pos 0 ∷ [])

abbrev pub unopened_runs : Option Ran
unopened_runs = program_runs [] ((LoadNumber (pos 1) ∷ Close And ∷ []) ∷ []) 0 []

-- a word of the text
abbrev pub word : ℕ → Name → Word
word line name = record { line = line; name = name }

-- `a : BOOL; t : TON;`, and `LD a`, `JMPC over`, `AND( TRUE` with its `)`, `over: ST a`, `CAL t (in := a, q => a, pt := T#5ms)`
abbrev pub mixed_list : List Assignment
mixed_list =
    record { direction = Into; formal = codes "in"; actual = Variable (codes "a") }
    ∷ record { direction = OutOf; formal = codes "q"; actual = Variable (codes "a") }
    ∷ record { direction = Into; formal = codes "pt"; actual = Constant (Time (pos 5)) } ∷ []

abbrev pub lowered_body : Lines
lowered_body =
    Plain None 4 (Load false (Variable (codes "a")))
    (Plain None 5 (JumpStep IfTrue (codes "over"))
    (Nested None 6 And (Some (Constant (Truth true))) End 7
    (Plain (Some (word 8 (codes "over"))) 8 (StoreStep Result (Variable (codes "a")))
    (Plain None 9 (CallStep Always (codes "t") mixed_list) End))))

abbrev pub lowered_scope : Scope
lowered_scope = record {
  before = [];
  unit = record {
    kind = Program;
    line = 1;
    name = word 1 (codes "p");
    spelled = codes "P";
    declarations = record { section = Own; names = word 2 (codes "a") ∷ []; type_name = word 2 (codes "bool"); initial = None }
        ∷ record { section = Own; names = word 3 (codes "t") ∷ []; type_name = word 3 (codes "ton"); initial = None } ∷ [];
    body = lowered_body;
  };
}

-- the program's frame begins with 45 direct variables
abbrev pub lowered_code : List Code
lowered_code =
    LoadPlace false (place 45) ∷ Jump IfTrue 2 ∷ OpenNumber (pos 1) ∷ Close And ∷ Store Result (place 45)
    ∷ Call Always 4 ∷ ArgumentPlace (place 45) (place 46) ∷ ArgumentNumber (place 47) (pos 5) ∷ Standard Ton (place 46) ∷ ArgumentPlace (place 48) (place 45) ∷ []
