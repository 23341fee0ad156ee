-- The two sides of a run, the tree's and the flat code's, and when the one follows the other.
use Rattle.std.proofs.Common.{◌≡◌, ℕ, ◌+◌, Bool, true, false, List, [], ◌∷◌, ◌++◌, length, Option, Some, Result, Ok, Err, ℤ, refl, sym, ap, ◌∙◌}
use Rattle.std.specs.Option.{option_map}
use Rattle.wc_text_flat.proofs.Values.{value_number}
use Rattle.wc_text_flat.specs.{AreContents, State, Flow, Skips, Ended, Ran, Calls, Here, goes_on, line_runs, counted, followed, runs, lines_ahead, given}
use Rattle.wc_model.specs.Definitions.{block_named, frame_of, place_number, slot_kinds, Outcome, Done, Stuck, Mode, Running, Seeking, Returned, Effect, Goes, Fails, Context, chosen, Name, Reason, Scope, within, Location, Content, Store, Lines, ProgramUnit}
use Rattle.wc_model.specs.declared.code.Code.{Code}
use Rattle.wc_model.specs.declared.value.Value.{Value}

-- a body on the two sides: the program's frame, the place of the tree's body, the base of its instance, the flat calls
pub record Sides : Type 0 where
  pub frame : List (Location × Content)
  pub here : Context
  pub base : ℕ
  pub calls : Calls

-- where the flat code runs
abbrev pub flat : Sides → Here
flat w = record { base = w.base; now = w.here.now; kinds = slot_kinds w.frame; calls = w.calls }

-- the places of a unit's frame are in the program's from a base on
abbrev pub IsBased : List (Location × Content) → Scope → List Name → ℕ → Type 0
IsBased frame scope names base = (place : Location) (k : ℕ) → place_number (frame_of scope) place ≡ Some k → place_number frame (within names place) ≡ Some (base + k)

-- a run of a body follows an outcome: if there is one, it leaves its numbers and counts its trace
abbrev pub BodyFollows : List (Location × Content) → Outcome → Option Ran → Type 0
BodyFollows frame (Done result store trace) o =
    (ran : Ran) × (o ≡ Some ran) × (ran.result ≡ option_map value_number result) × AreContents frame store ran.numbers × (ran.steps ≡ length trace)
BodyFollows frame (Stuck reason) o = Unit {0}

-- the sides are alike: the instance has its base, and flat calls follow those of the tree
pub record AreAlike (w : Sides) : Type 0 where
  pub based : IsBased w.frame w.here.scope w.here.instance w.base
  pub calls_follow : (name : Name) (unit : ProgramUnit) (earlier : List ProgramUnit) → block_named w.here.scope.before name ≡ Some (unit, earlier) →
      (names : List Name) (base : ℕ) → IsBased w.frame (record { before = earlier; unit = unit }) names base →
      (store : Store) (numbers : List ℤ) → AreContents w.frame store numbers → BodyFollows w.frame (w.here.calls name names store) (w.calls (length earlier) base numbers)

-- the state of flat code for a result
abbrev pub state_of : Option Value → List ℤ → List ℤ → State
state_of result put_by numbers = record { result = option_map value_number result; put_by = put_by; numbers = numbers }

-- a run with n steps before it
abbrev pub then_counted : ℕ → Option Ran → Option Ran
then_counted steps o = given o (λ ran. Some (counted steps ran))

-- flat lines follow an effect that stays with the next line
abbrev pub OnwardFollows : Sides → List Code → List ℤ → State → Effect → Type 0
OnwardFollows w own put_by state (Goes (Running result) store items) =
    (numbers : List ℤ) × AreContents w.frame store numbers
    × ((others : List Code) → runs (flat w) (own ++ others) (Skips 0) state ≡ then_counted (length items) (runs (flat w) others (Skips 0) (state_of result put_by numbers)))
OnwardFollows w own put_by state (Goes (Seeking label result) store items) = ⊥
OnwardFollows w own put_by state (Goes (Returned result) store items) = ⊥
OnwardFollows w own put_by state (Fails reason) = Unit {0}

-- one flat line follows an effect that stays with the next line
abbrev pub LineFollows : Sides → Code → List ℤ → State → Effect → Type 0
LineFollows w line put_by state (Goes (Running result) store items) =
    (numbers : List ℤ) × AreContents w.frame store numbers × (length items ≡ 1) × (line_runs (flat w) state line ≡ goes_on (state_of result put_by numbers))
LineFollows w line put_by state (Goes (Seeking label result) store items) = ⊥
LineFollows w line put_by state (Goes (Returned result) store items) = ⊥
LineFollows w line put_by state (Fails reason) = Unit {0}

pub line_onward : (w : Sides) (line : Code) (put_by : List ℤ) (state : State) (effect : Effect) → LineFollows w line put_by state effect → OnwardFollows w (line ∷ []) put_by state effect
line_onward w line put_by state (Goes (Running result) store items) h =
    (h.0, h.1, λ others. ap (λ m. followed m (runs (flat w) others)) h.3 ∙ ap (λ n. then_counted n (runs (flat w) others (Skips 0) (state_of result put_by h.0))) (sym h.2))
line_onward w line put_by state (Goes (Seeking label result) store items) h = absurd h
line_onward w line put_by state (Goes (Returned result) store items) h = absurd h
line_onward w line put_by state (Fails reason) h = tt

-- the course of a run that is in a mode before these lines
abbrev pub IsCourse : Lines → Mode → Flow → Type 0
IsCourse rest (Running result) course = course ≡ Skips 0
IsCourse rest (Seeking label result) course = (n : ℕ) × (lines_ahead rest label ≡ Some n) × (course ≡ Skips n)
IsCourse rest (Returned result) course = course ≡ Ended

-- the result in a mode
abbrev pub result_in : Mode → Option Value
result_in (Running result) = result
result_in (Seeking label result) = result
result_in (Returned result) = result

-- flat lines follow an effect, from a course on, if these lines follow
abbrev pub EffectFollows : Sides → Lines → List Code → List ℤ → Flow → State → Effect → Type 0
EffectFollows w rest own put_by course state (Goes mode store items) =
    (next : Flow) × (numbers : List ℤ) × AreContents w.frame store numbers × IsCourse rest mode next
    × ((others : List Code) → runs (flat w) (own ++ others) course state ≡ then_counted (length items) (runs (flat w) others next (state_of (result_in mode) put_by numbers)))
EffectFollows w rest own put_by course state (Fails reason) = Unit {0}

pub onward_effect : (w : Sides) (rest : Lines) (own : List Code) (put_by : List ℤ) (state : State) (effect : Effect) → OnwardFollows w own put_by state effect → EffectFollows w rest own put_by (Skips 0) state effect
onward_effect w rest own put_by state (Goes (Running result) store items) h = (Skips 0, h.0, h.1, refl, h.2)
onward_effect w rest own put_by state (Goes (Seeking label result) store items) h = absurd h
onward_effect w rest own put_by state (Goes (Returned result) store items) h = absurd h
onward_effect w rest own put_by state (Fails reason) h = tt

-- what follows of either choice
pub by_choice : (P : Effect → Type 0) → ((reason : Reason) → P (Fails reason)) → (r : Result Bool Reason) (acting passing : Effect) → (r ≡ Ok true → P acting) → (r ≡ Ok false → P passing) → P (chosen r acting passing)
by_choice P fails (Ok true) acting passing act pass = act refl
by_choice P fails (Ok false) acting passing act pass = pass refl
by_choice P fails (Err reason) acting passing act pass = fails reason
