-- What it means that a run goes well, and statements about the runs of texts that break no rule.
use Rattle.std.specs.Prelude.{◌≡◌, Bool, true, false, List, [], ◌∷◌, Option, Some, None, ◌⊎◌, ℕ, reverse}
use Rattle.wc_model.specs.Definitions.{is_ahead, body_rules, Check, same_name, block_named, BodyLine, kind_after_step, step_leaves, label_of, Known, kinds_from_jumps, kinds_from_above, Outcome, Done, Stuck, Mode, Running, Seeking, Returned, Effect, Goes, Fails, Calls, carries, Name, Scope, kind_of, Store, body_fault, Spells, IsLoaded, IsNextLoaded, Mark, PlateData, image_after, AreRun, first_logic, logic_following, Past, scan_of, initial_of}
use Rattle.wc_model.specs.Language.Tree.{Step, Load, Store as StoreStep, Apply, Negate, Jump, Call, Return, Lines, End, Alone, Plain, Nested, ProgramUnit, Text}
use Rattle.wc_model.specs.declared.kind.Kind.{Kind}
use Rattle.wc_model.specs.declared.value.Value.{Value}
use Rattle.wc_model.specs.declared.image.Image.{Image}
use Rattle.wc_laws_language.specs.Typing.{SameSlots, FitsScope}

-- each rule holds
abbrev pub Clean : List Check → Type 0
Clean [] = Unit {0}
Clean (check ∷ checks) = (check.holds ≡ true) × Clean checks

-- a result is of a kind, if one is known
abbrev pub Agrees : Option Kind → Option Value → Type 0
Agrees None result = Unit {0}
Agrees (Some kind) None = ⊥
Agrees (Some kind) (Some value) = kind_of value ≡ kind

-- an effect goes on, in a mode of which this holds, and keeps the kinds of all places
abbrev pub GoesWell : (Mode → Type 0) → Store → Effect → Type 0
GoesWell P store (Goes mode new items) = P mode × SameSlots store new
GoesWell P store (Fails reason) = ⊥

-- an outcome is done, with a result of which this holds, and keeps the kinds of all places
abbrev pub EndsWell : (Option Value → Type 0) → Store → Outcome → Type 0
EndsWell P store (Done result new trace) = P result × SameSlots store new
EndsWell P store (Stuck reason) = ⊥

-- a step is a jump to this label
abbrev pub step_jumps_to : Step → Name → Bool
step_jumps_to (Jump condition target) label = same_name target label
step_jumps_to step label = false

-- a step is a return
abbrev pub step_returns : Step → Bool
step_returns (Return condition) = true
step_returns step = false

-- where a step may lead: to the next line with a result of the kind after it, unless it always leaves; to a later line that
-- carries its label; or back
abbrev pub LeadsTo : Scope → Step → List BodyLine → Option Kind → Mode → Type 0
LeadsTo scope step following kind (Running result) = Agrees (kind_after_step scope step kind) result × (step_leaves step ≡ false)
LeadsTo scope step following kind (Seeking label result) = (step_jumps_to step label ≡ true) × Agrees kind result × (is_ahead following label ≡ true)
LeadsTo scope step following kind (Returned result) = step_returns step ≡ true

-- calls of blocks end well, from each store that fits the block
abbrev pub CallsEndWell : List ProgramUnit → Calls → Type 0
CallsEndWell before calls = (name : Name) (unit : ProgramUnit) (earlier : List ProgramUnit) → block_named before name ≡ Some (unit, earlier) →
    (names : List Name) (store : Store) → FitsScope store names (record { before = earlier; unit = unit }) → EndsWell (λ result. Unit {0}) store (calls name names store)

-- the instructions that may be inside a parenthesis
abbrev pub is_simple : Step → Bool
is_simple (Load negated operand) = true
is_simple (StoreStep storing target) = true
is_simple (Apply operator operand) = true
is_simple Negate = true
is_simple (Jump condition label) = false
is_simple (Call condition instance arguments) = false
is_simple (Return condition) = false

-- no jump, call or return is inside a parenthesis
abbrev pub IsSimple : Lines → Type 0
IsSimple End = Unit {0}
IsSimple (Alone label rest) = IsSimple rest
IsSimple (Plain label line step rest) = (is_simple step ≡ true) × IsSimple rest
IsSimple (Nested label line operator operand inside close rest) = IsSimple inside × IsSimple rest

abbrev pub NestsSimply : Lines → Type 0
NestsSimply End = Unit {0}
NestsSimply (Alone label rest) = NestsSimply rest
NestsSimply (Plain label line step rest) = NestsSimply rest
NestsSimply (Nested label line operator operand inside close rest) = IsSimple inside × NestsSimply rest

-- no body of these units breaks a rule, or has a jump, a call or a return inside a parenthesis; units come newest first
abbrev pub AreClean : List ProgramUnit → Type 0
AreClean [] = Unit {0}
AreClean (unit ∷ before) = Clean (body_rules (record { before = before; unit = unit })) × NestsSimply unit.body × AreClean before

-- the kind is one of these
abbrev pub IsAmong : Option Kind → List (Option Kind) → Type 0
IsAmong kind [] = ⊥
IsAmong kind (k ∷ kinds) = (k ≡ kind) ⊎ IsAmong kind kinds

-- where a run may be before a line, after lines whose kinds are known: the result is of the kind that the line above passes
-- on, or of one that a jump to the label brings
abbrev pub ModeFits : Scope → List Known → List BodyLine → Mode → Type 0
ModeFits scope earlier following (Running result) = (kind : Option Kind) × (kinds_from_above scope earlier ≡ kind ∷ []) × Agrees kind result
ModeFits scope earlier following (Seeking label result) = (kind : Option Kind) × IsAmong kind (kinds_from_jumps label earlier) × Agrees kind result × (is_ahead following label ≡ true)
ModeFits scope earlier following (Returned result) = Unit {0}

-- the same at a line that was arrived at
abbrev pub ArrivedFits : Scope → List Known → BodyLine → List BodyLine → Option Kind → Mode → Type 0
ArrivedFits scope earlier line following kind (Running result) = Agrees kind result
ArrivedFits scope earlier line following kind (Seeking label result) = (k : Option Kind) × IsAmong k (kinds_from_jumps label earlier) × Agrees k result × (is_ahead following label ≡ true) × (carries (label_of line) label ≡ false)
ArrivedFits scope earlier line following kind (Returned result) = Unit {0}

-- inside a parenthesis a run executes each line
abbrev pub InsideMode : Option Kind → Mode → Type 0
InsideMode kind (Running result) = Agrees kind result
InsideMode kind (Seeking label result) = ⊥
InsideMode kind (Returned result) = ⊥

-- each unit of a text has only simple instructions inside its parentheses, as the grammar of the language demands
abbrev pub UnitsNestSimply : Text → Type 0
UnitsNestSimply [] = Unit {0}
UnitsNestSimply (unit ∷ text) = NestsSimply unit.body × UnitsNestSimply text

-- a scan of a text whose bodies break no rule is never stuck, from each store that holds what its declarations say; and the
-- store after it holds that again
abbrev pub VerifiedTextIsNeverStuck : Type 0
VerifiedTextIsNeverStuck = (unit : ProgramUnit) (units : Text) → UnitsNestSimply (unit ∷ units) → body_fault (unit ∷ units) ≡ None →
    (store : Store) → SameSlots (initial_of (unit ∷ units)) store → (image : Image) (now : ℕ) →
    EndsWell (λ (result : Option Value). Unit {0}) (initial_of (unit ∷ units)) (scan_of (unit ∷ units) store image now)

-- a text that is spelled has only simple instructions inside its parentheses
abbrev pub SpelledTextNestsSimply : Type 0
SpelledTextNestsSimply = (tokens : List Mark) (text : Text) → Spells tokens text → UnitsNestSimply text

-- a scan of a text that is loaded is never stuck, from each store that holds what its declarations say; and the store after it
-- holds that again
abbrev pub LoadedTextIsNeverStuck : Type 0
LoadedTextIsNeverStuck = (bytes : List ℕ) (text : Text) → IsLoaded bytes text →
    (store : Store) → SameSlots (initial_of text) store → (image : Image) (now : ℕ) →
    EndsWell (λ (result : Option Value). Unit {0}) (initial_of text) (scan_of text store image now)

-- whatever rows have come that are run, in whatever order, the next scan is never stuck: that of a text that is loaded, and
-- after a change that of the next one
abbrev pub NoRunIsEverStuck : Type 0
NoRunIsEverStuck = (bytes : List ℕ) (text : Text) → IsLoaded bytes text → (next : Option Text) → IsNextLoaded next →
    (plate : PlateData) (past : Past) → AreRun next (reverse past) → (now : ℕ) →
    let logic = logic_following plate (first_logic text next) past in
    EndsWell (λ (result : Option Value). Unit {0}) (initial_of logic.text) (scan_of logic.text logic.store (image_after plate past) now)
