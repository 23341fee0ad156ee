-- Flat code follows the body that it is: parentheses, jumps, returns, and the lines one after another.
use Rattle.wc_model.proofs.Common.{◌≡◌, ℕ, suc, ◌+◌, ◌≤◌, ◌<◌, max, Bool, true, false, List, [], ◌∷◌, ◌++◌, length, Option, Some, None, Result, Ok, Err, ℤ, append_assoc, refl, sym, ap, subst, ◌∙◌, arith, if◌then◌else◌, nat_lt, lt-ltb}
use Rattle.std.proofs.lemmas.List.{length-append}
use Rattle.std.specs.Option.{option_map}
use Rattle.wc_text_flat.proofs.CallLines.{answer_given, lowered_after, call_follows}
use Rattle.wc_text_flat.proofs.Counts.{counted_none, counted_twice, passed_over, ended_over}
use Rattle.wc_text_flat.proofs.Lines.{operand_number, operand_read, load_follows, load_negated_follows, store_follows, apply_follows, not_follows}
use Rattle.wc_text_flat.proofs.Sides.{Sides, flat, BodyFollows, AreAlike, state_of, then_counted, OnwardFollows, line_onward, IsCourse, result_in, EffectFollows, onward_effect, by_choice}
use Rattle.wc_text_flat.proofs.Values.{value_number, ReadsAs, apply_number_follows, acts_follow}
use Rattle.wc_text_flat.specs.{AreContents, State, Flow, Skips, Ended, LineResult, Ran, goes_on, opens, turns, line_runs, counted, followed, ended, runs, Operand, Number, At, load_line, apply_line, short_line, IsStepLowered, IsOpening, step_length, flat_length, lines_ahead, IsLowered, given, apply_number, acts}
use Rattle.wc_model.specs.Definitions.{depth, Outcome, Done, Stuck, Mode, Running, Seeking, Returned, Effect, Goes, Fails, carries, arriving, after, continued, from_value, value_of, step_effect, line_effect, closed, nested_effect, means, Name, apply, Reason, Scope, Store, At as AtLine}
use Rattle.wc_model.specs.Language.Meaning as meaning
use Rattle.wc_model.specs.Language.Tree.{Word, Term, Step, Load, Store as StoreStep, Apply, Negate, Jump, Call, Return, Lines, End, Alone, Plain, Nested}
use Rattle.wc_model.specs.declared.code.Code.{Code}
use Rattle.wc_model.specs.declared.code.Code.TheVariants.{Store as StoreLine, Not, Close, Jump as JumpLine, Return as ReturnLine}
use Rattle.wc_model.specs.declared.operator.Condition.{Condition}
use Rattle.wc_model.specs.declared.operator.Operator.{Operator}
use Rattle.wc_model.specs.declared.value.Value.{Value}
use Rattle.wc_laws_language.specs.SoundnessLaws.{is_simple, IsSimple, NestsSimply}
use Rattle.wc_laws_language.proofs.FramePlaces.{one_number}

-- a step that is executed and is neither a jump nor a return
abbrev pub stays : Step → Bool
stays (Load negated operand) = true
stays (StoreStep storing target) = true
stays (Apply operator operand) = true
stays Negate = true
stays (Jump condition label) = false
stays (Call condition instance arguments) = true
stays (Return condition) = false

pub staying_follows : (w : Sides) → AreAlike w → (put_by : List ℤ) (number : ℕ) (store : Store) (numbers : List ℤ) → AreContents w.frame store numbers → (result : Option Value) (rest : Lines) (step : Step) → stays step ≡ true → (own : List Code) → IsStepLowered w.here.scope rest step own → OnwardFollows w own put_by (state_of result put_by numbers) (step_effect w.here number step result store)
staying_follows w alike put_by number store numbers contents result rest (Load false term) s own lowered =
    subst (λ (c : List Code). OnwardFollows w c put_by (state_of result put_by numbers) (step_effect w.here number (Load false term) result store)) (sym lowered.2)
    (line_onward w (load_line false lowered.0) put_by (state_of result put_by numbers) (step_effect w.here number (Load false term) result store) (load_follows w alike put_by number store numbers contents result term lowered.0 lowered.1))
staying_follows w alike put_by number store numbers contents result rest (Load true term) s own lowered =
    subst (λ (c : List Code). OnwardFollows w c put_by (state_of result put_by numbers) (step_effect w.here number (Load true term) result store)) (sym lowered.2)
    (line_onward w (load_line true lowered.0) put_by (state_of result put_by numbers) (step_effect w.here number (Load true term) result store) (load_negated_follows w alike put_by number store numbers contents result term lowered.0 lowered.1))
staying_follows w alike put_by number store numbers contents result rest (StoreStep storing target) s own lowered =
    subst (λ (c : List Code). OnwardFollows w c put_by (state_of result put_by numbers) (step_effect w.here number (StoreStep storing target) result store)) (sym lowered.2)
    (line_onward w (StoreLine storing lowered.0) put_by (state_of result put_by numbers) (step_effect w.here number (StoreStep storing target) result store) (store_follows w alike put_by number store numbers contents result storing target lowered.0 lowered.1))
staying_follows w alike put_by number store numbers contents result rest (Apply operator term) s own lowered =
    subst (λ (c : List Code). OnwardFollows w c put_by (state_of result put_by numbers) (step_effect w.here number (Apply operator term) result store)) (sym lowered.2)
    (line_onward w (apply_line operator lowered.0) put_by (state_of result put_by numbers) (step_effect w.here number (Apply operator term) result store) (apply_follows w alike put_by number store numbers contents result operator term lowered.0 lowered.1))
staying_follows w alike put_by number store numbers contents result rest Negate s own lowered =
    subst (λ (c : List Code). OnwardFollows w c put_by (state_of result put_by numbers) (step_effect w.here number Negate result store)) (sym lowered)
    (line_onward w Not put_by (state_of result put_by numbers) (step_effect w.here number Negate result store) (not_follows w put_by number store numbers contents result))
staying_follows w alike put_by number store numbers contents result rest (Jump condition label) s own lowered = cc
staying_follows w alike put_by number store numbers contents result rest (Call condition instance arguments) s own lowered =
    subst (λ (c : List Code). OnwardFollows w c put_by (state_of result put_by numbers) (step_effect w.here number (Call condition instance arguments) result store)) (sym lowered.is)
    (call_follows w alike number result put_by store numbers contents condition instance arguments own lowered)
staying_follows w alike put_by number store numbers contents result rest (Return condition) s own lowered = cc

-- flat lines follow lines inside a parenthesis, which are executed one after another
abbrev pub InsideFollows : Sides → List Code → Option Value → List ℤ → List ℤ → Outcome → Type 0
InsideFollows w code start put_by numbers (Done result new trace) =
    (left : List ℤ) × AreContents w.frame new left
    × ((others : List Code) → runs (flat w) (code ++ others) (Skips 0) (state_of start put_by numbers) ≡ then_counted (length trace) (runs (flat w) others (Skips 0) (state_of result put_by left)))
InsideFollows w code start put_by numbers (Stuck reason) = Unit {0}

-- if there is space, the result is put by
pub is_shallow : (put_by : List ℤ) → length put_by < 8 → nat_lt (length put_by) 8 ≡ true
is_shallow put_by l = lt-ltb (length put_by) 8 l

pub opened_by : (put_by numbers : List ℤ) (outer : Value) (inner : Option ℤ) → length put_by < 8 → opens (state_of (Some outer) put_by numbers) inner ≡ goes_on (record { result = inner; put_by = value_number outer ∷ put_by; numbers = numbers })
opened_by put_by numbers outer inner l = ap (λ (b : Bool). if b then goes_on (record { result = inner; put_by = value_number outer ∷ put_by; numbers = numbers }) else None) (is_shallow put_by l)

-- the `)` after lines that are followed
pub closing_follows : (w : Sides) (opening : Code) (inner : List Code) (number close : ℕ) (operator : Operator) (outer : Value) (start : Option Value) (put_by numbers : List ℤ) → line_runs (flat w) (state_of (Some outer) put_by numbers) opening ≡ goes_on (state_of start (value_number outer ∷ put_by) numbers) → (o : Outcome) → InsideFollows w inner start (value_number outer ∷ put_by) numbers o → OnwardFollows w (opening ∷ inner ++ Close operator ∷ []) put_by (state_of (Some outer) put_by numbers) (closed number operator close outer o)
closing_follows w opening inner number close operator outer start put_by numbers runs_so (Stuck reason) h = tt
closing_follows w opening inner number close operator outer start put_by numbers runs_so (Done None new trace) h = tt
closing_follows w opening inner number close operator outer start put_by numbers runs_so (Done (Some value) new trace) h = step (apply operator outer value) (apply_number_follows operator outer value)
  where
    step : (r : Result Value Reason) → ReadsAs r (apply_number operator (value_number outer) (value_number value)) → OnwardFollows w (opening ∷ inner ++ Close operator ∷ []) put_by (state_of (Some outer) put_by numbers) (from_value r (λ result. Goes (Running (Some result)) new (AtLine number ∷ trace ++ AtLine close ∷ [])))
    step (Err reason) e = tt
    step (Ok result) e = (
      h.0,
      h.1,
      λ others. ap (λ (m : Option LineResult). followed m (runs (flat w) ((inner ++ Close operator ∷ []) ++ others))) runs_so
          ∙ (ap (λ (code : List Code). then_counted 1 (runs (flat w) code (Skips 0) (state_of start (value_number outer ∷ put_by) numbers))) (append_assoc inner (Close operator ∷ []) others)
          ∙ (ap (then_counted 1) (h.2 (Close operator ∷ others))
          ∙ (ap (λ (m : Option ℤ). then_counted 1 (then_counted (length trace) (followed (given m (λ n. goes_on (record { result = Some n; put_by = put_by; numbers = h.0 }))) (runs (flat w) others)))) e
          ∙ (ap (then_counted 1) (counted_twice (length trace) 1 (left others))
          ∙ (counted_twice 1 (length trace + 1) (left others)
          ∙ ap (λ n. then_counted n (left others)) all))))),
    )
      where
        left : List Code → Option Ran
        left others = runs (flat w) others (Skips 0) (state_of (Some result) put_by h.0)

        all : 1 + (length trace + 1) ≡ length (AtLine number ∷ trace ++ AtLine close ∷ [])
        all = let a = length-append trace (AtLine close ∷ []) in omega (arith, a)

-- a parenthesis, if flat lines follow the lines inside
pub nested_follows : (w : Sides) → AreAlike w → (opening : Code) (inner : List Code) (number close : ℕ) (operator : Operator) (operand : Option Term) → IsOpening w.here.scope operand opening → (result : Option Value) (put_by : List ℤ) → length put_by < 8 → (store : Store) (numbers : List ℤ) → AreContents w.frame store numbers → (inside : Mode → Store → Outcome) → ((start : Option Value) (more : ℤ) → InsideFollows w inner start (more ∷ put_by) numbers (inside (Running start) store)) → OnwardFollows w (opening ∷ inner ++ Close operator ∷ []) put_by (state_of result put_by numbers) (nested_effect w.here number operator operand close inside (Running result) store)
nested_follows w alike opening inner number close operator operand is None put_by l store numbers contents inside h = tt
nested_follows w alike opening inner number close operator None is (Some outer) put_by l store numbers contents inside h =
    closing_follows w opening inner number close operator outer None put_by numbers (ap (line_runs (flat w) (state_of (Some outer) put_by numbers)) is ∙ opened_by put_by numbers outer None l) (inside (Running None) store) (h None (value_number outer))
nested_follows w alike opening inner number close operator (Some term) is (Some outer) put_by l store numbers contents inside h = step (value_of w.here store term) (operand_read w alike store numbers contents term is.0 is.1)
  where
    line : (o : Operand) → line_runs (flat w) (state_of (Some outer) put_by numbers) (short_line o) ≡ given (operand_number w numbers o) (λ n. opens (state_of (Some outer) put_by numbers) (Some n))
    line (Number n) = refl
    line (At place) = refl

    step : (r : Result Value Reason) → ReadsAs r (operand_number w numbers is.0) → OnwardFollows w (opening ∷ inner ++ Close operator ∷ []) put_by (state_of (Some outer) put_by numbers) (closed number operator close outer (elim r as (λ x. Outcome) [ Ok value ↦ inside (Running (Some value)) store | Err reason ↦ Stuck reason ]))
    step (Err reason) e = tt
    step (Ok value) e =
        closing_follows w opening inner number close operator outer (Some value) put_by numbers
        (ap (line_runs (flat w) (state_of (Some outer) put_by numbers)) is.2 ∙ (line is.0 ∙ (ap (λ (x : Option ℤ). given x (λ n. opens (state_of (Some outer) put_by numbers) (Some n))) e ∙ opened_by put_by numbers outer (Some (value_number value)) l)))
        (inside (Running (Some value)) store) (h (Some value) (value_number outer))

-- on from an effect that stays
pub onward_then : (w : Sides) (own rest : List Code) (start : Option Value) (put_by numbers : List ℤ) (effect : Effect) (go : Mode → Store → Outcome) → OnwardFollows w own put_by (state_of start put_by numbers) effect → ((result : Option Value) (store : Store) (after : List ℤ) → AreContents w.frame store after → InsideFollows w rest result put_by after (go (Running result) store)) → InsideFollows w (own ++ rest) start put_by numbers (continued effect go)
onward_then w own rest start put_by numbers (Fails reason) go h onward = tt
onward_then w own rest start put_by numbers (Goes (Seeking label result) store items) go h onward = absurd h
onward_then w own rest start put_by numbers (Goes (Returned result) store items) go h onward = absurd h
onward_then w own rest start put_by numbers (Goes (Running result) store items) go h onward = step (go (Running result) store) (onward result store h.0 h.1)
  where
    step : (o : Outcome) → InsideFollows w rest result put_by h.0 o → InsideFollows w (own ++ rest) start put_by numbers (after items o)
    step (Stuck reason) f = tt
    step (Done last new trace) f = (
      f.0,
      f.1,
      λ others. ap (λ (code : List Code). runs (flat w) code (Skips 0) (state_of start put_by numbers)) (append_assoc own rest others)
          ∙ (h.2 (rest ++ others)
          ∙ (ap (then_counted (length items)) (f.2 others)
          ∙ (counted_twice (length items) (length trace) (runs (flat w) others (Skips 0) (state_of last put_by f.0))
          ∙ ap (λ n. then_counted n (runs (flat w) others (Skips 0) (state_of last put_by f.0))) (sym (length-append items trace))))),
    )

-- a simple step stays
pub simple_stays : (step : Step) → is_simple step ≡ true → stays step ≡ true
simple_stays (Load negated operand) s = refl
simple_stays (StoreStep storing target) s = refl
simple_stays (Apply operator operand) s = refl
simple_stays Negate s = refl
simple_stays (Jump condition label) s = cc
simple_stays (Call condition instance arguments) s = cc
simple_stays (Return condition) s = cc

-- the parentheses inside a parenthesis, and after it
pub deeper : (inside rest n : ℕ) → max (1 + inside) rest + n ≤ 8 → (inside + suc n ≤ 8) × (rest + n ≤ 8) × (n < 8)
deeper inside rest n l = (omega (arith, l), omega (arith, l), omega (arith, l))

-- a parenthesis with what follows it
pub regrouped : (opening : Code) (inner : List Code) (operator : Operator) (others : List Code) → opening ∷ inner ++ Close operator ∷ others ≡ (opening ∷ inner ++ Close operator ∷ []) ++ others
regrouped opening inner operator others = ap (λ (code : List Code). opening ∷ code) (sym (append_assoc inner (Close operator ∷ []) others))

-- the lines inside a parenthesis
pub inside_follows : (w : Sides) → AreAlike w → (lines : Lines) → IsSimple lines → (code : List Code) → IsLowered w.here.scope lines code → (put_by : List ℤ) → depth lines + length put_by ≤ 8 → (start : Option Value) (store : Store) (numbers : List ℤ) → AreContents w.frame store numbers → InsideFollows w code start put_by numbers (means w.here lines (Running start) store)
inside_follows w alike End simple code lowered put_by l start store numbers contents =
    (numbers, contents, λ others. ap (λ (c : List Code). runs (flat w) (c ++ others) (Skips 0) (state_of start put_by numbers)) lowered ∙ sym (counted_none (runs (flat w) others (Skips 0) (state_of start put_by numbers))))
inside_follows w alike (Alone label rest) simple code lowered put_by l start store numbers contents = inside_follows w alike rest simple code lowered put_by l start store numbers contents
inside_follows w alike (Plain label number step rest) simple code lowered put_by l start store numbers contents =
    subst (λ (c : List Code). InsideFollows w c start put_by numbers (means w.here (Plain label number step rest) (Running start) store)) (sym lowered.whole)
    (onward_then w lowered.own lowered.others start put_by numbers (step_effect w.here number step start store) (means w.here rest)
    (staying_follows w alike put_by number store numbers contents start rest step (simple_stays step simple.0) lowered.own lowered.step)
    (λ result new left held. inside_follows w alike rest simple.1 lowered.others lowered.rest put_by l result new left held))
inside_follows w alike (Nested label number operator operand inside close rest) simple code lowered put_by l start store numbers contents =
    let d = deeper (depth inside) (depth rest) (length put_by) l in
    subst (λ (c : List Code). InsideFollows w c start put_by numbers (means w.here (Nested label number operator operand inside close rest) (Running start) store)) (sym (lowered.whole ∙ regrouped lowered.opening lowered.inner operator lowered.others))
    (onward_then w (lowered.opening ∷ lowered.inner ++ Close operator ∷ []) lowered.others start put_by numbers (nested_effect w.here number operator operand close (means w.here inside) (Running start) store) (means w.here rest)
    (nested_follows w alike lowered.opening lowered.inner number close operator operand lowered.opens start put_by d.2 store numbers contents (means w.here inside)
    (λ first more. inside_follows w alike inside simple.0 lowered.inner lowered.inside (more ∷ put_by) d.0 first store numbers contents))
    (λ result new left held. inside_follows w alike rest simple.1 lowered.others lowered.rest put_by d.1 result new left held))

-- the number of flat lines
pub step_lowered_length : (scope : Scope) (rest : Lines) (step : Step) (own : List Code) → IsStepLowered scope rest step own → length own ≡ step_length step
step_lowered_length scope rest (Load negated term) own lowered = ap (λ (c : List Code). length c) lowered.2
step_lowered_length scope rest (StoreStep storing target) own lowered = ap (λ (c : List Code). length c) lowered.2
step_lowered_length scope rest (Apply operator term) own lowered = ap (λ (c : List Code). length c) lowered.2
step_lowered_length scope rest Negate own lowered = ap (λ (c : List Code). length c) lowered
step_lowered_length scope rest (Jump condition label) own lowered = ap (λ (c : List Code). length c) lowered.2
step_lowered_length scope rest (Return condition) own lowered = ap (λ (c : List Code). length c) lowered
step_lowered_length scope rest (Call condition instance arguments) own lowered =
    let a = lowered_after scope condition instance arguments own lowered in
    let b = ap (λ (c : List Code). length c) lowered.is in
    omega (arith, a, b)

pub lowered_length : (scope : Scope) (lines : Lines) (code : List Code) → IsLowered scope lines code → length code ≡ flat_length lines
lowered_length scope End code lowered = ap (λ (c : List Code). length c) lowered
lowered_length scope (Alone label rest) code lowered = lowered_length scope rest code lowered
lowered_length scope (Plain label number step rest) code lowered =
    let a = step_lowered_length scope rest step lowered.own lowered.step in
    let b = lowered_length scope rest lowered.others lowered.rest in
    let c = ap (λ (c : List Code). length c) lowered.whole in
    let d = length-append lowered.own lowered.others in
    omega (arith, a, b, c, d)
lowered_length scope (Nested label number operator operand inside close rest) code lowered =
    let a = lowered_length scope inside lowered.inner lowered.inside in
    let b = lowered_length scope rest lowered.others lowered.rest in
    let c = ap (λ (c : List Code). length c) lowered.whole in
    let d = length-append lowered.inner (Close operator ∷ lowered.others) in
    omega (arith, a, b, c, d)

-- the course of a run before a line that has n flat lines, if it arrived
abbrev pub IsAfter : ℕ → Lines → Mode → Flow → Type 0
IsAfter n rest (Running result) course = course ≡ Skips 0
IsAfter n rest (Seeking label result) course = (m : ℕ) × (lines_ahead rest label ≡ Some m) × (course ≡ Skips (n + m))
IsAfter n rest (Returned result) course = course ≡ Ended

pub arrives : (lines rest : Lines) (word : Option Word) (n : ℕ) → ((label : Name) → lines_ahead lines label ≡ (if carries word label then Some 0 else option_map (λ m. n + m) (lines_ahead rest label))) → (mode : Mode) (course : Flow) → IsCourse lines mode course → IsAfter n rest (arriving word mode) course
arrives lines rest word n so (Running result) course is = is
arrives lines rest word n so (Returned result) course is = is
arrives lines rest word n so (Seeking label result) course is = step (carries word label) (sym (so label) ∙ is.1)
  where
    further : (o : Option ℕ) → lines_ahead rest label ≡ o → option_map (λ m. n + m) o ≡ Some is.0 → (m : ℕ) × (lines_ahead rest label ≡ Some m) × (course ≡ Skips (n + m))
    further None e f = cc
    further (Some m) e f = (m, e, is.2 ∙ ap Skips (one_number (Some is.0) is.0 (n + m) refl (sym f)))

    step : (b : Bool) → (if b then Some 0 else option_map (λ m. n + m) (lines_ahead rest label)) ≡ Some is.0 → IsAfter n rest (if b then Running result else Seeking label result) course
    step true e = is.2 ∙ ap Skips (one_number (Some is.0) is.0 0 refl (sym e))
    step false e = further (lines_ahead rest label) refl e

-- past a label alone
pub arrives_alone : (word : Word) (rest : Lines) (mode : Mode) (course : Flow) → IsCourse (Alone word rest) mode course → IsCourse rest (arriving (Some word) mode) course
arrives_alone word rest (Running result) course is = is
arrives_alone word rest (Returned result) course is = is
arrives_alone word rest (Seeking label result) course is = step (carries (Some word) label) is.1
  where
    step : (b : Bool) → (if b then Some 0 else lines_ahead rest label) ≡ Some is.0 → IsCourse rest (if b then Running result else Seeking label result) course
    step true e = is.2 ∙ ap Skips (one_number (Some is.0) is.0 0 refl (sym e))
    step false e = (is.0, e, is.2)

-- the result is the same
pub result_arriving : (word : Option Word) (mode : Mode) → result_in (arriving word mode) ≡ result_in mode
result_arriving word (Running result) = refl
result_arriving word (Returned result) = refl
result_arriving word (Seeking label result) = step (carries word label)
  where
    step : (b : Bool) → result_in (if b then Running result else Seeking label result) ≡ result
    step true = refl
    step false = refl

-- lines that are not executed
pub passing_follows : (w : Sides) (rest : Lines) (own : List Code) (n : ℕ) → length own ≡ n → (put_by : List ℤ) (store : Store) (numbers : List ℤ) → AreContents w.frame store numbers → (label : Name) (result : Option Value) (course : Flow) → IsAfter n rest (Seeking label result) course → EffectFollows w rest own put_by course (state_of result put_by numbers) (Goes (Seeking label result) store [])
passing_follows w rest own n so_many put_by store numbers contents label result course is = (
  Skips is.0,
  numbers,
  contents,
  (is.0, is.1, refl),
  λ others. ap (λ (c : Flow). runs (flat w) (own ++ others) c (state_of result put_by numbers)) (is.2 ∙ ap (λ k. Skips (k + is.0)) (sym so_many))
      ∙ (passed_over (flat w) own others is.0 (state_of result put_by numbers) ∙ sym (counted_none (runs (flat w) others (Skips is.0) (state_of result put_by numbers)))),
)

pub over_follows : (w : Sides) (rest : Lines) (own : List Code) (put_by : List ℤ) (store : Store) (numbers : List ℤ) → AreContents w.frame store numbers → (result : Option Value) (course : Flow) → course ≡ Ended → EffectFollows w rest own put_by course (state_of result put_by numbers) (Goes (Returned result) store [])
over_follows w rest own put_by store numbers contents result course is = (
  Ended,
  numbers,
  contents,
  refl,
  λ others. ap (λ (c : Flow). runs (flat w) (own ++ others) c (state_of result put_by numbers)) is
      ∙ (ended_over (flat w) own others (state_of result put_by numbers) ∙ sym (counted_none (runs (flat w) others Ended (state_of result put_by numbers)))),
)

-- a conditional line that leads elsewhere, or on
pub turning_follows : (w : Sides) (rest : Lines) (line : Code) (number : ℕ) (put_by : List ℤ) (store : Store) (numbers : List ℤ) → AreContents w.frame store numbers → (result : Option Value) (condition : Condition) (mode : Mode) → result_in mode ≡ result → (there : Flow) → IsCourse rest mode there → line_runs (flat w) (state_of result put_by numbers) line ≡ turns (state_of result put_by numbers) (acts condition (option_map value_number result)) there (Skips 0) → EffectFollows w rest (line ∷ []) put_by (Skips 0) (state_of result put_by numbers) (meaning.chosen (meaning.acts condition result) (Goes mode store (AtLine number ∷ [])) (Goes (Running result) store (AtLine number ∷ [])))
turning_follows w rest line number put_by store numbers contents result condition mode same there is runs_so =
    by_choice (EffectFollows w rest (line ∷ []) put_by (Skips 0) (state_of result put_by numbers)) (λ reason. tt)
    (meaning.acts condition result) (Goes mode store (AtLine number ∷ [])) (Goes (Running result) store (AtLine number ∷ []))
    (λ e. (there, numbers, contents, is, λ others. turned true e others ∙ ap (λ (r : Option Value). then_counted 1 (runs (flat w) others there (state_of r put_by numbers))) (sym same)))
    (λ e. (Skips 0, numbers, contents, refl, turned false e))
  where
    turned : (b : Bool) → meaning.acts condition result ≡ Ok b → (others : List Code) → runs (flat w) (line ∷ others) (Skips 0) (state_of result put_by numbers) ≡ then_counted 1 (runs (flat w) others (elim b as (λ x. Flow) [ true ↦ there | false ↦ Skips 0 ]) (state_of result put_by numbers))
    turned b e others =
        ap (λ (m : Option LineResult). followed m (runs (flat w) others))
        (runs_so ∙ ap (λ (x : Option Bool). turns (state_of result put_by numbers) x there (Skips 0)) (answer_given (meaning.acts condition result) (acts condition (option_map value_number result)) b (acts_follow condition result) e))

-- each step that is executed
pub step_follows : (w : Sides) → AreAlike w → (put_by : List ℤ) (number : ℕ) (store : Store) (numbers : List ℤ) → AreContents w.frame store numbers → (result : Option Value) (rest : Lines) (step : Step) (own : List Code) → IsStepLowered w.here.scope rest step own → EffectFollows w rest own put_by (Skips 0) (state_of result put_by numbers) (step_effect w.here number step result store)
step_follows w alike put_by number store numbers contents result rest (Jump condition label) own lowered =
    subst (λ (c : List Code). EffectFollows w rest c put_by (Skips 0) (state_of result put_by numbers) (step_effect w.here number (Jump condition label) result store)) (sym lowered.2)
    (turning_follows w rest (JumpLine condition lowered.0) number put_by store numbers contents result condition (Seeking label result) refl (Skips lowered.0) (lowered.0, lowered.1, refl) refl)
step_follows w alike put_by number store numbers contents result rest (Return condition) own lowered =
    subst (λ (c : List Code). EffectFollows w rest c put_by (Skips 0) (state_of result put_by numbers) (step_effect w.here number (Return condition) result store)) (sym lowered)
    (turning_follows w rest (ReturnLine condition) number put_by store numbers contents result condition (Returned result) refl Ended refl refl)
step_follows w alike put_by number store numbers contents result rest (Load negated term) own lowered = onward_effect w rest own put_by (state_of result put_by numbers) (step_effect w.here number (Load negated term) result store) (staying_follows w alike put_by number store numbers contents result rest (Load negated term) refl own lowered)
step_follows w alike put_by number store numbers contents result rest (StoreStep storing target) own lowered = onward_effect w rest own put_by (state_of result put_by numbers) (step_effect w.here number (StoreStep storing target) result store) (staying_follows w alike put_by number store numbers contents result rest (StoreStep storing target) refl own lowered)
step_follows w alike put_by number store numbers contents result rest (Apply operator term) own lowered = onward_effect w rest own put_by (state_of result put_by numbers) (step_effect w.here number (Apply operator term) result store) (staying_follows w alike put_by number store numbers contents result rest (Apply operator term) refl own lowered)
step_follows w alike put_by number store numbers contents result rest Negate own lowered = onward_effect w rest own put_by (state_of result put_by numbers) (step_effect w.here number Negate result store) (staying_follows w alike put_by number store numbers contents result rest Negate refl own lowered)
step_follows w alike put_by number store numbers contents result rest (Call condition instance arguments) own lowered = onward_effect w rest own put_by (state_of result put_by numbers) (step_effect w.here number (Call condition instance arguments) result store) (staying_follows w alike put_by number store numbers contents result rest (Call condition instance arguments) refl own lowered)

-- a line, executed or not
pub plain_follows : (w : Sides) → AreAlike w → (put_by : List ℤ) (number : ℕ) (store : Store) (numbers : List ℤ) → AreContents w.frame store numbers → (rest : Lines) (step : Step) (own : List Code) → IsStepLowered w.here.scope rest step own → (mode : Mode) (course : Flow) → IsAfter (step_length step) rest mode course → EffectFollows w rest own put_by course (state_of (result_in mode) put_by numbers) (line_effect w.here number step mode store)
plain_follows w alike put_by number store numbers contents rest step own lowered (Running result) course is =
    subst (λ (c : Flow). EffectFollows w rest own put_by c (state_of result put_by numbers) (step_effect w.here number step result store)) (sym is) (step_follows w alike put_by number store numbers contents result rest step own lowered)
plain_follows w alike put_by number store numbers contents rest step own lowered (Seeking label result) course is =
    passing_follows w rest own (step_length step) (step_lowered_length w.here.scope rest step own lowered) put_by store numbers contents label result course is
plain_follows w alike put_by number store numbers contents rest step own lowered (Returned result) course is = over_follows w rest own put_by store numbers contents result course is

-- a parenthesis, executed or not
pub parenthesis_follows : (w : Sides) → AreAlike w → (opening : Code) (inner : List Code) (number close : ℕ) (operator : Operator) (operand : Option Term) → IsOpening w.here.scope operand opening → (inside : Lines) → IsSimple inside → depth inside + 1 ≤ 8 → IsLowered w.here.scope inside inner → (store : Store) (numbers : List ℤ) → AreContents w.frame store numbers → (rest : Lines) (mode : Mode) (course : Flow) → IsAfter (2 + flat_length inside) rest mode course → EffectFollows w rest (opening ∷ inner ++ Close operator ∷ []) [] course (state_of (result_in mode) [] numbers) (nested_effect w.here number operator operand close (means w.here inside) mode store)
parenthesis_follows w alike opening inner number close operator operand is inside simple l lowered store numbers contents rest (Running result) course so =
    subst (λ (c : Flow). EffectFollows w rest (opening ∷ inner ++ Close operator ∷ []) [] c (state_of result [] numbers) (nested_effect w.here number operator operand close (means w.here inside) (Running result) store)) (sym so)
    (onward_effect w rest (opening ∷ inner ++ Close operator ∷ []) [] (state_of result [] numbers) (nested_effect w.here number operator operand close (means w.here inside) (Running result) store)
    (nested_follows w alike opening inner number close operator operand is result [] (omega arith) store numbers contents (means w.here inside)
    (λ start more. inside_follows w alike inside simple inner lowered (more ∷ []) l start store numbers contents)))
parenthesis_follows w alike opening inner number close operator operand is inside simple l lowered store numbers contents rest (Seeking label result) course so =
    passing_follows w rest (opening ∷ inner ++ Close operator ∷ []) (2 + flat_length inside) so_many [] store numbers contents label result course so
  where
    so_many : length (opening ∷ inner ++ Close operator ∷ []) ≡ 2 + flat_length inside
    so_many = let a = length-append inner (Close operator ∷ []) in let b = lowered_length w.here.scope inside inner lowered in omega (arith, a, b)
parenthesis_follows w alike opening inner number close operator operand is inside simple l lowered store numbers contents rest (Returned result) course so =
    over_follows w rest (opening ∷ inner ++ Close operator ∷ []) [] store numbers contents result course so

-- on from what a line does
pub effect_then : (w : Sides) (rest : Lines) (own others : List Code) (course : Flow) (state : State) (effect : Effect) (go : Mode → Store → Outcome) → EffectFollows w rest own [] course state effect → ((mode : Mode) (next : Flow) → IsCourse rest mode next → (store : Store) (numbers : List ℤ) → AreContents w.frame store numbers → BodyFollows w.frame (go mode store) (runs (flat w) others next (state_of (result_in mode) [] numbers))) → BodyFollows w.frame (continued effect go) (runs (flat w) (own ++ others) course state)
effect_then w rest own others course state (Fails reason) go h onward = tt
effect_then w rest own others course state (Goes mode store items) go h onward = step (go mode store) (onward mode h.0 h.3 store h.1 h.2)
  where
    step : (o : Outcome) → BodyFollows w.frame o (runs (flat w) others h.0 (state_of (result_in mode) [] h.1)) → BodyFollows w.frame (after items o) (runs (flat w) (own ++ others) course state)
    step (Stuck reason) f = tt
    step (Done last new trace) f = (
      counted (length items) f.0,
      h.4 others ∙ ap (then_counted (length items)) f.1,
      f.2,
      f.3,
      let a = length-append items trace in let b = f.4 in omega (arith, a, b),
    )

-- the lines left
pub lines_follow : (w : Sides) → AreAlike w → (lines : Lines) → NestsSimply lines → depth lines ≤ 8 → (code : List Code) → IsLowered w.here.scope lines code → (mode : Mode) (course : Flow) → IsCourse lines mode course → (store : Store) (numbers : List ℤ) → AreContents w.frame store numbers → BodyFollows w.frame (means w.here lines mode store) (runs (flat w) code course (state_of (result_in mode) [] numbers))
lines_follow w alike End simple l code lowered (Running result) course is store numbers contents =
    (ended (state_of result [] numbers), ap (λ (c : List Code). runs (flat w) c course (state_of result [] numbers)) lowered ∙ ap (λ (c : Flow). runs (flat w) [] c (state_of result [] numbers)) is, refl, contents, refl)
lines_follow w alike End simple l code lowered (Returned result) course is store numbers contents =
    (ended (state_of result [] numbers), ap (λ (c : List Code). runs (flat w) c course (state_of result [] numbers)) lowered ∙ ap (λ (c : Flow). runs (flat w) [] c (state_of result [] numbers)) is, refl, contents, refl)
lines_follow w alike End simple l code lowered (Seeking label result) course is store numbers contents = tt
lines_follow w alike (Alone word rest) simple l code lowered mode course is store numbers contents =
    subst (λ (r : Option Value). BodyFollows w.frame (means w.here rest (arriving (Some word) mode) store) (runs (flat w) code course (state_of r [] numbers))) (result_arriving (Some word) mode)
    (lines_follow w alike rest simple l code lowered (arriving (Some word) mode) course (arrives_alone word rest mode course is) store numbers contents)
lines_follow w alike (Plain word number step rest) simple l code lowered mode course is store numbers contents =
    subst (λ (c : List Code). BodyFollows w.frame (means w.here (Plain word number step rest) mode store) (runs (flat w) c course (state_of (result_in mode) [] numbers))) (sym lowered.whole)
    (subst (λ (r : Option Value). BodyFollows w.frame (means w.here (Plain word number step rest) mode store) (runs (flat w) (lowered.own ++ lowered.others) course (state_of r [] numbers))) (result_arriving word mode)
    (effect_then w rest lowered.own lowered.others course (state_of (result_in (arriving word mode)) [] numbers) (line_effect w.here number step (arriving word mode) store) (means w.here rest)
    (plain_follows w alike [] number store numbers contents rest step lowered.own lowered.step (arriving word mode) course (arrives (Plain word number step rest) rest word (step_length step) (λ label. refl) mode course is))
    (λ onward next so new left held. lines_follow w alike rest simple l lowered.others lowered.rest onward next so new left held)))
lines_follow w alike (Nested word number operator operand inside close rest) simple l code lowered mode course is store numbers contents =
    subst (λ (c : List Code). BodyFollows w.frame (means w.here (Nested word number operator operand inside close rest) mode store) (runs (flat w) c course (state_of (result_in mode) [] numbers))) (sym (lowered.whole ∙ regrouped lowered.opening lowered.inner operator lowered.others))
    (subst (λ (r : Option Value). BodyFollows w.frame (means w.here (Nested word number operator operand inside close rest) mode store) (runs (flat w) ((lowered.opening ∷ lowered.inner ++ Close operator ∷ []) ++ lowered.others) course (state_of r [] numbers))) (result_arriving word mode)
    (effect_then w rest (lowered.opening ∷ lowered.inner ++ Close operator ∷ []) lowered.others course (state_of (result_in (arriving word mode)) [] numbers) (nested_effect w.here number operator operand close (means w.here inside) (arriving word mode) store) (means w.here rest)
    (parenthesis_follows w alike lowered.opening lowered.inner number close operator operand lowered.opens inside simple.0 (omega (arith, l)) lowered.inside store numbers contents rest (arriving word mode) course (arrives (Nested word number operator operand inside close rest) rest word (2 + flat_length inside) (λ label. refl) mode course is))
    (λ onward next so new left held. lines_follow w alike rest simple.1 (omega (arith, l)) lowered.others lowered.rest onward next so new left held)))
