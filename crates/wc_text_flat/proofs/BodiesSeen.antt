-- What is seen of flat code is what is seen of the body that it is: parentheses, jumps, returns, and the lines one after another.
use Rattle.std.proofs.Common.{◌≡◌, ℕ, ◌+◌, ◌≤◌, ◌<◌, Bool, true, false, List, [], ◌∷◌, ◌++◌, length, Option, Some, None, Result, Ok, Err, ℤ, append_assoc, refl, sym, ap, subst, ◌∙◌, arith}
use Rattle.std.proofs.lemmas.List.{length-append}
use Rattle.std.specs.Option.{option_map}
use Rattle.wc_text_flat.proofs.Bodies.{stays, opened_by, simple_stays, deeper as depths, regrouped, step_lowered_length, lowered_length, IsAfter, arrives, arrives_alone, result_arriving}
use Rattle.wc_text_flat.proofs.CallLines.{answer_given}
use Rattle.wc_text_flat.proofs.Lines.{operand_number, operand_read, load_follows, load_negated_follows, store_follows, apply_follows, not_follows}
use Rattle.wc_text_flat.proofs.Sides.{Sides, flat, state_of, IsCourse, result_in, by_choice}
use Rattle.wc_text_flat.proofs.Values.{value_number, ReadsAs, apply_number_follows, acts_follow}
use Rattle.wc_text_flat.specs.{AreContents, State, Flow, Skips, Ended, goes_on, opens, turns, line_runs, step_sources, sources_of, Operand, Number, At as AtPlace, load_line, apply_line, short_line, IsStepLowered, IsOpening, step_length, flat_length, IsLowered, given, apply_number, acts}
use Rattle.wc_model.specs.Definitions.{depth, Outcome, Done, Stuck, Mode, Running, Seeking, Returned, Effect, Goes, Fails, arriving, after, continued, from_value, value_of, step_effect, line_effect, closed, nested_effect, means, Name, apply, Reason, Store, At as AtLine}
use Rattle.wc_model.specs.Language.Meaning as meaning
use Rattle.wc_model.specs.Language.Tree.{Term, Step, Load, Store as StoreStep, Apply, Negate, Jump, Call, Return, Lines, End, Alone, Plain, Nested}
use Rattle.wc_model.specs.declared.code.Code.{Code}
use Rattle.wc_model.specs.declared.code.Code.TheVariants.{Store as StoreLine, Not, Close, Jump as JumpLine, Return as ReturnLine}
use Rattle.wc_model.specs.declared.operator.Condition.{Condition}
use Rattle.wc_model.specs.declared.operator.Operator.{Operator}
use Rattle.wc_model.specs.declared.value.Value.{Value}
use Rattle.wc_laws_language.specs.SoundnessLaws.{IsSimple, NestsSimply}
use Rattle.wc_text_flat.proofs.CallsSeen.{call_seen, call_sources_after}
use Rattle.wc_text_flat.proofs.SeenSides.{OutcomeSeen, AreSeenAlike, OnwardSeen, EffectSeen, onward_effect_seen, seen_append, entry, line_then, line_seen, passed_unseen, ended_unseen, body_line_runs_none}
use Rattle.wc_text_flat.specs.FlatSeen.{FlatSeen, FlatSeenCalls, flat_seen, is_body_line, AreSeenAs}
use Rattle.wc_text_flat.specs.Seen.{Seen, SeenCalls, seen_at, seen_effect, seen_from, seen_step, seen_line, seen_inside, seen_nested, seen_lines}
use Rattle.wc_text_flat.specs.Seen as seeing

-- lines of a body
pub load_is_own : (negated : Bool) (operand : Operand) → is_body_line (load_line negated operand) ≡ true
load_is_own negated (Number n) = refl
load_is_own negated (AtPlace place) = refl

pub apply_is_own : (operator : Operator) (operand : Operand) → is_body_line (apply_line operator operand) ≡ true
apply_is_own operator (Number n) = refl
apply_is_own operator (AtPlace place) = refl

pub short_is_own : (operand : Operand) → is_body_line (short_line operand) ≡ true
short_is_own (Number n) = refl
short_is_own (AtPlace place) = refl

-- a step that is executed and is neither a jump nor a return
pub staying_seen : (w : Sides) (calls : SeenCalls) (flats : FlatSeenCalls) → AreSeenAlike w calls flats → (put_by : List ℤ) (number : ℕ) (store : Store) (numbers : List ℤ) → AreContents w.frame store numbers → (result : Option Value) (rest : Lines) (step : Step) → stays step ≡ true → (own : List Code) → IsStepLowered w.here.scope rest step own → OnwardSeen w flats (step_sources number step) own put_by (state_of result put_by numbers) (step_effect w.here number step result store) (seen_step w.here calls number step result store)
staying_seen w calls flats alike put_by number store numbers contents result rest (Load false term) s own lowered =
    subst (λ (c : List Code). OnwardSeen w flats (number ∷ []) c put_by (state_of result put_by numbers) (step_effect w.here number (Load false term) result store) (seen_effect number (step_effect w.here number (Load false term) result store))) (sym lowered.2)
    (line_seen w flats number (load_line false lowered.0) put_by (state_of result put_by numbers) (step_effect w.here number (Load false term) result store) (load_is_own false lowered.0) (load_follows w alike.alike put_by number store numbers contents result term lowered.0 lowered.1))
staying_seen w calls flats alike put_by number store numbers contents result rest (Load true term) s own lowered =
    subst (λ (c : List Code). OnwardSeen w flats (number ∷ []) c put_by (state_of result put_by numbers) (step_effect w.here number (Load true term) result store) (seen_effect number (step_effect w.here number (Load true term) result store))) (sym lowered.2)
    (line_seen w flats number (load_line true lowered.0) put_by (state_of result put_by numbers) (step_effect w.here number (Load true term) result store) (load_is_own true lowered.0) (load_negated_follows w alike.alike put_by number store numbers contents result term lowered.0 lowered.1))
staying_seen w calls flats alike put_by number store numbers contents result rest (StoreStep storing target) s own lowered =
    subst (λ (c : List Code). OnwardSeen w flats (number ∷ []) c put_by (state_of result put_by numbers) (step_effect w.here number (StoreStep storing target) result store) (seen_effect number (step_effect w.here number (StoreStep storing target) result store))) (sym lowered.2)
    (line_seen w flats number (StoreLine storing lowered.0) put_by (state_of result put_by numbers) (step_effect w.here number (StoreStep storing target) result store) refl (store_follows w alike.alike put_by number store numbers contents result storing target lowered.0 lowered.1))
staying_seen w calls flats alike put_by number store numbers contents result rest (Apply operator term) s own lowered =
    subst (λ (c : List Code). OnwardSeen w flats (number ∷ []) c put_by (state_of result put_by numbers) (step_effect w.here number (Apply operator term) result store) (seen_effect number (step_effect w.here number (Apply operator term) result store))) (sym lowered.2)
    (line_seen w flats number (apply_line operator lowered.0) put_by (state_of result put_by numbers) (step_effect w.here number (Apply operator term) result store) (apply_is_own operator lowered.0) (apply_follows w alike.alike put_by number store numbers contents result operator term lowered.0 lowered.1))
staying_seen w calls flats alike put_by number store numbers contents result rest Negate s own lowered =
    subst (λ (c : List Code). OnwardSeen w flats (number ∷ []) c put_by (state_of result put_by numbers) (step_effect w.here number Negate result store) (seen_effect number (step_effect w.here number Negate result store))) (sym lowered)
    (line_seen w flats number Not put_by (state_of result put_by numbers) (step_effect w.here number Negate result store) refl (not_follows w put_by number store numbers contents result))
staying_seen w calls flats alike put_by number store numbers contents result rest (Jump condition label) s own lowered = cc
staying_seen w calls flats alike put_by number store numbers contents result rest (Call condition instance arguments) s own lowered =
    subst (λ (c : List Code). OnwardSeen w flats (step_sources number (Call condition instance arguments)) c put_by (state_of result put_by numbers) (step_effect w.here number (Call condition instance arguments) result store) (seen_step w.here calls number (Call condition instance arguments) result store)) (sym lowered.is)
    (call_seen w calls flats alike number result put_by store numbers contents condition instance arguments own lowered)
staying_seen w calls flats alike put_by number store numbers contents result rest (Return condition) s own lowered = cc

-- what is seen of flat lines is what is seen of lines inside a parenthesis, which are executed one after another
abbrev pub InsideSeen : Sides → FlatSeenCalls → List ℕ → List Code → Option Value → List ℤ → List ℤ → Outcome → List Seen → Type 0
InsideSeen w flats sources code start put_by numbers (Done result new trace) seen =
    (left : List ℤ) × AreContents w.frame new left × ((fs : List FlatSeen) × AreSeenAs w.frame seen fs
    × ((more : List ℕ) (others : List Code) → flat_seen (flat w) flats (sources ++ more) (code ++ others) (Skips 0) (state_of start put_by numbers) ≡ fs ++ flat_seen (flat w) flats more others (Skips 0) (state_of result put_by left)))
InsideSeen w flats sources code start put_by numbers (Stuck reason) seen = Unit {0}

-- the `)` after lines that are seen
pub closing_seen : (w : Sides) (flats : FlatSeenCalls) (opening : Code) (sources : List ℕ) (inner : List Code) (number close : ℕ) (operator : Operator) (outer : Value) (start : Option Value) (put_by : List ℤ) (store : Store) (numbers : List ℤ) → AreContents w.frame store numbers → is_body_line opening ≡ true → line_runs (flat w) (state_of (Some outer) put_by numbers) opening ≡ goes_on (state_of start (value_number outer ∷ put_by) numbers) → (o : Outcome) (seen : List Seen) → InsideSeen w flats sources inner start (value_number outer ∷ put_by) numbers o seen → OnwardSeen w flats (number ∷ sources ++ close ∷ []) (opening ∷ inner ++ Close operator ∷ []) put_by (state_of (Some outer) put_by numbers) (closed number operator close outer o) (seen_at (AtLine number) start store ∷ seen ++ seen_effect close (closed number operator close outer o))
closing_seen w flats opening sources inner number close operator outer start put_by store numbers contents own runs_so (Stuck reason) seen h = tt
closing_seen w flats opening sources inner number close operator outer start put_by store numbers contents own runs_so (Done None new trace) seen h = tt
closing_seen w flats opening sources inner number close operator outer start put_by store numbers contents own runs_so (Done (Some value) new trace) seen h = step (apply operator outer value) (apply_number_follows operator outer value)
  where
    effect : Result Value Reason → Effect
    effect r = from_value r (λ result. Goes (Running (Some result)) new (AtLine number ∷ trace ++ AtLine close ∷ []))

    step : (r : Result Value Reason) → ReadsAs r (apply_number operator (value_number outer) (value_number value)) → OnwardSeen w flats (number ∷ sources ++ close ∷ []) (opening ∷ inner ++ Close operator ∷ []) put_by (state_of (Some outer) put_by numbers) (effect r) (seen_at (AtLine number) start store ∷ seen ++ seen_effect close (effect r))
    step (Err reason) e = tt
    step (Ok result) e = (
      h.0,
      h.1,
      (
        first ∷ h.2.0 ++ last ∷ [],
        (record { item = (refl, refl, own); result = refl; contents = contents }, seen_append w.frame seen (seen_at (AtLine close) (Some result) new ∷ []) h.2.0 (last ∷ []) h.2.1 (record { item = (refl, refl, refl); result = refl; contents = h.1 }, tt)),
        λ more others. line_then w flats number opening (state_of (Some outer) put_by numbers) _ (body_line_runs_none opening own) runs_so ((sources ++ close ∷ []) ++ more) ((inner ++ Close operator ∷ []) ++ others)
            ∙ ap (λ (l : List FlatSeen). first ∷ l)
            (ap (λ (s : List ℕ). flat_seen (flat w) flats s ((inner ++ Close operator ∷ []) ++ others) (Skips 0) (state_of start (value_number outer ∷ put_by) numbers)) (append_assoc sources (close ∷ []) more)
            ∙ (ap (λ (c : List Code). flat_seen (flat w) flats (sources ++ close ∷ more) c (Skips 0) (state_of start (value_number outer ∷ put_by) numbers)) (append_assoc inner (Close operator ∷ []) others)
            ∙ (h.2.2 (close ∷ more) (Close operator ∷ others)
            ∙ (ap (λ (l : List FlatSeen). h.2.0 ++ l) (line_then w flats close (Close operator) (state_of (Some value) (value_number outer ∷ put_by) h.0) _ tt (ap (λ (m : Option ℤ). given m (λ n. goes_on (record { result = Some n; put_by = put_by; numbers = h.0 }))) e) more others)
            ∙ sym (append_assoc h.2.0 (last ∷ []) (flat_seen (flat w) flats more others (Skips 0) (state_of (Some result) put_by h.0))))))),
      ),
    )
      where
        first : FlatSeen
        first = entry w number opening (state_of (Some outer) put_by numbers) (state_of start (value_number outer ∷ put_by) numbers)

        last : FlatSeen
        last = entry w close (Close operator) (state_of (Some value) (value_number outer ∷ put_by) h.0) (state_of (Some result) put_by h.0)

-- a parenthesis, if flat lines are the lines inside
pub nested_seen : (w : Sides) (calls : SeenCalls) (flats : FlatSeenCalls) → AreSeenAlike w calls flats → (opening : Code) (sources : List ℕ) (inner : List Code) (number close : ℕ) (operator : Operator) (operand : Option Term) → IsOpening w.here.scope operand opening → (result : Option Value) (put_by : List ℤ) → length put_by < 8 → (store : Store) (numbers : List ℤ) → AreContents w.frame store numbers → (inside : Mode → Store → Outcome) (seen : Mode → Store → List Seen) → ((start : Option Value) (more : ℤ) → InsideSeen w flats sources inner start (more ∷ put_by) numbers (inside (Running start) store) (seen (Running start) store)) → OnwardSeen w flats (number ∷ sources ++ close ∷ []) (opening ∷ inner ++ Close operator ∷ []) put_by (state_of result put_by numbers) (nested_effect w.here number operator operand close inside (Running result) store) (seen_nested w.here number operator operand close seen inside (Running result) store)
nested_seen w calls flats alike opening sources inner number close operator operand is None put_by l store numbers contents inside seen h = tt
nested_seen w calls flats alike opening sources inner number close operator None is (Some outer) put_by l store numbers contents inside seen h =
    closing_seen w flats opening sources inner number close operator outer None put_by store numbers contents (subst (λ (c : Code). is_body_line c ≡ true) (sym is) refl) (ap (line_runs (flat w) (state_of (Some outer) put_by numbers)) is ∙ opened_by put_by numbers outer None l) (inside (Running None) store) (seen (Running None) store) (h None (value_number outer))
nested_seen w calls flats alike opening sources inner number close operator (Some term) is (Some outer) put_by l store numbers contents inside seen h = step (value_of w.here store term) (operand_read w alike.alike store numbers contents term is.0 is.1)
  where
    line : (o : Operand) → line_runs (flat w) (state_of (Some outer) put_by numbers) (short_line o) ≡ given (operand_number w numbers o) (λ n. opens (state_of (Some outer) put_by numbers) (Some n))
    line (Number n) = refl
    line (AtPlace place) = refl

    step : (r : Result Value Reason) → ReadsAs r (operand_number w numbers is.0) → OnwardSeen w flats (number ∷ sources ++ close ∷ []) (opening ∷ inner ++ Close operator ∷ []) put_by (state_of (Some outer) put_by numbers) (closed number operator close outer (elim r as (λ x. Outcome) [ Ok value ↦ inside (Running (Some value)) store | Err reason ↦ Stuck reason ])) (elim r as (λ x. List Seen) [ Ok value ↦ seen_inside number operator close outer seen inside store (Some value) | Err reason ↦ [] ])
    step (Err reason) e = tt
    step (Ok value) e =
        closing_seen w flats opening sources inner number close operator outer (Some value) put_by store numbers contents (subst (λ (c : Code). is_body_line c ≡ true) (sym is.2) (short_is_own is.0))
        (ap (line_runs (flat w) (state_of (Some outer) put_by numbers)) is.2 ∙ (line is.0 ∙ (ap (λ (x : Option ℤ). given x (λ n. opens (state_of (Some outer) put_by numbers) (Some n))) e ∙ opened_by put_by numbers outer (Some (value_number value)) l)))
        (inside (Running (Some value)) store) (seen (Running (Some value)) store) (h (Some value) (value_number outer))

-- on from an effect that stays
pub onward_then_seen : (w : Sides) (flats : FlatSeenCalls) (sources following : List ℕ) (own rest : List Code) (start : Option Value) (put_by numbers : List ℤ) (effect : Effect) (seen : List Seen) (go : Mode → Store → Outcome) (seen_go : Mode → Store → List Seen) → OnwardSeen w flats sources own put_by (state_of start put_by numbers) effect seen → ((result : Option Value) (store : Store) (after : List ℤ) → AreContents w.frame store after → InsideSeen w flats following rest result put_by after (go (Running result) store) (seen_go (Running result) store)) → InsideSeen w flats (sources ++ following) (own ++ rest) start put_by numbers (continued effect go) (seen ++ seen_from effect seen_go)
onward_then_seen w flats sources following own rest start put_by numbers (Fails reason) seen go seen_go h onward = tt
onward_then_seen w flats sources following own rest start put_by numbers (Goes (Seeking label result) store items) seen go seen_go h onward = absurd h
onward_then_seen w flats sources following own rest start put_by numbers (Goes (Returned result) store items) seen go seen_go h onward = absurd h
onward_then_seen w flats sources following own rest start put_by numbers (Goes (Running result) store items) seen go seen_go h onward = step (go (Running result) store) (seen_go (Running result) store) (onward result store h.0 h.1)
  where
    step : (o : Outcome) (others_seen : List Seen) → InsideSeen w flats following rest result put_by h.0 o others_seen → InsideSeen w flats (sources ++ following) (own ++ rest) start put_by numbers (after items o) (seen ++ others_seen)
    step (Stuck reason) others_seen f = tt
    step (Done last new trace) others_seen f = (
      f.0,
      f.1,
      (
        h.2.0 ++ f.2.0,
        seen_append w.frame seen others_seen h.2.0 f.2.0 h.2.1 f.2.1,
        λ more others. ap (λ (s : List ℕ). flat_seen (flat w) flats s ((own ++ rest) ++ others) (Skips 0) (state_of start put_by numbers)) (append_assoc sources following more)
            ∙ (ap (λ (c : List Code). flat_seen (flat w) flats (sources ++ (following ++ more)) c (Skips 0) (state_of start put_by numbers)) (append_assoc own rest others)
            ∙ (h.2.2 (following ++ more) (rest ++ others)
            ∙ (ap (λ (l : List FlatSeen). h.2.0 ++ l) (f.2.2 more others)
            ∙ sym (append_assoc h.2.0 f.2.0 (flat_seen (flat w) flats more others (Skips 0) (state_of last put_by f.0)))))),
      ),
    )

-- the lines of a parenthesis with what follows it
pub regrouped_sources : (number close : ℕ) (inner others : List ℕ) → number ∷ inner ++ close ∷ others ≡ (number ∷ inner ++ close ∷ []) ++ others
regrouped_sources number close inner others = ap (λ (s : List ℕ). number ∷ s) (sym (append_assoc inner (close ∷ []) others))

-- the lines inside a parenthesis
pub inside_seen : (w : Sides) (calls : SeenCalls) (flats : FlatSeenCalls) → AreSeenAlike w calls flats → (lines : Lines) → IsSimple lines → (code : List Code) → IsLowered w.here.scope lines code → (put_by : List ℤ) → depth lines + length put_by ≤ 8 → (start : Option Value) (store : Store) (numbers : List ℤ) → AreContents w.frame store numbers → InsideSeen w flats (sources_of lines) code start put_by numbers (means w.here lines (Running start) store) (seen_lines w.here calls lines (Running start) store)
inside_seen w calls flats alike End simple code lowered put_by l start store numbers contents =
    (numbers, contents, ([], tt, λ more others. ap (λ (c : List Code). flat_seen (flat w) flats more (c ++ others) (Skips 0) (state_of start put_by numbers)) lowered))
inside_seen w calls flats alike (Alone label rest) simple code lowered put_by l start store numbers contents = inside_seen w calls flats alike rest simple code lowered put_by l start store numbers contents
inside_seen w calls flats alike (Plain label number step rest) simple code lowered put_by l start store numbers contents =
    subst (λ (c : List Code). InsideSeen w flats (step_sources number step ++ sources_of rest) c start put_by numbers (means w.here (Plain label number step rest) (Running start) store) (seen_lines w.here calls (Plain label number step rest) (Running start) store)) (sym lowered.whole)
    (onward_then_seen w flats (step_sources number step) (sources_of rest) lowered.own lowered.others start put_by numbers (step_effect w.here number step start store) (seen_step w.here calls number step start store) (means w.here rest) (seen_lines w.here calls rest)
    (staying_seen w calls flats alike put_by number store numbers contents start rest step (simple_stays step simple.0) lowered.own lowered.step)
    (λ result new left held. inside_seen w calls flats alike rest simple.1 lowered.others lowered.rest put_by l result new left held))
inside_seen w calls flats alike (Nested label number operator operand inside close rest) simple code lowered put_by l start store numbers contents =
    let d = depths (depth inside) (depth rest) (length put_by) l in
    subst (λ (s : List ℕ). InsideSeen w flats s code start put_by numbers (means w.here (Nested label number operator operand inside close rest) (Running start) store) (seen_lines w.here calls (Nested label number operator operand inside close rest) (Running start) store)) (sym (regrouped_sources number close (sources_of inside) (sources_of rest)))
    (subst (λ (c : List Code). InsideSeen w flats ((number ∷ sources_of inside ++ close ∷ []) ++ sources_of rest) c start put_by numbers (means w.here (Nested label number operator operand inside close rest) (Running start) store) (seen_lines w.here calls (Nested label number operator operand inside close rest) (Running start) store)) (sym (lowered.whole ∙ regrouped lowered.opening lowered.inner operator lowered.others))
    (onward_then_seen w flats (number ∷ sources_of inside ++ close ∷ []) (sources_of rest) (lowered.opening ∷ lowered.inner ++ Close operator ∷ []) lowered.others start put_by numbers (nested_effect w.here number operator operand close (means w.here inside) (Running start) store) (seen_nested w.here number operator operand close (seen_lines w.here calls inside) (means w.here inside) (Running start) store) (means w.here rest) (seen_lines w.here calls rest)
    (nested_seen w calls flats alike lowered.opening (sources_of inside) lowered.inner number close operator operand lowered.opens start put_by d.2 store numbers contents (means w.here inside) (seen_lines w.here calls inside)
    (λ first more. inside_seen w calls flats alike inside simple.0 lowered.inner lowered.inside (more ∷ put_by) d.0 first store numbers contents))
    (λ result new left held. inside_seen w calls flats alike rest simple.1 lowered.others lowered.rest put_by d.1 result new left held)))

-- as many lines of the text as flat lines
pub step_sources_length : (number : ℕ) (step : Step) → length (step_sources number step) ≡ step_length step
step_sources_length number (Load negated operand) = refl
step_sources_length number (StoreStep storing target) = refl
step_sources_length number (Apply operator operand) = refl
step_sources_length number Negate = refl
step_sources_length number (Jump condition label) = refl
step_sources_length number (Return condition) = refl
step_sources_length number (Call condition instance arguments) = let a = call_sources_after number arguments in omega (arith, a)

pub sources_length : (lines : Lines) → length (sources_of lines) ≡ flat_length lines
sources_length End = refl
sources_length (Alone label rest) = sources_length rest
sources_length (Plain label number step rest) =
    let a = length-append (step_sources number step) (sources_of rest) in
    let b = step_sources_length number step in
    let c = sources_length rest in
    omega (arith, a, b, c)
sources_length (Nested label number operator operand inside close rest) =
    let a = length-append (sources_of inside) (close ∷ sources_of rest) in
    let b = sources_length inside in
    let c = sources_length rest in
    omega (arith, a, b, c)

-- lines that are not executed
pub passing_seen : (w : Sides) (flats : FlatSeenCalls) (rest : Lines) (sources : List ℕ) (own : List Code) (n : ℕ) → length own ≡ n → length sources ≡ n → (put_by : List ℤ) (store : Store) (numbers : List ℤ) → AreContents w.frame store numbers → (label : Name) (result : Option Value) (course : Flow) → IsAfter n rest (Seeking label result) course → EffectSeen w flats rest sources own put_by course (state_of result put_by numbers) (Goes (Seeking label result) store []) []
passing_seen w flats rest sources own n so_many as_many put_by store numbers contents label result course is = (
  Skips is.0,
  numbers,
  contents,
  (is.0, is.1, refl),
  (
    [],
    tt,
    λ more others. ap (λ (c : Flow). flat_seen (flat w) flats (sources ++ more) (own ++ others) c (state_of result put_by numbers)) (is.2 ∙ ap (λ k. Skips (k + is.0)) (sym so_many))
        ∙ passed_unseen (flat w) flats sources more own others (as_many ∙ sym so_many) is.0 (state_of result put_by numbers),
  ),
)

pub over_seen : (w : Sides) (flats : FlatSeenCalls) (rest : Lines) (sources : List ℕ) (own : List Code) (put_by : List ℤ) (store : Store) (numbers : List ℤ) → AreContents w.frame store numbers → (result : Option Value) (course : Flow) → course ≡ Ended → EffectSeen w flats rest sources own put_by course (state_of result put_by numbers) (Goes (Returned result) store []) []
over_seen w flats rest sources own put_by store numbers contents result course is = (
  Ended,
  numbers,
  contents,
  refl,
  (
    [],
    tt,
    λ more others. ap (λ (c : Flow). flat_seen (flat w) flats (sources ++ more) (own ++ others) c (state_of result put_by numbers)) is
        ∙ (ended_unseen (flat w) flats (sources ++ more) (own ++ others) (state_of result put_by numbers) ∙ sym (ended_unseen (flat w) flats more others (state_of result put_by numbers))),
  ),
)

-- a conditional line that leads elsewhere, or on
pub turning_seen : (w : Sides) (flats : FlatSeenCalls) (rest : Lines) (line : Code) → is_body_line line ≡ true → (number : ℕ) (put_by : List ℤ) (store : Store) (numbers : List ℤ) → AreContents w.frame store numbers → (result : Option Value) (condition : Condition) (mode : Mode) → result_in mode ≡ result → seeing.result_in mode ≡ result → (there : Flow) → IsCourse rest mode there → line_runs (flat w) (state_of result put_by numbers) line ≡ turns (state_of result put_by numbers) (acts condition (option_map value_number result)) there (Skips 0) → EffectSeen w flats rest (number ∷ []) (line ∷ []) put_by (Skips 0) (state_of result put_by numbers) (meaning.chosen (meaning.acts condition result) (Goes mode store (AtLine number ∷ [])) (Goes (Running result) store (AtLine number ∷ []))) (seen_effect number (meaning.chosen (meaning.acts condition result) (Goes mode store (AtLine number ∷ [])) (Goes (Running result) store (AtLine number ∷ []))))
turning_seen w flats rest line own number put_by store numbers contents result condition mode same same_seen there is runs_so =
    by_choice (λ effect. EffectSeen w flats rest (number ∷ []) (line ∷ []) put_by (Skips 0) state effect (seen_effect number effect)) (λ reason. tt)
    (meaning.acts condition result) (Goes mode store (AtLine number ∷ [])) (Goes (Running result) store (AtLine number ∷ []))
    (λ e. (
      there,
      numbers,
      contents,
      is,
      (
        entry w number line state state ∷ [],
        (record { item = (refl, refl, own); result = ap (λ (r : Option Value). option_map value_number r) (sym same_seen); contents = contents }, tt),
        λ more others. turned true e more others ∙ ap (λ (r : Option Value). entry w number line state state ∷ flat_seen (flat w) flats more others there (state_of r put_by numbers)) (sym same),
      ),
    ))
    (λ e. (Skips 0, numbers, contents, refl, (entry w number line state state ∷ [], (record { item = (refl, refl, own); result = refl; contents = contents }, tt), turned false e)))
  where
    state : State
    state = state_of result put_by numbers

    turned : (b : Bool) → meaning.acts condition result ≡ Ok b → (more : List ℕ) (others : List Code) → flat_seen (flat w) flats (number ∷ more) (line ∷ others) (Skips 0) state ≡ entry w number line state state ∷ flat_seen (flat w) flats more others (elim b as (λ x. Flow) [ true ↦ there | false ↦ Skips 0 ]) state
    turned b e more others =
        line_then w flats number line state _ (body_line_runs_none line own)
        (runs_so ∙ ap (λ (x : Option Bool). turns state x there (Skips 0)) (answer_given (meaning.acts condition result) (acts condition (option_map value_number result)) b (acts_follow condition result) e)) more others

-- each step that is executed
pub step_seen : (w : Sides) (calls : SeenCalls) (flats : FlatSeenCalls) → AreSeenAlike w calls flats → (put_by : List ℤ) (number : ℕ) (store : Store) (numbers : List ℤ) → AreContents w.frame store numbers → (result : Option Value) (rest : Lines) (step : Step) (own : List Code) → IsStepLowered w.here.scope rest step own → EffectSeen w flats rest (step_sources number step) own put_by (Skips 0) (state_of result put_by numbers) (step_effect w.here number step result store) (seen_step w.here calls number step result store)
step_seen w calls flats alike put_by number store numbers contents result rest (Jump condition label) own lowered =
    subst (λ (c : List Code). EffectSeen w flats rest (number ∷ []) c put_by (Skips 0) (state_of result put_by numbers) (step_effect w.here number (Jump condition label) result store) (seen_step w.here calls number (Jump condition label) result store)) (sym lowered.2)
    (turning_seen w flats rest (JumpLine condition lowered.0) refl number put_by store numbers contents result condition (Seeking label result) refl refl (Skips lowered.0) (lowered.0, lowered.1, refl) refl)
step_seen w calls flats alike put_by number store numbers contents result rest (Return condition) own lowered =
    subst (λ (c : List Code). EffectSeen w flats rest (number ∷ []) c put_by (Skips 0) (state_of result put_by numbers) (step_effect w.here number (Return condition) result store) (seen_step w.here calls number (Return condition) result store)) (sym lowered)
    (turning_seen w flats rest (ReturnLine condition) refl number put_by store numbers contents result condition (Returned result) refl refl Ended refl refl)
step_seen w calls flats alike put_by number store numbers contents result rest (Load negated term) own lowered = onward_effect_seen w flats rest (number ∷ []) own put_by (state_of result put_by numbers) (step_effect w.here number (Load negated term) result store) (seen_step w.here calls number (Load negated term) result store) (staying_seen w calls flats alike put_by number store numbers contents result rest (Load negated term) refl own lowered)
step_seen w calls flats alike put_by number store numbers contents result rest (StoreStep storing target) own lowered = onward_effect_seen w flats rest (number ∷ []) own put_by (state_of result put_by numbers) (step_effect w.here number (StoreStep storing target) result store) (seen_step w.here calls number (StoreStep storing target) result store) (staying_seen w calls flats alike put_by number store numbers contents result rest (StoreStep storing target) refl own lowered)
step_seen w calls flats alike put_by number store numbers contents result rest (Apply operator term) own lowered = onward_effect_seen w flats rest (number ∷ []) own put_by (state_of result put_by numbers) (step_effect w.here number (Apply operator term) result store) (seen_step w.here calls number (Apply operator term) result store) (staying_seen w calls flats alike put_by number store numbers contents result rest (Apply operator term) refl own lowered)
step_seen w calls flats alike put_by number store numbers contents result rest Negate own lowered = onward_effect_seen w flats rest (number ∷ []) own put_by (state_of result put_by numbers) (step_effect w.here number Negate result store) (seen_step w.here calls number Negate result store) (staying_seen w calls flats alike put_by number store numbers contents result rest Negate refl own lowered)
step_seen w calls flats alike put_by number store numbers contents result rest (Call condition instance arguments) own lowered = onward_effect_seen w flats rest (step_sources number (Call condition instance arguments)) own put_by (state_of result put_by numbers) (step_effect w.here number (Call condition instance arguments) result store) (seen_step w.here calls number (Call condition instance arguments) result store) (staying_seen w calls flats alike put_by number store numbers contents result rest (Call condition instance arguments) refl own lowered)

-- a line, executed or not
pub plain_seen : (w : Sides) (calls : SeenCalls) (flats : FlatSeenCalls) → AreSeenAlike w calls flats → (put_by : List ℤ) (number : ℕ) (store : Store) (numbers : List ℤ) → AreContents w.frame store numbers → (rest : Lines) (step : Step) (own : List Code) → IsStepLowered w.here.scope rest step own → (mode : Mode) (course : Flow) → IsAfter (step_length step) rest mode course → EffectSeen w flats rest (step_sources number step) own put_by course (state_of (result_in mode) put_by numbers) (line_effect w.here number step mode store) (seen_line w.here calls number step mode store)
plain_seen w calls flats alike put_by number store numbers contents rest step own lowered (Running result) course is =
    subst (λ (c : Flow). EffectSeen w flats rest (step_sources number step) own put_by c (state_of result put_by numbers) (step_effect w.here number step result store) (seen_step w.here calls number step result store)) (sym is) (step_seen w calls flats alike put_by number store numbers contents result rest step own lowered)
plain_seen w calls flats alike put_by number store numbers contents rest step own lowered (Seeking label result) course is =
    passing_seen w flats rest (step_sources number step) own (step_length step) (step_lowered_length w.here.scope rest step own lowered) (step_sources_length number step) put_by store numbers contents label result course is
plain_seen w calls flats alike put_by number store numbers contents rest step own lowered (Returned result) course is = over_seen w flats rest (step_sources number step) own put_by store numbers contents result course is

-- a parenthesis, executed or not
pub parenthesis_seen : (w : Sides) (calls : SeenCalls) (flats : FlatSeenCalls) → AreSeenAlike w calls flats → (opening : Code) (inner : List Code) (number close : ℕ) (operator : Operator) (operand : Option Term) → IsOpening w.here.scope operand opening → (inside : Lines) → IsSimple inside → depth inside + 1 ≤ 8 → IsLowered w.here.scope inside inner → (store : Store) (numbers : List ℤ) → AreContents w.frame store numbers → (rest : Lines) (mode : Mode) (course : Flow) → IsAfter (2 + flat_length inside) rest mode course → EffectSeen w flats rest (number ∷ sources_of inside ++ close ∷ []) (opening ∷ inner ++ Close operator ∷ []) [] course (state_of (result_in mode) [] numbers) (nested_effect w.here number operator operand close (means w.here inside) mode store) (seen_nested w.here number operator operand close (seen_lines w.here calls inside) (means w.here inside) mode store)
parenthesis_seen w calls flats alike opening inner number close operator operand is inside simple l lowered store numbers contents rest (Running result) course so =
    subst (λ (c : Flow). EffectSeen w flats rest (number ∷ sources_of inside ++ close ∷ []) (opening ∷ inner ++ Close operator ∷ []) [] c (state_of result [] numbers) (nested_effect w.here number operator operand close (means w.here inside) (Running result) store) (seen_nested w.here number operator operand close (seen_lines w.here calls inside) (means w.here inside) (Running result) store)) (sym so)
    (onward_effect_seen w flats rest (number ∷ sources_of inside ++ close ∷ []) (opening ∷ inner ++ Close operator ∷ []) [] (state_of result [] numbers) (nested_effect w.here number operator operand close (means w.here inside) (Running result) store) (seen_nested w.here number operator operand close (seen_lines w.here calls inside) (means w.here inside) (Running result) store)
    (nested_seen w calls flats alike opening (sources_of inside) inner number close operator operand is result [] (omega arith) store numbers contents (means w.here inside) (seen_lines w.here calls inside)
    (λ start more. inside_seen w calls flats alike inside simple inner lowered (more ∷ []) l start store numbers contents)))
parenthesis_seen w calls flats alike opening inner number close operator operand is inside simple l lowered store numbers contents rest (Seeking label result) course so =
    passing_seen w flats rest (number ∷ sources_of inside ++ close ∷ []) (opening ∷ inner ++ Close operator ∷ []) (2 + flat_length inside) so_many as_many [] store numbers contents label result course so
  where
    so_many : length (opening ∷ inner ++ Close operator ∷ []) ≡ 2 + flat_length inside
    so_many = let a = length-append inner (Close operator ∷ []) in let b = lowered_length w.here.scope inside inner lowered in omega (arith, a, b)

    as_many : length (number ∷ sources_of inside ++ close ∷ []) ≡ 2 + flat_length inside
    as_many = let a = length-append (sources_of inside) (close ∷ []) in let b = sources_length inside in omega (arith, a, b)
parenthesis_seen w calls flats alike opening inner number close operator operand is inside simple l lowered store numbers contents rest (Returned result) course so =
    over_seen w flats rest (number ∷ sources_of inside ++ close ∷ []) (opening ∷ inner ++ Close operator ∷ []) [] store numbers contents result course so

-- on from what a line does
pub effect_then_seen : (w : Sides) (flats : FlatSeenCalls) (rest : Lines) (sources following : List ℕ) (own others : List Code) (course : Flow) (state : State) (effect : Effect) (seen : List Seen) (go : Mode → Store → Outcome) (seen_go : Mode → Store → List Seen) → EffectSeen w flats rest sources own [] course state effect seen → ((mode : Mode) (next : Flow) → IsCourse rest mode next → (store : Store) (numbers : List ℤ) → AreContents w.frame store numbers → OutcomeSeen w.frame (go mode store) (seen_go mode store) (flat_seen (flat w) flats following others next (state_of (result_in mode) [] numbers))) → OutcomeSeen w.frame (continued effect go) (seen ++ seen_from effect seen_go) (flat_seen (flat w) flats (sources ++ following) (own ++ others) course state)
effect_then_seen w flats rest sources following own others course state (Fails reason) seen go seen_go h onward = tt
effect_then_seen w flats rest sources following own others course state (Goes mode store items) seen go seen_go h onward = step (go mode store) (seen_go mode store) (onward mode h.0 h.3 store h.1 h.2)
  where
    step : (o : Outcome) (others_seen : List Seen) → OutcomeSeen w.frame o others_seen (flat_seen (flat w) flats following others h.0 (state_of (result_in mode) [] h.1)) → OutcomeSeen w.frame (after items o) (seen ++ others_seen) (flat_seen (flat w) flats (sources ++ following) (own ++ others) course state)
    step (Stuck reason) others_seen f = tt
    step (Done last new trace) others_seen f =
        subst (AreSeenAs w.frame (seen ++ others_seen)) (sym (h.4.2 following others))
        (seen_append w.frame seen others_seen h.4.0 (flat_seen (flat w) flats following others h.0 (state_of (result_in mode) [] h.1)) h.4.1 f)

-- the lines left
pub lines_seen : (w : Sides) (calls : SeenCalls) (flats : FlatSeenCalls) → AreSeenAlike w calls flats → (lines : Lines) → NestsSimply lines → depth lines ≤ 8 → (code : List Code) → IsLowered w.here.scope lines code → (mode : Mode) (course : Flow) → IsCourse lines mode course → (store : Store) (numbers : List ℤ) → AreContents w.frame store numbers → OutcomeSeen w.frame (means w.here lines mode store) (seen_lines w.here calls lines mode store) (flat_seen (flat w) flats (sources_of lines) code course (state_of (result_in mode) [] numbers))
lines_seen w calls flats alike End simple l code lowered (Running result) course is store numbers contents =
    subst (λ (c : List Code). AreSeenAs w.frame [] (flat_seen (flat w) flats [] c course (state_of result [] numbers))) (sym lowered) tt
lines_seen w calls flats alike End simple l code lowered (Returned result) course is store numbers contents =
    subst (λ (c : List Code). AreSeenAs w.frame [] (flat_seen (flat w) flats [] c course (state_of result [] numbers))) (sym lowered) tt
lines_seen w calls flats alike End simple l code lowered (Seeking label result) course is store numbers contents = tt
lines_seen w calls flats alike (Alone word rest) simple l code lowered mode course is store numbers contents =
    subst (λ (r : Option Value). OutcomeSeen w.frame (means w.here rest (arriving (Some word) mode) store) (seen_lines w.here calls rest (arriving (Some word) mode) store) (flat_seen (flat w) flats (sources_of rest) code course (state_of r [] numbers))) (result_arriving (Some word) mode)
    (lines_seen w calls flats alike rest simple l code lowered (arriving (Some word) mode) course (arrives_alone word rest mode course is) store numbers contents)
lines_seen w calls flats alike (Plain word number step rest) simple l code lowered mode course is store numbers contents =
    subst (λ (c : List Code). OutcomeSeen w.frame (means w.here (Plain word number step rest) mode store) (seen_lines w.here calls (Plain word number step rest) mode store) (flat_seen (flat w) flats (step_sources number step ++ sources_of rest) c course (state_of (result_in mode) [] numbers))) (sym lowered.whole)
    (subst (λ (r : Option Value). OutcomeSeen w.frame (means w.here (Plain word number step rest) mode store) (seen_lines w.here calls (Plain word number step rest) mode store) (flat_seen (flat w) flats (step_sources number step ++ sources_of rest) (lowered.own ++ lowered.others) course (state_of r [] numbers))) (result_arriving word mode)
    (effect_then_seen w flats rest (step_sources number step) (sources_of rest) lowered.own lowered.others course (state_of (result_in (arriving word mode)) [] numbers) (line_effect w.here number step (arriving word mode) store) (seen_line w.here calls number step (arriving word mode) store) (means w.here rest) (seen_lines w.here calls rest)
    (plain_seen w calls flats alike [] number store numbers contents rest step lowered.own lowered.step (arriving word mode) course (arrives (Plain word number step rest) rest word (step_length step) (λ label. refl) mode course is))
    (λ onward next so new left held. lines_seen w calls flats alike rest simple l lowered.others lowered.rest onward next so new left held)))
lines_seen w calls flats alike (Nested word number operator operand inside close rest) simple l code lowered mode course is store numbers contents =
    subst (λ (s : List ℕ). OutcomeSeen w.frame (means w.here (Nested word number operator operand inside close rest) mode store) (seen_lines w.here calls (Nested word number operator operand inside close rest) mode store) (flat_seen (flat w) flats s code course (state_of (result_in mode) [] numbers))) (sym (regrouped_sources number close (sources_of inside) (sources_of rest)))
    (subst (λ (c : List Code). OutcomeSeen w.frame (means w.here (Nested word number operator operand inside close rest) mode store) (seen_lines w.here calls (Nested word number operator operand inside close rest) mode store) (flat_seen (flat w) flats ((number ∷ sources_of inside ++ close ∷ []) ++ sources_of rest) c course (state_of (result_in mode) [] numbers))) (sym (lowered.whole ∙ regrouped lowered.opening lowered.inner operator lowered.others))
    (subst (λ (r : Option Value). OutcomeSeen w.frame (means w.here (Nested word number operator operand inside close rest) mode store) (seen_lines w.here calls (Nested word number operator operand inside close rest) mode store) (flat_seen (flat w) flats ((number ∷ sources_of inside ++ close ∷ []) ++ sources_of rest) ((lowered.opening ∷ lowered.inner ++ Close operator ∷ []) ++ lowered.others) course (state_of r [] numbers))) (result_arriving word mode)
    (effect_then_seen w flats rest (number ∷ sources_of inside ++ close ∷ []) (sources_of rest) (lowered.opening ∷ lowered.inner ++ Close operator ∷ []) lowered.others course (state_of (result_in (arriving word mode)) [] numbers) (nested_effect w.here number operator operand close (means w.here inside) (arriving word mode) store) (seen_nested w.here number operator operand close (seen_lines w.here calls inside) (means w.here inside) (arriving word mode) store) (means w.here rest) (seen_lines w.here calls rest)
    (parenthesis_seen w calls flats alike lowered.opening lowered.inner number close operator operand lowered.opens inside simple.0 (omega (arith, l)) lowered.inside store numbers contents rest (arriving word mode) course (arrives (Nested word number operator operand inside close rest) rest word (2 + flat_length inside) (λ label. refl) mode course is))
    (λ onward next so new left held. lines_seen w calls flats alike rest simple.1 (omega (arith, l)) lowered.others lowered.rest onward next so new left held))))
