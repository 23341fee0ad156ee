-- The parentheses of lowered code match, and are not too deep.
use Rattle.wc_model.proofs.Common.{◌≡◌, ℕ, zero, suc, ◌+◌, ◌≤◌, ◌<◌, max, Bool, true, false, List, [], ◌∷◌, ◌++◌, length, Option, Some, None, append_assoc, refl, sym, ap, subst, ◌∙◌, arith, if◌then◌else◌, slice_get, AllByRecursion}
use Rattle.std.proofs.lemmas.List.{length-append, append-nil}
use Rattle.std.specs.Option.{option_map}
use Rattle.wc_text_flat.proofs.CallLines.{lowered_after}
use Rattle.wc_text_flat.proofs.Bodies.{lowered_length, step_lowered_length}
use Rattle.wc_text_flat.specs.{depth_after, depth_at, IsDepthRight, Operand, Number, At, load_line, apply_line, short_line, argument_line, AreArguments, AreOutputs, IsUnitBody, IsBodyOf, IsStepLowered, IsOpening, step_length, flat_length, lines_ahead, IsLowered, AreLoweredAfter, LoweredCodeNests}
use Rattle.wc_model.specs.Definitions.{VariableType, Elementary, Standard, Block, block_named, depth, IsBodyWithinLimits, carries, Name, Scope, type_of}
use Rattle.wc_model.specs.Language.Tree.{Term, Assignment, inputs_of, outputs_of, Step, Load, Store as StoreStep, Apply, Negate, Jump as JumpStep, Call as CallStep, Return as ReturnStep, Lines, End, Alone, Plain, Nested, ProgramUnit}
use Rattle.wc_model.specs.declared.code.Code.{Code}
use Rattle.wc_model.specs.declared.code.Code.TheVariants.{LoadNumber, LoadPlace, Store, ApplyNumber, ApplyPlace, Not, Open, OpenNumber, OpenPlace, Close, Jump, Return, Call, ArgumentNumber, ArgumentPlace, Standard as StandardLine, Body}
use Rattle.wc_model.specs.declared.operator.Operator.{Operator}
use Rattle.wc_laws_language.proofs.FramePlaces.{one_number}

-- what a line asks of the depth before it and of the lines after it
abbrev pub IsDeepEnough : ℕ → Code → List Code → Type 0
IsDeepEnough d Open following = d < 8
IsDeepEnough d (OpenNumber n) following = d < 8
IsDeepEnough d (OpenPlace place) following = d < 8
IsDeepEnough d (Close operator) following = 0 < d
IsDeepEnough d (Jump condition skip) following = depth_at d following skip ≡ d
IsDeepEnough d (Call condition skip) following = depth_at d following skip ≡ d
IsDeepEnough d line following = Unit {0}

abbrev pub AllDeepEnough : ℕ → List Code → Type 0
AllDeepEnough d [] = Unit {0}
AllDeepEnough d (line ∷ code) = IsDeepEnough d line code × AllDeepEnough (depth_after d line) code

-- lines that put nothing by and take nothing, before others
abbrev pub IsLevel : List Code → Type 0
IsLevel own = (d : ℕ) (others : List Code) → (AllDeepEnough d others → AllDeepEnough d (own ++ others)) × ((n : ℕ) → depth_at d (own ++ others) (length own + n) ≡ depth_at d others n)

-- one line that neither opens, closes nor leads elsewhere
abbrev pub is_level : Code → Bool
is_level (LoadNumber n) = true
is_level (LoadPlace negated place) = true
is_level (Store storing place) = true
is_level (ApplyNumber operator n) = true
is_level (ApplyPlace operator place) = true
is_level Not = true
is_level Open = false
is_level (OpenNumber n) = false
is_level (OpenPlace place) = false
is_level (Close operator) = false
is_level (Jump condition skip) = false
is_level (Return condition) = true
is_level (Call condition skip) = false
is_level (ArgumentNumber target n) = true
is_level (ArgumentPlace place target) = true
is_level (StandardLine block at) = true
is_level (Body unit at) = true

pub level_asks : (d : ℕ) (line : Code) (following : List Code) → is_level line ≡ true → IsDeepEnough d line following
level_asks d Open following e = cc
level_asks d (OpenNumber n) following e = cc
level_asks d (OpenPlace place) following e = cc
level_asks d (Close operator) following e = cc
level_asks d (Jump condition skip) following e = cc
level_asks d (Call condition skip) following e = cc
level_asks d line following e = tt

pub level_depth : (d : ℕ) (line : Code) → is_level line ≡ true → depth_after d line ≡ d
level_depth d Open e = cc
level_depth d (OpenNumber n) e = cc
level_depth d (OpenPlace place) e = cc
level_depth d (Close operator) e = cc
level_depth d (Jump condition skip) e = refl
level_depth d (Call condition skip) e = refl
level_depth d line e = refl

pub one_more_line : (d : ℕ) (line : Code) (code : List Code) (n : ℕ) → depth_at d (line ∷ code) (1 + n) ≡ depth_at (depth_after d line) code n
one_more_line d line code n = ap (depth_at d (line ∷ code)) (let a : 1 + n ≡ suc n = omega arith in a)

pub line_level : (line : Code) → is_level line ≡ true → IsLevel (line ∷ [])
line_level line e = λ d others. (
  λ h. (level_asks d line others e, subst (λ x. AllDeepEnough x others) (sym (level_depth d line e)) h),
  λ n. ap (depth_at d (line ∷ others)) (let a : length (line ∷ []) + n ≡ 1 + n = omega arith in a) ∙ (one_more_line d line others n ∙ ap (λ x. depth_at x others n) (level_depth d line e)),
)

-- level lines after level lines
pub level_joined : (xs ys : List Code) → IsLevel xs → IsLevel ys → IsLevel (xs ++ ys)
level_joined xs ys f g = λ d others. (
  λ h. subst (AllDeepEnough d) (sym (append_assoc xs ys others)) ((f d (ys ++ others)).0 ((g d others).0 h)),
  λ n. ap (λ (code : List Code). depth_at d code (length (xs ++ ys) + n)) (append_assoc xs ys others)
      ∙ (ap (depth_at d (xs ++ (ys ++ others))) (let a = length-append xs ys in let e : length (xs ++ ys) + n ≡ length xs + (length ys + n) = omega (arith, a) in e)
      ∙ ((f d (ys ++ others)).1 (length ys + n) ∙ (g d others).1 n)),
)

pub none_level : IsLevel []
none_level = λ d others. (λ h. h, λ n. ap (depth_at d others) (let a : 0 + n ≡ n = omega arith in a))

-- the lines of operands, and of a block's body
pub load_level : (negated : Bool) (o : Operand) → is_level (load_line negated o) ≡ true
load_level negated (Number n) = refl
load_level negated (At place) = refl

pub apply_level : (operator : Operator) (o : Operand) → is_level (apply_line operator o) ≡ true
apply_level operator (Number n) = refl
apply_level operator (At place) = refl

pub argument_level : (o : Operand) (target : Rattle.wc_model.specs.declared.place.Place.Place) → is_level (argument_line o target) ≡ true
argument_level (Number n) target = refl
argument_level (At place) target = refl

pub arguments_level : (scope : Scope) (instance : Name) (arguments : List Assignment) (lines : List Code) → AreArguments scope instance arguments lines → IsLevel lines
arguments_level scope instance [] [] are = none_level
arguments_level scope instance [] (line ∷ lines) are = absurd are
arguments_level scope instance (argument ∷ arguments) [] are = absurd are
arguments_level scope instance (argument ∷ arguments) (line ∷ lines) are =
    let is = are.0 in
    level_joined (line ∷ []) lines (line_level line (ap is_level is.4 ∙ argument_level is.0 is.1)) (arguments_level scope instance arguments lines are.1)

pub outputs_level : (scope : Scope) (instance : Name) (outputs : List Assignment) (lines : List Code) → AreOutputs scope instance outputs lines → IsLevel lines
outputs_level scope instance [] [] are = none_level
outputs_level scope instance [] (line ∷ lines) are = absurd are
outputs_level scope instance (output ∷ outputs) [] are = absurd are
outputs_level scope instance (output ∷ outputs) (line ∷ lines) are =
    let is = are.0 in
    level_joined (line ∷ []) lines (line_level line (ap is_level is.4 ∙ argument_level is.0 is.1)) (outputs_level scope instance outputs lines are.1)

pub body_level : (scope : Scope) (instance : Name) (type : Option VariableType) (body : Code) → IsBodyOf scope instance type body → is_level body ≡ true
body_level scope instance None body is = absurd is
body_level scope instance (Some (Elementary kind)) body is = absurd is
body_level scope instance (Some (Standard block)) body is = ap is_level is.2
body_level scope instance (Some (Block name)) body is = step (block_named scope.before name) is
  where
    step : (b : Option (ProgramUnit × List ProgramUnit)) → IsUnitBody scope instance b body → is_level body ≡ true
    step None h = absurd h
    step (Some found) h = ap is_level h.2

-- a body's lines before others: what they ask holds, after them is what was before, and so it is at each label ahead
pub record AreMatched (lines : Lines) (code : List Code) (d : ℕ) : Type 0 where
  pub raised : (others : List Code) → AllDeepEnough d others → AllDeepEnough d (code ++ others)
  pub following : (others : List Code) (n : ℕ) → depth_at d (code ++ others) (length code + n) ≡ depth_at d others n
  pub ahead : (others : List Code) (label : Name) (n : ℕ) → lines_ahead lines label ≡ Some n → depth_at d (code ++ others) n ≡ d

-- at the first line nothing has changed
pub at_first : (d : ℕ) (code : List Code) → depth_at d code 0 ≡ d
at_first d [] = refl
at_first d (line ∷ code) = refl

-- at a label of the line, or of the rest
pub ahead_of : (rest : Lines) (own others : List Code) (d m : ℕ) → ((n : ℕ) → depth_at d (own ++ others) (m + n) ≡ depth_at d others n) → (carried : Bool) (label : Name) (n : ℕ) → ((k : ℕ) → lines_ahead rest label ≡ Some k → depth_at d others k ≡ d) → (if carried then Some 0 else option_map (λ k. m + k) (lines_ahead rest label)) ≡ Some n → depth_at d (own ++ others) n ≡ d
ahead_of rest own others d m so true label n later e = ap (depth_at d (own ++ others)) (sym (one_number (Some 0) 0 n refl e)) ∙ at_first d (own ++ others)
ahead_of rest own others d m so false label n later e = step (lines_ahead rest label) refl e
  where
    step : (o : Option ℕ) → lines_ahead rest label ≡ o → option_map (λ k. m + k) o ≡ Some n → depth_at d (own ++ others) n ≡ d
    step None is f = cc
    step (Some k) is f = ap (depth_at d (own ++ others)) (sym (one_number (Some (m + k)) (m + k) n refl f)) ∙ (so k ∙ later k is)

-- a step before the rest
pub step_matched : (scope : Scope) (rest : Lines) (step : Step) (own : List Code) → IsStepLowered scope rest step own → (d : ℕ) (others : List Code) → ((label : Name) (n : ℕ) → lines_ahead rest label ≡ Some n → depth_at d others n ≡ d) → (AllDeepEnough d others → AllDeepEnough d (own ++ others)) × ((n : ℕ) → depth_at d (own ++ others) (length own + n) ≡ depth_at d others n)
step_matched scope rest (Load negated term) own lowered d others ahead = (subst IsLevel (sym lowered.2) (line_level (load_line negated lowered.0) (load_level negated lowered.0))) d others
step_matched scope rest (StoreStep storing target) own lowered d others ahead = (subst IsLevel (sym lowered.2) (line_level (Store storing lowered.0) refl)) d others
step_matched scope rest (Apply operator term) own lowered d others ahead = (subst IsLevel (sym lowered.2) (line_level (apply_line operator lowered.0) (apply_level operator lowered.0))) d others
step_matched scope rest Negate own lowered d others ahead = (subst IsLevel (sym lowered) (line_level Not refl)) d others
step_matched scope rest (ReturnStep condition) own lowered d others ahead = (subst IsLevel (sym lowered) (line_level (Return condition) refl)) d others
step_matched scope rest (JumpStep condition label) own lowered d others ahead =
    subst (λ (c : List Code). (AllDeepEnough d others → AllDeepEnough d (c ++ others)) × ((n : ℕ) → depth_at d (c ++ others) (length c + n) ≡ depth_at d others n)) (sym lowered.2)
    (λ h. (ahead label lowered.0 lowered.1, h), λ n. ap (depth_at d (Jump condition lowered.0 ∷ others)) (let a : length (Jump condition lowered.0 ∷ []) + n ≡ 1 + n = omega arith in a) ∙ one_more_line d (Jump condition lowered.0) others n)
step_matched scope rest (CallStep condition instance arguments) own lowered d others ahead =
    subst (λ (c : List Code). (AllDeepEnough d others → AllDeepEnough d (c ++ others)) × ((n : ℕ) → depth_at d (c ++ others) (length c + n) ≡ depth_at d others n)) (sym lowered.is) (
      λ h. (passed, (level d others).0 h),
      λ n. ap (depth_at d (line ∷ (lines ++ others))) (let a : length (line ∷ lines) + n ≡ 1 + (length lines + n) = omega arith in a) ∙ (one_more_line d line (lines ++ others) (length lines + n) ∙ (level d others).1 n),
    )
  where
    line : Code
    line = Call condition (1 + length arguments)

    lines : List Code
    lines = lowered.assigned ++ lowered.body ∷ lowered.given

    level : IsLevel lines
    level =
        level_joined lowered.assigned (lowered.body ∷ lowered.given) (arguments_level scope instance (inputs_of arguments) lowered.assigned lowered.inputs)
        (level_joined (lowered.body ∷ []) lowered.given (line_level lowered.body (body_level scope instance (type_of scope instance) lowered.body lowered.called)) (outputs_level scope instance (outputs_of arguments) lowered.given lowered.outputs))

    passed : depth_at d (lines ++ others) (1 + length arguments) ≡ d
    passed =
        let a = lowered_after scope condition instance arguments own lowered in
        ap (depth_at d (lines ++ others)) (let e : 1 + length arguments ≡ length lines + 0 = omega (arith, a) in e) ∙ ((level d others).1 0 ∙ at_first d others)

-- an opening line
pub opening_deep : (scope : Scope) (operand : Option Term) (line : Code) → IsOpening scope operand line → (d : ℕ) (following : List Code) → d < 8 → IsDeepEnough d line following × (depth_after d line ≡ suc d)
opening_deep scope None line is d following l = subst (λ c. IsDeepEnough d c following × (depth_after d c ≡ suc d)) (sym is) (l, refl)
opening_deep scope (Some term) line is d following l = subst (λ c. IsDeepEnough d c following × (depth_after d c ≡ suc d)) (sym is.2) (short is.0)
  where
    short : (o : Operand) → IsDeepEnough d (short_line o) following × (depth_after d (short_line o) ≡ suc d)
    short (Number n) = (l, refl)
    short (At place) = (l, refl)

-- the depth of what is inside and after a parenthesis
pub both_depths : (inside rest d : ℕ) → max (1 + inside) rest + d ≤ 8 → (inside + suc d ≤ 8) × (rest + d ≤ 8) × (d < 8)
both_depths inside rest d l = (omega (arith, l), omega (arith, l), omega (arith, l))

-- the lines of a body
pub lines_matched : (scope : Scope) (lines : Lines) (code : List Code) → IsLowered scope lines code → (d : ℕ) → depth lines + d ≤ 8 → AreMatched lines code d
lines_matched scope End code lowered d l = record {
  raised = λ others h. subst (λ (c : List Code). AllDeepEnough d (c ++ others)) (sym lowered) h;
  following = λ others n. ap (λ (c : List Code). depth_at d (c ++ others) (length c + n)) lowered ∙ ap (depth_at d others) (let a : 0 + n ≡ n = omega arith in a);
  ahead = λ others label n e. cc;
}
lines_matched scope (Alone word rest) code lowered d l =
    let m = lines_matched scope rest code lowered d l in
    record {
      raised = m.raised;
      following = m.following;
      ahead = λ others label n e. alone others label n (carries (Some word) label) e (m.ahead others label n);
    }
  where
    alone : (others : List Code) (label : Name) (n : ℕ) (b : Bool) → (if b then Some 0 else lines_ahead rest label) ≡ Some n → (lines_ahead rest label ≡ Some n → depth_at d (code ++ others) n ≡ d) → depth_at d (code ++ others) n ≡ d
    alone others label n true e later = ap (depth_at d (code ++ others)) (sym (one_number (Some 0) 0 n refl e)) ∙ at_first d (code ++ others)
    alone others label n false e later = later e
lines_matched scope (Plain word line step rest) code lowered d l =
    let m = lines_matched scope rest lowered.others lowered.rest d l in
    let joined : (others : List Code) → code ++ others ≡ lowered.own ++ (lowered.others ++ others) = λ others. ap (λ (c : List Code). c ++ others) lowered.whole ∙ append_assoc lowered.own lowered.others others in
    let s = λ (others : List Code). step_matched scope rest step lowered.own lowered.step d (lowered.others ++ others) (m.ahead others) in
    let count : length code ≡ length lowered.own + length lowered.others = ap (λ (c : List Code). length c) lowered.whole ∙ length-append lowered.own lowered.others in
    let own : length lowered.own ≡ step_length step = step_lowered_length scope rest step lowered.own lowered.step in
    record {
      raised = λ others h. subst (AllDeepEnough d) (sym (joined others)) ((s others).0 (m.raised others h));
      following = λ others n. ap (λ (c : List Code). depth_at d c (length code + n)) (joined others)
          ∙ (ap (depth_at d (lowered.own ++ (lowered.others ++ others))) (let e : length code + n ≡ length lowered.own + (length lowered.others + n) = omega (arith, count) in e)
          ∙ ((s others).1 (length lowered.others + n) ∙ m.following others n));
      ahead = λ others label n e. ap (λ (c : List Code). depth_at d c n) (joined others)
          ∙ ahead_of rest lowered.own (lowered.others ++ others) d (step_length step) (λ k. ap (λ x. depth_at d (lowered.own ++ (lowered.others ++ others)) (x + k)) (sym own) ∙ (s others).1 k) (carries word label) label n (m.ahead others label) e;
    }
lines_matched scope (Nested word line operator operand inside close rest) code lowered d l =
    let b = both_depths (depth inside) (depth rest) d l in
    let m = lines_matched scope rest lowered.others lowered.rest d b.1 in
    let i = lines_matched scope inside lowered.inner lowered.inside (suc d) b.0 in
    let own : List Code = lowered.opening ∷ lowered.inner ++ Close operator ∷ [] in
    let joined : (others : List Code) → code ++ others ≡ lowered.opening ∷ (lowered.inner ++ (Close operator ∷ (lowered.others ++ others))) =
    λ others. ap (λ (c : List Code). c ++ others) lowered.whole ∙ ap (λ (c : List Code). lowered.opening ∷ c) (append_assoc lowered.inner (Close operator ∷ lowered.others) others)
    in
    let o = λ (following : List Code). opening_deep scope operand lowered.opening lowered.opens d following b.2 in
    let count : length code ≡ 2 + length lowered.inner + length lowered.others =
    (let a : length (lowered.inner ++ Close operator ∷ lowered.others) ≡ length lowered.inner + length (Close operator ∷ lowered.others) = length-append lowered.inner (Close operator ∷ lowered.others) in
    let e : length code ≡ length (lowered.opening ∷ lowered.inner ++ Close operator ∷ lowered.others) = ap (λ (c : List Code). length c) lowered.whole in
    omega (arith, a, e))
    in
    let inner : length lowered.inner ≡ flat_length inside = lowered_length scope inside lowered.inner lowered.inside in
    let past : (others : List Code) (k : ℕ) → depth_at d (lowered.opening ∷ (lowered.inner ++ (Close operator ∷ (lowered.others ++ others)))) (2 + length lowered.inner + k) ≡ depth_at d (lowered.others ++ others) k =
    λ others k.
    let rest_code : List Code = Close operator ∷ (lowered.others ++ others) in
    ap (depth_at d (lowered.opening ∷ (lowered.inner ++ rest_code))) (let e : 2 + length lowered.inner + k ≡ 1 + (length lowered.inner + (1 + k)) = omega arith in e)
    ∙ (one_more_line d lowered.opening (lowered.inner ++ rest_code) (length lowered.inner + (1 + k))
    ∙ (ap (λ x. depth_at x (lowered.inner ++ rest_code) (length lowered.inner + (1 + k))) (o (lowered.inner ++ rest_code)).1
    ∙ (i.following rest_code (1 + k) ∙ one_more_line (suc d) (Close operator) (lowered.others ++ others) k)))
    in
    record {
      raised = λ others h.
          let rest_code : List Code = Close operator ∷ (lowered.others ++ others) in
          subst (AllDeepEnough d) (sym (joined others))
          ((o (lowered.inner ++ rest_code)).0, subst (λ x. AllDeepEnough x (lowered.inner ++ rest_code)) (sym (o (lowered.inner ++ rest_code)).1) (i.raised rest_code (omega arith, m.raised others h)));
      following = λ others n. ap (λ (c : List Code). depth_at d c (length code + n)) (joined others)
          ∙ (ap (depth_at d (lowered.opening ∷ (lowered.inner ++ (Close operator ∷ (lowered.others ++ others))))) (let e : length code + n ≡ 2 + length lowered.inner + (length lowered.others + n) = omega (arith, count) in e)
          ∙ (past others (length lowered.others + n) ∙ m.following others n));
      ahead = λ others label n e.
          let regroup : (lowered.opening ∷ lowered.inner ++ Close operator ∷ []) ++ (lowered.others ++ others) ≡ lowered.opening ∷ (lowered.inner ++ (Close operator ∷ (lowered.others ++ others))) = ap (λ (c : List Code). lowered.opening ∷ c) (append_assoc lowered.inner (Close operator ∷ []) (lowered.others ++ others)) in
          ap (λ (c : List Code). depth_at d c n) (joined others ∙ sym regroup)
          ∙ ahead_of rest (lowered.opening ∷ lowered.inner ++ Close operator ∷ []) (lowered.others ++ others) d (2 + flat_length inside)
          (λ k. ap (λ (c : List Code). depth_at d c (2 + flat_length inside + k)) regroup ∙ (ap (λ x. depth_at d (lowered.opening ∷ (lowered.inner ++ (Close operator ∷ (lowered.others ++ others)))) (2 + x + k)) (sym inner) ∙ past others k)) (carries word label) label n (m.ahead others label) e;
    }

-- what a line of some number asks, and what follows it
pub record Deep (d : ℕ) (code : List Code) (k : ℕ) (line : Code) : Type 0 where
  pub following : List Code
  pub asked : IsDeepEnough (depth_at d code k) line following
  pub onward : (n : ℕ) → depth_at (depth_after (depth_at d code k) line) following n ≡ depth_at d code (suc k + n)

pub deep_at : (d : ℕ) (code : List Code) → AllDeepEnough d code → (k : ℕ) (line : Code) → slice_get code k ≡ Some line → Deep d code k line
deep_at d [] h k line e = cc
deep_at d (x ∷ code) h zero line e =
    let is : x ≡ line = cc in
    subst (λ l. Deep d (x ∷ code) 0 l) is (record { following = code; asked = h.0; onward = λ n. sym (ap (depth_at d (x ∷ code)) (let a : suc 0 + n ≡ suc n = omega arith in a)) })
deep_at d (x ∷ code) h (suc k) line e =
    let m = deep_at (depth_after d x) code h.1 k line e in
    record { following = m.following; asked = m.asked; onward = λ n. m.onward n ∙ sym (ap (depth_at d (x ∷ code)) (let a : suc (suc k) + n ≡ suc (suc k + n) = omega arith in a)) }

pub depth_right : (code : List Code) (k : ℕ) (line : Code) → Deep 0 code k line → IsDepthRight code k line
depth_right code k Open m = m.asked
depth_right code k (OpenNumber n) m = m.asked
depth_right code k (OpenPlace place) m = m.asked
depth_right code k (Close operator) m = m.asked
depth_right code k (Jump condition skip) m = sym (m.onward skip) ∙ m.asked
depth_right code k (Call condition skip) m = sym (m.onward skip) ∙ m.asked
depth_right code k line m = tt

-- the code of each unit
pub units_deep : (before units : List ProgramUnit) (codes : List (List Code)) → AreLoweredAfter before units codes → AllByRecursion IsBodyWithinLimits units → (i : ℕ) (code : List Code) → slice_get codes i ≡ Some code → AllDeepEnough 0 code
units_deep before [] [] lowered limits i code e = cc
units_deep before [] (first ∷ codes) lowered limits i code e = absurd lowered
units_deep before (unit ∷ units) [] lowered limits i code e = absurd lowered
units_deep before (unit ∷ units) (first ∷ codes) lowered limits zero code e =
    let is : first ≡ code = cc in
    let l = limits.0.depth_of_body in
    let m = lines_matched (record { before = before; unit = unit }) unit.body first lowered.0 0 (omega (arith, l)) in
    subst (AllDeepEnough 0) (append-nil first ∙ is) (m.raised [] tt)
units_deep before (unit ∷ units) (first ∷ codes) lowered limits (suc i) code e = units_deep (unit ∷ before) units codes lowered.1 limits.1 i code e

pub lowered_code_nests : LoweredCodeNests
lowered_code_nests bytes text read codes lowered unit code e k line s =
    depth_right code k line (deep_at 0 code (units_deep [] text codes lowered read.within_limits.bodies unit code e) k line s)
