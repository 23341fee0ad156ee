-- The flat lines of a unit are no more than the bytes of its text.
use Rattle.wc_model.proofs.Common.{◌≡◌, ℕ, zero, suc, ◌+◌, ◌≤◌, Bool, List, [], ◌∷◌, ◌++◌, map, length, Some, refl, ap, ◌∙◌, arith, length-filter_both}
use Rattle.std.proofs.lemmas.List.{length-append, length-map}
use Rattle.wc_text_flat.specs.{step_length, flat_length, AreLoweredAfter, FlatCodeIsShort}
use Rattle.wc_model.specs.Definitions.{InBody, InParentheses, Setting, instruction, lines, IsOperatorOf, IsOn, bracketed, symbol, call_list, argument, unit_of, line_ends, Sequence, one, each, separated, ◌then◌, Mark, Comma, IsNamed, is_line_end, Token, Cuts, AtEnd, Nothing, Skipped, Taken, mark_of_token}
use Rattle.std.specs.Prelude.{filter, not, slice_get}
use Rattle.wc_text_flat.proofs.Bodies.{lowered_length}
use Rattle.wc_model.specs.declared.code.Code.{Code}
use Rattle.wc_model.specs.Language.Tree.{ProgramUnit, Step, Load, Store as StoreStep, Apply, Negate, Jump, Call, Return, Lines, End, Alone, Plain, Nested, Assignment}

-- the tokens of a text are no more than its bytes
pub tokens_fit : (before rest : List ℕ) (tokens : List Token) → Cuts AtEnd before rest tokens → length tokens ≤ length rest
tokens_fit before rest [] (Nothing e) = omega arith
tokens_fit before rest tokens (Skipped chunk after whole blank more) =
    let l = tokens_fit (before ++ chunk) after tokens more in
    let a = length-append chunk after in
    let b : length (chunk ++ after) ≡ length rest = ap (λ (xs : List ℕ). length xs) whole in
    omega (arith, l, a, b)
tokens_fit before rest (token ∷ tokens) (Taken shape chunk after whole longest shaped more) = step chunk whole shaped (tokens_fit (before ++ chunk) after tokens more)
  where
    step : (p : List ℕ) → p ++ after ≡ rest → Rattle.wc_model.specs.Text.Shapes.shape_of p ≡ Rattle.std.proofs.Common.Ok shape → length tokens ≤ length after → length (token ∷ tokens) ≤ length rest
    step [] w s l = cc
    step (b ∷ p) w s l =
        let a = length-append (b ∷ p) after in
        let e : length (b ∷ p ++ after) ≡ length rest = ap (λ (xs : List ℕ). length xs) w in
        omega (arith, l, a, e)

-- tokens in sequence
pub in_sequence : {A B : List Mark → Type 0} (tokens : List Mark) (s : Sequence A B tokens) → length tokens ≡ length s.prefix + length s.rest
in_sequence tokens s = ap (λ (ts : List Mark). length ts) s.whole ∙ length-append s.prefix s.rest

pub one_length : (P : Mark → Type 0) (tokens : List Mark) → one P tokens → length tokens ≡ 1
one_length P [] o = absurd o
one_length P (token ∷ []) o = refl
one_length P (token ∷ next ∷ more) o = absurd o

-- an argument has a token
pub argument_short : (a : Assignment) (tokens : List Mark) → argument a tokens → 1 ≤ length tokens
argument_short a tokens s = let e = in_sequence tokens s in let f = one_length (IsNamed a.formal) s.prefix s.begins in omega (arith, e, f)

pub each_short : (arguments : List Assignment) (tokens : List Mark) → each (λ next. symbol Comma then argument next) arguments tokens → length arguments ≤ length tokens
each_short [] tokens s = omega arith
each_short (a ∷ arguments) tokens s =
    let e = in_sequence tokens s in
    let f = in_sequence s.prefix s.begins in
    let g = argument_short a s.begins.rest s.begins.goes_on in
    let h = each_short arguments s.rest s.goes_on in
    omega (arith, e, f, g, h)

pub separated_short : (arguments : List Assignment) (tokens : List Mark) → separated (symbol Comma) argument arguments tokens → length arguments ≤ length tokens
separated_short [] tokens s = omega arith
separated_short (a ∷ arguments) tokens s =
    let e = in_sequence tokens s in
    let f = argument_short a s.prefix s.begins in
    let g = each_short arguments s.rest s.goes_on in
    omega (arith, e, f, g)

-- what is passed over
pub filter_short : (p : Mark → Bool) (tokens : List Mark) → length (filter p tokens) ≤ length tokens
filter_short p tokens = let e = length-filter_both p (λ t. not (p t)) (λ t. refl) tokens in omega (arith, e)

pub bracketed_short : (arguments : List Assignment) (tokens : List Mark) → bracketed arguments tokens → length arguments ≤ length tokens
bracketed_short arguments tokens s =
    let e = in_sequence tokens s in
    let f = in_sequence s.rest s.goes_on in
    let g = separated_short arguments (filter (λ token. not (is_line_end token)) s.goes_on.prefix) s.goes_on.begins in
    let h = filter_short (λ token. not (is_line_end token)) s.goes_on.prefix in
    omega (arith, e, f, g, h)

pub call_short : (arguments : List Assignment) (tokens : List Mark) → call_list arguments tokens → length arguments ≤ length tokens
call_short [] tokens s = omega arith
call_short (a ∷ arguments) tokens s = bracketed_short (a ∷ arguments) tokens s

-- an instruction has as many tokens as flat lines, or more
pub instruction_short : (line : ℕ) (step : Step) (tokens : List Mark) → instruction line step tokens → step_length step ≤ length tokens
instruction_short line (Call condition instance arguments) tokens s =
    let e = in_sequence tokens s in
    let f = one_length (IsOn line (IsOperatorOf (Call condition instance arguments))) s.prefix s.begins in
    let g = in_sequence s.rest s.goes_on in
    let h = one_length (IsNamed instance) s.goes_on.prefix s.goes_on.begins in
    let i = call_short arguments s.goes_on.rest s.goes_on.goes_on in
    omega (arith, e, f, g, h, i)
instruction_short line (Load negated x) tokens s = let e = in_sequence tokens s in let f = one_length (IsOn line (IsOperatorOf (Load negated x))) s.prefix s.begins in omega (arith, e, f)
instruction_short line (StoreStep storing x) tokens s = let e = in_sequence tokens s in let f = one_length (IsOn line (IsOperatorOf (StoreStep storing x))) s.prefix s.begins in omega (arith, e, f)
instruction_short line (Apply operator x) tokens s = let e = in_sequence tokens s in let f = one_length (IsOn line (IsOperatorOf (Apply operator x))) s.prefix s.begins in omega (arith, e, f)
instruction_short line Negate tokens s = let e = in_sequence tokens s in let f = one_length (IsOn line (IsOperatorOf Negate)) s.prefix s.begins in omega (arith, e, f)
instruction_short line (Jump condition label) tokens s = let e = in_sequence tokens s in let f = one_length (IsOn line (IsOperatorOf (Jump condition label))) s.prefix s.begins in omega (arith, e, f)
instruction_short line (Return condition) tokens s = let e = in_sequence tokens s in let f = one_length (IsOn line (IsOperatorOf (Return condition))) s.prefix s.begins in omega (arith, e, f)

-- and so have lines
pub lines_short : (setting : Setting) (ls : Lines) (tokens : List Mark) → lines setting ls tokens → flat_length ls ≤ length tokens
lines_short setting End tokens l = omega arith
lines_short setting (Alone label rest) tokens l =
    let a = in_sequence tokens l in
    let b = in_sequence l.rest l.goes_on in
    let c = in_sequence l.goes_on.rest l.goes_on.goes_on in
    let d = lines_short setting rest l.goes_on.goes_on.rest l.goes_on.goes_on.goes_on in
    omega (arith, a, b, c, d)
lines_short setting (Plain label line step rest) tokens l =
    let s = l.1 in
    let a = in_sequence tokens s in
    let b = in_sequence s.rest s.goes_on in
    let c = in_sequence s.goes_on.rest s.goes_on.goes_on in
    let d = in_sequence s.goes_on.goes_on.rest s.goes_on.goes_on.goes_on in
    let e = instruction_short line step s.goes_on.goes_on.prefix s.goes_on.goes_on.begins in
    let f = lines_short setting rest s.goes_on.goes_on.goes_on.rest s.goes_on.goes_on.goes_on.goes_on in
    omega (arith, a, b, c, d, e, f)
lines_short setting (Nested label line operator x inside close rest) tokens l =
    let s = l.1 in
    let open_line = s.goes_on.goes_on in
    let within = open_line.goes_on in
    let closing = within.goes_on in
    let last = closing.goes_on in
    let a = in_sequence tokens s in
    let b = in_sequence s.rest s.goes_on in
    let c = in_sequence s.goes_on.rest open_line in
    let d = in_sequence open_line.rest within in
    let e = in_sequence within.rest closing in
    let f = in_sequence closing.rest last in
    let g = in_sequence open_line.prefix open_line.begins in
    let h = in_sequence open_line.begins.prefix open_line.begins.begins in
    let i = one_length _ open_line.begins.begins.prefix open_line.begins.begins.begins in
    let j = one_length _ open_line.begins.begins.rest open_line.begins.begins.goes_on in
    let k = lines_short InParentheses inside within.prefix within.begins in
    let m = lines_short setting rest last.rest last.goes_on in
    omega (arith, a, b, c, d, e, f, g, h, i, j, k, m)

-- the code of each unit after those before
pub units_short : (before units : List ProgramUnit) (codes : List (List Code)) → AreLoweredAfter before units codes → (tokens : List Mark) → each (λ unit. line_ends then unit_of unit) units tokens → (i : ℕ) (code : List Code) → slice_get codes i ≡ Some code → length code ≤ length tokens
units_short before [] [] lowered tokens s i code e = cc
units_short before [] (first ∷ codes) lowered tokens s i code e = absurd lowered
units_short before (unit ∷ units) [] lowered tokens s i code e = absurd lowered
units_short before (unit ∷ units) (first ∷ codes) lowered tokens s zero code e =
    let is : first ≡ code = cc in
    let same : length first ≡ length code = ap (λ (c : List Code). length c) is in
    let head = s.begins in
    let body = head.goes_on.goes_on in
    let a = in_sequence tokens s in
    let b = in_sequence s.prefix head in
    let c = in_sequence head.rest head.goes_on in
    let d = in_sequence head.goes_on.rest body in
    let f = lines_short InBody unit.body body.prefix body.begins in
    let g = lowered_length (record { before = before; unit = unit }) unit.body first lowered.0 in
    omega (arith, same, a, b, c, d, f, g)
units_short before (unit ∷ units) (first ∷ codes) lowered tokens s (suc i) code e =
    let a = in_sequence tokens s in
    let b = units_short (unit ∷ before) units codes lowered.1 s.rest s.goes_on i code e in
    omega (arith, a, b)

pub flat_code_is_short : FlatCodeIsShort
flat_code_is_short bytes text read codes lowered unit code e =
    let marks : List Mark = map mark_of_token read.tokens in
    let s = read.spelled.spelled in
    let a = in_sequence marks s in
    let b = units_short [] text codes lowered s.prefix s.begins unit code e in
    let c : length marks ≡ length read.tokens = length-map read.tokens mark_of_token in
    let d = tokens_fit [] bytes read.tokens read.cut in
    let f = read.short in
    omega (arith, a, b, c, d, f)
