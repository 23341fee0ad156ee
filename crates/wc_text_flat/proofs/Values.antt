-- Values and their numbers: what operators and conditions give on the one and on the other.
use Rattle.std.proofs.Common.{◌≡◌, Bool, true, false, Option, Some, None, Result, Ok, Err, ℤ, ◌-ℤ◌, ◌*ℤ◌, refl}
use Rattle.std.specs.Option.{option_map}
use Rattle.wc_text_flat.specs.NumberOperators.{bit_of, negated_number, apply_number, acts}
use Rattle.wc_model.specs.Definitions.{bit_number, content_number, quotient, on_truths, on_numbers, on_dints, apply, negated, Reason, wrap}
use Rattle.wc_model.specs.Language.Meaning as meaning
use Rattle.wc_model.specs.Language.Store.{Plain}
use Rattle.wc_model.specs.declared.operator.Condition.{Condition}
use Rattle.wc_model.specs.declared.operator.Condition.TheVariants.{Always, IfTrue, IfFalse}
use Rattle.wc_model.specs.declared.operator.Operator.{Operator}
use Rattle.wc_model.specs.declared.operator.Operator.TheVariants.{And, Andn, Or, Orn, Xor, Xorn, Add, Sub, Mul, Div, Mod, Gt, Ge, Eq, Ne, Le, Lt}
use Rattle.wc_model.specs.declared.value.Value.{Value}
use Rattle.wc_model.specs.declared.value.Value.TheVariants.{Bool as Truth, Dint, Time}

-- the number of a value
abbrev pub value_number : Value → ℤ
value_number value = content_number (Plain value)

-- if there is a value, its number is given
abbrev pub ReadsAs : Result Value Reason → Option ℤ → Type 0
ReadsAs (Ok value) number = number ≡ Some (value_number value)
ReadsAs (Err reason) number = Unit {0}

-- a BOOL of a number is the BOOL
pub bit_of-number : (b : Bool) → bit_of (bit_number b) ≡ Some b
bit_of-number true = refl
bit_of-number false = refl

-- operators on two BOOLs
pub apply_number_both : (operator : Operator) → ReadsAs (on_truths operator true true) (apply_number operator (bit_number true) (bit_number true))
apply_number_both And = refl
apply_number_both Andn = refl
apply_number_both Or = refl
apply_number_both Orn = refl
apply_number_both Xor = refl
apply_number_both Xorn = refl
apply_number_both Add = tt
apply_number_both Sub = tt
apply_number_both Mul = tt
apply_number_both Div = tt
apply_number_both Mod = tt
apply_number_both Gt = tt
apply_number_both Ge = tt
apply_number_both Eq = refl
apply_number_both Ne = refl
apply_number_both Le = tt
apply_number_both Lt = tt

pub apply_number_first : (operator : Operator) → ReadsAs (on_truths operator true false) (apply_number operator (bit_number true) (bit_number false))
apply_number_first And = refl
apply_number_first Andn = refl
apply_number_first Or = refl
apply_number_first Orn = refl
apply_number_first Xor = refl
apply_number_first Xorn = refl
apply_number_first Add = tt
apply_number_first Sub = tt
apply_number_first Mul = tt
apply_number_first Div = tt
apply_number_first Mod = tt
apply_number_first Gt = tt
apply_number_first Ge = tt
apply_number_first Eq = refl
apply_number_first Ne = refl
apply_number_first Le = tt
apply_number_first Lt = tt

pub apply_number_second : (operator : Operator) → ReadsAs (on_truths operator false true) (apply_number operator (bit_number false) (bit_number true))
apply_number_second And = refl
apply_number_second Andn = refl
apply_number_second Or = refl
apply_number_second Orn = refl
apply_number_second Xor = refl
apply_number_second Xorn = refl
apply_number_second Add = tt
apply_number_second Sub = tt
apply_number_second Mul = tt
apply_number_second Div = tt
apply_number_second Mod = tt
apply_number_second Gt = tt
apply_number_second Ge = tt
apply_number_second Eq = refl
apply_number_second Ne = refl
apply_number_second Le = tt
apply_number_second Lt = tt

pub apply_number_neither : (operator : Operator) → ReadsAs (on_truths operator false false) (apply_number operator (bit_number false) (bit_number false))
apply_number_neither And = refl
apply_number_neither Andn = refl
apply_number_neither Or = refl
apply_number_neither Orn = refl
apply_number_neither Xor = refl
apply_number_neither Xorn = refl
apply_number_neither Add = tt
apply_number_neither Sub = tt
apply_number_neither Mul = tt
apply_number_neither Div = tt
apply_number_neither Mod = tt
apply_number_neither Gt = tt
apply_number_neither Ge = tt
apply_number_neither Eq = refl
apply_number_neither Ne = refl
apply_number_neither Le = tt
apply_number_neither Lt = tt

-- by a quotient
pub quotient_follows : (q : Result ℤ Reason) (go : ℤ → ℤ) → ReadsAs (elim q as (λ x. Result Value Reason) [ Ok n ↦ Ok (Dint (go n)) | Err reason ↦ Err reason ]) (elim q as (λ x. Option ℤ) [ Ok n ↦ Some (go n) | Err reason ↦ None ])
quotient_follows (Ok n) go = refl
quotient_follows (Err reason) go = tt

-- operators on two DINTs, and on two TIMEs
pub apply_number_dints : (operator : Operator) (a b : ℤ) → ReadsAs (on_dints operator a b) (apply_number operator a b)
apply_number_dints And a b = tt
apply_number_dints Andn a b = tt
apply_number_dints Or a b = tt
apply_number_dints Orn a b = tt
apply_number_dints Xor a b = tt
apply_number_dints Xorn a b = tt
apply_number_dints Add a b = refl
apply_number_dints Sub a b = refl
apply_number_dints Mul a b = refl
apply_number_dints Div a b = quotient_follows (quotient a b) (λ q. wrap q)
apply_number_dints Mod a b = quotient_follows (quotient a b) (λ q. a -ℤ q *ℤ b)
apply_number_dints Gt a b = refl
apply_number_dints another a b = refl

pub apply_number_times : (operator : Operator) (a b : ℤ) → ReadsAs (on_numbers Time operator a b) (apply_number operator a b)
apply_number_times And a b = tt
apply_number_times Andn a b = tt
apply_number_times Or a b = tt
apply_number_times Orn a b = tt
apply_number_times Xor a b = tt
apply_number_times Xorn a b = tt
apply_number_times Add a b = refl
apply_number_times Sub a b = refl
apply_number_times Mul a b = tt
apply_number_times Div a b = tt
apply_number_times Mod a b = tt
apply_number_times Gt a b = refl
apply_number_times another a b = refl

-- operators on values and on their numbers
pub apply_number_follows : (operator : Operator) (a b : Value) → ReadsAs (apply operator a b) (apply_number operator (value_number a) (value_number b))
apply_number_follows operator (Truth true) (Truth true) = apply_number_both operator
apply_number_follows operator (Truth true) (Truth false) = apply_number_first operator
apply_number_follows operator (Truth false) (Truth true) = apply_number_second operator
apply_number_follows operator (Truth false) (Truth false) = apply_number_neither operator
apply_number_follows operator (Dint a) (Dint b) = apply_number_dints operator a b
apply_number_follows operator (Time a) (Time b) = apply_number_times operator a b
apply_number_follows operator (Truth a) (Dint b) = tt
apply_number_follows operator (Dint a) (Truth b) = tt
apply_number_follows operator (Time a) (Truth b) = tt
apply_number_follows operator another third = tt

-- negation
pub negated_number_follows : (value : Value) → ReadsAs (negated value) (negated_number (value_number value))
negated_number_follows (Truth true) = refl
negated_number_follows (Truth false) = refl
negated_number_follows (Dint n) = tt
negated_number_follows (Time t) = tt

-- if there is an answer, it is given
abbrev pub AnswersAs : Result Bool Reason → Option Bool → Type 0
AnswersAs (Ok b) answer = answer ≡ Some b
AnswersAs (Err reason) answer = Unit {0}

-- conditions
pub acts_follow : (condition : Condition) (result : Option Value) → AnswersAs (meaning.acts condition result) (acts condition (option_map value_number result))
acts_follow Always result = refl
acts_follow IfTrue None = tt
acts_follow IfTrue (Some (Truth true)) = refl
acts_follow IfTrue (Some (Truth false)) = refl
acts_follow IfTrue (Some (Dint n)) = tt
acts_follow IfTrue (Some (Time t)) = tt
acts_follow IfFalse None = tt
acts_follow IfFalse (Some (Truth true)) = refl
acts_follow IfFalse (Some (Truth false)) = refl
acts_follow IfFalse (Some (Dint n)) = tt
acts_follow IfFalse (Some (Time t)) = tt
