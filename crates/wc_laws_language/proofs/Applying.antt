-- Operators on values of the kinds that they take.
use Rattle.std.proofs.Common.{◌≡◌, zero, suc, Bool, true, false, not, ◌&&◌, ◌||◌, Some, Result, Ok, ℤ, pos, negsuc, ◌+ℤ◌, ◌-ℤ◌, ◌*ℤ◌, refl}
use Rattle.std.specs.Prelude.{int_lt, int_le, int_div}
use Rattle.wc_model.specs.Definitions.{takes, divides, is_divisor, kind_after_operator, apply, differ, same_number, Reason, kind_of, Constant, wrap}
use Rattle.wc_model.specs.declared.kind.Kind.{Kind}
use Rattle.wc_model.specs.declared.kind.Kind.TheVariants.{Bool as KindBool, Dint as KindDint, Time as KindTime}
use Rattle.wc_model.specs.declared.operator.Operator.{Operator}
use Rattle.wc_model.specs.declared.operator.Operator.TheVariants.{And, Andn, Or, Orn, Xor, Xorn, Add, Sub, Mul, Div, Mod, Gt, Ge, Eq, Ne, Le, Lt}
use Rattle.wc_model.specs.declared.value.Value.{Value}
use Rattle.wc_model.specs.declared.value.Value.TheVariants.{Bool as Truth, Dint, Time}

-- the operators give a value of the kind that the rules say, on values of a kind that they take
abbrev pub GivesAfter : Operator → Kind → Result Value Reason → Type 0
GivesAfter operator kind r = (value : Value) × (r ≡ Ok value) × (Some (kind_of value) ≡ kind_after_operator operator (Some kind))

pub on_bools : (operator : Operator) → takes operator KindBool ≡ true → (x y : Bool) → GivesAfter operator KindBool (apply operator (Truth x) (Truth y))
on_bools And t x y = (Truth (x && y), refl, refl)
on_bools Andn t x y = (Truth (x && not y), refl, refl)
on_bools Or t x y = (Truth (x || y), refl, refl)
on_bools Orn t x y = (Truth (x || not y), refl, refl)
on_bools Xor t x y = (Truth (differ x y), refl, refl)
on_bools Xorn t x y = (Truth (differ x (not y)), refl, refl)
on_bools Add t x y = cc
on_bools Sub t x y = cc
on_bools Mul t x y = cc
on_bools Div t x y = cc
on_bools Mod t x y = cc
on_bools Gt t x y = cc
on_bools Ge t x y = cc
on_bools Eq t x y = (Truth (not (differ x y)), refl, refl)
on_bools Ne t x y = (Truth (differ x y), refl, refl)
on_bools Le t x y = cc
on_bools Lt t x y = cc

pub on_dints' : (operator : Operator) → takes operator KindDint ≡ true → divides operator ≡ false → (x y : ℤ) → GivesAfter operator KindDint (apply operator (Dint x) (Dint y))
on_dints' And t d x y = cc
on_dints' Andn t d x y = cc
on_dints' Or t d x y = cc
on_dints' Orn t d x y = cc
on_dints' Xor t d x y = cc
on_dints' Xorn t d x y = cc
on_dints' Add t d x y = (Dint (wrap (x +ℤ y)), refl, refl)
on_dints' Sub t d x y = (Dint (wrap (x -ℤ y)), refl, refl)
on_dints' Mul t d x y = (Dint (wrap (x *ℤ y)), refl, refl)
on_dints' Div t d x y = cc
on_dints' Mod t d x y = cc
on_dints' Gt t d x y = (Truth (int_lt y x), refl, refl)
on_dints' Ge t d x y = (Truth (int_le y x), refl, refl)
on_dints' Eq t d x y = (Truth (same_number x y), refl, refl)
on_dints' Ne t d x y = (Truth (not (same_number x y)), refl, refl)
on_dints' Le t d x y = (Truth (int_le x y), refl, refl)
on_dints' Lt t d x y = (Truth (int_lt x y), refl, refl)

pub on_times : (operator : Operator) → takes operator KindTime ≡ true → (x y : ℤ) → GivesAfter operator KindTime (apply operator (Time x) (Time y))
on_times And t x y = cc
on_times Andn t x y = cc
on_times Or t x y = cc
on_times Orn t x y = cc
on_times Xor t x y = cc
on_times Xorn t x y = cc
on_times Add t x y = (Time (wrap (x +ℤ y)), refl, refl)
on_times Sub t x y = (Time (wrap (x -ℤ y)), refl, refl)
on_times Mul t x y = cc
on_times Div t x y = cc
on_times Mod t x y = cc
on_times Gt t x y = (Truth (int_lt y x), refl, refl)
on_times Ge t x y = (Truth (int_le y x), refl, refl)
on_times Eq t x y = (Truth (same_number x y), refl, refl)
on_times Ne t x y = (Truth (not (same_number x y)), refl, refl)
on_times Le t x y = (Truth (int_le x y), refl, refl)
on_times Lt t x y = (Truth (int_lt x y), refl, refl)

-- DIV and MOD by a number other than 0
pub by_divisor : (operator : Operator) → divides operator ≡ true → (x y : ℤ) → is_divisor (Constant (Dint y)) ≡ true → GivesAfter operator KindDint (apply operator (Dint x) (Dint y))
by_divisor Div d x (pos zero) n = cc
by_divisor Div d x (pos (suc y)) n = (Dint (wrap (int_div x (pos (suc y)))), refl, refl)
by_divisor Div d x (negsuc y) n = (Dint (wrap (int_div x (negsuc y))), refl, refl)
by_divisor Mod d x (pos zero) n = cc
by_divisor Mod d x (pos (suc y)) n = (Dint (x -ℤ int_div x (pos (suc y)) *ℤ pos (suc y)), refl, refl)
by_divisor Mod d x (negsuc y) n = (Dint (x -ℤ int_div x (negsuc y) *ℤ negsuc y), refl, refl)
by_divisor operator d x y n = cc

-- values of one kind that an operator takes
pub applied : (operator : Operator) (kind : Kind) → takes operator kind ≡ true → divides operator ≡ false → (a b : Value) → kind_of a ≡ kind → kind_of b ≡ kind → GivesAfter operator kind (apply operator a b)
applied operator KindBool t d (Truth x) (Truth y) ka kb = on_bools operator t x y
applied operator KindDint t d (Dint x) (Dint y) ka kb = on_dints' operator t d x y
applied operator KindTime t d (Time x) (Time y) ka kb = on_times operator t x y
applied operator kind t d (Truth x) (Dint y) ka kb = cc
applied operator kind t d (Dint x) (Truth y) ka kb = cc
applied operator kind t d (Time x) (Truth y) ka kb = cc
applied operator kind t d another third ka kb = cc

-- a BOOL
pub truth_of : (v : Value) → kind_of v ≡ KindBool → (b : Bool) × (v ≡ Truth b)
truth_of (Truth b) e = (b, refl)
truth_of (Dint n) e = cc
truth_of (Time t) e = cc
