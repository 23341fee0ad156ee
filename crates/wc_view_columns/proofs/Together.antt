-- What held after some rows and after later ones.
use Rattle.std.proofs.Common.{◌≡◌, ◌+◌, ◌-◌, ◌/◌, ◌%◌, ◌^◌, ◌<◌, ◌≤◌, ◌||◌, ℕ, Bool, false, ℤ, List, [], ◌∷◌, ◌++◌, Option, Some, None, map, sym, ap, ◌∙◌, subst, arith, pow_mono}
use Rattle.wc_model.proofs.Common.{map-append, filter_map-append, list_any-append, fold-append, div_below, pow_pos, bit_at-lt, bit_at_ones, bit_at_or, bit_at_xor, bit_at, filter_map, fold, last_or, list_any, option_to_list}
use Rattle.std.specs.Int.Bits.{bit_or, bit_xor}
use Rattle.std.specs.Prelude.{max}
use Rattle.wc_view_columns.specs.Held.{AreBitsOf, Held, span_of}
use Rattle.wc_view_columns.specs.declared.bits.Bits.{Bits}
use Rattle.wc_view_columns.specs.declared.span.NumberSpan.{NumberSpan}

-- the greatest of numbers and of later ones
greatest_on : (a : ℕ) (numbers : List ℕ) → fold max a numbers ≡ max a (fold max 0 numbers)
greatest_on a [] = omega arith
greatest_on a (b ∷ numbers) =
    omega (arith, greatest_on (max a b) numbers, greatest_on (max 0 b) numbers)

pub greatest_of : {X : Type 0} (f : X → ℕ) (earlier later : List X) → fold max 0 (map f (earlier ++ later)) ≡ max (fold max 0 (map f earlier)) (fold max 0 (map f later))
greatest_of f earlier later =
    ap (fold max 0) (map-append f earlier later) ∙ fold-append max 0 (map f earlier) (map f later)
    ∙ greatest_on (fold max 0 (map f earlier)) (map f later)

-- the last of the later ones is the last
last_later : (earlier later : List ℕ) (first : Option ℕ) (last : ℕ) → Some last ≡ last_or None later → Some last ≡ last_or first (earlier ++ later)
last_later [] [] first last e = absurd (cc)
last_later [] (y ∷ ys) first last e = e
last_later (x ∷ xs) later first last e = last_later xs later (Some x) last e

-- the bits of both
pub both_bits : (earlier later : List ℕ) (a b c : Bits) → AreBitsOf earlier a → AreBitsOf later b
    → c.high ≡ bit_or a.high b.high → c.low ≡ bit_or a.low b.low → c.last ≡ b.last → AreBitsOf (earlier ++ later) c
both_bits earlier later a b c first second high low last = record {
  high = λ i within.
      ap (λ n. bit_at n i) high ∙ bit_at_or a.high b.high i ∙ (λ j. max (first.high i within j) (second.high i within j))
      ∙ sym (greatest_of (λ value. bit_at value i) earlier later);
  low = λ i within.
      ap (λ n. bit_at n i) low ∙ bit_at_or a.low b.low i ∙ (λ j. max (first.low i within j) (second.low i within j))
      ∙ sym (greatest_of (λ value. 1 - bit_at value i) earlier later);
  last = ap (λ n. Some n) last ∙ last_later earlier later None b.last second.last;
}

-- and of one value
pub one_bits : (value : ℕ) (c : Bits) → c.high ≡ value → c.low ≡ bit_xor value 65535 → c.last ≡ value → AreBitsOf (value ∷ []) c
one_bits value c high low last = record {
  high = λ i within. ap (λ n. bit_at n i) high ∙ omega arith;
  low = λ i within.
      let other : bit_at (bit_xor value 65535) i ≡ (bit_at value i + bit_at 65535 i) % 2 = bit_at_xor value 65535 i in
      let ones : bit_at 65535 i ≡ 1 = bit_at_ones 16 i within in
      let small : bit_at value i < 2 = bit_at-lt value i in
      ap (λ n. bit_at n i) low ∙ other ∙ ap (λ n. (bit_at value i + n) % 2) ones ∙ omega arith;
  last = ap (λ n. Some n) last;
}

-- what a single row gives
pub one_given : {X Y : Type 0} (f : X → Option Y) (x : X) → filter_map f (x ∷ []) ≡ option_to_list (f x)
one_given f x = grind arith

-- a single flag
pub one_flag : (b : Bool) → (b || false) ≡ b
one_flag b = grind arith

-- the values of rows and of later ones
pub bits_on : (f : Held → ℕ) (held others : List Held) (c : Bits) → AreBitsOf (map f held ++ map f others) c → AreBitsOf (map f (held ++ others)) c
bits_on f held others c are = subst (λ values. AreBitsOf values c) (sym (map-append f held others)) are

pub flags_on : (f : Held → Bool) (held others : List Held) (a b c : Bool) → c ≡ (a || b) → a ≡ list_any f held → b ≡ list_any f others → c ≡ list_any f (held ++ others)
flags_on f held others a b c e first second = e ∙ (λ i. first i || second i) ∙ sym (list_any-append f held others)

pub spans_on : (f : Held → Option ℤ) (held others : List Held) (c : Option NumberSpan) → c ≡ span_of (filter_map f held ++ filter_map f others) → c ≡ span_of (filter_map f (held ++ others))
spans_on f held others c e = e ∙ ap span_of (sym (filter_map-append f held others))

pub words_on : (f : Held → ℤ) (held others : List Held) (c : Option NumberSpan) → c ≡ span_of (map f held ++ map f others) → c ≡ span_of (map f (held ++ others))
words_on f held others c e = e ∙ ap span_of (sym (map-append f held others))

-- a bit above all that a number has
pub high_bit : (value i : ℕ) → value < 2 ^ 16 → (i < 16 → ⊥) → bit_at value i ≡ 0
high_bit value i small high =
    let wide : 16 ≤ i = omega (arith, high) in
    let power : 2 ^ 16 ≤ 2 ^ i = pow_mono wide in
    let none : value / 2 ^ i < 1 = div_below value (2 ^ i) 1 (pow_pos i) (omega (arith, small, power)) in
    omega (arith, none)
