-- The bits of outputs, and an output that is stored again. (No rule of the language.)
use Rattle.std.proofs.Common.{◌≡◌, ℕ, ◌<◌, ◌^◌, Bool, true, false, ◌||◌, nat_eq, bit_or, refl, ap, ◌∙◌, arith, ◌&&◌, nat_le, List, [], ◌∷◌}
use Rattle.wc_model.proofs.Common.{eqb-true, eqb-false, nat_tests, bit_at-lt, bit_at-pow_same, bit_at-pow_other, bit_at_or, bit_at, beq, booleans_Decides, list_any}
use Rattle.std.specs.Prelude.{max}
use Rattle.wc_built_in.proofs.Below.{each_below}
use Rattle.wc_diag_warnings.specs.Uses.{outputs}

-- the greater of two digits
greater : (x y : ℕ) → x < 2 → y < 2 → nat_eq (max x y) 1 ≡ (nat_eq x 1 || nat_eq y 1)
greater x y a b = grind (arith, nat_tests)

-- the bits of both
pub bit_of_both : (a b k : ℕ) → nat_eq (bit_at (bit_or a b) k) 1 ≡ (nat_eq (bit_at a k) 1 || nat_eq (bit_at b k) 1)
bit_of_both a b k = ap (λ n. nat_eq n 1) (bit_at_or a b k) ∙ greater (bit_at a k) (bit_at b k) (bit_at-lt a k) (bit_at-lt b k)

-- the only bit of a power
pub bit_of_one : (n k : ℕ) → nat_eq (bit_at (2 ^ n) k) 1 ≡ nat_eq k n
bit_of_one n k = by (nat_eq k n) refl
  where
    by : (b : Bool) → nat_eq k n ≡ b → nat_eq (bit_at (2 ^ n) k) 1 ≡ b
    by true same = ap (λ i. nat_eq (bit_at (2 ^ n) i) 1) (eqb-true k n same) ∙ ap (λ d. nat_eq d 1) (bit_at-pow_same n)
    by false other = ap (λ d. nat_eq d 1) (bit_at-pow_other n k (eqb-false k n other))

-- the outputs are the last of the directly represented variables
pub output_is : (n : ℕ) → n < 45 → nat_le 25 n ≡ list_any (nat_eq n) outputs
output_is n below = (booleans_Decides (nat_le 25 n) (list_any (nat_eq n) outputs)).0 (each_below (λ k. beq (nat_le 25 k) (list_any (nat_eq k) outputs)) 45 n refl below)

-- one number more of which an event stores only n
one_more : (f : ℕ → Bool) (n k : ℕ) (rest : Bool) (b : Bool) → nat_eq n k ≡ b → ((b || rest) && f n) ≡ ((f k && nat_eq k n) || (rest && f n))
one_more f n k rest b is = grind arith

-- some number of the list is that of the output
pub again_is : (f g : ℕ → Bool) (n : ℕ) (numbers : List ℕ) → ((k : ℕ) → nat_eq k n ≡ g k) → (list_any (nat_eq n) numbers && f n) ≡ list_any (λ k. f k && g k) numbers
again_is f g n [] is = refl
again_is f g n (k ∷ numbers) is =
    one_more f n k (list_any (nat_eq n) numbers) (nat_eq n k) refl
    ∙ ap (λ b. (f k && b) || (list_any (nat_eq n) numbers && f n)) (is k)
    ∙ ap (λ b. (f k && g k) || b) (again_is f g n numbers is)

-- an event that stores none
pub never_is : (f g : ℕ → Bool) (numbers : List ℕ) → ((k : ℕ) → false ≡ g k) → false ≡ list_any (λ k. f k && g k) numbers
never_is f g [] is = refl
never_is f g (k ∷ numbers) is = grind (arith, is k, never_is f g numbers is)
