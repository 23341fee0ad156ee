-- Lists by their indices.
use Rattle.wc_model.proofs.Common.{◌≡◌, ℕ, zero, suc, ◌+◌, ◌<◌, ◌≤◌, List, [], ◌∷◌, ◌++◌, length, get_or, drop, drop-cons, add-one, Some, None, refl, sym, ap, ◌∙◌, arith, slice_get, slice_get_read, slice_get_past}

-- what is in a list is there with more after it
pub get_more : {X : Type 0} (xs ys : List X) (k : ℕ) (x : X) → slice_get xs k ≡ Some x → slice_get (xs ++ ys) k ≡ Some x
get_more [] ys k x e = cc
get_more (y ∷ xs) ys zero x e = e
get_more (y ∷ xs) ys (suc k) x e = get_more xs ys k x e

-- the item after a list
pub get_last : {X : Type 0} (xs : List X) (x : X) → slice_get (xs ++ x ∷ []) (length xs) ≡ Some x
get_last [] x = refl
get_last (y ∷ xs) x = get_last xs x

-- a list from an index on
pub from_index : {X : Type 0} (items : List X) (i : ℕ) (x : X) → i < length items → x ≡ get_or items i x → drop i items ≡ x ∷ drop (i + 1) items
from_index items i x below is = let next : i + 1 ≡ suc i = add-one i in drop-cons items i x below ∙ (λ j. sym is j ∷ drop (sym next j) items)

pub from_index_or : {X : Type 0} (items : List X) (i : ℕ) (x : X) → i < length items → drop i items ≡ get_or items i x ∷ drop (i + 1) items
from_index_or items i x below = let next : i + 1 ≡ suc i = add-one i in drop-cons items i x below ∙ (λ j. get_or items i x ∷ drop (sym next j) items)

-- what `get` answers, as a look-up
pub got_some : {X : Type 0} (xs : List X) (i : ℕ) (x : X) → i < length xs → x ≡ get_or xs i x → slice_get xs i ≡ Some x
got_some xs i x below is = slice_get_read xs (length xs) i x refl below is

-- nothing is found if something is
pub not_past : {X : Type 0} (xs ys : List X) (i : ℕ) (x : X) → xs ≡ ys → slice_get ys i ≡ Some x → length xs ≤ i → ⊥
not_past xs ys i x same e past = let n : None ≡ Some x = sym (slice_get_past xs i past) ∙ ap (λ zs. slice_get zs i) same ∙ e in cc

-- two that are found at one place are one
pub same_found : {X : Type 0} (xs ys : List X) (i : ℕ) (x y : X) → xs ≡ ys → slice_get ys i ≡ Some x → i < length xs → y ≡ get_or xs i y → y ≡ x
same_found xs ys i x y same e below is = let n : Some y ≡ Some x = sym (got_some xs i y below is) ∙ ap (λ zs. slice_get zs i) same ∙ e in cc

-- there is an item at each index
pub found_within : {X : Type 0} (xs : List X) (i : ℕ) → i < length xs → (x : X) × (slice_get xs i ≡ Some x)
found_within [] i below = absurd (omega (arith, below))
found_within (x ∷ xs) zero below = (x, refl)
found_within (x ∷ xs) (suc i) below = found_within xs i (omega (arith, below))

-- what is in a list with one more item is one of the others, or that
pub data LastOr {X : Type 0} (xs : List X) (more : X) (i : ℕ) (x : X) : Type 0 where
  among : slice_get xs i ≡ Some x → LastOr xs more i x
  last : i ≡ length xs → x ≡ more → LastOr xs more i x

pub last_or : {X : Type 0} (xs : List X) (more : X) (i : ℕ) (x : X) → slice_get (xs ++ more ∷ []) i ≡ Some x → LastOr xs more i x
last_or [] more zero x e = last refl (let s : x ≡ more = cc in s)
last_or [] more (suc i) x e = cc
last_or (y ∷ xs) more zero x e = among e
last_or (y ∷ xs) more (suc i) x e = on (last_or xs more i x e)
  where
    on : LastOr xs more i x → LastOr (y ∷ xs) more (suc i) x
    on (among there) = among there
    on (last at is) = last (let n : suc i ≡ length (y ∷ xs) = omega (arith, at) in n) is

-- nothing is in an empty list
pub nothing : {X : Type 0} (xs : List X) (x : X) (i : ℕ) → xs ≡ [] → slice_get xs i ≡ Some x → ⊥
nothing xs x i none there = let e : slice_get [] i ≡ Some x = ap (λ ys. slice_get ys i) (sym none) ∙ there in by i e
  where
    by : (i : ℕ) → slice_get [] i ≡ Some x → ⊥
    by zero e = cc
    by (suc k) e = cc
