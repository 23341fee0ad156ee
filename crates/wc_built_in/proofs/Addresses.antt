-- Which directly represented variable an address names.
use Rattle.wc_model.proofs.Common.{◌≡◌, ℕ, zero, suc, ◌+◌, ◌-◌, ◌<◌, Bool, true, false, List, [], ◌∷◌, Option, Some, None, cond, map, true≢false, option_map, refl, sym, ap, ◌∙◌, arith, and_parts, eqb-true, false_from_ne_true, find-append, bytes_eq-Decides, option_or, list_all, list_any, bytes_eq}
use Rattle.std.specs.Prelude.{find, nat_eq, ◌||◌}
use Rattle.wc_model.specs.Definitions.{direct_variables, numbers_below, spellings, variable_at, Name}
use Rattle.wc_built_in.specs.Fields.{direct_at, only_number}
use Rattle.wc_built_in.proofs.Below.{each_below}

-- a number that does not pass leaves none found
none_more : (p : ℕ → Bool) (i : ℕ) → find p (numbers_below i) ≡ None → p i ≡ false → find p (numbers_below (i + 1)) ≡ None
none_more p i none fails =
    let e : i + 1 ≡ suc i = omega arith in
    ap (λ n. find p (numbers_below n)) e ∙ find-append p (numbers_below i) (i ∷ []) ∙ ap (λ o. option_or o (cond (p i) (Some i) None)) none ∙ ap (λ b. cond b (Some i) None) fails

-- none is found if none passes
all_fail : (p : ℕ → Bool) (n : ℕ) → ((i : ℕ) → i < n → p i ≡ false) → find p (numbers_below n) ≡ None
all_fail p zero fail = refl
all_fail p (suc n) fail =
    let e : suc n ≡ n + 1 = omega arith in
    ap (λ m. find p (numbers_below m)) e ∙ none_more p n (all_fail p n (λ i below. fail i (omega arith))) (fail n (omega arith))

-- the first number that passes is found
first_among : (p : ℕ → Bool) (i n : ℕ) → find p (numbers_below i) ≡ None → p i ≡ true → find p (numbers_below (suc i + n)) ≡ Some i
first_among p i zero none passes =
    let e : suc i + zero ≡ suc i = omega arith in
    ap (λ m. find p (numbers_below m)) e ∙ find-append p (numbers_below i) (i ∷ []) ∙ ap (λ o. option_or o (cond (p i) (Some i) None)) none ∙ ap (λ b. cond b (Some i) None) passes
first_among p i (suc n) none passes =
    let e : suc i + suc n ≡ suc (suc i + n) = omega arith in
    ap (λ m. find p (numbers_below m)) e ∙ find-append p (numbers_below (suc i + n)) ((suc i + n) ∷ [])
    ∙ ap (λ o. option_or o (cond (p (suc i + n)) (Some (suc i + n)) None)) (first_among p i n none passes)

first_found : (p : ℕ → Bool) (i n : ℕ) → i < n → find p (numbers_below i) ≡ None → p i ≡ true → find p (numbers_below n) ≡ Some i
first_found p i n below none passes =
    let e : suc i + (n - suc i) ≡ n = omega arith in
    ap (λ m. find p (numbers_below m)) (sym e) ∙ first_among p i (n - suc i) none passes

-- what is found in a mapped list
found_mapped_by : {X Y : Type 0} (f : X → Y) (x : X) (b : Bool) (some : Option Y) (rest : Option X) → some ≡ option_map f rest → cond b (Some (f x)) some ≡ option_map f (cond b (Some x) rest)
found_mapped_by f x true some rest e = refl
found_mapped_by f x false some rest e = e

pub found_mapped : {X Y : Type 0} (f : X → Y) (p : Y → Bool) (xs : List X) → find p (map f xs) ≡ option_map f (find (λ x. p (f x)) xs)
found_mapped f p [] = refl
found_mapped f p (x ∷ xs) = found_mapped_by f x (p (f x)) (find p (map f xs)) (find (λ x. p (f x)) xs) (found_mapped f p xs)

-- the test of each number
abbrev pub spelled : Name → ℕ → Bool
spelled name n = list_any (bytes_eq name) (spellings (direct_at n))

all_direct : direct_variables ≡ map direct_at (numbers_below 45)
all_direct = refl

-- an address names the first variable that is spelled so
variable_found : (name : Name) → variable_at name ≡ option_map direct_at (find (spelled name) (numbers_below 45))
variable_found name = ap (find (λ v. list_any (bytes_eq name) (spellings v))) all_direct ∙ found_mapped direct_at (λ v. list_any (bytes_eq name) (spellings v)) (numbers_below 45)

-- each spelling has the number of its variable
abbrev is_own : ℕ → Bool
is_own n = list_all (λ name. nat_eq (only_number name) n) (spellings (direct_at n))

all_own : list_all is_own (numbers_below 45) ≡ true
all_own = refl

-- a name that is spelled as one of these has their number
own_among : (name : Name) (n : ℕ) (names : List Name) → list_all (λ s. nat_eq (only_number s) n) names ≡ true → list_any (bytes_eq name) names ≡ true → only_number name ≡ n
own_among name n [] all any = absurd (true≢false (sym any))
own_among name n (first ∷ names) all any =
    let parts = and_parts (nat_eq (only_number first) n) (list_all (λ s. nat_eq (only_number s) n) names) all in
    by (bytes_eq name first) refl (eqb-true (only_number first) n parts.0) (own_among name n names parts.1) any
  where
    by : (b : Bool) → bytes_eq name first ≡ b → only_number first ≡ n → (list_any (bytes_eq name) names ≡ true → only_number name ≡ n) → (b || list_any (bytes_eq name) names) ≡ true → only_number name ≡ n
    by true same own rest any = ap only_number ((bytes_eq-Decides name first).0 same) ∙ own
    by false other own rest any = rest any

-- an address has no number but the one that is read
only_spelled : (name : Name) (i : ℕ) → i < 45 → spelled name i ≡ true → only_number name ≡ i
only_spelled name i below any = own_among name i (spellings (direct_at i)) (each_below is_own 45 i all_own below) any

-- no smaller number passes than the one that is read
none_before : (name : Name) (number : ℕ) → number ≡ only_number name → number < 45 → (i : ℕ) → i < number → spelled name i ≡ true → ⊥
none_before name number e below i less passes =
    let same = only_spelled name i (omega arith) passes in
    omega arith

-- no number passes if the one that is read does not
none_at_all : (name : Name) (number : ℕ) → number ≡ only_number name → (number < 45 → spelled name number ≡ false) → (i : ℕ) → i < 45 → spelled name i ≡ true → ⊥
none_at_all name number e refused i below passes =
    let same : i ≡ number = sym (e ∙ only_spelled name i below passes) in
    true≢false (sym passes ∙ ap (spelled name) same ∙ refused (omega arith))

-- the variable of the number that is read, if it is spelled so
pub some_spelled : (name : Name) (number : ℕ) → number ≡ only_number name → number < 45 → spelled name number ≡ true → Some (direct_at number) ≡ variable_at name
some_spelled name number e below passes =
    let none = all_fail (spelled name) number (λ i less. false_from_ne_true (spelled name i) (none_before name number e below i less)) in
    sym (variable_found name ∙ ap (option_map direct_at) (first_found (spelled name) number 45 below none passes))

-- no variable, if the number that is read is not valid or is not spelled so
pub none_spelled : (name : Name) (number : ℕ) → number ≡ only_number name → (number < 45 → spelled name number ≡ false) → None ≡ variable_at name
none_spelled name number e refused =
    let none = all_fail (spelled name) 45 (λ i below. false_from_ne_true (spelled name i) (none_at_all name number e refused i below)) in
    sym (variable_found name ∙ ap (option_map direct_at) none)
