-- What happened at rows and at later ones.
use Rattle.std.proofs.Common.{◌≡◌, ℕ, ◌+◌, List, [], ◌∷◌, ◌++◌, Option, Some, None, fold, map, max, sum_by, refl, sym, ap, ◌∙◌, arith}
use Rattle.wc_model.proofs.Common.{filter_map-append, sum_by-append, cons_option, filter_map, last_or, option_or}
use Rattle.wc_view_columns.proofs.Together.{greatest_of}
use Rattle.wc_view_columns.specs.Rows.{AreBoth, counted, AreTogether, nothing}
use Rattle.wc_view_columns.specs.declared.events.Events.{Events}

-- a count of both, and with that of one more
counted_on : (a b m n k : ℕ) → a ≡ counted m → counted b ≡ counted n → k ≡ m + n → counted (a + b) ≡ counted k
counted_on a b m n k e f g = omega (arith, e, f, g)

sum_counted : (f : Events → ℕ) (earlier later : List Events) (a b c : ℕ) → c ≡ counted (a + b) → a ≡ counted (sum_by f earlier) → b ≡ counted (sum_by f later)
    → c ≡ counted (sum_by f (earlier ++ later))
sum_counted f earlier later a b c g e h =
    g ∙ counted_on a b (sum_by f earlier) (sum_by f later) (sum_by f (earlier ++ later)) e (omega (arith, h)) (sum_by-append f earlier later)

more_counted : (f : Events → ℕ) (earlier : List Events) (one : Events) (a c : ℕ) → c ≡ counted (a + f one) → a ≡ counted (sum_by f earlier)
    → c ≡ counted (sum_by f (earlier ++ one ∷ []))
more_counted f earlier one a c g e =
    g ∙ counted_on a (f one) (sum_by f earlier) (0 + f one) (sum_by f (earlier ++ one ∷ [])) e (omega arith) (sum_by-append f earlier (one ∷ []))

-- the greatest of both, and with one more
most_of_both : (f : Events → ℕ) (earlier later : List Events) (a b c : ℕ) → c ≡ max a b
    → a ≡ fold max 0 (map f earlier) → b ≡ fold max 0 (map f later) → c ≡ fold max 0 (map f (earlier ++ later))
most_of_both f earlier later a b c g e h = omega (arith, g, e, h, greatest_of f earlier later)

most_of_more : (f : Events → ℕ) (earlier : List Events) (one : Events) (a c : ℕ) → c ≡ max a (f one) → a ≡ fold max 0 (map f earlier)
    → c ≡ fold max 0 (map f (earlier ++ one ∷ []))
most_of_more f earlier one a c g e = omega (arith, g, e, greatest_of f earlier (one ∷ []))

-- the last of both
pub last_or-append : {A : Type 0} (o : Option A) (earlier later : List A) → last_or o (earlier ++ later) ≡ last_or (last_or o earlier) later
last_or-append o [] later = refl
last_or-append o (x ∷ earlier) later = last_or-append (Some x) earlier later

some_last : {A : Type 0} (x : A) (o : Option A) (xs : List A) → option_or (last_or (Some x) xs) o ≡ last_or (Some x) xs
some_last x o [] = refl
some_last x o (y ∷ xs) = some_last y o xs

last_else : {A : Type 0} (o : Option A) (xs : List A) → option_or (last_or None xs) o ≡ last_or o xs
last_else o [] = refl
last_else o (x ∷ xs) = some_last x o xs

last_of_both : {X A : Type 0} (given : X → Option A) (earlier later : List X) (a b c : Option A) → c ≡ option_or b a
    → a ≡ last_or None (filter_map given earlier) → b ≡ last_or None (filter_map given later) → c ≡ last_or None (filter_map given (earlier ++ later))
last_of_both given earlier later a b c g e f =
    let xs = filter_map given earlier in
    let ys = filter_map given later in
    g ∙ (λ i. option_or (f i) (e i)) ∙ last_else (last_or None xs) ys ∙ sym (last_or-append None xs ys)
    ∙ ap (last_or None) (sym (filter_map-append given earlier later))

one_last : {A : Type 0} (o p : Option A) → option_or o p ≡ last_or p (cons_option o [])
one_last None p = refl
one_last (Some x) p = refl

last_of_more : {X A : Type 0} (given : X → Option A) (earlier : List X) (one : X) (a c : Option A) → c ≡ option_or (given one) a
    → a ≡ last_or None (filter_map given earlier) → c ≡ last_or None (filter_map given (earlier ++ one ∷ []))
last_of_more given earlier one a c g e =
    let xs = filter_map given earlier in
    g ∙ ap (option_or (given one)) e ∙ one_last (given one) (last_or None xs) ∙ sym (last_or-append None xs (cons_option (given one) []))
    ∙ ap (last_or None) (sym (filter_map-append given earlier (one ∷ [])))

pub both_together : (earlier later : List Events) (a b c : Events) → AreTogether earlier a → AreTogether later b → AreBoth a b c → AreTogether (earlier ++ later) c
both_together earlier later a b c first second both = search (sum_counted, most_of_both, last_of_both)

pub one_together : (earlier : List Events) (a one c : Events) → AreTogether earlier a → AreBoth a one c → AreTogether (earlier ++ one ∷ []) c
one_together earlier a one c first both = search (more_counted, most_of_more, last_of_more)

pub none_together : AreTogether [] nothing
none_together = search
