-- What is known of rows is the same if what one of them left is taken once more after it.
use Rattle.wc_model.proofs.Common.{◌≡◌, ℕ, ◌-◌, ◌||◌, Bool, ℤ, List, [], ◌∷◌, ◌++◌, Option, Some, None, map, max, refl, sym, ap, ◌∙◌, subst, arith, append_assoc, int_max_is, int_min_is, ints, map-append, filter_map-append, list_any-append, bit_at, int_max, int_min, cons_option, filter_map, fold, last_or, list_any, option_to_list}
use Rattle.wc_view_columns.proofs.Totals.{last_or-append}
use Rattle.wc_view_columns.specs.Held.{AreBitsOf, Held, IsStateOf, span_of}
use Rattle.wc_view_columns.specs.declared.bits.Bits.{Bits}
use Rattle.wc_view_columns.specs.declared.span.NumberSpan.{NumberSpan}
use Rattle.wc_view_columns.specs.declared.state.State.{State}

-- a fold, if a second step does nothing
again : {A B : Type 0} (f : B → A → B) (b : B) (xs ys : List A) (x : A) → ((c : B) → f (f c x) x ≡ f c x) → fold f b (xs ++ x ∷ x ∷ ys) ≡ fold f b (xs ++ x ∷ ys)
again f b [] ys x twice = ap (λ c. fold f c ys) (twice b)
again f b (z ∷ xs) ys x twice = again f (f b z) xs ys x twice

span_again : (xs ys : List ℤ) (x : ℤ) → span_of (xs ++ x ∷ x ∷ ys) ≡ span_of (xs ++ x ∷ ys)
span_again [] ys x =
    let least : int_min x x ≡ x = omega (arith, ints, int_min_is x x) in
    let greatest : int_max x x ≡ x = omega (arith, ints, int_max_is x x) in
    λ i. Some (record { least = fold int_min (least i) ys; greatest = fold int_max (greatest i) ys; last = fold (λ _ n. n) x ys })
span_again (z ∷ xs) ys x =
    let least = again int_min z xs ys x (λ c. omega (arith, ints, int_min_is c x, int_min_is (int_min c x) x)) in
    let greatest = again int_max z xs ys x (λ c. omega (arith, ints, int_max_is c x, int_max_is (int_max c x) x)) in
    λ i. Some (record { least = least i; greatest = greatest i; last = again (λ _ n. n) z xs ys x (λ c. refl) i })

any_again : (p : Held → Bool) (xs ys : List Held) (x : Held) (b : Bool) → b ≡ list_any p (xs ++ x ∷ x ∷ ys) → b ≡ list_any p (xs ++ x ∷ ys)
any_again p xs ys x b is =
    is ∙ list_any-append p xs (x ∷ x ∷ ys) ∙ ap (λ c. list_any p xs || c) (or_twice (p x) (list_any p ys)) ∙ sym (list_any-append p xs (x ∷ ys))
  where
    or_twice : (b c : Bool) → (b || (b || c)) ≡ (b || c)
    or_twice b c = grind arith

spans_again : (f : Held → Option ℤ) (xs ys : List Held) (x : Held) (s : Option NumberSpan) → s ≡ span_of (filter_map f (xs ++ x ∷ x ∷ ys))
    → s ≡ span_of (filter_map f (xs ++ x ∷ ys))
spans_again f xs ys x s is =
    is ∙ ap span_of (filter_map-append f xs (x ∷ x ∷ ys)) ∙ go (f x) ∙ ap span_of (sym (filter_map-append f xs (x ∷ ys)))
  where
    go : (o : Option ℤ) → span_of (filter_map f xs ++ cons_option o (cons_option o (filter_map f ys))) ≡ span_of (filter_map f xs ++ cons_option o (filter_map f ys))
    go None = refl
    go (Some n) = span_again (filter_map f xs) (filter_map f ys) n

words_again : (f : Held → ℤ) (xs ys : List Held) (x : Held) (s : Option NumberSpan) → s ≡ span_of (map f (xs ++ x ∷ x ∷ ys)) → s ≡ span_of (map f (xs ++ x ∷ ys))
words_again f xs ys x s is =
    is ∙ ap span_of (map-append f xs (x ∷ x ∷ ys)) ∙ span_again (map f xs) (map f ys) (f x) ∙ ap span_of (sym (map-append f xs (x ∷ ys)))

max_again : (f : ℕ → ℕ) (xs ys : List ℕ) (x : ℕ) → fold max 0 (map f (xs ++ x ∷ x ∷ ys)) ≡ fold max 0 (map f (xs ++ x ∷ ys))
max_again f xs ys x =
    ap (fold max 0) (map-append f xs (x ∷ x ∷ ys)) ∙ again max 0 (map f xs) (map f ys) (f x) (λ c. omega arith) ∙ ap (fold max 0) (sym (map-append f xs (x ∷ ys)))

bits_again : (f : Held → ℕ) (xs ys : List Held) (x : Held) (bits : Bits) → AreBitsOf (map f (xs ++ x ∷ x ∷ ys)) bits → AreBitsOf (map f (xs ++ x ∷ ys)) bits
bits_again f xs ys x bits are =
    rw (map-append f xs (x ∷ ys)) (go (rw (map-append f xs (x ∷ x ∷ ys)) at are))
  where
    go : AreBitsOf (map f xs ++ f x ∷ f x ∷ map f ys) bits → AreBitsOf (map f xs ++ f x ∷ map f ys) bits
    go so = record {
      high = λ i within. so.high i within ∙ max_again (λ value. bit_at value i) (map f xs) (map f ys) (f x);
      low = λ i within. so.low i within ∙ max_again (λ value. 1 - bit_at value i) (map f xs) (map f ys) (f x);
      last = so.last ∙ last_or-append None (map f xs) (f x ∷ f x ∷ map f ys) ∙ sym (last_or-append None (map f xs) (f x ∷ map f ys));
    }

pub settled : (xs ys : List Held) (x : Held) (state : State) → IsStateOf (xs ++ x ∷ x ∷ ys) state → IsStateOf (xs ++ x ∷ ys) state
settled xs ys x state are = search (any_again, spans_again, words_again, bits_again, are.words, are.variables)

-- so of rows and what the last of them left, before others
go_on : (before : List Held) (h : Held) (held others : List Held) (state : State)
    → IsStateOf ((before ++ h ∷ held) ++ (option_to_list (last_or (Some h) held) ++ others)) state → IsStateOf ((before ++ h ∷ held) ++ others) state
go_on before h [] others state are =
    subst (λ rows. IsStateOf rows state) (sym (append_assoc before (h ∷ []) others))
    (settled before others h state (subst (λ rows. IsStateOf rows state) (append_assoc before (h ∷ []) (h ∷ others)) are))
go_on before h (next ∷ held) others state are =
    let same : (before ++ h ∷ []) ++ next ∷ held ≡ before ++ h ∷ next ∷ held = append_assoc before (h ∷ []) (next ∷ held) in
    subst (λ rows. IsStateOf (rows ++ others) state) same
    (go_on (before ++ h ∷ []) next held others state
    (subst (λ rows. IsStateOf (rows ++ (option_to_list (last_or (Some next) held) ++ others)) state) (sym same) are))

pub left_once : (held others : List Held) (state : State) → IsStateOf (held ++ (option_to_list (last_or None held) ++ others)) state → IsStateOf (held ++ others) state
left_once [] others state are = are
left_once (h ∷ held) others state are = go_on [] h held others state are
