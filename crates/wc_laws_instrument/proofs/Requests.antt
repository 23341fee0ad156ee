-- A stream that is cut anywhere has the same requests.
use Rattle.wc_model.proofs.Common.{◌≡◌, ℕ, Bool, true, false, cond, ◌&&◌, List, [], ◌∷◌, ◌++◌, length, drop, refl, ap, sym, ◌∙◌, append_assoc, append-nil, inl, inr, drop-append_seam, cons_option, list_all, concat, option_or, option_to_list}
use Rattle.std.proofs.Math.Numerals.{one-add}
use Rattle.std.proofs.lemmas.Bool.{and_parts, and_cases, cases_Bool, both_ways, true≢false, or_parts, or_left, or_right, not-true, not_from_true, false_from_ne_true, cond-false, cond-true}
use Rattle.std.specs.Prelude.{take_while, Option, Some, None, option_map, ◌==◌, ◌||◌}
use Rattle.wc_model.specs.Instrument.Requests.{line_feed, carriage_return, escape, is_text, begins_with, request_at, requests, requests_in, open_at, open_request, completed_by, opened_by, requests_in_chunks, IsCutAnywhere}

module _ (p : ℕ → Bool) where
  -- what starts at the first element that fails the test
  abbrev beyond : List ℕ → List ℕ
  beyond xs = drop (length (take_while p xs)) xs

  -- what passes at the start is taken
  taken_more : (x : ℕ) (xs : List ℕ) → p x ≡ true → take_while p (x ∷ xs) ≡ x ∷ take_while p xs
  taken_more x xs h = rw (h, one-add)

  -- what fails there ends it
  taken_none : (x : ℕ) (xs : List ℕ) → p x ≡ false → take_while p (x ∷ xs) ≡ []
  taken_none x xs h = rw h

  -- what is beyond is then what is beyond the rest
  beyond_more : (x : ℕ) (xs : List ℕ) → p x ≡ true → beyond (x ∷ xs) ≡ beyond xs
  beyond_more x xs h = ap (λ t. drop (length t) (x ∷ xs)) (taken_more x xs h)

  -- and if the first fails
  beyond_none : (x : ℕ) (xs : List ℕ) → p x ≡ false → beyond (x ∷ xs) ≡ x ∷ xs
  beyond_none x xs h = ap (λ t. drop (length t) (x ∷ xs)) (taken_none x xs h)

  -- if all of a list passes, the test goes on after it
  taken_on : (xs ys : List ℕ) → list_all p xs ≡ true → take_while p (xs ++ ys) ≡ xs ++ take_while p ys
  taken_on [] ys h = refl
  taken_on (x ∷ xs) ys h = taken_more x (xs ++ ys) (and_parts (p x) (list_all p xs) h).0
      ∙ ap (λ t. x ∷ t) (taken_on xs ys (and_parts (p x) (list_all p xs) h).1)

  -- and what is beyond is what is beyond the rest
  beyond_on : (xs ys : List ℕ) → list_all p xs ≡ true → beyond (xs ++ ys) ≡ beyond ys
  beyond_on [] ys h = refl
  beyond_on (x ∷ xs) ys h = beyond_more x (xs ++ ys) (and_parts (p x) (list_all p xs) h).0
      ∙ beyond_on xs ys (and_parts (p x) (list_all p xs) h).1

  -- if the first passes and not all do, the rest fails
  rest_fails : (x : ℕ) (xs : List ℕ) → p x ≡ true → (p x && list_all p xs) ≡ false → list_all p xs ≡ false
  rest_fails x xs passes h = elim (and_cases (p x) (list_all p xs) h) [
    | inl stops ↦ absurd (both_ways (p x) stops passes)
    | inr fails ↦ fails
  ]

  -- if an element fails, what comes after makes no difference
  taken_within : (xs ys : List ℕ) → list_all p xs ≡ false → take_while p (xs ++ ys) ≡ take_while p xs
  taken_within [] ys h = absurd (true≢false h)
  taken_within (x ∷ xs) ys h = elim (cases_Bool (p x)) [
    | inl passes ↦ taken_more x (xs ++ ys) passes ∙ ap (λ t. x ∷ t) (taken_within xs ys (rest_fails x xs passes h)) ∙ sym (taken_more x xs passes)
    | inr stops ↦ taken_none x (xs ++ ys) stops ∙ sym (taken_none x xs stops)
  ]

  -- nor does it to the byte that follows what passes
  begins_within : (byte : ℕ) (xs ys : List ℕ) → list_all p xs ≡ false →
      begins_with byte (beyond (xs ++ ys)) ≡ begins_with byte (beyond xs)
  begins_within byte [] ys h = absurd (true≢false h)
  begins_within byte (x ∷ xs) ys h = elim (cases_Bool (p x)) [
    | inl passes ↦ ap (begins_with byte) (beyond_more x (xs ++ ys) passes) ∙ begins_within byte xs ys (rest_fails x xs passes h)
        ∙ sym (ap (begins_with byte) (beyond_more x xs passes))
    | inr stops ↦ ap (begins_with byte) (beyond_none x (xs ++ ys) stops) ∙ sym (ap (begins_with byte) (beyond_none x xs stops))
  ]

-- a request that doesn't begin here
no_request_at : (byte : ℕ) (rest : List ℕ) → (byte == line_feed) ≡ false → request_at byte rest ≡ None
no_request_at byte rest h = rw h

-- one that does, if CR follows its text
request_at_feed : (byte : ℕ) (rest : List ℕ) → (byte == line_feed) ≡ true →
    request_at byte rest ≡ cond (begins_with carriage_return (drop (length (take_while is_text rest)) rest)) (Some (take_while is_text rest)) None
request_at_feed byte rest h = rw h

-- no request is open from another byte than LF
not_open_at : (byte : ℕ) (rest : List ℕ) → (byte == line_feed) ≡ false → open_at byte rest ≡ None
not_open_at byte rest h = rw h

-- from LF one is, if text alone follows
open_at_feed : (byte : ℕ) (rest : List ℕ) → (byte == line_feed) ≡ true → open_at byte rest ≡ cond (list_all is_text rest) (Some rest) None
open_at_feed byte rest h = rw h

-- bytes of text alone hold no LF
text_is_no_feed : (byte : ℕ) → is_text byte ≡ true → (byte == line_feed) ≡ false
text_is_no_feed byte h =
    (or_parts (byte == line_feed) (byte == carriage_return)
    (or_parts (byte == line_feed || byte == carriage_return) (byte == escape)
    (not-true (byte == line_feed || byte == carriage_return || byte == escape) h)).0).0

-- CR is not a byte of text
return_is_no_text : (byte : ℕ) → (byte == carriage_return) ≡ true → is_text byte ≡ false
return_is_no_text byte h =
    not_from_true (byte == line_feed || byte == carriage_return || byte == escape)
    (or_left (byte == line_feed || byte == carriage_return) (byte == escape)
    (or_right (byte == line_feed) (byte == carriage_return) h))

-- one byte begins with CR beyond its text exactly if it is CR
one_byte_begins : (byte : ℕ) → begins_with carriage_return (beyond is_text (byte ∷ [])) ≡ (byte == carriage_return)
one_byte_begins byte = elim (cases_Bool (is_text byte)) [
  | inl text ↦ ap (begins_with carriage_return) (beyond_more is_text byte [] text)
      ∙ sym (false_from_ne_true (byte == carriage_return) (λ e. both_ways (is_text byte) (return_is_no_text byte e) text))
  | inr none ↦ ap (begins_with carriage_return) (beyond_none is_text byte [] none)
]

-- in bytes of text alone no request ends
no_request_in_text : (bytes : List ℕ) → list_all is_text bytes ≡ true → requests bytes ≡ []
no_request_in_text [] h = refl
no_request_in_text (byte ∷ rest) h =
    ap (λ o. cons_option o (requests rest)) (no_request_at byte rest (text_is_no_feed byte (and_parts (is_text byte) (list_all is_text rest) h).0))
    ∙ no_request_in_text rest (and_parts (is_text byte) (list_all is_text rest) h).1

-- nor does one begin
nothing_open_in_text : (bytes : List ℕ) → list_all is_text bytes ≡ true → open_request bytes ≡ None
nothing_open_in_text [] h = refl
nothing_open_in_text (byte ∷ rest) h =
    ap (λ o. option_or o (open_at byte rest)) (nothing_open_in_text rest (and_parts (is_text byte) (list_all is_text rest) h).1)
    ∙ not_open_at byte rest (text_is_no_feed byte (and_parts (is_text byte) (list_all is_text rest) h).0)

-- a choice with nothing after it
or_nothing : {A : Type 0} (o : Option A) → option_or o None ≡ o
or_nothing None = refl
or_nothing (Some x) = refl

-- lists joined after an optional element
cons_option-append : {A : Type 0} (o : Option A) (xs ys : List A) → cons_option o (xs ++ ys) ≡ cons_option o xs ++ ys
cons_option-append None xs ys = refl
cons_option-append (Some x) xs ys = refl

-- if nothing is open, no byte completes a request
completes_nothing : (x : ℕ) → completed_by x None ≡ []
completes_nothing x = elim (cases_Bool (x == carriage_return)) [
  | inl e ↦ cond-true (x == carriage_return) (option_to_list {X = List ℕ} None) [] e
  | inr e ↦ cond-false (x == carriage_return) (option_to_list {X = List ℕ} None) [] e
]

-- an LF with text alone after it, and one byte more
closes_text : (rest : List ℕ) (x : ℕ) (b : Bool) → (x == carriage_return) ≡ b →
    cons_option (cond b (Some (rest ++ take_while is_text (x ∷ []))) None) (completed_by x None) ≡ completed_by x (Some rest)
closes_text rest x true e =
    ap (λ t. (rest ++ t) ∷ completed_by x None) (taken_none is_text x [] (return_is_no_text x e))
    ∙ ap (λ t. t ∷ completed_by x None) (append-nil rest)
    ∙ ap (λ c. rest ∷ c) (completes_nothing x)
    ∙ sym (cond-true (x == carriage_return) (rest ∷ []) [] e)
closes_text rest x false e = completes_nothing x ∙ sym (cond-false (x == carriage_return) (rest ∷ []) [] e)

-- a request that begins with this byte, in a stream with one byte more
one_more_at : (byte : ℕ) (rest : List ℕ) (x : ℕ) →
    cons_option (request_at byte (rest ++ (x ∷ []))) (requests rest ++ completed_by x (open_request rest))
    ≡ cons_option (request_at byte rest) (requests rest) ++ completed_by x (option_or (open_request rest) (open_at byte rest))
one_more_at byte rest x = elim (cases_Bool (byte == line_feed)) [
  | inr other ↦
      let l = ap (λ o. cons_option o (requests rest ++ completed_by x (open_request rest))) (no_request_at byte (rest ++ (x ∷ [])) other) in
      let r = ap (λ o. cons_option o (requests rest) ++ completed_by x (option_or (open_request rest) (open_at byte rest))) (no_request_at byte rest other) in
      let o = ap (λ o. requests rest ++ completed_by x (option_or (open_request rest) o)) (not_open_at byte rest other)
      ∙ ap (λ o. requests rest ++ completed_by x o) (or_nothing (open_request rest)) in
      l ∙ sym o ∙ sym r
  | inl feed ↦ elim (cases_Bool (list_all is_text rest)) [
    | inl text ↦
        let ends : request_at byte rest ≡ None =
        request_at_feed byte rest feed
        ∙ ap (λ r. cond (begins_with carriage_return r) (Some (take_while is_text rest)) None)
        (ap (beyond is_text) (sym (append-nil rest)) ∙ beyond_on is_text rest [] text) in
        let started : request_at byte (rest ++ (x ∷ [])) ≡ cond (x == carriage_return) (Some (rest ++ take_while is_text (x ∷ []))) None =
        request_at_feed byte (rest ++ (x ∷ [])) feed
        ∙ ap (λ r. cond (begins_with carriage_return r) (Some (take_while is_text (rest ++ (x ∷ [])))) None) (beyond_on is_text rest (x ∷ []) text)
        ∙ ap (λ t. cond (begins_with carriage_return (beyond is_text (x ∷ []))) (Some t) None) (taken_on is_text rest (x ∷ []) text)
        ∙ ap (λ b. cond b (Some (rest ++ take_while is_text (x ∷ []))) None) (one_byte_begins x) in
        let nothing : requests rest ≡ [] = no_request_in_text rest text in
        let shut : open_request rest ≡ None = nothing_open_in_text rest text in
        let opened : open_at byte rest ≡ Some rest = open_at_feed byte rest feed ∙ cond-true (list_all is_text rest) (Some rest) None text in
        let l : cons_option (request_at byte (rest ++ (x ∷ []))) (requests rest ++ completed_by x (open_request rest))
        ≡ cons_option (cond (x == carriage_return) (Some (rest ++ take_while is_text (x ∷ []))) None) (completed_by x None) =
        λ i. cons_option (started i) (nothing i ++ completed_by x (shut i)) in
        let r : cons_option (request_at byte rest) (requests rest) ++ completed_by x (option_or (open_request rest) (open_at byte rest))
        ≡ completed_by x (Some rest) =
        λ i. cons_option (ends i) (nothing i) ++ completed_by x (option_or (shut i) (opened i)) in
        l ∙ closes_text rest x (x == carriage_return) refl ∙ sym r
    | inr broken ↦
        let same : request_at byte (rest ++ (x ∷ [])) ≡ request_at byte rest =
        request_at_feed byte (rest ++ (x ∷ [])) feed
        ∙ ap (λ b. cond b (Some (take_while is_text (rest ++ (x ∷ [])))) None) (begins_within is_text carriage_return rest (x ∷ []) broken)
        ∙ ap (λ t. cond (begins_with carriage_return (beyond is_text rest)) (Some t) None) (taken_within is_text rest (x ∷ []) broken)
        ∙ sym (request_at_feed byte rest feed) in
        let shut : open_at byte rest ≡ None = open_at_feed byte rest feed ∙ cond-false (list_all is_text rest) (Some rest) None broken in
        let o = ap (λ o. cons_option (request_at byte rest) (requests rest) ++ completed_by x (option_or (open_request rest) o)) shut
        ∙ ap (λ o. cons_option (request_at byte rest) (requests rest) ++ completed_by x o) (or_nothing (open_request rest)) in
        ap (λ r. cons_option r (requests rest ++ completed_by x (open_request rest))) same
        ∙ cons_option-append (request_at byte rest) (requests rest) (completed_by x (open_request rest)) ∙ sym o
  ]
]

-- the requests of a stream with one byte more
one_more : (before : List ℕ) (x : ℕ) → requests (before ++ (x ∷ [])) ≡ requests before ++ completed_by x (open_request before)
one_more [] x = elim (cases_Bool (x == line_feed)) [
  | inl feed ↦ ap (λ o. cons_option o []) (request_at_feed x [] feed) ∙ sym (completes_nothing x)
  | inr other ↦ ap (λ o. cons_option o []) (no_request_at x [] other) ∙ sym (completes_nothing x)
]
one_more (byte ∷ rest) x =
    ap (λ r. cons_option (request_at byte (rest ++ (x ∷ []))) r) (one_more rest x) ∙ one_more_at byte rest x

-- the requests that the bytes of a chunk complete, one after another
abbrev pub completed : List ℕ → List ℕ → List (List ℕ)
completed before [] = []
completed before (x ∷ chunk) = completed_by x (open_request before) ++ completed (before ++ (x ∷ [])) chunk

-- the requests of two chunks joined
joined : (before chunk : List ℕ) → requests (before ++ chunk) ≡ requests before ++ completed before chunk
joined before [] = ap requests (append-nil before) ∙ sym (append-nil (requests before))
joined before (x ∷ chunk) =
    ap requests (sym (append_assoc before (x ∷ []) chunk))
    ∙ joined (before ++ (x ∷ [])) chunk
    ∙ ap (λ r. r ++ completed (before ++ (x ∷ [])) chunk) (one_more before x)
    ∙ append_assoc (requests before) (completed_by x (open_request before)) (completed (before ++ (x ∷ [])) chunk)

-- what a chunk completes, byte by byte
pub in_chunk : (before chunk : List ℕ) → requests_in before chunk ≡ completed before chunk
in_chunk before chunk = ap (drop (length (requests before))) (joined before chunk)
    ∙ drop-append_seam (requests before) (completed before chunk)

-- the requests of a stream are those of its first part and those that the second completes
pub requests_join : (before chunk : List ℕ) → requests (before ++ chunk) ≡ requests before ++ requests_in before chunk
requests_join before chunk = joined before chunk ∙ ap (λ r. requests before ++ r) (sym (in_chunk before chunk))

-- what a chunk completes is what its two parts complete
completed_again : (before first second : List ℕ) →
    completed before (first ++ second) ≡ completed before first ++ completed (before ++ first) second
completed_again before [] second = ap (λ b. completed b second) (sym (append-nil before))
completed_again before (x ∷ first) second =
    ap (λ r. completed_by x (open_request before) ++ r) (completed_again (before ++ (x ∷ [])) first second)
    ∙ sym (append_assoc (completed_by x (open_request before)) (completed (before ++ (x ∷ [])) first) (completed ((before ++ (x ∷ [])) ++ first) second))
    ∙ ap (λ b. (completed_by x (open_request before) ++ completed (before ++ (x ∷ [])) first) ++ completed b second)
    (append_assoc before (x ∷ []) first)

-- the requests of a stream in two parts are those of the first, and then those of the second after it
pub requests_in_again : (before first second : List ℕ) →
    requests_in before (first ++ second) ≡ requests_in before first ++ requests_in (before ++ first) second
requests_in_again before first second =
    in_chunk before (first ++ second) ∙ completed_again before first second
    ∙ λ i. sym (in_chunk before first) i ++ sym (in_chunk (before ++ first) second) i

-- what one byte completes
pub requests_in_byte : (before : List ℕ) (x : ℕ) → requests_in before (x ∷ []) ≡ completed_by x (open_request before)
requests_in_byte before x = in_chunk before (x ∷ []) ∙ append-nil (completed_by x (open_request before))

-- the chunks of a stream complete the requests of the whole, after what came before
chunks_after : (before : List ℕ) (chunks : List (List ℕ)) → requests_in_chunks before chunks ≡ requests_in before (concat chunks)
chunks_after before [] = sym (in_chunk before [])
chunks_after before (chunk ∷ chunks) =
    ap (λ r. requests_in before chunk ++ r) (chunks_after (before ++ chunk) chunks)
    ∙ sym (requests_in_again before chunk (concat chunks))

-- all of a list and one more
all_and_one : (p : ℕ → Bool) (xs : List ℕ) (x : ℕ) → list_all p (xs ++ (x ∷ [])) ≡ (list_all p xs && p x)
all_and_one p [] x = and_true (p x)
  where
    and_true : (b : Bool) → (b && true) ≡ b
    and_true true = refl
    and_true false = refl
all_and_one p (y ∷ xs) x = ap (λ b. p y && b) (all_and_one p xs x) ∙ sym (and_assoc (p y) (list_all p xs) (p x))
  where
    and_assoc : (a b c : Bool) → ((a && b) && c) ≡ (a && (b && c))
    and_assoc true b c = refl
    and_assoc false b c = refl

-- a change of each of two
changed_or : {A : Type 0} (f : A → A) (o u : Option A) → option_or (option_map f o) (option_map f u) ≡ option_map f (option_or o u)
changed_or f None u = refl
changed_or f (Some x) u = refl

-- a request that this byte opens, with one byte of text more, or with another
goes_on_at : (byte : ℕ) (rest : List ℕ) (x : ℕ) → is_text x ≡ true →
    open_at byte (rest ++ (x ∷ [])) ≡ option_map (λ text. text ++ (x ∷ [])) (open_at byte rest)
goes_on_at byte rest x text =
    ap (λ b. cond (byte == line_feed && b) (Some (rest ++ (x ∷ []))) None) (all_and_one is_text rest x ∙ ap (λ b. list_all is_text rest && b) text ∙ and_true (list_all is_text rest))
    ∙ mapped (byte == line_feed && list_all is_text rest)
  where
    and_true : (b : Bool) → (b && true) ≡ b
    and_true true = refl
    and_true false = refl

    mapped : (b : Bool) → cond b (Some (rest ++ (x ∷ []))) None ≡ option_map (λ text. text ++ (x ∷ [])) (cond b (Some rest) None)
    mapped true = refl
    mapped false = refl

-- CR, LF or ESC after it
stops_at : (byte : ℕ) (rest : List ℕ) (x : ℕ) → is_text x ≡ false → open_at byte (rest ++ (x ∷ [])) ≡ None
stops_at byte rest x other =
    ap (λ b. cond (byte == line_feed && b) (Some (rest ++ (x ∷ []))) None) (all_and_one is_text rest x ∙ ap (λ b. list_all is_text rest && b) other)
    ∙ never (byte == line_feed) (list_all is_text rest)
  where
    never : (a b : Bool) → cond (a && (b && false)) (Some (rest ++ (x ∷ []))) None ≡ None
    never true true = refl
    never true false = refl
    never false b = refl

-- what LF makes of the open request
opened_by_feed : (x : ℕ) (o : Option (List ℕ)) → (x == line_feed) ≡ true → opened_by x o ≡ Some []
opened_by_feed x o h = cond-true (x == line_feed) (Some []) _ h

-- a byte of text
opened_by_text : (x : ℕ) (o : Option (List ℕ)) → (x == line_feed) ≡ false → is_text x ≡ true → opened_by x o ≡ option_map (λ text. text ++ (x ∷ [])) o
opened_by_text x o h k = cond-false (x == line_feed) (Some []) (cond (is_text x) (option_map (λ text. text ++ (x ∷ [])) o) None) h
    ∙ cond-true (is_text x) (option_map (λ text. text ++ (x ∷ [])) o) None k

-- CR or ESC
opened_by_other : (x : ℕ) (o : Option (List ℕ)) → (x == line_feed) ≡ false → is_text x ≡ false → opened_by x o ≡ None
opened_by_other x o h k = cond-false (x == line_feed) (Some []) (cond (is_text x) (option_map (λ text. text ++ (x ∷ [])) o) None) h
    ∙ cond-false (is_text x) (option_map (λ text. text ++ (x ∷ [])) o) None k

-- the open request of a stream with one byte more
pub open_request_after : (before : List ℕ) (x : ℕ) → open_request (before ++ (x ∷ [])) ≡ opened_by x (open_request before)
open_request_after [] x = elim (cases_Bool (x == line_feed)) [
  | inl feed ↦ open_at_feed x [] feed ∙ sym (opened_by_feed x None feed)
  | inr other ↦ elim (cases_Bool (is_text x)) [
    | inl text ↦ not_open_at x [] other ∙ sym (opened_by_text x None other text)
    | inr none ↦ not_open_at x [] other ∙ sym (opened_by_other x None other none)
  ]
]
open_request_after (byte ∷ rest) x =
    ap (λ o. option_or o (open_at byte (rest ++ (x ∷ [])))) (open_request_after rest x)
    ∙ elim (cases_Bool (x == line_feed)) [
      | inl feed ↦ ap (λ o. option_or o (open_at byte (rest ++ (x ∷ [])))) (opened_by_feed x (open_request rest) feed)
          ∙ sym (opened_by_feed x (option_or (open_request rest) (open_at byte rest)) feed)
      | inr other ↦ elim (cases_Bool (is_text x)) [
        | inl text ↦
            ap (λ o. option_or o (open_at byte (rest ++ (x ∷ [])))) (opened_by_text x (open_request rest) other text)
            ∙ ap (λ o. option_or (option_map (λ text. text ++ (x ∷ [])) (open_request rest)) o) (goes_on_at byte rest x text)
            ∙ changed_or (λ text. text ++ (x ∷ [])) (open_request rest) (open_at byte rest)
            ∙ sym (opened_by_text x (option_or (open_request rest) (open_at byte rest)) other text)
        | inr none ↦
            ap (λ o. option_or o (open_at byte (rest ++ (x ∷ [])))) (opened_by_other x (open_request rest) other none)
            ∙ stops_at byte rest x none
            ∙ sym (opened_by_other x (option_or (open_request rest) (open_at byte rest)) other none)
      ]
    ]

-- what a chunk completes depends on the open request alone
same_completed : (before other chunk : List ℕ) → open_request before ≡ open_request other → completed before chunk ≡ completed other chunk
same_completed before other [] e = refl
same_completed before other (x ∷ chunk) e =
    let after : open_request (before ++ (x ∷ [])) ≡ open_request (other ++ (x ∷ [])) =
    open_request_after before x ∙ ap (opened_by x) e ∙ sym (open_request_after other x) in
    λ i. completed_by x (e i) ++ same_completed (before ++ (x ∷ [])) (other ++ (x ∷ [])) chunk after i

-- text alone completes nothing
pub text_completes_nothing : (before text : List ℕ) → list_all is_text text ≡ true → completed before text ≡ []
text_completes_nothing before [] h = refl
text_completes_nothing before (x ∷ text) h =
    let parts : (is_text x ≡ true) × (list_all is_text text ≡ true) = and_parts (is_text x) (list_all is_text text) h in
    let other : (x == carriage_return) ≡ false =
    false_from_ne_true (x == carriage_return) (λ e. both_ways (is_text x) (return_is_no_text x e) parts.0) in
    let none : completed_by x (open_request before) ≡ [] =
    cond-false (x == carriage_return) (option_to_list (open_request before)) [] other in
    λ i. none i ++ text_completes_nothing (before ++ (x ∷ [])) text parts.1 i

-- an LF and text after it are open
pub open_after_feed : (before text : List ℕ) → list_all is_text text ≡ true → open_request (before ++ (line_feed ∷ text)) ≡ Some text
open_after_feed [] text h =
    ap (λ o. option_or o (open_at line_feed text)) (nothing_open_in_text text h) ∙ cond-true (list_all is_text text) (Some text) None h
open_after_feed (byte ∷ before) text h =
    ap (λ o. option_or o (open_at byte (before ++ (line_feed ∷ text)))) (open_after_feed before text h)

-- every stretch is a request, after those before it and before those after it
pub stretch_is_request : (before text after : List ℕ) → list_all is_text text ≡ true →
    requests (before ++ (line_feed ∷ text ++ (carriage_return ∷ after))) ≡ requests before ++ (text ∷ requests after)
stretch_is_request before text after h =
    let fed : List ℕ = before ++ (line_feed ∷ []) in
    let opened : open_request (fed ++ text) ≡ Some text =
    ap open_request (append_assoc before (line_feed ∷ []) text) ∙ open_after_feed before text h in
    let shut : open_request ((fed ++ text) ++ (carriage_return ∷ [])) ≡ None = open_request_after (fed ++ text) carriage_return in
    let following : completed ((fed ++ text) ++ (carriage_return ∷ [])) after ≡ requests after =
    same_completed ((fed ++ text) ++ (carriage_return ∷ [])) [] after shut ∙ sym (in_chunk [] after) in
    joined before (line_feed ∷ text ++ (carriage_return ∷ after))
    ∙ ap (λ r. requests before ++ r)
    (completed_again fed text (carriage_return ∷ after)
    ∙ λ i. text_completes_nothing fed text h i ++ (completed_by carriage_return (opened i) ++ following i))

-- where a stream is cut makes no difference
pub is_cut_anywhere : IsCutAnywhere
is_cut_anywhere = record { whole = chunks_after []; again = requests_in_again; byte = requests_in_byte; opens = open_request_after }
