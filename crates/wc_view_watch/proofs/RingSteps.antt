-- The last n texts, one more at a time.
use Rattle.std.proofs.Common.{◌≡◌, ◌<◌, ◌≤◌, ℕ, zero, suc, ◌+◌, ◌-◌, List, [], ◌∷◌, ◌++◌, drop, length, map, take, replicate, sym, ap, ◌∙◌, arith, append-nil, length-append, set, length-set, inl, inr, min, ◌⊎◌}
use Rattle.wc_model.proofs.Common.{flat_map-append, flat_map}
use Rattle.std.proofs.lemmas.List.{append_assoc, drop-append-le, drop-drop, drop-map, drop-set-lt, drop_all, length-map, length-replicate, take-map, take_all, take_more_set}
use Rattle.wc_model.specs.Instrument.WeighingHistories.{last_items}
use Rattle.wc_names.proofs.Lists.{from_index_or}
use Rattle.wc_view_watch.specs.Ring.{HoldsLast, in_order}

-- with all texts before the first one the ring starts over
wrapped : (texts : List (List ℕ)) (first : ℕ) → length texts ≤ first → in_order (record { texts = texts; first = first }) ≡ in_order (record { texts = texts; first = 0 })
wrapped texts first past = (λ i. drop_all first texts past i ++ take_all first texts past i) ∙ sym (append-nil texts)

-- a text in the place of the oldest
replaced : (texts : List (List ℕ)) (at : ℕ) (text : List ℕ) → at < length texts
    → in_order (record { texts = set texts at text; first = at + 1 }) ≡ drop 1 (in_order (record { texts = texts; first = at })) ++ text ∷ []
replaced texts at text below =
    (λ i. drop-set-lt (at + 1) texts at text (omega (arith)) i ++ take_more_set texts at text below i)
    ∙ sym (append_assoc (drop (at + 1) texts) (take at texts) (text ∷ []))
    ∙ ap (λ rest. rest ++ text ∷ []) (sym (ap (λ kept. drop 1 (kept ++ take at texts)) (from_index_or texts at [] below)))

-- the last n of n empty ones and all texts, and one more
length-whole : (n : ℕ) (all : List (List ℕ)) → length (replicate n [] ++ all) ≡ n + length all
length-whole n all = length-append (replicate n []) all ∙ ap (λ k. k + length all) (length-replicate n [])

one_last : (n : ℕ) (all : List (List ℕ)) (text : List ℕ) → 1 ≤ n
    → drop 1 (last_items n (replicate n [] ++ all)) ++ text ∷ [] ≡ last_items n (replicate n [] ++ (all ++ text ∷ []))
one_last n all text some =
    let whole : List (List ℕ) = replicate n [] ++ all in
    let more : length (whole ++ text ∷ []) ≡ length whole + 1 = length-append whole (text ∷ []) in
    let within : length whole - n + 1 ≤ length whole = omega (arith, length-whole n all, some) in
    let next : length (whole ++ text ∷ []) - n ≡ length whole - n + 1 = omega (arith, length-whole n all, more) in
    ap (λ rest. rest ++ text ∷ []) (drop-drop 1 (length whole - n) whole)
    ∙ sym (drop-append-le (length whole - n + 1) whole (text ∷ []) within)
    ∙ ap (λ k. drop k (whole ++ text ∷ [])) (sym next)
    ∙ ap (last_items n) (append_assoc (replicate n []) all (text ∷ []))

-- so the ring keeps one text more
pub one_kept : (texts : List (List ℕ)) (first at : ℕ) (text : List ℕ) (n : ℕ) (all : List (List ℕ)) → ((first < length texts) × (at ≡ first)) ⊎ ((length texts ≤ first) × (at ≡ 0))
    → HoldsLast (record { texts = texts; first = first }) n all → HoldsLast (record { texts = set texts at text; first = at + 1 }) n (all ++ text ∷ [])
one_kept texts first at text n all where_at holds = record {
  some = holds.some;
  size = length-set texts at text ∙ holds.size;
  within = (let low : at < length texts = below where_at in let next : at + 1 ≤ n = omega (arith, low, holds.size) in next);
  held = replaced texts at text (below where_at) ∙ ap (λ kept. drop 1 kept ++ text ∷ []) (same where_at ∙ holds.held) ∙ one_last n all text holds.some;
}
  where
    same : ((first < length texts) × (at ≡ first)) ⊎ ((length texts ≤ first) × (at ≡ 0))
        → in_order (record { texts = texts; first = at }) ≡ in_order (record { texts = texts; first = first })
    same (inl within) = ap (λ k. in_order (record { texts = texts; first = k })) within.1
    same (inr past) = ap (λ k. in_order (record { texts = texts; first = k })) past.1 ∙ sym (wrapped texts first past.0)

    below : ((first < length texts) × (at ≡ first)) ⊎ ((length texts ≤ first) × (at ≡ 0)) → at < length texts
    below (inl within) = omega (arith, within.0, within.1)
    below (inr past) = omega (arith, past.1, holds.some, holds.size)

-- at first it holds nothing
pub none_kept : (texts : List (List ℕ)) (n : ℕ) → 1 ≤ n → texts ≡ replicate n [] → HoldsLast (record { texts = texts; first = 0 }) n []
none_kept texts n some same = record {
  some = some;
  size = ap length same ∙ length-replicate n [];
  within = omega (arith);
  held = append-nil texts ∙ same ∙ sym (append-nil (replicate n []))
      ∙ ap (λ k. drop k (replicate n [] ++ [])) (let none : 0 ≡ length (replicate n [] ++ []) - n = omega (arith, length-whole n []) in none);
}

-- empty texts are nothing before the others
after_blank : (k n : ℕ) (all : List (List ℕ)) → flat_map (λ text. text) (drop k (replicate n [] ++ all)) ≡ flat_map (λ text. text) (drop (k - n) all)
after_blank k zero all = ap (λ m. flat_map (λ text. text) (drop m all)) (let same : k ≡ k - 0 = omega (arith) in same)
after_blank zero (suc n) all = after_blank zero n all ∙ ap (λ m. flat_map (λ text. text) (drop m all)) (let same : 0 - n ≡ 0 - suc n = omega (arith) in same)
after_blank (suc k) (suc n) all = after_blank k n all ∙ ap (λ m. flat_map (λ text. text) (drop m all)) (let same : k - n ≡ suc k - suc n = omega (arith) in same)

-- what the ring holds, one text after another
all_joined : (texts : List (List ℕ)) (first n : ℕ) (all : List (List ℕ)) → HoldsLast (record { texts = texts; first = first }) n all
    → flat_map (λ text. text) (drop first texts ++ take first texts) ≡ flat_map (λ text. text) (last_items n all)
all_joined texts first n all holds =
    ap (flat_map (λ text. text)) holds.held
    ∙ ap (λ k. flat_map (λ text. text) (drop k (replicate n [] ++ all))) (let left : length (replicate n [] ++ all) - n ≡ length all = omega (arith, length-whole n all) in left)
    ∙ after_blank (length all) n all

-- what is put of the texts from the oldest on and of those before it is what the ring holds
pub both_put : {V : Type 0} (items : V → List ℕ) (old middle new : List ℕ) (kept following prefix : List V) (first at n : ℕ) (all : List (List ℕ))
    → at ≡ min first (length kept) → middle ≡ old ++ flat_map (λ text. text) (map items following) → following ≡ drop at kept
    → new ≡ middle ++ flat_map (λ text. text) (map items prefix) → prefix ≡ take at kept
    → HoldsLast (record { texts = map items kept; first = first }) n all → new ≡ old ++ flat_map (λ text. text) (last_items n all)
both_put items old middle new kept following prefix first at n all least one rest two start holds =
    let same : at ≡ first = omega (arith, least, holds.within, holds.size, length-map kept items) in
    two
    ∙ (λ i. one i ++ flat_map (λ text. text) (map items (start i)))
    ∙ append_assoc old (flat_map (λ text. text) (map items following)) (flat_map (λ text. text) (map items (take at kept)))
    ∙ ap (λ text. old ++ text)
    (sym (flat_map-append (λ text. text) (map items following) (map items (take at kept)))
    ∙ ap (flat_map (λ text. text))
    ((λ i. (ap (map items) rest ∙ sym (drop-map items at kept)) i ++ sym (take-map items at kept) i) ∙ ap (λ k. drop k (map items kept) ++ take k (map items kept)) same)
    ∙ all_joined (map items kept) first n all holds)
