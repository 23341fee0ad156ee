-- The bodies that run, by their depth of calls.
use Rattle.std.proofs.Common.{◌≡◌, ◌∙◌, ℕ, zero, suc, ◌+◌, ◌-◌, ◌<◌, ◌≤◌, List, [], ◌∷◌, ◌++◌, length, map, take, replicate, reverse, get_or, set, refl, sym, ap, arith, Option, None}
use Rattle.std.proofs.lemmas.List.{append_assoc, length-map, map-set, replicate_more, reverse-append, take-map, take-replicate}
use Rattle.std.proofs.lemmas.Option.{slice_get-map, slice_get_read}
use Rattle.std.specs.Prelude.{option_map, slice_get, unwrap_or}
use Rattle.wc_machine.specs.declared.seen.SeenLine.{SeenLine}
use Rattle.wc_model.specs.declared.kind.Kind.{Kind}
use Rattle.wc_view_trace_rows.specs.Levels.{Level, after_seen, closed, fresh, level_left, level_view, levels_after, levels_at}
use Rattle.wc_view_trace_rows.specs.declared.legend.Legend.{Legend}
use Rattle.wc_view_trace_rows.specs.declared.levels.BodyLevel.{BodyLevel}

-- the first ones of a list that one follows again and again
filled : {X : Type 0} (n m : ℕ) (xs : List X) (x : X) → n ≤ m → take n (xs ++ replicate m x) ≡ take n xs ++ replicate (n - length (take n xs)) x
filled zero m xs x few = refl
filled (suc n) m [] x few = take-replicate (suc n) m x few ∙ ap (λ k. replicate k x) (let e : suc n ≡ suc n - 0 = omega arith in e)
filled (suc n) m (y ∷ xs) x few =
    let same : n - length (take n xs) ≡ suc n - suc (length (take n xs)) = omega arith in
    ap (λ l. y ∷ l) (filled n m xs x (omega arith)) ∙ ap (λ k. y ∷ (take n xs ++ replicate k x)) same

-- those that are left, and new ones after them
pub gone : {A B : Type 0} (f : A → B) (x : B) (depth count : ℕ) (old cut new : List A) → count ≡ depth + 1 → cut ≡ take count old
    → map f new ≡ map f cut ++ replicate (count - length cut) x → map f new ≡ take (suc depth) (map f old ++ replicate (suc depth) x)
gone f x depth count old cut new is is_cut started =
    let same : count ≡ suc depth = omega arith in
    let kept : map f cut ≡ take (suc depth) (map f old) = ap (map f) is_cut ∙ ap (λ n. map f (take n old)) same ∙ sym (take-map f (suc depth) old) in
    let long : count - length cut ≡ suc depth - length (take (suc depth) (map f old)) = (λ i. same i - ((sym (length-map cut f) ∙ ap length kept) i)) in
    started ∙ (λ i. kept i ++ replicate (long i) x) ∙ sym (filled (suc depth) (suc depth) (map f old) x (omega arith))

-- one more that is new
pub one_started : {A B : Type 0} (f : A → B) (x : B) (level first : ℕ) (cut : List A) (items new : List B) → first ≤ level → new ≡ items ++ x ∷ []
    → items ≡ map f cut ++ replicate (level - first) x → new ≡ map f cut ++ replicate (level + 1 - first) x
one_started f x level first cut items new within put started =
    let more : level - first + 1 ≡ level + 1 - first = omega arith in
    put ∙ ap (λ l. l ++ x ∷ []) started ∙ append_assoc (map f cut) (replicate (level - first) x) (x ∷ [])
    ∙ ap (λ l. map f cut ++ l) (replicate_more (level - first) x) ∙ ap (λ k. map f cut ++ replicate k x) more

-- the body that runs there, before a line and after it
pub left_is : (legend : Legend) (seen : SeenLine) (levels : List Level) (bodies : List BodyLevel) (old new : BodyLevel) → seen.depth < length bodies → old ≡ get_or bodies seen.depth old
    → map level_view bodies ≡ levels_at seen.depth levels → level_view new ≡ after_seen legend seen (level_view old) → level_view new ≡ level_left legend seen levels
left_is legend seen levels bodies old new few is at passed =
    let there = slice_get-map level_view bodies seen.depth ∙ ap (option_map level_view) (slice_get_read bodies (length bodies) seen.depth old refl few is) in
    passed ∙ ap (λ o. after_seen legend seen (unwrap_or o fresh)) (sym there ∙ ap (λ l. slice_get l seen.depth) at)

pub after_is : (legend : Legend) (seen : SeenLine) (levels : List Level) (bodies all : List BodyLevel) (new : BodyLevel) → map level_view bodies ≡ levels_at seen.depth levels
    → level_view new ≡ level_left legend seen levels → all ≡ set bodies seen.depth new → map level_view all ≡ levels_after legend seen levels
after_is legend seen levels bodies all new at left put =
    ap (map level_view) put ∙ map-set level_view bodies seen.depth new ∙ (λ i. set (at i) seen.depth (left i))

-- a kind that is put by, and one that is taken again
pub one_put_by : (old new : List (Option Kind)) (kind : Option Kind) → new ≡ old ++ kind ∷ [] → reverse new ≡ kind ∷ reverse old
one_put_by old new kind put = ap reverse put ∙ reverse-append old (kind ∷ [])

pub one_taken : (level : Level) (old new : List (Option Kind)) (kind : Option Kind) (f : Option Kind → Option Kind) → old ≡ new ++ kind ∷ []
    → record { kind = f kind; put_by = reverse new; items = level.items } ≡ closed level (reverse old) f
one_taken level old new kind f put = ap (λ l. closed level l f) (sym (one_put_by new old kind put))

pub none_taken : (level : Level) (old new : List (Option Kind)) (f : Option Kind → Option Kind) → old ≡ new ++ [] → length old ≡ 0
    → record { kind = f None; put_by = reverse new; items = level.items } ≡ closed level (reverse old) f
none_taken level [] [] f put none = refl
none_taken level [] (kind ∷ new) f put none = absurd (cc (put))
none_taken level (kind ∷ old) new f put none = absurd (omega arith)
