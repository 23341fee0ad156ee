-- How the bytes of a log are cut, chunk by chunk.
use Rattle.std.proofs.Common.{◌≡◌, ◌<◌, ◌+◌, ◌-◌, ℕ, true, false, List, [], ◌∷◌, ◌++◌, length, take, take-add, drop, refl, sym, ap, ◌∙◌, append_assoc, add-one, arith}
use Rattle.wc_model.proofs.Common.{slice_index_or, drop_all, length-drop, take_all}
use Rattle.std.proofs.Math.Seq.{drop-cons, take-suc}
use Rattle.wc_record.specs.Cutting.{Cuts, Passes, cut_from, after, is_cut}
use Rattle.wc_record.specs.declared.place.LogPlace.{LogPlace}

-- nothing is read after the cut
pub cut_at_end : (place : LogPlace) (bytes : List ℕ) → is_cut place ≡ true → cut_from place bytes ≡ []
unfolding cut_from
cut_at_end place [] e = refl
cut_at_end place (byte ∷ rest) e = rw e refl

-- a byte that is read
pub cut_next : (place : LogPlace) (byte : ℕ) (rest : List ℕ) → is_cut place ≡ false → cut_from place (byte ∷ rest) ≡ byte ∷ cut_from (after place byte) rest
unfolding cut_from
cut_next place byte rest e = rw e refl

-- one more is passed
pub pass_one : (old : LogPlace) (bytes : List ℕ) (count : ℕ) (here new : LogPlace) → is_cut here ≡ false → count < length bytes → new ≡ after here (slice_index_or bytes count 0) → Passes old bytes count here → Passes old bytes (count + 1) new
pass_one old bytes count here new uncut within is h = λ following.
    let byte = slice_index_or bytes count 0 in
    let split : drop count bytes ≡ byte ∷ drop (count + 1) bytes = drop-cons bytes count 0 within ∙ ap (λ n. byte ∷ drop n bytes) (sym (add-one count)) in
    let taken : take (count + 1) bytes ≡ take count bytes ++ (byte ∷ []) = ap (λ n. take n bytes) (add-one count) ∙ take-suc bytes count 0 within in
    let left = drop (count + 1) bytes ++ following in
    h following
    ∙ ap (λ (xs : List ℕ). take count bytes ++ cut_from here (xs ++ following)) split
    ∙ ap (λ (xs : List ℕ). take count bytes ++ xs) (cut_next here byte left uncut)
    ∙ sym (append_assoc (take count bytes) (byte ∷ []) (cut_from (after here byte) left))
    ∙ ap (λ (xs : List ℕ). xs ++ cut_from (after here byte) left) (sym taken)
    ∙ ap (λ (place : LogPlace). take (count + 1) bytes ++ cut_from place left) (sym is)

-- the bytes up to the cut
pub passed_to_cut : (old : LogPlace) (bytes : List ℕ) (count : ℕ) (new : LogPlace) → is_cut new ≡ true → Passes old bytes count new → Cuts old bytes count new
passed_to_cut old bytes count new cut h = λ following.
    h following ∙ ap (λ (xs : List ℕ). take count bytes ++ xs) (cut_at_end new (drop count bytes ++ following) cut ∙ sym (cut_at_end new following cut))

-- all bytes
pub passed_all : (old : LogPlace) (bytes : List ℕ) (count : ℕ) (new : LogPlace) → count ≡ length bytes → Passes old bytes count new → Cuts old bytes (length bytes) new
passed_all old bytes count new all h = λ following.
    (rw all at h) following ∙ ap (λ (xs : List ℕ). take (length bytes) bytes ++ cut_from new (xs ++ following)) (drop_all (length bytes) bytes (omega arith))

-- some bytes are passed, and the others are cut
pub passed_and_cut : (old mid : LogPlace) (bytes : List ℕ) (count more : ℕ) (new : LogPlace) → Passes old bytes count mid → Cuts mid (take (length bytes - count) (drop count bytes)) more new → Cuts old bytes (count + more) new
passed_and_cut old mid bytes count more new h k = λ following.
    let others : take (length bytes - count) (drop count bytes) ≡ drop count bytes = take_all (length bytes - count) (drop count bytes) (omega (arith, length-drop count bytes)) in
    let cut : Cuts mid (drop count bytes) more new = rw others at k in
    h following ∙ ap (λ (xs : List ℕ). take count bytes ++ xs) (cut following)
    ∙ sym (append_assoc (take count bytes) (take more (drop count bytes)) (cut_from new following))
    ∙ ap (λ (xs : List ℕ). xs ++ cut_from new following) (sym (take-add count more bytes))
