-- What is put of a text, byte by byte, and a text that is cut.
use Rattle.wc_model.proofs.Common.{◌≡◌, ◌∙◌, ℕ, zero, suc, ◌+◌, ◌-◌, ◌<◌, ◌≤◌, Bool, false, List, [], ◌∷◌, ◌++◌, cond, length, get_or, take, drop, sym, ap, subst, arith, lt-leb}
use Rattle.std.specs.Prelude.{◌==◌, ◌&&◌, nat_le}
use Rattle.std.proofs.lemmas.List.{append_assoc, drop_more, drop-take, take-append-drop, take-take}
use Rattle.wc_diag_texts.specs.Plain.{characters, acting_length}
use Rattle.wc_view_trace_rows.specs.{first_columns, fitted, shown_bytes, shown_first, single_spaces}

-- a byte of a character that is shown already
pub passed : (is_text : Bool) (n next i : ℕ) (bytes : List ℕ) → 0 < n → next ≡ n - 1 → i < length bytes → shown_bytes is_text next (drop (i + 1) bytes) ≡ shown_bytes is_text n (drop i bytes)
passed is_text zero next i bytes some is l = absurd (omega arith)
passed is_text (suc n) next i bytes some is l =
    let same : next ≡ n = omega arith in
    ap (λ k. shown_bytes is_text k (drop (i + 1) bytes)) same ∙ sym (ap (shown_bytes is_text (suc n)) (drop_more bytes i 0 l))

-- a byte that is shown
first_of : (is_text : Bool) (i : ℕ) (bytes : List ℕ) → i < length bytes
    → shown_bytes is_text 0 (drop i bytes) ≡ shown_first is_text (acting_length (drop i bytes)) (get_or bytes i 0) ∷ shown_bytes is_text (acting_length (drop i bytes) - 1) (drop (i + 1) bytes)
first_of is_text i bytes l =
    ap (shown_bytes is_text 0) (drop_more bytes i 0 l)
    ∙ ap (λ rest. shown_first is_text (acting_length rest) (get_or bytes i 0) ∷ shown_bytes is_text (acting_length rest - 1) (drop (i + 1) bytes)) (sym (drop_more bytes i 0 l))

-- it is put, unless it is a space that follows a space
put_first : (before byte : ℕ) (bytes : List ℕ) → single_spaces before (byte ∷ bytes) ≡ single_spaces before (byte ∷ []) ++ single_spaces byte bytes
put_first before byte bytes = by (byte == 32 && before == 32)
  where
    by : (b : Bool) → cond b (single_spaces byte bytes) (byte ∷ single_spaces byte bytes) ≡ cond b [] (byte ∷ []) ++ single_spaces byte bytes
    by b = grind arith

pub put_next : (is_text : Bool) (before byte hidden size next i : ℕ) (text new back bytes whole : List ℕ) → i < length bytes → hidden ≤ 0 → back ≡ drop i bytes → size ≡ acting_length back
    → byte ≡ shown_first is_text size (get_or bytes i 0) → next ≡ size - 1 → new ≡ text ++ single_spaces before (byte ∷ [])
    → text ++ single_spaces before (shown_bytes is_text hidden (drop i bytes)) ≡ whole
    → new ++ single_spaces byte (shown_bytes is_text next (drop (i + 1) bytes)) ≡ whole
put_next is_text before byte hidden size next i text new back bytes whole l none is_back is_size is_byte is_next put so_far =
    let zero_is : hidden ≡ 0 = omega arith in
    let first : byte ∷ shown_bytes is_text next (drop (i + 1) bytes) ≡ shown_bytes is_text hidden (drop i bytes) = let f = first_of is_text i bytes l in cc in
    ap (λ t. t ++ single_spaces byte (shown_bytes is_text next (drop (i + 1) bytes))) put
    ∙ append_assoc text (single_spaces before (byte ∷ [])) (single_spaces byte (shown_bytes is_text next (drop (i + 1) bytes)))
    ∙ ap (λ t. text ++ t) (sym (put_first before byte (shown_bytes is_text next (drop (i + 1) bytes))))
    ∙ ap (λ t. text ++ single_spaces before t) first
    ∙ so_far

-- a text that is cut in what it has from there on
parted : (n m : ℕ) (text : List ℕ) → take (n + m) text ≡ take n text ++ take m (drop n text)
parted n m text =
    sym (take-append-drop n (take (n + m) text))
    ∙ (λ i. take-take n (n + m) text (omega arith) i ++ drop-take n m text i)

pub cut_off : (start kept columns : ℕ) (text back cut : List ℕ) → back ≡ drop start text
    → columns < characters back → take kept back ≡ first_columns (columns - 2) back
    → cut ≡ take (start + kept) text → cut ++ 46 ∷ 46 ∷ [] ≡ take start text ++ fitted columns (drop start text)
cut_off start kept columns text back cut is_back wide prefix is_cut =
    let long : nat_le (characters (drop start text)) columns ≡ false =
    lt-leb (characters (drop start text)) columns (subst (λ l. columns < characters l) is_back wide) in
    ap (λ t. t ++ 46 ∷ 46 ∷ []) (is_cut ∙ parted start kept text)
    ∙ append_assoc (take start text) (take kept (drop start text)) (46 ∷ 46 ∷ [])
    ∙ ap (λ t. take start text ++ (t ++ 46 ∷ 46 ∷ [])) (subst (λ l. take kept l ≡ first_columns (columns - 2) l) is_back prefix)
    ∙ ap (λ b. take start text ++ cond b (drop start text) (first_columns (columns - 2) (drop start text) ++ 46 ∷ 46 ∷ [])) (sym long)
