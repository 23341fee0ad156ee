-- A text cut in lines, one after another.
use Rattle.std.proofs.Common.{◌≡◌, ◌≤◌, ◌<◌, ◌+◌, ◌-◌, ◌==◌, ltb, ℕ, zero, suc, Bool, true, false, cond, not, min, List, [], ◌∷◌, length, count_by, drop, take, get_or, zero-add, add-zero, Some, None, if◌then◌else◌, refl, sym, ap, ◌∙◌, arith}
use Rattle.wc_model.proofs.Common.{drop-nil, take-length, false_from_ne_true, ltb-false, ltb-true, ne_eqb, drop-drop, slice_split_first, position_or_len_is, sum_by-cons, slice_get-map, after_first, before_first, onto_first, position_or_len}
use Rattle.std.specs.Prelude.{option_map, slice_get}
use Rattle.memchr.specs.Find.{IsFirstByte, is_byte}
use Rattle.wc_diag_spans.specs.Lines.{AreLinesAbove, HasBelow, IsOneLine, cut_lines, line_of_number, lines_of, without_return}

-- an LF
abbrev pub is_end : ℕ → Bool
is_end byte = byte == 10

-- the LF that a search finds is the first
pub feed_found : (text : List ℕ) (place : ℕ) → IsFirstByte (is_byte 10) text (Some place) → place ≡ position_or_len is_end text
feed_found text place found =
    sym (position_or_len_is is_end text place 0 (omega (arith, found.0.high))
    (λ k before. false_from_ne_true (is_end (get_or text k 0)) (found.0.before k (omega arith) before))
    (λ within. found.1))

-- if a search finds none, there is none
pub no_feed_found : (text : List ℕ) → IsFirstByte (is_byte 10) text None → length text ≡ position_or_len is_end text
no_feed_found text none =
    sym (position_or_len_is is_end text (length text) 0 (omega arith)
    (λ k before. false_from_ne_true (is_end (get_or text k 0)) (none k (omega arith) before))
    (λ within. absurd (omega (arith, within))))

-- if there is no LF, the text is one line
pub one_line : (text : List ℕ) → length text ≤ position_or_len is_end text → cut_lines text ≡ text ∷ []
one_line [] h = refl
one_line (byte ∷ text) h = by_test (is_end byte) refl h (one_line text)
  where
    by_test : (b : Bool) → is_end byte ≡ b → suc (length text) ≤ cond (not b) (1 + position_or_len is_end text) 0 → (length text ≤ position_or_len is_end text → cut_lines text ≡ text ∷ [])
        → cond b ([] ∷ cut_lines text) (onto_first byte (cut_lines text)) ≡ (byte ∷ text) ∷ []
    by_test true e f further = absurd (omega arith)
    by_test false e f further = ap (onto_first byte) (further (omega arith))

-- the first of a list's items
first_item : (items : List (List ℕ)) (first : List ℕ) (more : List (List ℕ)) → items ≡ first ∷ more → slice_get items 0 ≡ Some first
first_item items first more e = ap (λ l. slice_get l 0) e

-- the first line is what is before the first LF
pub first_cut : (text first : List ℕ) (place : ℕ) → place ≡ position_or_len is_end text → place ≤ length text → first ≡ take (min place (length text)) text → slice_get (cut_lines text) 0 ≡ Some first
first_cut text first place is within e = by_test (ltb place (length text)) refl
  where
    by_test : (b : Bool) → ltb place (length text) ≡ b → slice_get (cut_lines text) 0 ≡ Some first
    by_test true h =
        let less : place < length text = ltb-true place (length text) h in
        let at : min place (length text) ≡ position_or_len is_end text = omega arith in
        let same : first ≡ before_first is_end text = e ∙ ap (λ k. take k text) at in
        first_item (cut_lines text) first (cut_lines (after_first is_end text)) (slice_split_first is_end text 0 (omega arith) ∙ ap (λ f. f ∷ cut_lines (after_first is_end text)) (sym same))
    by_test false h =
        let more : length text ≤ place = ltb-false place (length text) h in
        let at : min place (length text) ≡ length text = omega arith in
        let same : first ≡ text = e ∙ ap (λ k. take k text) at ∙ take-length text in
        first_item (cut_lines text) first [] (one_line text (omega arith) ∙ ap (λ f. f ∷ []) (sym same))

-- below the first LF are the other lines
pub cut_below : (text below : List ℕ) (place : ℕ) → place ≡ position_or_len is_end text → place < length text → below ≡ drop (min (place + 1) (length text)) text → HasBelow text below
cut_below text below place is within e =
    let at : min (place + 1) (length text) ≡ position_or_len is_end text + 1 = omega arith in
    let same : below ≡ after_first is_end text = e ∙ ap (λ k. drop k text) at in
    (before_first is_end text, slice_split_first is_end text 0 (omega arith) ∙ ap (λ b. before_first is_end text ∷ cut_lines b) (sym same))

-- a line that ends with CR
pub return_dropped : (line : List ℕ) → 0 < length line → get_or line (length line - 1) 0 ≡ 13 → take (length line - 1) line ≡ without_return line
return_dropped [] some e = absurd (omega arith)
return_dropped (byte ∷ []) some e = rw e refl
return_dropped (byte ∷ next ∷ rest) some e =
    let less : length (byte ∷ next ∷ rest) - 1 ≡ suc (length (next ∷ rest) - 1) = omega arith in
    let last : get_or (next ∷ rest) (length (next ∷ rest) - 1) 0 ≡ 13 = sym (ap (λ k. get_or (byte ∷ next ∷ rest) k 0) less) ∙ e in
    ap (λ k. take k (byte ∷ next ∷ rest)) less ∙ ap (λ l. byte ∷ l) (return_dropped (next ∷ rest) (omega arith) last)

-- a line that does not
pub line_kept : (line : List ℕ) → (get_or line (length line - 1) 0 ≡ 13 → ⊥) → line ≡ without_return line
line_kept [] other = refl
line_kept (byte ∷ []) other = ap (λ v. if v then [] else byte ∷ []) (sym (ne_eqb byte 13 other))
line_kept (byte ∷ next ∷ rest) other =
    let less : length (byte ∷ next ∷ rest) - 1 ≡ suc (length (next ∷ rest) - 1) = omega arith in
    let last = λ (e : get_or (next ∷ rest) (length (next ∷ rest) - 1) 0 ≡ 13). other (ap (λ k. get_or (byte ∷ next ∷ rest) k 0) less ∙ e) in
    ap (λ l. byte ∷ l) (line_kept (next ∷ rest) last)

-- a first byte changes no line but the first
drop-onto_first : (n byte : ℕ) (lines : List (List ℕ)) → 1 ≤ n → drop n (onto_first byte lines) ≡ drop n lines
drop-onto_first zero byte lines some = absurd (omega arith)
drop-onto_first (suc n) byte [] some = drop-nil n
drop-onto_first (suc n) byte (line ∷ lines) some = refl

-- a byte more
count-cons : (byte : ℕ) (bytes : List ℕ) → count_by is_end (byte ∷ bytes) ≡ cond (is_end byte) 1 0 + count_by is_end bytes
count-cons byte bytes = sum_by-cons (λ x. cond (is_end x) 1 0) byte bytes

-- the last byte is not the first
ends_later : (byte : ℕ) (text : List ℕ) (k : ℕ) → get_or (byte ∷ text) (suc (suc k) - 1) 0 ≡ 10 → get_or text (suc k - 1) 0 ≡ 10
ends_later byte text k ends =
    let less : suc (suc k) - 1 ≡ suc (suc k - 1) = omega arith in
    sym (ap (λ n. get_or (byte ∷ text) n 0) less) ∙ ends

-- bytes that end with a line feed have one
some_end : (text : List ℕ) (size : ℕ) → 0 < size → size ≤ length text → get_or text (size - 1) 0 ≡ 10 → 1 ≤ count_by is_end (take size text)
some_end [] size some within ends = absurd (omega arith)
some_end (byte ∷ text) zero some within ends = absurd (omega arith)
some_end (byte ∷ text) (suc zero) some within ends = rw ends (omega arith)
some_end (byte ∷ text) (suc (suc k)) some within ends =
    omega (arith, count-cons byte (take (suc k) text), some_end text (suc k) (omega arith) (omega (arith, within)) (ends_later byte text k ends))

-- the lines that one more byte is on
passed_more : (byte : ℕ) (text : List ℕ) (k count : ℕ) (b : Bool) → is_end byte ≡ b → count ≡ count_by is_end (take k text) → 1 ≤ count → drop count (cut_lines text) ≡ cut_lines (drop k text)
    → drop (count_by is_end (byte ∷ take k text)) (cond (is_end byte) ([] ∷ cut_lines text) (onto_first byte (cut_lines text))) ≡ cut_lines (drop k text)
passed_more byte text k count true e is some further =
    let one : count_by is_end (byte ∷ take k text) ≡ suc count = omega (arith, count-cons byte (take k text), is, ap {B = ℕ} (λ b. cond b 1 0) e) in
    rw e (ap (λ n. drop n ([] ∷ cut_lines text)) one ∙ further)
passed_more byte text k count false e is some further =
    let none : count_by is_end (byte ∷ take k text) ≡ count = omega (arith, count-cons byte (take k text), is, ap {B = ℕ} (λ b. cond b 1 0) e) in
    rw e (ap (λ n. drop n (onto_first byte (cut_lines text))) none ∙ drop-onto_first count byte (cut_lines text) some ∙ further)

-- the line feeds of bytes that end with one are the ends of the lines that they are on
pub lines_passed : (text : List ℕ) (size : ℕ) → 0 < size → size ≤ length text → get_or text (size - 1) 0 ≡ 10 → drop (count_by is_end (take size text)) (cut_lines text) ≡ cut_lines (drop size text)
lines_passed [] size some within ends = absurd (omega arith)
lines_passed (byte ∷ text) zero some within ends = absurd (omega arith)
lines_passed (byte ∷ text) (suc zero) some within ends = rw ends refl
lines_passed (byte ∷ text) (suc (suc k)) some within ends =
    passed_more byte text (suc k) (count_by is_end (take (suc k) text)) (is_end byte) refl refl
    (some_end text (suc k) (omega arith) (omega (arith, within)) (ends_later byte text k ends))
    (lines_passed text (suc k) (omega arith) (omega (arith, within)) (ends_later byte text k ends))

-- one line more
pub is_further : (text : List ℕ) (count : ℕ) (rest below : List ℕ) → AreLinesAbove text count rest → HasBelow rest below → AreLinesAbove text (count + 1) below
is_further text count rest below represents has =
    sym (drop-drop 1 count (cut_lines text)) ∙ ap (drop 1) (represents ∙ has.1)

-- an item after a number of others
item_after : (items : List (List ℕ)) (count n : ℕ) → slice_get items (count + n) ≡ slice_get (drop count items) n
item_after items zero n = ap (slice_get items) (zero-add n)
item_after [] (suc k) n = refl
item_after (item ∷ items) (suc k) n =
    let more : suc k + n ≡ suc (k + n) = omega arith in
    ap (slice_get (item ∷ items)) more ∙ item_after items k n

-- the line after a number of others
pub line_after : (text : List ℕ) (count n : ℕ) (rest : List ℕ) → AreLinesAbove text count rest → slice_get (lines_of text) (count + n) ≡ option_map without_return (slice_get (cut_lines rest) n)
line_after text count n rest represents =
    slice_get-map without_return (cut_lines text) (count + n)
    ∙ ap (option_map without_return) (item_after (cut_lines text) count n ∙ ap (λ l. slice_get l n) represents)

-- the line of a number
numbered_line : (text : List ℕ) (number before : ℕ) → number ≡ suc before → line_of_number number text ≡ slice_get (lines_of text) before
numbered_line text number before e = ap (λ k. line_of_number k text) e

-- the line that is looked for
pub line_is : (text : List ℕ) (number count : ℕ) (rest first : List ℕ) → number ≡ suc count → AreLinesAbove text count rest → slice_get (cut_lines rest) 0 ≡ Some first → Some (without_return first) ≡ line_of_number number text
line_is text number count rest first e represents is =
    sym (numbered_line text number count e ∙ ap (slice_get (lines_of text)) (sym (add-zero count)) ∙ line_after text count 0 rest represents ∙ ap (option_map without_return) is)

-- no line of that number is there
pub line_is_missing : (text : List ℕ) (number count : ℕ) (rest : List ℕ) → suc count < number → AreLinesAbove text count rest → IsOneLine rest → None ≡ line_of_number number text
line_is_missing text number count rest h represents one =
    let more : number ≡ suc (count + suc (number - suc (suc count))) = omega arith in
    sym (numbered_line text number (count + suc (number - suc (suc count))) more ∙ line_after text count (suc (number - suc (suc count))) rest represents ∙ ap (λ l. option_map without_return (slice_get l (suc (number - suc (suc count))))) one)
