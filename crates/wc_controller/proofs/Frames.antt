-- Answers are frames.
use Rattle.std.proofs.Common.{nat_lt, lit<, ◌≡◌, ℕ, zero, suc, ◌+◌, ◌-◌, ◌/◌, ◌%◌, ◌^◌, ◌==◌, ◌<◌, Bool, true, false, not, if◌then◌else◌, List, [], ◌∷◌, ◌++◌, length, refl, ap, sym, subst, ◌∙◌, arith, append_assoc, append-nil, length-append}
use Rattle.wc_model.proofs.Common.{ne_eqb, filter-append, is_negative, concat}
use Rattle.std.specs.Fmt.{digits, digits_onto, digit_glyph}
use Rattle.std.specs.Prelude.{codes, decimal, filter, ℤ, unsigned_abs, Option, Some, None, Contains, replicate}
use Rattle.wc_laws_instrument.proofs.Requests.{requests_join}
use Rattle.wc_controller.specs.Frames.{AnswersInFrames, AreFrames, HasNoEnd, IsFrame, completed_requests, returns_in}
use Rattle.wc_laws_instrument.specs.Preludes.{past_after}
use Rattle.wc_model.specs.Instrument.Answers.{last_digits, fraction_text, minus_of, value_text, weight_text, Mode, Shown, Tare, RequestOutcome, Plain, ZeroRefused, TareRefused, scale_status, status_byte, mode_byte, motion_byte, weight_asked, answer, answer_to, answers_to, Command, AskWeight, Zero, TakeTare, AskTare, Clear, Unknown, command_of, after_command, asked_zero, asked_tare}
use Rattle.wc_model.specs.Definitions.{has_sample, is_over, is_under, is_stable, is_centre_of_zero, is_tare_active, PlateData, IsPlate, grams, kilograms, tonnes, carriage_return, requests, requests_in, SetZero, SetTare, ClearTare, History, RowData, Counts, Bytes, Inputs, Scan, Change, LogRow, Past, answer_of_row, answer_with, answers_after, history_of, line_bytes}

-- each byte is above CR
abbrev AreAbove : List ℕ → Type 0
AreAbove [] = Unit {0}
AreAbove (byte ∷ bytes) = (13 < byte) × AreAbove bytes

-- so none of them is LF or CR
no_end : (bytes : List ℕ) → AreAbove bytes → HasNoEnd bytes
no_end [] h = tt
no_end (byte ∷ bytes) h = ((λ e. absurd (omega (arith, h.0, e))), (λ e. absurd (omega (arith, h.0, e))), no_end bytes h.1)

-- of two texts joined
joined : (xs ys : List ℕ) → AreAbove xs → AreAbove ys → AreAbove (xs ++ ys)
joined [] ys h k = k
joined (x ∷ xs) ys h k = (h.0, joined xs ys h.1 k)

-- and of either of two
either : (b : Bool) (xs ys : List ℕ) → AreAbove xs → AreAbove ys → AreAbove (if b then xs else ys)
either true xs ys h k = h
either false xs ys h k = k

one : (x : ℕ) → 13 < x → AreAbove (x ∷ [])
one x h = (h, tt)

-- the digits of a number
glyph_chosen : (small upper : Bool) (d : ℕ) → 13 < (if small then 48 + d else (if upper then 55 + d else 87 + d))
glyph_chosen true upper d = omega arith
glyph_chosen false true d = omega arith
glyph_chosen false false d = omega arith

glyph_above : (upper : Bool) (d : ℕ) → 13 < digit_glyph upper d
glyph_above upper d = glyph_chosen (nat_lt d 10) upper d

digits_above : (k base : ℕ) (upper : Bool) (n : ℕ) (acc : List ℕ) → AreAbove acc → AreAbove (digits_onto k base upper n acc)
digits_above zero base upper n acc h = h
digits_above (suc k) base upper n acc h =
    let more : AreAbove (digit_glyph upper (n % base) ∷ acc) = (glyph_above upper (n % base), h) in
    either (n / base == 0) (digit_glyph upper (n % base) ∷ acc) (digits_onto k base upper (n / base) (digit_glyph upper (n % base) ∷ acc)) more
    (digits_above k base upper (n / base) (digit_glyph upper (n % base) ∷ acc) more)

decimal_above : (n : ℕ) → AreAbove (decimal n)
unfolding digits
decimal_above n = digits_above 64 10 false n [] tt

last_above : (count number : ℕ) → AreAbove (last_digits count number)
last_above zero number = tt
last_above (suc count) number = joined (last_digits count (number / 10)) ((48 + number % 10) ∷ []) (last_above count (number / 10)) (one (48 + number % 10) (omega arith))

-- a weight
minus_above : (value : ℤ) → AreAbove (minus_of value)
minus_above value = either (is_negative value) (codes "-") [] (one 45 (lit< tt)) tt

fraction_above : (decimals number : ℕ) → AreAbove (fraction_text decimals number)
fraction_above zero number = tt
fraction_above (suc decimals) number = joined (codes ".") (last_digits (suc decimals) number) (one 46 (lit< tt)) (last_above (suc decimals) number)

value_above : (decimals : ℕ) (value : ℤ) → AreAbove (value_text decimals value)
value_above decimals value =
    joined (minus_of value ++ decimal (unsigned_abs value / 10 ^ decimals)) (fraction_text decimals (unsigned_abs value))
    (joined (minus_of value) (decimal (unsigned_abs value / 10 ^ decimals)) (minus_above value) (decimal_above (unsigned_abs value / 10 ^ decimals)))
    (fraction_above decimals (unsigned_abs value))

same_above : (n byte : ℕ) → 13 < byte → AreAbove (replicate n byte)
same_above zero byte h = tt
same_above (suc n) byte h = (h, same_above n byte h)

weight_above : (decimals : ℕ) (weight : Option ℤ) → AreAbove (weight_text decimals weight)
weight_above decimals None = same_above 10 45 (lit< tt)
weight_above decimals (Some value) =
    let text : List ℕ = value_text decimals value in
    joined (replicate (10 - length text) 32) text (same_above (10 - length text) 32 (lit< tt)) (value_above decimals value)

-- the letters
scale_above : (p : PlateData) (history : History) → AreAbove (scale_status p history)
scale_above p history =
    either (not (has_sample history)) (codes "I") _ (one 73 (lit< tt))
    (either (is_over p history) (codes "O") _ (one 79 (lit< tt))
    (either (is_under p history) (codes "U") _ (one 85 (lit< tt))
    (either (is_centre_of_zero p history) (codes "Z") (codes " ") (one 90 (lit< tt)) (one 32 (lit< tt)))))

status_above : (p : PlateData) (history : History) (asked : RequestOutcome) → AreAbove (status_byte p history asked)
status_above p history Plain = scale_above p history
status_above p history ZeroRefused = one 69 (lit< tt)
status_above p history TareRefused = one 84 (lit< tt)

mode_above : (p : PlateData) (history : History) (mode : Mode) → AreAbove (mode_byte p history mode)
mode_above p history Shown = either (is_tare_active p history) (codes "N") (codes "G") (one 78 (lit< tt)) (one 71 (lit< tt))
mode_above p history Tare = one 84 (lit< tt)

motion_above : (p : PlateData) (history : History) → AreAbove (motion_byte p history)
motion_above p history = either (is_stable p history) (codes " ") (codes "M") (one 32 (lit< tt)) (one 77 (lit< tt))

unit_above : (unit : List ℕ) → Contains (grams ∷ kilograms ∷ tonnes ∷ []) unit → AreAbove unit
unit_above unit (zero, l, e) = subst AreAbove e (lit< tt, (lit< tt, (lit< tt, tt)))
unit_above unit (suc zero, l, e) = subst AreAbove e (lit< tt, (lit< tt, (lit< tt, tt)))
unit_above unit (suc (suc zero), l, e) = subst AreAbove e (lit< tt, (lit< tt, (lit< tt, tt)))
unit_above unit (suc (suc (suc k)), l, e) = absurd (omega arith)

-- what is between LF and CR
abbrev inside_of : PlateData → History → Mode → RequestOutcome → List ℕ
inside_of p history mode asked =
    status_byte p history asked ++ codes "1" ++ mode_byte p history mode ++ motion_byte p history ++ codes " "
    ++ weight_text p.decimals (weight_asked p history mode) ++ p.unit

inside_above : (p : PlateData) (history : History) (mode : Mode) (asked : RequestOutcome) → IsPlate p → AreAbove (inside_of p history mode asked)
inside_above p history mode asked plate =
    let a : List ℕ = status_byte p history asked in
    let b : List ℕ = a ++ codes "1" in
    let c : List ℕ = b ++ mode_byte p history mode in
    let d : List ℕ = c ++ motion_byte p history in
    let e : List ℕ = d ++ codes " " in
    let f : List ℕ = e ++ weight_text p.decimals (weight_asked p history mode) in
    joined f p.unit
    (joined e (weight_text p.decimals (weight_asked p history mode))
    (joined d (codes " ")
    (joined c (motion_byte p history)
    (joined b (mode_byte p history mode)
    (joined a (codes "1") (status_above p history asked) (one 49 (lit< tt)))
    (mode_above p history mode))
    (motion_above p history))
    (one 32 (lit< tt)))
    (weight_above p.decimals (weight_asked p history mode)))
    (unit_above p.unit plate.known_unit)

frame_of_answer : (p : PlateData) (history : History) (mode : Mode) (asked : RequestOutcome) → IsPlate p → IsFrame (answer p history mode asked)
frame_of_answer p history mode asked plate =
    record { inside = inside_of p history mode asked; no_end = no_end (inside_of p history mode asked) (inside_above p history mode asked plate); whole = refl }

-- the answer to a command
frame_of : (p : PlateData) (command : Command) (history : History) → IsPlate p → IsFrame (answer_to p command history)
frame_of p AskWeight history plate = frame_of_answer p history Shown Plain plate
frame_of p Zero history plate = frame_of_answer p (SetZero ∷ history) Shown (asked_zero p history) plate
frame_of p TakeTare history plate = frame_of_answer p (SetTare ∷ history) Shown (asked_tare p history) plate
frame_of p AskTare history plate = frame_of_answer p history Tare Plain plate
frame_of p Clear history plate = frame_of_answer p (ClearTare ∷ history) Shown Plain plate
frame_of p Unknown history plate = record { inside = codes "?"; no_end = no_end (codes "?") (one 63 (lit< tt)); whole = refl }

-- to several
frames_of : (p : PlateData) (texts : List (List ℕ)) (history : History) → IsPlate p → AreFrames (length texts) (answers_to p texts history)
frames_of p [] history plate = refl
frames_of p (text ∷ texts) history plate = (
  answer_to p (command_of text) history,
  answers_to p texts (after_command (command_of text) history),
  refl,
  frame_of p (command_of text) history plate,
  frames_of p texts (after_command (command_of text) history) plate,
)

-- and to a row
frames_with : (p : PlateData) (before : Past) (brings : RowData) → IsPlate p →
    AreFrames (length (completed_requests before brings)) (answer_with p brings (line_bytes before) (history_of before))
frames_with p before (Counts counts) plate = refl
frames_with p before (Bytes bytes) plate = frames_of p (requests_in (line_bytes before) bytes) (history_of before) plate
frames_with p before (Inputs inputs) plate = refl
frames_with p before Scan plate = refl
frames_with p before Change plate = refl

-- frames after frames
frames_join : (m n : ℕ) (xs ys : List ℕ) → AreFrames m xs → AreFrames n ys → AreFrames (m + n) (xs ++ ys)
frames_join zero n xs ys h k =
    let same : n ≡ 0 + n = omega arith in
    subst (λ k. AreFrames k (xs ++ ys)) same (subst (λ t. AreFrames n (t ++ ys)) (sym h) k)
frames_join (suc m) n xs ys (first, rest, is, frame, more) k =
    let same : suc (m + n) ≡ suc m + n = omega arith in
    subst (λ k. AreFrames k (xs ++ ys)) same
    (first, rest ++ ys, ap (λ t. t ++ ys) is ∙ append_assoc first rest ys, frame, frames_join m n rest ys more k)

-- the requests of one row more
no_more : (before : Past) → length (requests (line_bytes before)) + 0 ≡ length (requests (line_bytes before ++ []))
no_more before = omega (arith, ap (λ t. length (requests t)) (append-nil (line_bytes before)))

one_row_more : (before : Past) (brings : RowData) (number ms : ℕ) →
    length (requests (line_bytes before)) + length (completed_requests before brings) ≡ length (requests (line_bytes (record { number = number; ms = ms; brings = brings } ∷ before)))
one_row_more before (Counts counts) number ms = no_more before
one_row_more before (Bytes bytes) number ms =
    sym (length-append (requests (line_bytes before)) (requests_in (line_bytes before) bytes)) ∙ ap length (sym (requests_join (line_bytes before) bytes))
one_row_more before (Inputs inputs) number ms = no_more before
one_row_more before Scan number ms = no_more before
one_row_more before Change number ms = no_more before

-- those that rows complete after the rows so far
abbrev completed_after : Past → List LogRow → ℕ
completed_after past [] = 0
completed_after past (row ∷ rows) = length (completed_requests past row.brings) + completed_after (row ∷ past) rows

all_completed : (past : Past) (rows : List LogRow) →
    length (requests (line_bytes past)) + completed_after past rows ≡ length (requests (line_bytes (past_after past rows)))
all_completed past [] = omega arith
all_completed past (row ∷ rows) = omega (arith, one_row_more past row.brings row.number row.ms, all_completed (row ∷ past) rows)

from_none : (rows : List LogRow) → completed_after [] rows ≡ length (requests (line_bytes (past_after [] rows)))
from_none rows = omega (arith, all_completed [] rows)

frames_after : (p : PlateData) (past : Past) (rows : List LogRow) → IsPlate p → AreFrames (completed_after past rows) (concat (answers_after p past rows))
frames_after p past [] plate = refl
frames_after p past (row ∷ rows) plate =
    frames_join (length (completed_requests past row.brings)) (completed_after (row ∷ past) rows) (answer_of_row p past row) (concat (answers_after p (row ∷ past) rows))
    (frames_with p past row.brings plate) (frames_after p (row ∷ past) rows plate)

-- a host counts the CRs
returns_join : (xs ys : List ℕ) → returns_in (xs ++ ys) ≡ returns_in xs + returns_in ys
returns_join xs ys =
    ap length (filter-append (λ byte. byte == carriage_return) xs ys)
    ∙ length-append (filter (λ byte. byte == carriage_return) xs) (filter (λ byte. byte == carriage_return) ys)

none_inside : (bytes : List ℕ) → HasNoEnd bytes → returns_in bytes ≡ 0
none_inside [] h = refl
none_inside (byte ∷ bytes) h =
    ap (λ b. length (if b then byte ∷ filter (λ byte. byte == carriage_return) bytes else filter (λ byte. byte == carriage_return) bytes))
    (ne_eqb byte carriage_return h.1) ∙ none_inside bytes h.2

one_return : (bytes : List ℕ) → IsFrame bytes → returns_in bytes ≡ 1
one_return bytes frame =
    ap returns_in frame.whole ∙ returns_join frame.inside (carriage_return ∷ []) ∙ ap (λ n. n + 1) (none_inside frame.inside frame.no_end)

counted_frames : (n : ℕ) (bytes : List ℕ) → AreFrames n bytes → returns_in bytes ≡ n
counted_frames zero bytes h = ap returns_in h
counted_frames (suc n) bytes (first, rest, is, frame, more) =
    ap returns_in is ∙ returns_join first rest ∙ omega (arith, one_return first frame, counted_frames n rest more)

pub answers_in_frames : (p : PlateData) → IsPlate p → AnswersInFrames p
answers_in_frames p plate = record {
  row = λ before row. frames_with p before row.brings plate;
  whole = λ rows. subst (λ n. AreFrames n (concat (answers_after p [] rows))) (from_none rows) (frames_after p [] rows plate);
  counted = counted_frames;
}
