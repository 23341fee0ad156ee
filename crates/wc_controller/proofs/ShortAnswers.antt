-- No answer to a row is longer than its bytes allow.
use Rattle.std.proofs.Common.{◌≡◌, ℕ, suc, ◌+◌, ◌*◌, ◌==◌, ◌≤◌, Bool, true, false, if◌then◌else◌, List, [], ◌∷◌, ◌++◌, drop, length, Option, Some, None, refl, ap, sym, subst, ◌∙◌, arith, append-nil, length-append}
use Rattle.wc_model.proofs.Common.{eqb-true, length-decimal-le, drop_all, AllByRecursion, option_to_list}
use Rattle.std.specs.Prelude.{codes, decimal, option_map}
use Rattle.wc_controller.specs.Frames.{AnswersAreShort, longest_answer, longest_line}
use Rattle.wc_laws_instrument.proofs.Answers.{length_answer}
use Rattle.wc_laws_instrument.proofs.LogRows.{rows_are_in_order}
use Rattle.wc_laws_instrument.proofs.Requests.{is_cut_anywhere}
use Rattle.wc_laws_instrument.specs.Logs.{AreInOrder, IsDataInRange}
use Rattle.wc_model.specs.Instrument.Answers.{AskTare, AskWeight, Clear, Command, Plain, Shown, TakeTare, Tare, Unknown, Zero, after_command, answer_to, answers_to, asked_tare, asked_zero, command_of}
use Rattle.wc_model.specs.Definitions.{IsPlate, PlateData, carriage_return, completed_by, is_text, line_feed, open_request, opened_by, requests, requests_in, ClearTare, History, SetTare, SetZero, hex_of_bytes, greatest_moment, log_of, Bytes, Change, Counts, Inputs, LogRow, Past, RowData, Scan, answer_with, answers_after, history_of, line_bytes, answer_line, line_text}

-- no answer has more than twenty bytes
answer_short : (p : PlateData) (command : Command) (history : History) → IsPlate p → length (answer_to p command history) ≤ 20
answer_short p AskWeight history is = omega (arith, length_answer p history Shown Plain is)
answer_short p Zero history is = omega (arith, length_answer p (SetZero ∷ history) Shown (asked_zero p history) is)
answer_short p TakeTare history is = omega (arith, length_answer p (SetTare ∷ history) Shown (asked_tare p history) is)
answer_short p AskTare history is = omega (arith, length_answer p history Tare Plain is)
answer_short p Clear history is = omega (arith, length_answer p (ClearTare ∷ history) Shown Plain is)
answer_short p Unknown history is = omega arith

-- the bytes of an open request that count: its line feed, and one of text
abbrev opened_bytes : Option (List ℕ) → ℕ
opened_bytes None = 0
opened_bytes (Some []) = 1
opened_bytes (Some (byte ∷ text)) = 2

-- a byte makes it one longer at most
text_more : (byte : ℕ) (started : Option (List ℕ)) → opened_bytes (option_map (λ text. text ++ (byte ∷ [])) started) ≤ 1 + opened_bytes started
text_more byte None = omega arith
text_more byte (Some []) = omega arith
text_more byte (Some (first ∷ text)) = omega arith

goes_on : (opens goes : Bool) (byte : ℕ) (started : Option (List ℕ)) →
    opened_bytes (if opens then Some [] else if goes then option_map (λ text. text ++ (byte ∷ [])) started else None) ≤ 1 + opened_bytes started
goes_on true goes byte started = omega arith
goes_on false true byte started = text_more byte started
goes_on false false byte started = omega arith

-- the answers to no more bytes than these, those of an open request counted, have at most twenty for each three
abbrev AreWithin : PlateData → List (List ℕ) → ℕ → Type 0
AreWithin p texts bytes = (history : History) → 3 * length (answers_to p texts history) ≤ 20 * bytes

-- a request, and others
one_answered : (p : PlateData) → IsPlate p → (text : List ℕ) (texts : List (List ℕ)) (n : ℕ) → AreWithin p texts n → AreWithin p (text ∷ texts) (1 + n + opened_bytes (Some text))
one_answered p is [] texts n within history =
    let rest = answers_to p texts history in
    omega (arith, within history, length-append (answer_to p Unknown history) rest)
one_answered p is (byte ∷ text) texts n within history =
    let command = command_of (byte ∷ text) in
    let after = after_command command history in
    omega (arith, within after, answer_short p command history is, length-append (answer_to p command history) (answers_to p texts after))

answered : (p : PlateData) → IsPlate p → (started : Option (List ℕ)) (texts : List (List ℕ)) (n : ℕ) → AreWithin p texts n → AreWithin p (option_to_list started ++ texts) (1 + n + opened_bytes started)
answered p is None texts n within history = omega (arith, within history)
answered p is (Some text) texts n within history = one_answered p is text texts n within history

-- what a byte completes, and the requests after it
with_byte : (p : PlateData) → IsPlate p → (byte : ℕ) (started : Option (List ℕ)) (texts : List (List ℕ)) (n : ℕ) (closes : Bool) → (byte == carriage_return) ≡ closes →
    AreWithin p texts (n + opened_bytes (opened_by byte started)) → AreWithin p ((if closes then option_to_list started else []) ++ texts) (1 + n + opened_bytes started)
with_byte p is byte started texts n true closes within history =
    let closed : AreWithin p texts (n + 0) =
    subst (λ b. AreWithin p texts (n + opened_bytes (opened_by b started))) (eqb-true byte carriage_return closes) within in
    answered p is started texts n (λ after. omega (arith, closed after)) history
with_byte p is byte started texts n false closes within history =
    omega (arith, within history, goes_on (byte == line_feed) (is_text byte) byte started)

-- those of a chunk
of_chunk : (p : PlateData) → IsPlate p → (chunk before : List ℕ) → AreWithin p (requests_in before chunk) (length chunk + opened_bytes (open_request before))
of_chunk p is [] before history =
    let none : requests_in before [] ≡ [] =
    ap (λ all. drop (length (requests before)) (requests all)) (append-nil before) ∙ drop_all (length (requests before)) (requests before) (omega arith) in
    subst (λ texts. 3 * length (answers_to p texts history) ≤ 20 * (0 + opened_bytes (open_request before))) (sym none) (omega arith)
of_chunk p is (byte ∷ chunk) before history =
    let started : Option (List ℕ) = open_request before in
    let rest : List (List ℕ) = requests_in (before ++ (byte ∷ [])) chunk in
    let on : AreWithin p rest (length chunk + opened_bytes (opened_by byte started)) =
    subst (λ left. AreWithin p rest (length chunk + opened_bytes left)) (is_cut_anywhere.opens before byte) (of_chunk p is chunk (before ++ (byte ∷ []))) in
    let parts : requests_in before (byte ∷ chunk) ≡ completed_by byte started ++ rest =
    is_cut_anywhere.again before (byte ∷ []) chunk ∙ ap (λ texts. texts ++ rest) (is_cut_anywhere.byte before byte) in
    let whole : 3 * length (answers_to p (completed_by byte started ++ rest) history) ≤ 20 * (1 + length chunk + opened_bytes started) =
    with_byte p is byte started rest (length chunk) (byte == carriage_return) refl on history in
    subst (λ texts. 3 * length (answers_to p texts history) ≤ 20 * (length (byte ∷ chunk) + opened_bytes started)) (sym parts) (omega (arith, whole))

few_open : (started : Option (List ℕ)) → opened_bytes started ≤ 2
few_open None = omega arith
few_open (Some []) = omega arith
few_open (Some (byte ∷ text)) = omega arith

-- and of a row
row_short : (p : PlateData) → IsPlate p → (before : Past) (brings : RowData) → IsDataInRange brings →
    length (answer_with p brings (line_bytes before) (history_of before)) ≤ longest_answer
row_short p is before (Counts counts) range = omega arith
row_short p is before (Bytes bytes) range =
    omega (arith, of_chunk p is bytes (line_bytes before) (history_of before), few_open (open_request (line_bytes before)), range.0)
row_short p is before (Inputs inputs) range = omega arith
row_short p is before Scan range = omega arith
row_short p is before Change range = omega arith

rows_short : (p : PlateData) → IsPlate p → (before : Past) (number earliest : ℕ) (rows : List LogRow) → AreInOrder number earliest rows →
    AllByRecursion (λ bytes. length bytes ≤ longest_answer) (answers_after p before rows)
rows_short p is before number earliest [] h = tt
rows_short p is before number earliest (row ∷ rows) (own, few, after, early, range, others) =
    (row_short p is before row.brings range, rows_short p is (row ∷ before) (suc number) row.ms rows others)

-- the digits of bytes
two_each : (bytes : List ℕ) → length (hex_of_bytes bytes) ≡ 2 * length bytes
two_each [] = refl
two_each (byte ∷ bytes) = omega (arith, two_each bytes)

line_short : (ms : ℕ) (bytes : List ℕ) → ms ≤ greatest_moment → length bytes ≤ longest_answer →
    AllByRecursion (λ line. length (line_text line) ≤ longest_line) (answer_line ms bytes)
line_short ms [] early short = tt
line_short ms (byte ∷ bytes) early short =
    let all : List ℕ = byte ∷ bytes in
    let time : List ℕ = codes "L " ++ decimal ms in
    let upto : List ℕ = time ++ codes " " in
    let digits : List ℕ = upto ++ hex_of_bytes all in (
      omega (
        arith,
        short,
        two_each all,
        length-decimal-le 13 ms (omega arith) (omega (arith, early)) (omega (arith, early)),
        length-append (codes "L ") (decimal ms),
        length-append time (codes " "),
        length-append upto (hex_of_bytes all),
        length-append digits (10 ∷ []),
      ),
      tt,
    )

pub answers_are_short : (p : PlateData) → IsPlate p → AnswersAreShort p
answers_are_short p is = record {
  row = λ before row range. row_short p is before row.brings range;
  log = λ records. rows_short p is [] 2 0 (log_of records).rows (rows_are_in_order records);
  line = line_short;
}
