-- Answers in frames: what a host can count, and how long an answer and the line that reports it can be. (The limits are the profile's own.)
use Rattle.std.specs.List.{concat, AllByRecursion}
use Rattle.std.specs.Prelude.{◌≡◌, ⊤, ℕ, zero, suc, ◌==◌, List, [], ◌∷◌, ◌++◌, filter, length, ◌≤◌}
use Rattle.wc_laws_instrument.specs.Preludes.{past_after}
use Rattle.wc_model.specs.Definitions.{PlateData, carriage_return, line_feed, requests, requests_in, RowData, Counts, Bytes, Inputs, Scan, Change, LogRow, Past, answer_of_row, answers, line_bytes, Record, greatest_moment, log_of, answer_line, line_text}
use Rattle.wc_laws_instrument.specs.Logs.{IsDataInRange}

-- none of these bytes is LF or CR
abbrev pub HasNoEnd : List ℕ → Type 0
HasNoEnd [] = ⊤
HasNoEnd (byte ∷ bytes) = (byte ≡ line_feed → ⊥) × (byte ≡ carriage_return → ⊥) × HasNoEnd bytes

-- LF, bytes that are neither LF nor CR, and CR
pub record IsFrame (bytes : List ℕ) : Type 0 where
  pub inside : List ℕ
  pub no_end : HasNoEnd inside
  pub whole : bytes ≡ line_feed ∷ (inside ++ (carriage_return ∷ []))

-- n frames, one after the other, and nothing else
abbrev pub AreFrames : ℕ → List ℕ → Type 0
AreFrames zero bytes = bytes ≡ []
AreFrames (suc n) bytes =
    (first : List ℕ) × (rest : List ℕ) × (bytes ≡ first ++ rest) × IsFrame first × AreFrames n rest

-- the requests that a row completes, after the rows before it
abbrev pub completed_requests : Past → RowData → List (List ℕ)
completed_requests before (Counts counts) = []
completed_requests before (Bytes bytes) = requests_in (line_bytes before) bytes
completed_requests before (Inputs inputs) = []
completed_requests before Scan = []
completed_requests before Change = []

-- the CRs among these bytes
abbrev pub returns_in : List ℕ → ℕ
returns_in bytes = length (filter (λ byte. byte == carriage_return) bytes)

-- Each complete request is answered, once, in a frame.
--     row      the answer to a row is as many frames as the row completes requests
--     whole    the answers to all rows are as many frames as their bytes have requests
--     counted  and of frames a host counts the CRs
pub record AnswersInFrames (plate : PlateData) : Type 0 where
  pub row : (before : Past) (row : LogRow) →
      AreFrames (length (completed_requests before row.brings)) (answer_of_row plate before row)
  pub whole : (rows : List LogRow) →
      AreFrames (length (requests (line_bytes (past_after [] rows)))) (concat (answers plate rows))
  pub counted : (n : ℕ) (bytes : List ℕ) → AreFrames n bytes → returns_in bytes ≡ n

-- a row has 4096 bytes, each command on it three, of which the first may have come before, and each answer twenty
abbrev pub longest_answer : ℕ
longest_answer = 27320

-- `L`, thirteen digits, two for each byte of the answer, two blanks and the line feed
abbrev pub longest_line : ℕ
longest_line = 54657

-- No answer to a row, and no line that reports one, is longer.
--     row      the answer to any row, after any rows
--     log      so the answers to the rows of every log
--     line     the line of an answer
pub record AnswersAreShort (plate : PlateData) : Type 0 where
  pub row : (before : Past) (row : LogRow) → IsDataInRange row.brings → length (answer_of_row plate before row) ≤ longest_answer
  pub log : (records : List Record) → AllByRecursion (λ bytes. length bytes ≤ longest_answer) (answers plate (log_of records).rows)
  pub line : (ms : ℕ) (bytes : List ℕ) → ms ≤ greatest_moment → length bytes ≤ longest_answer →
      AllByRecursion (λ line. length (line_text line) ≤ longest_line) (answer_line ms bytes)
