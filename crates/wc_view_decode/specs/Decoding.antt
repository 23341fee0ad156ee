-- A report decoded: each of its lines, and none lost. (The profile's own.)
use Rattle.std.specs.Prelude.{◌≡◌, ℕ, ◌+◌, ◌-◌, ◌^◌, ◌<◌, ◌≤◌, ◌⊎◌, ◌==◌, ◌||◌, Bool, true, nat_le, List, [], ◌∷◌, ◌++◌, length, Option, Result, Ok, Err}
use Rattle.std.specs.List.{before_first}
use Rattle.std.specs.Io.KnownBytes.{Appends, Consumes, IsAtEnd}
use Rattle.wc_view_decode.specs.Formats.{decoded, heading, unknown}
use Rattle.wc_view_decode.specs.Lines.{InRange, LineContent, content_text}
use Rattle.wc_view_decode.specs.declared.format.DecodeFault.{DecodeFault}
use Rattle.wc_view_decode.specs.declared.format.DecodeFormat.{DecodeFormat}
use Rattle.wc_model.specs.Run.JobSections.{whole_lines}

-- the most bytes before the line feed of a line that is looked at: no line of a report has more than 54657 bytes, since
-- 4096 bytes complete 1366 requests for a weight at most, each of at least three bytes but the first
abbrev pub longest_line : ℕ
longest_line = 65536

-- this is what the line says
abbrev pub Reports : LineContent → List ℕ → Type 0
Reports reported line = InRange reported × (length line ≤ longest_line + 1) × (line ≡ content_text reported)

-- a line without its line feed
abbrev pub without_end : List ℕ → List ℕ
without_end line = before_first (λ byte. byte == 10) line

-- What is written for a line, as it is in the report with its line feed.
--     report     of a line of a report what it says, in the format that is asked for
--     other      of any other line the line itself, marked
pub record IsDecodedLine (format : DecodeFormat) (line shown : List ℕ) : Type 0 where
  pub report : (reported : LineContent) → Reports reported line → shown ≡ decoded format reported
  pub other : ((reported : LineContent) → ¬ (Reports reported line)) → shown ≡ unknown format (without_end line)

-- what is written for lines, one after the other
abbrev pub AreDecoded : DecodeFormat → List (List ℕ) → List ℕ → Type 0
AreDecoded format [] shown = shown ≡ []
AreDecoded format (line ∷ lines) shown =
    (first : List ℕ) × (rest : List ℕ) × IsDecodedLine format line first × AreDecoded format lines rest × (shown ≡ first ++ rest)

-- what is written for a report: the heading, and each line decoded
pub record Decodes (format : DecodeFormat) (report text : List ℕ) : Type 0 where
  pub shown : List ℕ
  pub each : AreDecoded format (whole_lines report) shown
  pub text_is : text ≡ heading format ++ shown

-- a prefix of what is written for the first lines of a report
pub record DecodesPrefix (format : DecodeFormat) (report text : List ℕ) : Type 0 where
  pub lines : List (List ℕ)
  pub left : List (List ℕ)
  pub lines_are : whole_lines report ≡ lines ++ left
  pub shown : List ℕ
  pub each : AreDecoded format lines shown
  pub rest : List ℕ
  pub text_is : heading format ++ shown ≡ text ++ rest

-- what was read and what was written: the whole report, or at a fault a prefix of a prefix that was read
abbrev pub DecodesAll : DecodeFormat → Result Unit DecodeFault → (input_old input_new output_old output_new : Option (List ℕ)) → Type 0
DecodesAll format (Ok done) input_old input_new output_old output_new =
    (report : List ℕ) × (text : List ℕ) × Consumes input_old input_new report × IsAtEnd input_new
    × Appends output_old output_new text × Decodes format report text
DecodesAll format (Err fault) input_old input_new output_old output_new =
    (report : List ℕ) × (more : List ℕ) × (text : List ℕ) × Consumes input_old input_new (report ++ more)
    × Appends output_old output_new text × DecodesPrefix format report text

-- as much was read as may be: 2147483648 bytes and calls since the start, or the count has come to its end
abbrev pub is_exhausted : ℕ → ℕ → Bool
is_exhausted start spent = (spent == 2 ^ 64 - 1) || nat_le 2147483648 (spent - start)

-- a read fault has its cause: a call that failed, or that as much was read as may be
abbrev pub HasReadCause : (failures_old failures_new spent_old spent_new : ℕ) → Type 0
HasReadCause failures_old failures_new spent_old spent_new =
    (failures_old < failures_new) ⊎ (failures_new ≡ 2 ^ 64 - 1) ⊎ (is_exhausted spent_old spent_new ≡ true)
