-- The lines of a report with their fields, and what each says. (The form is the profile's own.)
use Rattle.wc_model.specs.declared.fault.Fault.TheVariants as fault
use Rattle.std.specs.Prelude.{◌≡◌, ℕ, ◌<◌, ◌≤◌, ℤ, List, [], ◌∷◌, ◌++◌, ◌^◌, true, length, Option, Some, None, FitsSigned, Result, IfOk, IsOkUnless, option_map}
use Rattle.std.specs.Fmt.{signed_decimal}
use Rattle.std.specs.List.{AllByRecursion}
use mir.Syntax.{w32}
use Rattle.wc_diag_texts.specs.Numbers.{is_refusal}
use Rattle.wc_model.specs.Definitions.{refused_text, AnswerLine, ScanLine, line_text}
use Rattle.wc_model.specs.declared.fault.Fault.{Fault}
use Rattle.wc_model.specs.declared.image.Outputs.{Outputs}
use Rattle.wc_view_decode.specs.AnswerBytes.{AreAllAnswers, bytes_of_answers}
use Rattle.wc_view_decode.specs.declared.answer.LineAnswer.{LineAnswer}
use Rattle.wc_view_decode.specs.declared.answer.ReportEntry.{ReportEntry}
use Rattle.wc_view_decode.specs.declared.answer.ReportEntry.TheVariants.{Scan, Answers, Refusal}
use Rattle.wc_view_decode.specs.declared.answer.RefusalRow.{RefusalRow}
use Rattle.wc_view_decode.specs.declared.answer.ScanRow.{ScanRow}

-- no byte of a field is a space or below
abbrev pub AreFieldBytes : List ℕ → Type 0
AreFieldBytes bytes = AllByRecursion (λ byte. 32 < byte) bytes

-- the first field is cut off, and the byte that ends it
abbrev pub CutsField : (text field rest : List ℕ) → Type 0
CutsField text field rest =
    (bytes more : List ℕ) (end : ℕ) → AreFieldBytes bytes → end ≤ 32 → text ≡ bytes ++ end ∷ more → (field ≡ bytes) × (rest ≡ more)

-- the words at the end of a line
abbrev pub words_text : List ℤ → List ℕ
words_text [] = []
words_text (z ∷ []) = signed_decimal z ++ 10 ∷ []
words_text (z ∷ next ∷ words) = signed_decimal z ++ 32 ∷ words_text (next ∷ words)

-- what a line says: a scan, the answers to a row, or the refusal at the report's end
pub data LineContent : Type 0 where
  ScanContent : (ms steps : ℕ) (outputs : Outputs) → LineContent
  AnswersContent : (ms : ℕ) (answers : List LineAnswer) → LineContent
  RefusalContent : (number place : ℕ) → LineContent

-- what a row of the code says: a scan
abbrev pub scan_content : ScanRow → LineContent
scan_content row = ScanContent row.ms row.steps.0 row.outputs

-- a refusal
abbrev pub refusal_content : RefusalRow → LineContent
refusal_content row = RefusalContent row.number row.place

-- what an entry says
abbrev pub entry_content : ReportEntry → LineContent
entry_content (Scan row) = scan_content row
entry_content (Answers ms answers) = AnswersContent ms answers.items
entry_content (Refusal row) = refusal_content row

-- the line that says it: those that a run and a refusal print
abbrev pub content_text : LineContent → List ℕ
content_text (ScanContent ms steps outputs) = line_text (ScanLine ms steps outputs)
content_text (AnswersContent ms answers) = line_text (AnswerLine ms (bytes_of_answers answers))
content_text (RefusalContent number place) = refused_text number place

-- four words of 32 bits
abbrev pub AreWords : List ℤ → Type 0
AreWords (a ∷ b ∷ c ∷ d ∷ []) = FitsSigned w32 a × FitsSigned w32 b × FitsSigned w32 c × FitsSigned w32 d
AreWords words = ⊥

-- each moment is one of a log, at most 1099511627775, each other number is in the range of its type, that of a refusal is one that
-- there is; each answer is one, and there is one at least
abbrev pub InRange : LineContent → Type 0
InRange (ScanContent ms steps outputs) = (ms < 2 ^ 40) × (steps < 2 ^ 32) × (outputs.bits < 2 ^ 16) × AreWords outputs.words
InRange (AnswersContent ms answers) = (ms < 2 ^ 40) × AreAllAnswers answers × (0 < length answers)
InRange (RefusalContent number place) = (is_refusal number ≡ true) × (place < 2 ^ 32)

-- this is all that the line can say, or it is not a line of a report
abbrev pub IsContentOf : Option LineContent → List ℕ → Type 0
IsContentOf (Some reported) line =
    InRange reported × (line ≡ content_text reported) × ((other : LineContent) → InRange other → line ≡ content_text other → reported ≡ other)
IsContentOf None line = (reported : LineContent) → InRange reported → ¬ (line ≡ content_text reported)

-- so of what is found of a line, or memory is refused
abbrev pub IsEntryOf : Result (Option ReportEntry) Fault → List ℕ → Type 0
IsEntryOf result line = IfOk result (λ found. IsContentOf (option_map entry_content found) line) × IsOkUnless result fault.Memory

-- so of the answers of a row alone
abbrev pub AreContentOf : ℕ → Option LineContent → List ℕ → Type 0
AreContentOf ms (Some reported) bytes =
    (answers : List LineAnswer) × (reported ≡ AnswersContent ms answers) × AreAllAnswers answers × (0 < length answers)
    × (bytes ≡ bytes_of_answers answers)
    × ((others : List LineAnswer) → AreAllAnswers others → bytes ≡ bytes_of_answers others → answers ≡ others)
AreContentOf ms None bytes = (answers : List LineAnswer) → AreAllAnswers answers → 0 < length answers → ¬ (bytes ≡ bytes_of_answers answers)
